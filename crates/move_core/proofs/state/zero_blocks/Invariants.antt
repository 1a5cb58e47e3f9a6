use Rattle.std.specs.Prelude.{◌≡◌, ◌≤◌, replicate, vec_capacity, vec_len}
use Rattle.move_core.proofs.state.zero_blocks.Given as goal

abbrev pub invariant-loop : goal.invariant-loop
invariant-loop l = record {
  items : l.blocks.items ≡ replicate l.counter (replicate 512 0);
  count : vec_len l.blocks ≡ l.counter;
  capacity : l.count ≤ vec_capacity l.blocks;
}
