use Rattle.std.proofs.Common.{◌≡◌, ◌≤◌, replicate, vec_capacity, vec_len}
use Rattle.nvm_model.specs.Memory.{zero_block}
use Rattle.judge.proofs.replay.make_blocks.Given as goal

abbrev pub invariant-more : goal.invariant-more
invariant-more l = record {
  made : l.blocks.items ≡ replicate l.counter zero_block;
  count : vec_len l.blocks ≡ l.counter;
  capacity : l.fn.count ≤ vec_capacity l.blocks;
}
