use Rattle.std.specs.Prelude.{◌≡◌, ◌≤◌, true, replicate, vec_capacity, vec_len}
use Rattle.move_core.proofs.state.all_owed.Given as goal

abbrev pub invariant-loop : goal.invariant-loop
invariant-loop l = record {
  items : l.owed.items ≡ replicate l.counter true;
  count : vec_len l.owed ≡ l.counter;
  capacity : l.count ≤ vec_capacity l.owed;
}
