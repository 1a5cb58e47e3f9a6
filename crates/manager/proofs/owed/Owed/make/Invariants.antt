use Rattle.std.specs.Prelude.{◌≡◌, ◌≤◌, replicate, vec_capacity, vec_len}
use Rattle.manager.proofs.owed.Owed.make.Given as goal

abbrev pub invariant-loop : goal.invariant-loop
invariant-loop l = record {
  items : l.counts.items ≡ replicate l.counter 0;
  count : vec_len l.counts ≡ l.counter;
  capacity : l.groups ≤ vec_capacity l.counts;
}
