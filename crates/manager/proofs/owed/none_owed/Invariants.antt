use Rattle.std.specs.Prelude.{◌≡◌, ◌≤◌, false, replicate, vec_capacity, vec_len}
use Rattle.manager.proofs.owed.none_owed.Given as goal

abbrev pub invariant-loop : goal.invariant-loop
invariant-loop l = record {
  items : l.places.items ≡ replicate l.counter false;
  count : vec_len l.places ≡ l.counter;
  capacity : l.size ≤ vec_capacity l.places;
}
