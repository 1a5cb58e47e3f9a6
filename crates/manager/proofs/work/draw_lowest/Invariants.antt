use Rattle.std.proofs.Common.{◌≡◌, ◌<◌, ◌≤◌, ◌++◌, All, length}
use Rattle.std.specs.Prelude.{vec_capacity, vec_len}
use Rattle.manager.specs.Owed.{places_of}
use Rattle.manager.proofs.work.draw_lowest.Given as goal

abbrev pub invariant-loop : goal.invariant-loop
invariant-loop l = record {
  drawn : l.due.items ++ places_of l.owed ≡ places_of l.fn.owed;
  long : length l.owed ≡ length l.fn.owed;
  there : All (λ b. b < length l.owed) l.due.items;
  count : vec_len l.due ≡ l.counter;
  capacity : vec_capacity l.fn.due ≤ vec_capacity l.due;
}
