use Rattle.std.specs.Prelude.{◌≡◌, ◌+◌, ◌≤◌}
use Rattle.log_ring.specs.Seats.{view_of}
use Rattle.log_tests.proofs.threads.post_all.Given as goal

abbrev pub invariant-loop-i : goal.invariant-loop-i
invariant-loop-i l = record {
  table : l.all.seat.badge.table_id ≡ l.ring.table.shared.table_id;
  budget : 100 ≤ (view_of l.all.seat.badge).budget + l.i;
  counts : l.all.sent + l.all.refused ≤ l.i;
  number : (view_of l.all.seat.badge).number ≡ (view_of l.initial.all.seat.badge).number;
}
