use Rattle.std.specs.Prelude.{◌≡◌, length}
use Rattle.log_ring.specs.Seats.{view_of}
use Rattle.log_tests.proofs.threads.take_some.Given as goal

abbrev pub invariant-loop : goal.invariant-loop
invariant-loop l = record {
  table : l.all.seat.badge.table_id ≡ l.ring.table.shared.table_id;
  first : l.all.seat.badge.id ≡ 0;
  cells : (view_of l.all.seat.badge).cells ≡ length l.ring.queue.cells;
  desks : (view_of l.all.seat.badge).desks ≡ (view_of l.initial.all.seat.badge).desks;
}
