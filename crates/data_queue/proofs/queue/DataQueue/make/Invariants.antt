use Rattle.std.specs.Prelude.{◌≡◌, ◌≤◌, vec_capacity, vec_len}
use Rattle.data_queue.proofs.queue.DataQueue.make.Given as goal

abbrev pub invariant-loop : goal.invariant-loop
invariant-loop l = record {
  count : vec_len l.list ≡ l.counter;
  capacity : l.cells ≤ vec_capacity l.list;
}
