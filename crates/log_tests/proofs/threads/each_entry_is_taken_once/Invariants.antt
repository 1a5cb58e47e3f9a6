use Rattle.std.specs.Prelude.{◌≡◌, false, true}
use Rattle.log_tests.proofs.threads.each_entry_is_taken_once.Given as goal

abbrev pub invariant-loop : goal.invariant-loop
invariant-loop g l = (l.queue.live ≡ true) × (l.queue.marked ≡ false)
