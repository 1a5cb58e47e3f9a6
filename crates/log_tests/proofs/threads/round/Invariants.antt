use Rattle.std.specs.Prelude.{◌≡◌, true}
use Rattle.log_tests.proofs.threads.round.Given as goal

abbrev pub invariant-loop : goal.invariant-loop
invariant-loop g l = l.queue.live ≡ true
