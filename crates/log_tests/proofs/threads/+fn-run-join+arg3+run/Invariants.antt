use Rattle.std.specs.Prelude.{◌+◌, ◌*◌}
use Rattle.log_tests.proofs.threads.+fn-run-join+arg3+run.Given as goal

abbrev pub decreases-join+arg3 : goal.decreases-join+arg3
decreases-join+arg3 g l = 2 * l.poster + 1

abbrev pub decreases-run : goal.decreases-run
decreases-run g l = 2 * l.posters
