use Rattle.std.proofs.Common.{All, take}
use Rattle.session.specs.Lanes.{IsComplete}
use Rattle.session.proofs.turn.are_all_done.Given as goal

abbrev pub invariant-loop-run : goal.invariant-loop-run
invariant-loop-run l = record { done : All IsComplete (take l.run-index l.runs.items) }
