use Rattle.std.proofs.Common.{◌≡◌, length}
use Rattle.manager.specs.Owed.{owe_from}
use Rattle.manager.proofs.owed.Owed.owe_span.Given as goal

abbrev pub invariant-loop-i : goal.invariant-loop-i
invariant-loop-i l = record { owed : l.self ≡ owe_from l.change.span.first l.i l.fn.self; long : length l.self ≡ length l.fn.self }
