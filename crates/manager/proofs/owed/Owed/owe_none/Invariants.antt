use Rattle.std.proofs.Common.{◌≡◌, length}
use Rattle.manager.specs.Owed.{places_of}
use Rattle.manager.proofs.owed.Owed.owe_none.Given as goal

abbrev pub invariant-lowest : goal.invariant-lowest
invariant-lowest l = length l.self ≡ length l.fn.self

abbrev pub decreases-lowest : goal.decreases-lowest
decreases-lowest l = length (places_of l.self)
