use Rattle.std.proofs.Common.{◌≡◌, length}
use Rattle.script.specs.Words.{digits_on}
use Rattle.script.proofs.value.digits.Given as goal

abbrev pub invariant-loop-rest : goal.invariant-loop-rest
invariant-loop-rest l = digits_on l.n l.rest ≡ digits_on 0 l.word

abbrev pub decreases-loop-rest : goal.decreases-loop-rest
decreases-loop-rest l = length l.rest
