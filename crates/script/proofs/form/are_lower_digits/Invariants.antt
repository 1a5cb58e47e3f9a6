use Rattle.std.proofs.Common.{◌≡◌, length}
use Rattle.script.specs.Words.{are_lower_digits}
use Rattle.script.proofs.form.are_lower_digits.Given as goal

abbrev pub invariant-loop-rest : goal.invariant-loop-rest
invariant-loop-rest l = are_lower_digits l.rest ≡ are_lower_digits l.word

abbrev pub decreases-loop-rest : goal.decreases-loop-rest
decreases-loop-rest l = length l.rest
