use Rattle.script.proofs.BadLines.{bad_is_told, one_told}
use Rattle.script.proofs.law.one_bad_line.Goals as goal

pub returns : goal.returns
returns c = λ text a b one other. one_told text a b (bad_is_told text a one) (bad_is_told text b other)
