use Rattle.std.proofs.Common.{Ok, ap}
use Rattle.judge.proofs.VerdictLaws.{one_verdict}
use Rattle.judge.proofs.judging.check.Goals as goal

pub returns-clause-only : goal.returns-clause-only
returns-clause-only c = λ v is. ap (λ verdict. Ok verdict) (one_verdict c.args.s.now c.args.text.now v c.judge.result is c.judge.ensures)
