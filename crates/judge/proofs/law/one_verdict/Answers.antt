use Rattle.judge.proofs.VerdictLaws.{one_verdict}
use Rattle.judge.proofs.law.one_verdict.Goals as goal

pub returns : goal.returns
returns c = one_verdict
