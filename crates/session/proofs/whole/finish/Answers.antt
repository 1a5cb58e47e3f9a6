use Rattle.session.proofs.StageLemmas.{goes_more}
use Rattle.session.proofs.whole.finish.Goals as goal

pub returns-clause-went : goal.returns-clause-went
returns-clause-went g c = λ other. goes_more (c.in_ok-turns.ensures.went other) (c.end.ensures.went other)
