use Rattle.engine.proofs.ReadLemmas.{not_built, not_read}
use Rattle.engine.proofs.top.prepare.Goals as goal

pub returns-in-Err-clause-refusal : goal.returns-in-Err-clause-refusal
returns-in-Err-clause-refusal g c = not_read _ _ _ c.in-Err.status c.in-Err.ensures.refusal

pub returns-in-Some-clause-refusal : goal.returns-in-Some-clause-refusal
returns-in-Some-clause-refusal g c = not_built _ _ _ c.in-Ok.script c.in-Some.line c.in-Ok.ensures.script c.in-Ok.ensures.spells c.in-Ok.ensures.only c.in-Some.ensures.unbuilt
