use Rattle.engine.proofs.ReadLemmas.{read_is}
use Rattle.engine.proofs.reading.take_script.Goals as goal

pub returns-in-Ok-clause-only : goal.returns-in-Ok-clause-only
returns-in-Ok-clause-only c = λ other is spelled. read_is c.in-Ok.script other (c.in-Ok.ensures.only other is spelled)
