use Rattle.std.proofs.lemmas.Option.{none-some}
use Rattle.log_ring.proofs.words.word_of.Goals as goal

pub returns-in-None-clause-entry : goal.returns-in-None-clause-entry
returns-in-None-clause-entry c = λ c' phase is same. absurd (none-some _ (c.in-None.ensures.back c' phase is same))
