use Rattle.std.proofs.Common.{◌∙◌}
use Rattle.nvmigrate_c.proofs.ring.nvmigrate_sq_fetch.Goals as goal

pub returns-clause-entry : goal.returns-clause-entry
returns-clause-entry c = λ _. rw c.in-Some.ensures.1 at (c.of.ensures ∙ c.in-Some-fetch.ensures.entry)

pub returns-clause-oldest : goal.returns-clause-oldest
returns-clause-oldest c = λ _. rw (c.of.ensures, c.of-2.ensures, c.state.ensures.value, ← c.in-Some.ensures.1) c.in-Some-fetch.ensures.oldest
