use Rattle.std.proofs.Common.{subst}
use Rattle.nvm_model.specs.Ring.{CqState}
use Rattle.nvm_ring.specs.Stands.{TakesReaped}
use Rattle.nvmigrate_c.specs.Rings.{told}
use Rattle.nvmigrate_c.proofs.completion.nvmigrate_cq_set_head.Goals as goal

pub returns-in_default-set_head-clause-rung : goal.returns-in_default-set_head-clause-rung
returns-in_default-set_head-clause-rung c = λ _.
    subst (λ (s : CqState). TakesReaped s s c.args.value (told 3)) c.in-Some.ensures.1
    (subst (λ (s : CqState). TakesReaped c.in-Some.ring s c.args.value (told 3)) c.in_default-set_head.ensures.same c.in_default-set_head.ensures.rung)
