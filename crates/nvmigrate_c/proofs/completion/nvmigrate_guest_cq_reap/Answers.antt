use Rattle.std.proofs.Common.{None, subst}
use Rattle.nvm_model.specs.Ring.{GuestCqState}
use Rattle.nvm_ring.specs.Stands.{ReapsOldest}
use Rattle.nvmigrate_c.proofs.completion.nvmigrate_guest_cq_reap.Goals as goal

pub returns-in_default-reap-clause-oldest : goal.returns-in_default-reap-clause-oldest
returns-in_default-reap-clause-oldest c = λ _.
    subst (λ (s : GuestCqState). ReapsOldest s s c.args.page.now None) c.in-Some.ensures.1
    (subst (λ (s : GuestCqState). ReapsOldest c.in-Some.ring s c.args.page.now None) c.in_default-reap.ensures.moved c.in_default-reap.ensures.oldest)

pub returns-clause-oldest : goal.returns-clause-oldest
returns-clause-oldest c = λ _. rw (c.of.ensures.value, c.of-2.ensures.value, ← c.in-Some.ensures.1) c.in-Some-reap.ensures.oldest
