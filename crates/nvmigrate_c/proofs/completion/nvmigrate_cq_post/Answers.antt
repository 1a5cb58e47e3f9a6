use Rattle.std.proofs.Common.{subst, sym}
use Rattle.nvm_values.specs.Cqe.{CqeFields}
use Rattle.nvm_model.specs.Ring.{CqState}
use Rattle.nvm_ring.specs.Stands.{PostsNewest}
use Rattle.nvmigrate_c.specs.Rings.{cq_in, told}
use Rattle.nvmigrate_c.proofs.completion.nvmigrate_cq_post.Goals as goal

pub returns-clause-newest : goal.returns-clause-newest
returns-clause-newest c = λ _ _.
    subst (λ (x : CqeFields). PostsNewest (cq_in c.args.cq.now) (cq_in c.of.result) c.args.page.now c.post.new.page x (told 0)) c.in-Some-cqe.ensures.1
    (subst (λ (s : CqState). PostsNewest s (cq_in c.of.result) c.args.page.now c.post.new.page c.in-Some-cqe.cqe (told 0)) c.in-Some.ensures.1
    (subst (λ (s : CqState). PostsNewest c.in-Some.ring s c.args.page.now c.post.new.page c.in-Some-cqe.cqe (told 0)) (sym c.of.ensures.value) c.in-Ok.ensures.newest))

pub returns-in_default-post-clause-newest : goal.returns-in_default-post-clause-newest
returns-in_default-post-clause-newest c = λ _ _.
    subst (λ (x : CqeFields). PostsNewest (cq_in c.args.cq.now) (cq_in c.args.cq.now) c.args.page.now c.post.new.page x (told 2)) c.in-Some-cqe.ensures.1
    (subst (λ (s : CqState). PostsNewest s s c.args.page.now c.post.new.page c.in-Some-cqe.cqe (told 2)) c.in-Some.ensures.1
    (subst (λ (s : CqState). PostsNewest c.in-Some.ring s c.args.page.now c.post.new.page c.in-Some-cqe.cqe (told 2)) c.in_default-post.ensures.moved c.in_default-post.ensures.newest))
