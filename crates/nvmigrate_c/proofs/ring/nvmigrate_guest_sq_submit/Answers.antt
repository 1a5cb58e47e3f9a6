use Rattle.std.proofs.Common.{subst}
use Rattle.nvm_values.specs.declared.sqe.Sqe.{Sqe}
use Rattle.nvm_model.specs.declared.ring.RingState.{RingState}
use Rattle.nvm_ring.specs.Stands.{SubmitsNewest}
use Rattle.nvmigrate_c.specs.Rings.{guest_sq_in, told}
use Rattle.nvmigrate_c.proofs.ring.nvmigrate_guest_sq_submit.Goals as goal

pub returns-clause-newest : goal.returns-clause-newest
returns-clause-newest c = λ _.
    subst (λ (e : Sqe). SubmitsNewest (guest_sq_in c.args.sq.now) c.args.page.now c.submit.new.page e (told 0)) c.sqe.ensures
    (subst (λ (r : RingState). SubmitsNewest r c.args.page.now c.submit.new.page c.sqe.result (told 0)) c.in-Some.ensures.1 c.in-Ok.ensures.newest)
