use Rattle.std.proofs.Common.{arith, subst}
use Rattle.nvm_ring.specs.Stands.{TakesReaped}
use Rattle.ctl_state.specs.Controller.{PairState}
use Rattle.controller.proofs.StepLemmas.{rung_size}
use Rattle.controller.proofs.pair.Pair.ring_cq.Goals as goal

pub invariant_of-self : goal.invariant_of-self
invariant_of-self c =
    let sound = c.self.invariant.0 in
    let size = rung_size c.args.value c.self.inside.cq c.set_head.new.self c.set_head.result c.set_head.ensures.moved c.set_head.ensures.same in
    (record { told = sound.told; few = sound.few; space = omega (arith, sound.space, c.set_head.ensures.frees, size); most = sound.most }, c.self.invariant.1)

pub returns-clause-rung : goal.returns-clause-rung
returns-clause-rung c = record { takes = subst (λ (p : PairState). TakesReaped p.cq c.set_head.new.self c.args.value c.set_head.result) c.self.view_is c.set_head.ensures.rung }
