use Rattle.std.proofs.Common.{◌≤◌, subst, sym, arith}
use Rattle.nvm_model.specs.Ring.{CqState, places_between}
use Rattle.nvm_ring.proofs.RingLemmas.{rung_frees, taken-in_order}
use Rattle.nvm_ring.proofs.cq_ring.CqRing.set_head.Goals as goal

pub returns-then-distance-clause-rung : goal.returns-then-distance-clause-rung
returns-then-distance-clause-rung c = λ page posted reaped now h l g e.
    absurd (taken-in_order _ (record { ring = c.self.inside.ring; phase = c.self.inside.phase }) _ page posted reaped now (sym c.self.view_is) (omega (arith, c.if-distance.true, c.distance.ensures.value, c.distance-2.ensures.value)) h l g e)

pub returns-clause-frees : goal.returns-clause-frees
returns-clause-frees c =
    let ring = c.self.inside.ring in
    let sound = c.self.invariant in
    subst (λ (q : CqState). places_between ring.size c.args.value ring.tail ≤ places_between q.ring.size q.ring.head q.ring.tail) c.self.view_is
    (rung_frees ring.size ring.head ring.tail c.args.value sound.head sound.tail (omega arith) (omega (arith, c.if-distance.false, c.distance.ensures.value, c.distance-2.ensures.value)))
