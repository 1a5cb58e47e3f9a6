use Rattle.std.proofs.Common.{◌-◌, ap, sym}
use Rattle.nvm_ring.proofs.RingLemmas.{counted-free}
use Rattle.nvm_ring.proofs.cq_ring.CqRing.free.Goals as goal

pub returns-clause-counted : goal.returns-clause-counted
returns-clause-counted c = counted-free _ (record { ring = c.self.inside.ring; phase = c.self.inside.phase }) _ (sym c.self.view_is) (ap (λ n. c.self.inside.ring.size - 1 - n) c.distance.ensures.value)
