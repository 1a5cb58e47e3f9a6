use Rattle.std.proofs.Common.{ℕ, ◌∙◌, ap, sym}
use Rattle.nvm_values.specs.Sqe.{sqe_of}
use Rattle.nvm_model.specs.declared.ring.RingState.{RingState}
use Rattle.nvm_ring.proofs.RingLemmas.{fetched-some}
use Rattle.nvm_ring.proofs.sq_ring.SqRing.fetch.Goals as goal

pub returns-clause-oldest : goal.returns-clause-oldest
returns-clause-oldest c = λ entries h.
    let at_head : ℕ → RingState = λ n. record c.self.inside.ring { head = n } in
    fetched-some _ c.self.inside.ring _ _ _ entries (sym c.self.view_is) c.if-self.false (c.from_bytes-entry.ensures.fields ∙ ap sqe_of c.entry_at.ensures) (ap at_head c.place_after-self-inside.ensures.value) h
