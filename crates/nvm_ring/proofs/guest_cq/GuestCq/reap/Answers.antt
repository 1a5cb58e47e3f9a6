use Rattle.std.proofs.Common.{◌≡◌, ◌≢◌, ℕ, Bool, refl, sym, ap, ◌∙◌, rules}
use Rattle.nvm_values.specs.Cqe.{CqeFields, cqe_of}
use Rattle.nvm_model.specs.Ring.{cell, GuestCqState}
use Rattle.nvm_ring.specs.Moves.{phase_at}
use Rattle.nvm_ring.proofs.RingLemmas.{reaped-none, reaped-some}
use Rattle.nvm_ring.proofs.guest_cq.GuestCq.reap.Goals as goal

pub returns-then-entry-self-clause-oldest : goal.returns-then-entry-self-clause-oldest
returns-then-entry-self-clause-oldest c = λ posted reaped h.
    let old : (cqe_of (cell 16 c.args.self.now.head c.args.page.now)).phase ≢ c.args.self.now.phase = search rules in
    reaped-none _ c.args.self.now _ _ posted reaped refl old refl h

pub returns-clause-oldest : goal.returns-clause-oldest
returns-clause-oldest c = λ posted reaped h.
    let seen : GuestCqState = record { size = c.self.inside.size; head = c.self.inside.head; phase = c.self.inside.phase } in
    let with_tag : Bool → GuestCqState = λ b. record { size = c.self.inside.size; head = c.place_after-self-inside.result; phase = b } in
    let at_head : ℕ → GuestCqState = λ n. record { size = c.self.inside.size; head = n; phase = phase_at n c.self.inside.phase } in
    let read = c.from_bytes-entry.ensures.fields ∙ ap cqe_of c.completion_at.ensures in
    let same : c.entry.inside.phase ≡ c.self.inside.phase = search rules in
    let tag = sym (ap (λ (x : CqeFields). x.phase) (c.entry.view_is ∙ read)) ∙ same in
    let moved = ap with_tag c.turned-self-inside.ensures ∙ ap at_head c.place_after-self-inside.ensures.value in
    reaped-some _ seen _ _ _ posted reaped (sym c.self.view_is) read tag moved h
