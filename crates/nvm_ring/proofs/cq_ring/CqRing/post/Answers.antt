use Rattle.std.proofs.Common.{ℕ, ◌*◌, Bool, length, refl, sym, ap, ◌∙◌}
use Rattle.nvm_model.specs.Memory.{written}
use Rattle.nvm_model.specs.Ring.{CqState}
use Rattle.nvm_values.proofs.CqeLemmas.{length-cqe_bytes}
use Rattle.nvm_ring.specs.Moves.{phase_at, with_phase}
use Rattle.nvm_ring.proofs.RingLemmas.{posted-newest, posted-room}
use Rattle.nvm_ring.proofs.cq_ring.CqRing.post.Goals as goal

pub returns-then-next-self-clause-newest : goal.returns-then-next-self-clause-newest
returns-then-next-self-clause-newest c = λ posted reaped h room.
    absurd (posted-room _ (record { ring = c.self.inside.ring; phase = c.self.inside.phase }) _ posted reaped (sym c.self.view_is) (sym c.place_after-next.ensures.value ∙ c.if-next-self.true) h room)

pub returns-clause-newest : goal.returns-clause-newest
returns-clause-newest c = λ posted reaped h room.
    let with_tag : Bool → CqState = λ b. record { ring = record c.self.inside.ring { tail = c.place_after-next.result }; phase = b } in
    let at_tail : ℕ → CqState = λ n. record { ring = record c.self.inside.ring { tail = n }; phase = phase_at n c.self.inside.phase } in
    let wrote = c.write_cell.ensures ∙ ap (λ n. written c.args.page.now (16 * n) c.to_bytes-bytes.result) c.from.ensures in
    let full = ap length c.to_bytes-bytes.ensures.bytes ∙ length-cqe_bytes _ in
    let back = c.to_bytes-bytes.ensures.back ∙ ap (with_phase c.self.inside.phase) c.entry.view_is in
    let moved = ap with_tag c.turned-self-inside.ensures ∙ ap at_tail c.place_after-next.ensures.value in
    (refl, posted-newest _ (record { ring = c.self.inside.ring; phase = c.self.inside.phase }) _ _ _ _ c.args.c.now posted reaped (sym c.self.view_is) c.self.invariant.at_most c.told-page full back wrote moved h room)
