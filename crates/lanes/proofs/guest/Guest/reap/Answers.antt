use Rattle.std.proofs.Common.{◌≡◌, ◌≢◌, List, ℕ, None, Some, Option, ap, subst, sym, ◌∙◌}
use Rattle.nvm_values.specs.Cqe.{CqeFields, cqe_of}
use Rattle.nvm_model.specs.declared.ring.RingState.{RingState}
use Rattle.nvm_model.specs.Ring.{GuestCqState, cell}
use Rattle.nvm_ring.specs.Moves.{after_learn}
use Rattle.lanes.specs.Guest.{GuestState, Reaped, Reaps, Stands}
use Rattle.lanes.proofs.GuestLemmas.{reap_leads}
use Rattle.lanes.proofs.guest.Guest.reap.Goals as goal

pub returns-in_err-cqe-clause-reaps : goal.returns-in_err-cqe-clause-reaps
returns-in_err-cqe-clause-reaps c = λ set lane is stands.
    let was = c.self.inside in
    let window = c.args.w.now in
    let at : GuestCqState → GuestState = λ q. record { lane = was.lane; sq = was.sq; cq = q; waiting = was.waiting } in
    let own = subst (λ (g : GuestState). Stands set g window lane) (sym c.self.view_is) stands in
    let other = subst (λ (page : List ℕ). (cqe_of (cell 16 was.cq.head page)).phase ≢ was.cq.phase) c.page.ensures.value c.in_err-cqe.ensures.exact in
    let reaps = reap_leads (at c.reap.new.self) None is own (other, ap at c.in_err-cqe.ensures.moved) in
    subst (λ (taken : Option CqeFields). Reaps set c.args.self.now (at c.reap.new.self) window lane taken) (sym c.from_residual.ensures)
    (subst (λ (g : GuestState). Reaps set g (at c.reap.new.self) window lane None) c.self.view_is reaps)

pub returns-clause-reaps : goal.returns-clause-reaps
returns-clause-reaps c = λ set lane is stands.
    let was = c.self.inside in
    let window = c.args.w.now in
    let taken = c.in_ok-cqe.cqe in
    let make : RingState → GuestCqState → ℕ → GuestState = λ sq cq waiting. record { lane = was.lane; sq = sq; cq = cq; waiting = waiting } in
    let own = subst (λ (g : GuestState). Stands set g window lane) (sym c.self.view_is) stands in
    let phase = subst (λ (page : List ℕ). (cqe_of (cell 16 was.cq.head page)).phase ≡ was.cq.phase) c.page.ensures.value c.in_ok-cqe.ensures.exact in
    let entry = c.in_ok-cqe.ensures.entry ∙ ap (λ (page : List ℕ). cqe_of (cell 16 was.cq.head page)) c.page.ensures.value in
    let head = ap (λ (e : CqeFields). after_learn e.sqhd was.sq) c.cqe.view_is in
    let new_is = ap (λ (q : RingState). make q c.reap.new.self c.saturating_sub-self-inside.result) (c.learn-learnt.ensures.learnt ∙ head)
    ∙ ap (λ (q : GuestCqState). make (after_learn taken.sqhd was.sq) q c.saturating_sub-self-inside.result) c.in_ok-cqe.ensures.moved
    ∙ ap (make (after_learn taken.sqhd was.sq) _) c.saturating_sub-self-inside.ensures in
    subst (λ (g : GuestState). Reaped set g (make c.learn-learnt.new.self c.reap.new.self c.saturating_sub-self-inside.result) window lane taken) c.self.view_is
    (reap_leads _ (Some taken) is own (phase, entry, new_is))
