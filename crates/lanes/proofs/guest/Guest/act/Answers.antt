use Rattle.std.proofs.Common.{◌≡◌, ◌+◌, ◌%◌, ◌++◌, ◌∷◌, [], ℕ, List, length, refl, ap, arith, subst, sym, ◌∙◌}
use Rattle.std.proofs.lemmas.Bool.{false≢true}
use Rattle.nvm_values.specs.declared.sqe.Sqe.{Sqe}
use Rattle.nvm_model.specs.declared.ring.RingState.{RingState}
use Rattle.nvm_model.specs.Event.{MayDo, pages_after_act, submitted_by}
use Rattle.lanes.specs.declared.guest.ActAnswer.TheVariants.{Rang}
use Rattle.lanes.specs.Guest.{CanDo, GuestState, HasDone, Stands, lane_after}
use Rattle.lanes.proofs.GuestLemmas.{can_do, counted, done_entry, has_place, may_do, submit_stands, two_kept, waits_few, written_stands}
use Rattle.lanes.proofs.guest.Guest.act.Goals as goal

pub returns-then-not-may_do-clause-does : goal.returns-then-not-may_do-clause-does
returns-then-not-may_do-clause-does c = λ set lane is stands.
    (λ may. false≢true (sym c.if-not-may_do.true ∙ c.may_do.ensures.1 (can_do c.args.a.now is stands may)), refl, refl)

pub returns-clause-acts : goal.returns-clause-acts
returns-clause-acts c =
    let was = c.self.inside in
    let act = c.args.a.now in
    let tail = c.submit-tail.result in
    let same = c.write_act.ensures.window in
    let make : RingState → ℕ → GuestState = λ sq waiting. record { lane = was.lane; sq = sq; cq = was.cq; waiting = waiting } in
    let new = make c.submit-tail.new.sq c.saturating_add-self-inside.result in
    let can = subst (λ (g : GuestState). CanDo g act) (sym c.self.view_is) (c.may_do.ensures.0 c.if-not-may_do.false) in
    let new_is = ap (λ (q : RingState). make q c.saturating_add-self-inside.result) c.submit-tail.ensures.moved ∙ ap (make _) c.saturating_add-self-inside.ensures in
    subst (λ (g : GuestState). HasDone act g new c.args.w.now c.submit-tail.new.window (Rang tail)) c.self.view_is
    (done_entry act c.in-Some.entry tail can c.in-Some.ensures same (two_kept _ same (omega (arith, c.requires.pages)) c.write_act.ensures.pages)
    c.submit-tail.ensures.lane c.submit-tail.ensures.pages c.submit-tail.ensures.tail new_is)

pub returns-clause-does : goal.returns-clause-does
returns-clause-does c = λ set lane is stands.
    let was = c.self.inside in
    let act = c.args.a.now in
    let tail = c.submit-tail.result in
    let window = c.submit-tail.new.window in
    let same = subst (λ (g : GuestState). Stands set g c.args.w.now lane) (sym c.self.view_is) stands in
    let entries : c.in-Some.entry ∷ [] ≡ submitted_by was.lane act = c.in-Some.ensures in
    let few = waits_few is same in
    let own : GuestState = record { lane = was.lane; sq = was.sq; cq = was.cq; waiting = was.waiting } in
    let can = subst (λ (g : GuestState). CanDo g act) (sym c.self.view_is) (c.may_do.ensures.0 c.if-not-may_do.false) in
    let after = submit_stands c.in-Some.entry c.submit-tail.new.sq c.saturating_add-self-inside.result is (written_stands same c.write_act.ensures.window) (counted same) (has_place own c.in-Some.entry was.lane act entries can)
    c.submit-tail.ensures.lane c.submit-tail.ensures.pages c.submit-tail.ensures.back c.submit-tail.ensures.moved (omega (arith, few, c.saturating_add-self-inside.ensures)) in
    let new : GuestState = record { lane = was.lane; sq = c.submit-tail.new.sq; cq = was.cq; waiting = c.saturating_add-self-inside.result } in
    let pages = c.write_act.ensures.pages ∙ ap (pages_after_act was.lane act) (sym same.window_is.memory) in
    let rest = subst (λ (es : List Sqe). (length es ≡ 1) × (tail ≡ length (lane.submitted ++ es) % set.sq) × Stands set new window (record lane { pages = pages_after_act was.lane act lane.pages; acts = lane.acts + 1; submitted = lane.submitted ++ es })) entries
    (refl, c.submit-tail.ensures.tail ∙ after.0, subst (λ (ps : List (List ℕ)). Stands set new window (record lane { pages = ps; acts = lane.acts + 1; submitted = lane.submitted ++ c.in-Some.entry ∷ [] })) pages after.1) in
    subst (λ (g : GuestState). MayDo set act lane × (length (submitted_by g.lane act) ≡ 1) × (tail ≡ length (lane.submitted ++ submitted_by g.lane act) % set.sq) × Stands set new window (lane_after g.lane act lane)) c.self.view_is
    (may_do act is same can, rest.0, rest.1, rest.2)
