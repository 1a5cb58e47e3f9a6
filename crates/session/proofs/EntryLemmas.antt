use Rattle.std.proofs.Common.{◌≡◌, ℕ, ◌+◌, ◌-◌, ◌*◌, ◌/◌, ◌<◌, ◌≤◌, ⊎_elim, List, [], All, get_or, length, replicate, set, sym, ap, subst, ◌∙◌, arith}
use Rattle.std.proofs.Math.Nat.{div-lt_iff_lt-mul}
use Rattle.std.proofs.lemmas.Bool.{cases_eq}
use Rattle.std.proofs.lemmas.List.{get_or_default, length-map, length-replicate}
use Rattle.nvm_model.specs.declared.command.Outcome.TheVariants.{Done}
use Rattle.nvm_model.specs.declared.piece.Piece.{Piece}
use Rattle.nvm_model.specs.declared.piece.ShelfEntry.{ShelfEntry}
use Rattle.nvm_model.specs.declared.script.Script.{Script}
use Rattle.nvm_blocks.specs.ShelfState.{ShelfState}
use Rattle.nvm_blocks.specs.Namespace.{Enters, HasRoom, NamespaceState, block_count, entries_at, entries_of, rooms_of}
use Rattle.nvm_blocks.proofs.NamespaceLaws.{entered_count}
use Rattle.hall.specs.Plan.{PlanState, pieces_of}
use Rattle.hall.proofs.AheadLaws.{ahead, ahead_few, ahead_less, in_shelf, lies_here, lies_in, none_ahead}
use Rattle.controller.proofs.NextLemmas.{next_fits}
use Rattle.session.specs.declared.lane_run.LaneRun.{LaneRun}
use Rattle.session.specs.Phases.{HasPlan}
use Rattle.session.specs.Place.{PlaceState}
use Rattle.session.specs.Seats.{DropsEntries}
use Rattle.session.specs.Work.{AreLeft, due_piece}
use Rattle.session.proofs.ShelvesLemmas.{same_namespace}
use Rattle.session.proofs.WorkLemmas.{left_at}
use Rattle.hall.proofs.LaneLaws.{lane_at}
use Rattle.controller.proofs.PlannedLemmas.{planned_next, planned_in_shelf}

-- The entries of a turn's pieces: each shelf has room for those that are done and those that aren't.

abbrev pub HaveRooms : {M : Type 0} → Script → PlanState → NamespaceState M → List ℕ → Type 0
HaveRooms s plan n left = (i : ℕ) → 1 ≤ ahead s.head.shelf i plan.lanes left → length (get_or (entries_of n) i []) + ahead s.head.shelf i plan.lanes left ≤ s.head.burst * s.head.lanes

-- before the first piece, where the entries of the plan's shelves were dropped
pub rooms_first : {M : Type 0} {s : Script} {runs : List LaneRun} {plan : PlanState} {place : PlaceState M} (left : List ℕ) → HasPlan s runs plan place → All (All (λ (p : Piece). entries_at place.namespace p.span.first ≡ [])) plan.lanes →
    HaveRooms s plan place.namespace left
rooms_first {s = s} {plan = plan} {place} left has clear i some =
    let few : ahead s.head.shelf i plan.lanes left ≤ s.head.burst * length plan.lanes = ahead_few s.head.shelf i s.head.burst plan.lanes left (λ k there.
    omega (arith, ap (in_shelf s.head.shelf i) (lane_at plan k), planned_in_shelf i has.fit.head.shelf.0 (has.planned (k + 1) (omega arith) (omega (arith, there, has.fits.count))))) in
    let most : s.head.burst * length plan.lanes ≡ s.head.burst * s.head.lanes = ap (λ (n : ℕ). s.head.burst * n) has.fits.count in
    ⊎_elim (λ (none : length (get_or (entries_of place.namespace) i []) ≡ 0). omega (arith, none, few, most))
    (λ (entries : length (get_or (entries_of place.namespace) i []) ≡ 0 → ⊥). absurd (omega (
      arith,
      some,
      none_ahead s.head.shelf i plan.lanes left (λ k j d there within at.
          let own : get_or (entries_of place.namespace) i [] ≡ [] = ap (λ (m : ℕ). get_or (entries_of place.namespace) m []) (sym at) ∙ ap (λ (m : ℕ). get_or (entries_of place.namespace) ((get_or (get_or plan.lanes k []) j d).span.first / m) []) (sym has.fit.at.namespace.shelf)
          ∙ clear k [] there j d within in
          entries (ap length own)),
    )))
    (cases_eq (length (get_or (entries_of place.namespace) i [])) 0)

-- one piece fewer isn't done
due_less : {M : Type 0} {s : Script} {runs : List LaneRun} {plan : PlanState} {place : PlaceState M} {left : List ℕ} (i at : ℕ) (d : LaneRun) (none : Piece) → HasPlan s runs plan place → AreLeft s runs plan left → at < s.head.lanes → 1 ≤ get_or left at 0 →
    ahead s.head.shelf i plan.lanes (set left at (get_or left at 0 - 1)) + lies_in s.head.shelf i (due_piece runs plan at d none) ≡ ahead s.head.shelf i plan.lanes left
due_less {s = s} {runs} {plan} {left = left} i at d none has are low some =
    let lane = lane_at plan at in
    let many = ap length lane in
    let count = left_at are at d low in
    let number : length (get_or plan.lanes at []) - get_or left at 0 ≡ length (get_or runs at d).results.items = omega (arith, count, many) in
    let same : get_or (get_or plan.lanes at []) (length (get_or plan.lanes at []) - get_or left at 0) none ≡ due_piece runs plan at d none =
    ap (λ (n : ℕ). get_or (get_or plan.lanes at []) n none) number ∙ ap (λ (ps : List Piece). get_or ps (length (get_or runs at d).results.items) none) (sym lane) in
    omega (arith, ahead_less s.head.shelf i plan.lanes left at none (omega (arith, low, has.fits.count)) (omega (arith, low, are.count)) some (omega (arith, count, many)), ap (lies_in s.head.shelf i) same)

-- every piece of the plan is one of the place's blocks
pub plan_within : {M : Type 0} {s : Script} {runs : List LaneRun} {plan : PlanState} {place : PlaceState M} → HasPlan s runs plan place → All (All (λ (p : Piece). p.span.first < block_count place.namespace)) plan.lanes
plan_within {s = s} {plan = plan} {place} has = λ k e there j d within.
    let lane : get_or plan.lanes k e ≡ pieces_of plan (k + 1) = get_or_default plan.lanes k e [] there ∙ sym (lane_at plan k) in
    let os = replicate j Done in
    let count : length os ≡ j = length-replicate j Done in
    let next = planned_next (has.planned (k + 1) (omega arith) (omega (arith, there, has.fits.count))) os d (omega (arith, count, within, ap length lane)) in
    let fits = next_fits place.namespace has.fit.at.namespace.shelf has.fit.at.namespace.blocks has.fit.head.shelf.0 next in
    subst (λ (p : Piece). p.span.first < block_count place.namespace) (ap (λ (n : ℕ). get_or (pieces_of plan (k + 1)) n d) count ∙ ap (λ (ps : List Piece). get_or ps j d) (sym lane)) (omega (arith, fits.within, fits.some))

-- the shelf of the piece that is due has room for its entry
pub room_due : {M : Type 0} {s : Script} {runs : List LaneRun} {plan : PlanState} {place : PlaceState M} {left : List ℕ} (at : ℕ) (d : LaneRun) (none : Piece) → HasPlan s runs plan place → AreLeft s runs plan left → HaveRooms s plan place.namespace left →
    at < s.head.lanes → 1 ≤ get_or left at 0 → HasRoom place.namespace ((due_piece runs plan at d none).span.first / place.namespace.shelf)
room_due {M} {s} {runs} {plan} {place} {left} at d none has are rooms low some =
    let n = place.namespace in
    let piece = due_piece runs plan at d none in
    let i = piece.span.first / n.shelf in
    let lane = lane_at plan at in
    let inside : piece.span.first < block_count n = subst (λ (ps : List Piece). (get_or ps (length (get_or runs at d).results.items) none).span.first < block_count n) (sym lane)
    (plan_within has at [] (omega (arith, low, has.fits.count)) (length (get_or runs at d).results.items) none (omega (arith, left_at are at d low, some, ap length lane))) in
    let large : 1 ≤ n.shelf = omega (arith, has.fit.at.namespace.shelf, has.fit.head.shelf.0) in
    let there : i < length n.shelves = (div-lt_iff_lt-mul large).1 inside in
    let count : length (rooms_of n) ≡ length n.shelves = length-map n.shelves (λ (s : ShelfState M). s.room) in
    let one : lies_in s.head.shelf i piece ≡ 1 = lies_here s.head.shelf i piece (ap (λ (k : ℕ). piece.span.first / k) (sym has.fit.at.namespace.shelf)) in
    let less = due_less i at d none has are low some in
    omega (arith, one, less, rooms i (omega (arith, one, less)), has.fit.at.namespace.rooms i 0 (omega (arith, there, count)))

-- and then those of the others that aren't done
pub rooms_next : {M : Type 0} {s : Script} {runs : List LaneRun} {plan : PlanState} {place : PlaceState M} {new : NamespaceState M} {left : List ℕ} {entry : ShelfEntry} (at : ℕ) (d : LaneRun) (none : Piece) → HasPlan s runs plan place → AreLeft s runs plan left → HaveRooms s plan place.namespace left →
    at < s.head.lanes → 1 ≤ get_or left at 0 → Enters (due_piece runs plan at d none).span.first entry place.namespace new → HaveRooms s plan new (set left at (get_or left at 0 - 1))
rooms_next {s = s} {runs} {plan} {place} at d none has are rooms low some entered i ahead_some =
    let less = due_less i at d none has are low some in
    let count = entered_count i entered (room_due at d none has are rooms low some) in
    let same = ap (λ (k : ℕ). lies_in k i (due_piece runs plan at d none)) has.fit.at.namespace.shelf in
    omega (arith, less, count, same, rooms i (omega (arith, less, ahead_some)))

-- where entries alone were dropped, the plan is as it was
pub plan_cleared : {M : Type 0} {s : Script} {runs : List LaneRun} {plan : PlanState} {old new : PlaceState M} → DropsEntries old new → HasPlan s runs plan old → HasPlan s runs plan new
plan_cleared {M} {s} {runs} {plan} {old} {new} same is = subst (λ (p : PlaceState M). HasPlan s runs plan p) (sym same.rest) (record {
  fit = record {
    head = is.fit.head;
    own = is.fit.own;
    at = record { namespace = same_namespace is.fit.at.namespace same.entries.shelves; windows = is.fit.at.windows; pairs = is.fit.at.pairs; burst = is.fit.at.burst };
    running = is.fit.running;
  };
  fits = is.fits;
  planned = is.planned;
})
