use Rattle.std.proofs.Common.{◌≡◌, ℕ, ◌+◌, ◌-◌, ◌*◌, ◌/◌, ◌%◌, ◌<◌, ◌≤◌, Bool, List, [], ◌∷◌, ◌++◌, length, map, sum, slice_index_or, slice_set, vec_capacity, refl, sym, ap, subst, ◌∙◌, arith, ⊎_elim, All}
use Rattle.std.proofs.lemmas.List.{length-map, map-append, get_or-map, get_or_default, ext_get_or, length-drop, length-append, length-set, get_or-set_same, get_or-set_other}
use Rattle.std.proofs.lemmas.List.Elements.{All-from_get_or}
use Rattle.nvm_model.specs.declared.command.Command.{Command}
use Rattle.nvm_model.specs.declared.command.Outcome.{Outcome}
use Rattle.nvm_model.specs.declared.line.Line.{Line}
use Rattle.nvm_model.specs.declared.piece.Piece.{Piece}
use Rattle.nvm_model.specs.declared.piece.PieceResult.{PieceResult}
use Rattle.nvm_model.specs.declared.script.Script.{Script}
use Rattle.nvm_model.specs.declared.trace.Step.{Step}
use Rattle.nvm_model.specs.Chain.{Chain}
use Rattle.nvm_model.specs.Medium.{IsAt, MediumState, all_at}
use Rattle.nvm_model.specs.Piece.{pieces_left}
use Rattle.nvm_model.specs.Trace.{IsPieceDone, piece_calls}
use Rattle.nvm_model.specs.Turn.{left_in}
use Rattle.nvm_model.specs.World.{Lane, new_lane, set_of}
use Rattle.nvm_model.proofs.ChainLemmas.{chain_one, chain_more}
use Rattle.nvm_ring.specs.Queues.{HasGuestEnds}
use Rattle.nvm_blocks.specs.Namespace.{IsForNamespace, media_of}
use Rattle.nvm_blocks.specs.Work.{IsSameButData}
use Rattle.guest_ram.specs.Window.{WindowState, data_pages}
use Rattle.hall.specs.Plan.{PlanState, pieces_of}
use Rattle.lanes.specs.Guest.{GuestState}
use Rattle.ctl_state.specs.Controller.{ControllerState, PairState, pair_of}
use Rattle.controller.specs.Pair.{lane_pieces, outcomes_of, worked, IsSameButPair, IsPlanned}
use Rattle.turns.proofs.NextPieceLaws.{lanes_finished}
use Rattle.nvm_model.specs.Run.{Here, IsItem, IsPiece, Item, MayBeNext, NoneLeft, PieceCalled, piece_line}
use Rattle.nvm_model.specs.Run.Item.{Served}
use Rattle.session.specs.declared.lane_run.LaneRun.{LaneRun}
use Rattle.session.specs.declared.lane_script.LaneScript.{LaneScript}
use Rattle.session.specs.Lanes.{ArePlanned, IsLaneOf, IsRunOf, Stands, window_of, HasDrawn}
use Rattle.session.specs.Phases.{AreDone, DoesPieces, HasPieceLeft, HasPlan, StandsNext, StandsOver}
use Rattle.nvm_model.specs.Told.{serial}
use Rattle.session.specs.Place.{PlaceState, StandsFor, StandsOn, machine}
use Rattle.session.specs.Seats.{DoesPieceAt, IsSameButWindow}
use Rattle.session.specs.Work.{AreLeft, HasResult, HasResultAt, MayPost}
use Rattle.session.proofs.ShelvesLemmas.{same_namespace}
use Rattle.controller.proofs.NextLemmas.{IsNext, lane_length, left_worked, next_fits, order_stays, window_stays, worked_length}
use Rattle.controller.specs.Told.{called, piece_event}
use Rattle.controller.proofs.DoneLemmas.{piece_does}
use Rattle.controller.proofs.PairLemmas.{pair_same}
use Rattle.mig_base.proofs.ListLemmas.{element_at, sum_few}
use Rattle.session.proofs.AllLanesLemmas.{IsSameButLane, at_place, fit_more, stands_more, seats}
use Rattle.session.proofs.SeatLemmas.{other_windows}
use Rattle.turns.specs.Parts.{Leads}
use Rattle.std.proofs.lemmas.Bool.{cases_eq}
use Rattle.session.specs.declared.order.Order.{Order}
use Rattle.controller.proofs.PlannedLemmas.{planned_next, pieces_fit}

-- A piece that is done: what it does to its lane, and to all lanes over their media.

-- the lane that a run stands for after its next piece
abbrev pub lane_after : Script → PairState → LaneRun → PieceResult → WindowState → Lane → Lane
lane_after s pair run result window lane = record lane { pages = data_pages window; running = worked s.head.shelf pair.commands (outcomes_of run.results.items ++ result.outcome ∷ []) }

-- it has as many running commands
same_running : (s : Script) (k : ℕ) (run : LaneRun) (pair : PairState) (window new_window : WindowState) (lane : Lane) (result : PieceResult) → Stands s k run pair window lane → length (lane_after s pair run result new_window lane).running ≡ length lane.running
same_running s k run pair window new_window lane result is =
    worked_length s.head.shelf pair.commands (outcomes_of run.results.items ++ result.outcome ∷ []) ∙ sym (ap length is.running ∙ worked_length s.head.shelf pair.commands (outcomes_of run.results.items))

-- a run stands for it
lane_stands : (s : Script) (k : ℕ) (run new_run : LaneRun) (pair : PairState) (window new_window : WindowState) (lane : Lane) (result : PieceResult) →
    HasResult run result new_run → IsSameButData window new_window → Stands s k run pair window lane → Stands s k new_run pair new_window (lane_after s pair run result new_window lane)
lane_stands s k run new_run pair window new_window lane result has same is =
    let new = lane_after s pair run result new_window lane in
    let set = set_of s.head k in
    let outcomes : outcomes_of new_run.results.items ≡ outcomes_of run.results.items ++ result.outcome ∷ [] =
    ap outcomes_of has.results ∙ map-append (λ (r : PieceResult). r.outcome) run.results.items (result ∷ []) in
    record {
      number = same.lane ∙ is.number;
      guest = ap (λ (g : GuestState). g.lane) has.guest ∙ is.guest;
      window_is = window_stays k set window new_window lane new.running same is.window_is;
      ordered = order_stays set lane (data_pages new_window) new.running (same_running s k run pair window new_window lane result is) is.ordered;
      guest_ends = subst (λ (g : GuestState). HasGuestEnds set g.sq g.cq g.waiting new) (sym has.guest) (record { sq_is = is.guest_ends.sq_is; cq_is = is.guest_ends.cq_is; waits = is.guest_ends.waits });
      ends = record { sq_is = is.ends.sq_is; cq_is = is.ends.cq_is };
      acts = is.acts ∙ sym has.acts_done;
      running = ap (λ (os : List Outcome). worked s.head.shelf pair.commands os) (sym outcomes);
    }

-- What is left.

-- a lane has as much left as its results say
lane_left : {s : Script} {k : ℕ} {plan : PlanState} {run : LaneRun} {pair : PairState} {window : WindowState} {lane : Lane} → IsPlanned s k plan pair → Stands s k run pair window lane → length run.results.items ≤ length (pieces_of plan k) →
    left_in s.head.shelf lane + length run.results.items ≡ length (pieces_of plan k)
lane_left {s} {k} {plan} {run} {pair} {lane = lane} planned is few =
    let os = outcomes_of run.results.items in
    let count : length os ≡ length run.results.items = length-map run.results.items (λ (r : PieceResult). r.outcome) in
    let all : length (pieces_of plan k) ≡ length (lane_pieces k s.head.shelf pair.commands) = ap length planned.pieces in
    let sums = lane_length k s.head.shelf s.head.blocks (set_of s.head k).pages pair.commands planned.checked in
    let left = left_worked s.head.shelf pair.commands os (omega (arith, count, few, all, sums)) in
    let own : left_in s.head.shelf lane ≡ sum (map (pieces_left s.head.shelf) (worked s.head.shelf pair.commands os)) = ap (λ (l : List Command). sum (map (pieces_left s.head.shelf) l)) is.running in
    omega (arith, count, all, sums, left, own)

-- at each place
each_left : {s : Script} {runs : List LaneRun} {plan : PlanState} {controller : ControllerState} {windows : List WindowState} {lanes : List Lane} (i : ℕ) (d : LaneRun) → ArePlanned s plan controller → StandsFor s runs controller windows lanes → i < s.head.lanes →
    length (slice_index_or runs (i + 1 - 1) d).results.items ≤ length (pieces_of plan (i + 1)) →
    slice_index_or (map (left_in s.head.shelf) lanes) i 0 + length (slice_index_or runs (i + 1 - 1) d).results.items ≡ length (pieces_of plan (i + 1))
each_left {s} {runs} {plan} {controller} {windows} {lanes} i d planned is low few =
    let f = left_in s.head.shelf in
    let here : i + 1 - 1 ≡ i = omega arith in
    let count = lane_left (planned (i + 1) (omega arith) (omega (arith, low))) (is.each (i + 1) d (new_lane 0) (omega arith) (omega (arith, low))) few in
    let same : f (slice_index_or lanes (i + 1 - 1) (new_lane 0)) ≡ f (slice_index_or lanes i (new_lane 0)) = ap (λ (j : ℕ). f (slice_index_or lanes j (new_lane 0))) here in
    let at : slice_index_or (map f lanes) i 0 ≡ f (slice_index_or lanes i (new_lane 0)) = get_or-map f lanes i (new_lane 0) 0 (omega (arith, low, is.count)) in
    omega (arith, count, same, at)

-- the counts of what is left are those of the lanes
pub lefts_are : {s : Script} {runs : List LaneRun} {plan : PlanState} {controller : ControllerState} {windows : List WindowState} {lanes : List Lane} {left : List ℕ} → LaneRun → ArePlanned s plan controller → AreLeft s runs plan left → StandsFor s runs controller windows lanes →
    map (left_in s.head.shelf) lanes ≡ left
lefts_are {s} {runs} {plan} {lanes = lanes} {left} d planned are is =
    let f = left_in s.head.shelf in
    let as_many : length (map f lanes) ≡ length lanes = length-map lanes f in
    ext_get_or 0 (map f lanes) left (as_many ∙ is.count ∙ sym are.count) (λ i low.
    let below : i < s.head.lanes = omega (arith, low, as_many, is.count) in
    let here : i + 1 - 1 ≡ i = omega arith in
    let own = are.each (i + 1) d (omega arith) (omega (arith, below)) in
    let same : slice_index_or left (i + 1 - 1) 0 ≡ slice_index_or left i 0 = ap (λ (j : ℕ). slice_index_or left j 0) here in
    let count = each_left i d planned is below (omega (arith, own)) in
    omega (arith, own, same, count))

-- so it is where all pieces were done
pub none_is_left : {M : Type 0} {s : Script} {runs : List LaneRun} {plan : PlanState} {place : PlaceState M} {lanes : List Lane} → HasPlan s runs plan place → AreDone s runs plan → StandsFor s runs place.controller place.windows lanes → NoneLeft s.head.shelf lanes
none_is_left {s = s} {runs} {plan} {lanes = lanes} has done is =
    let f = left_in s.head.shelf in
    let as_many : length (map f lanes) ≡ length lanes = length-map lanes f in
    let d = element_at runs 0 (omega (arith, has.fit.own.count, has.fit.head.lanes.0)) in
    lanes_finished s.head.shelf lanes (All-from_get_or (λ (n : ℕ). n ≡ 0) (map f lanes) 0 (λ i low.
    let below : i < s.head.lanes = omega (arith, low, as_many, is.count) in
    let all = done (i + 1) d (omega arith) (omega (arith, below)) in
    let count = each_left i d has.planned is below (omega (arith, all)) in
    omega (arith, all, count)))

-- The next piece.

-- the piece that follows the results of the lane at a place
pub next_at : {M : Type 0} {s : Script} {runs : List LaneRun} {plan : PlanState} {place : PlaceState M} {piece : Piece} (at : ℕ) (d : LaneRun) → HasPlan s runs plan place → HasPieceLeft s at runs plan →
    ((d : LaneRun) (none : Piece) → piece ≡ slice_index_or (pieces_of plan (at + 1)) (length (slice_index_or runs at d).results.items) none) →
    IsNext (at + 1) s.head.shelf s.head.blocks (set_of s.head (at + 1)).pages (pair_of place.controller (at + 1)).commands (outcomes_of (slice_index_or runs at d).results.items) piece
next_at {s = s} {runs} {plan} {place} {piece} at d has is piece_is =
    let os = outcomes_of (slice_index_or runs at d).results.items in
    let count : length os ≡ length (slice_index_or runs at d).results.items = length-map (slice_index_or runs at d).results.items (λ (r : PieceResult). r.outcome) in
    subst (λ (p : Piece). IsNext (at + 1) s.head.shelf s.head.blocks (set_of s.head (at + 1)).pages (pair_of place.controller (at + 1)).commands os p)
    (ap (λ (n : ℕ). slice_index_or (pieces_of plan (at + 1)) n piece) count ∙ sym (piece_is d piece)) (planned_next (has.planned (at + 1) (omega arith) (omega (arith, is.there))) os piece (omega (arith, count, is.left d)))

-- it is a piece of that lane, for the place's namespace and the lane's window
pub piece_fits : {M : Type 0} {s : Script} {runs : List LaneRun} {plan : PlanState} {place : PlaceState M} {piece : Piece} (at : ℕ) → HasPlan s runs plan place → HasPieceLeft s at runs plan →
    ((d : LaneRun) (none : Piece) → piece ≡ slice_index_or (pieces_of plan (at + 1)) (length (slice_index_or runs at d).results.items) none) →
    (piece.lane ≡ at + 1) × IsForNamespace place.namespace (length (data_pages (window_of place.windows piece.lane))) piece
piece_fits {s = s} {runs} {plan} {place} {piece} at has left piece_is =
    let d = element_at runs at (omega (arith, left.there, has.fit.own.count)) in
    let next = next_at at d has left piece_is in
    let number : piece.lane ≡ at + 1 = ap (λ (p : Piece). p.lane) next.piece_is in
    let size = (has.fit.at.windows.each piece.lane (omega (arith, number)) (omega (arith, number, left.there))).size in
    let same : (set_of s.head piece.lane).pages ≡ (set_of s.head (at + 1)).pages = ap (λ (k : ℕ). (set_of s.head k).pages) number in
    let pages : (set_of s.head (at + 1)).pages ≡ length (data_pages (window_of place.windows piece.lane)) = omega (arith, size, same, length-drop 2 (window_of place.windows piece.lane).pages) in
    (number, subst (λ (n : ℕ). IsForNamespace place.namespace n piece) pages (next_fits place.namespace has.fit.at.namespace.shelf has.fit.at.namespace.blocks has.fit.head.shelf.0 next))

-- a run has room for the result
pub result_fits : {M : Type 0} {s : Script} {runs : List LaneRun} {plan : PlanState} {place : PlaceState M} (at : ℕ) → HasPlan s runs plan place → HasPieceLeft s at runs plan → (d : LaneRun) →
    length (slice_index_or runs at d).results.items < vec_capacity (slice_index_or runs at d).results
result_fits {s = s} {runs} at has left d =
    let all = pieces_fit has.fit.head.shelf.0 (has.planned (at + 1) (omega arith) (omega (arith, left.there))) in
    let room = at_place (λ (r : LaneRun). 64 * s.head.burst ≤ vec_capacity r.results) runs at (at + 1) d refl (has.fit.own.each (at + 1) d (omega arith) (omega (arith, left.there))).room in
    omega (arith, all, left.left d, room)

-- a lane may post where all its pieces were done
pub may_post : {s : Script} {k : ℕ} {plan : PlanState} {run : LaneRun} {pair : PairState} → IsPlanned s k plan pair → length run.results.items ≡ length (pieces_of plan k) → MayPost s k run pair
may_post is done = record { told = is.told; checked = is.checked; few = is.few; done = done ∙ ap length is.pieces }

-- a run with one result more
run_after : {s : Script} {k : ℕ} {run new : LaneRun} {result : PieceResult} → HasResult run result new → IsRunOf s k run → IsRunOf s k new
run_after {s} {k} {run} {new} has is = record {
  script = subst (λ (l : LaneScript). IsLaneOf s l) (sym has.script) is.script;
  lane = ap (λ (l : LaneScript). l.lane) has.script ∙ is.lane;
  guest = ap (λ (g : GuestState). g.lane) has.guest ∙ is.guest;
  few = rw (has.script, has.acts_done) is.few;
  room = omega (arith, has.room, is.room);
}

-- The piece was done.

-- no other lane changed
piece_same : {M I : Type 0} {state : M → MediumState I} {moves : I → Step → Bool → I → Type 0} {runs new_runs : List LaneRun} {old new : PlaceState M} {piece : Piece} {result : PieceResult} (at : ℕ) →
    piece.lane ≡ at + 1 → at < length runs → at < length old.windows → DoesPieceAt state moves piece result old new → HasResultAt at result runs new_runs →
    IsSameButLane at piece.lane (seats runs old.controller old.windows) (seats new_runs new.controller new.windows)
piece_same {old = old} {new} {piece} at number there low does has = record {
  number = number;
  there = there;
  runs_are = has.same;
  pairs = subst (λ (c : ControllerState). IsSameButPair piece.lane old.controller (record c { queue = old.controller.queue })) (sym does.noted.others) (pair_same old.controller);
  windows = subst (λ (ws : List WindowState). IsSameButWindow piece.lane old.windows ws) (sym does.windows) (other_windows piece.lane (window_of new.windows piece.lane) (omega (arith, number, low)) does.kept.lane does.kept.count);
}

-- the plan is as it was
pub plan_after : {M I : Type 0} {state : M → MediumState I} {moves : I → Step → Bool → I → Type 0} {s : Script} {runs new_runs : List LaneRun} {plan : PlanState} {old new : PlaceState M} {piece : Piece} {result : PieceResult} (at : ℕ) →
    piece.lane ≡ at + 1 → at < s.head.lanes → DoesPieceAt state moves piece result old new → HasResultAt at result runs new_runs → HasPlan s runs plan old → HasPlan s new_runs plan new
plan_after {s = s} {runs} {plan = plan} {piece = piece} at number low does has is =
    let there : at < length runs = omega (arith, low, is.fit.own.count) in
    let same = piece_same at number there (omega (arith, low, is.fit.at.windows.count)) does has in
    record {
      fit = fit_more (element_at runs at there) same (same_namespace is.fit.at.namespace does.shelves)
          (λ e. run_after (has.here e) (at_place (IsRunOf s piece.lane) runs at piece.lane e number (is.fit.own.each piece.lane e (omega (arith, number)) (omega (arith, number, low))))) is.fit;
      fits = is.fits;
      planned = λ k first last. subst (λ (c : ControllerState). IsPlanned s k plan (pair_of c k)) (sym does.noted.others) (is.planned k first last);
    }

-- it is one of the model
pub piece_leads : {M I : Type 0} {state : M → MediumState I} {moves : I → Step → Bool → I → Type 0} {s : Script} {runs new_runs : List LaneRun} {plan : PlanState} {old new : PlaceState M} {piece : Piece} {result : PieceResult} {h : Here M} (at : ℕ) (events : List Line) →
    HasPlan s runs plan old → HasPieceLeft s at runs plan → ((d : LaneRun) (none : Piece) → piece ≡ slice_index_or (pieces_of plan (at + 1)) (length (slice_index_or runs at d).results.items) none) →
    DoesPieceAt state moves piece result old new → HasResultAt at result runs new_runs → StandsOver s runs old h → MayBeNext (serial s) h (at + 1) →
    Leads (DoesPieces state moves s) (StandsNext s new_runs new h.drawn) h events (events ++ piece_event piece result ∷ [])
piece_leads {M} {I} {state} {moves} {s} {runs} {new_runs} {plan} {old} {new} {piece} {result} {h} at events has left piece_is does one over may =
    let there : at < length runs = omega (arith, left.there, has.fit.own.count) in
    let d = element_at runs at there in
    let run = slice_index_or runs at d in
    let next_own = next_at at d has left piece_is in
    let k = piece.lane in
    let number : k ≡ at + 1 = ap (λ (p : Piece). p.lane) next_own.piece_is in
    let here : k - 1 ≡ at = omega (arith, number) in
    let next = subst (λ (j : ℕ). IsNext j s.head.shelf s.head.blocks (set_of s.head j).pages (pair_of old.controller j).commands (outcomes_of run.results.items) piece) (sym number) next_own in
    let pair = pair_of old.controller k in
    let window = window_of old.windows k in
    let new_window = window_of new.windows k in
    let lane = slice_index_or h.lanes (k - 1) (new_lane 0) in
    let stood : Stands s k run pair window lane = subst (λ (i : ℕ). Stands s k (slice_index_or runs i d) pair window lane) here (over.lanes.each k d (new_lane 0) (omega (arith, number)) (omega (arith, number, left.there))) in
    let memory : lane.pages ≡ data_pages window = stood.window_is.memory in
    let after = lane_after s pair run result new_window lane in
    let new_here : Here M = record h { lanes = slice_set h.lanes at after; media = media_of new.namespace; drawn = h.drawn + 1 } in
    let done : IsPieceDone piece does.moved result lane.pages (data_pages new_window) = subst (λ (pages : List (List ℕ)). IsPieceDone piece does.moved result pages (data_pages new_window)) (sym memory) does.done in
    let made : Chain (IsAt state moves) h.media (called s next.work piece result lane.pages does.moved).calls (media_of new.namespace) =
    subst (λ (media : List M). Chain (IsAt state moves) media (called s next.work piece result lane.pages does.moved).calls (media_of new.namespace)) (sym over.media)
    (subst (λ (pages : List (List ℕ)). Chain (IsAt state moves) (media_of old.namespace) (called s next.work piece result pages does.moved).calls (media_of new.namespace)) (sym memory)
    (subst (λ (shelf : ℕ). Chain (IsAt state moves) (media_of old.namespace) (all_at (piece.span.first / shelf) (piece_calls piece (piece.span.first % shelf) (data_pages window) does.moved result.outcome)) (media_of new.namespace)) has.fit.at.namespace.shelf does.called)) in
    let is : IsPiece state moves (serial s) h (called s next.work piece result lane.pages does.moved) new_here = record {
      there = (omega (arith, number), omega (arith, number, left.there, over.lanes.count));
      next = subst (λ (j : ℕ). MayBeNext (serial s) h j) (sym number) may;
      lane = after;
      does = piece_does next result does.moved (data_pages new_window) lane stood.running done;
      called = made;
      after = ap (λ (i : ℕ). record h { lanes = slice_set h.lanes i after; media = media_of new.namespace; drawn = h.drawn + 1 }) (sym here);
    } in
    let stands : StandsFor s new_runs new.controller new.windows new_here.lanes =
    stands_more at k after (piece_same at number there (omega (arith, left.there, has.fit.at.windows.count)) does one) left.there
    (λ e. subst (λ (c : ControllerState). Stands s k (slice_index_or new_runs at e) (pair_of c k) new_window after) (sym does.noted.others)
    (lane_stands s k run (slice_index_or new_runs at e) pair window new_window lane result (subst (λ (r : LaneRun). HasResult r result (slice_index_or new_runs at e)) (get_or_default runs at e d there) (one.here e)) does.kept stood)) over.lanes in
    record {
      new = new_here;
      added = piece_event piece result ∷ [];
      part = record { pieces = called s next.work piece result lane.pages does.moved ∷ []; working = chain_one (IsItem state moves (serial s)) h (Served (called s next.work piece result lane.pages does.moved)) new_here is; beside = refl; lines_are = refl };
      stands = record { over = record { lanes = stands; media = refl; due = over.due }; one = refl };
      events_are = refl;
    }

-- Pieces in their order.

-- pieces, and then others
pub does_more : {M I : Type 0} {state : M → MediumState I} {moves : I → Step → Bool → I → Type 0} {s : Script} {x : Here M} (y z : Here M) (first second : List Line) → DoesPieces state moves s x first y → DoesPieces state moves s y second z → DoesPieces state moves s x (first ++ second) z
does_more {state = state} {moves} {s} {x} y z first second a b = record {
  pieces = a.pieces ++ b.pieces;
  working = subst (λ (items : List Item). Chain (IsItem state moves (serial s)) x items z) (sym (map-append Served a.pieces b.pieces))
      (chain_more (IsItem state moves (serial s)) x (map Served a.pieces) y (map Served b.pieces) z a.working b.working);
  beside = b.beside ∙ a.beside;
  lines_are = ap (λ (l : List Line). l ++ second) a.lines_are ∙ ap (λ (l : List Line). map piece_line a.pieces ++ l) b.lines_are ∙ sym (map-append piece_line a.pieces b.pieces);
}

-- one piece that was drawn
pub works_on : {M I : Type 0} {state : M → MediumState I} {moves : I → Step → Bool → I → Type 0} {s : Script} {runs : List LaneRun} {order : Order} {place : PlaceState M} {h : Here M} {a b : List Line} →
    HasDrawn (h.drawn + 1) order → Leads (DoesPieces state moves s) (StandsNext s runs place h.drawn) h a b → Leads (DoesPieces state moves s) (StandsOn s (machine runs order place)) h a b
works_on {order = order} drawn x = record {
  new = x.new;
  added = x.added;
  part = x.part;
  stands = record { lanes = x.stands.over.lanes; media = x.stands.over.media; words = subst (λ (m : ℕ). HasDrawn m order) (sym x.stands.one) drawn; due = x.stands.over.due };
  events_are = x.events_are;
}

-- How many are left.

-- one piece fewer of the lane at a place
pub left_less : {s : Script} {runs new : List LaneRun} {plan : PlanState} {left : List ℕ} (at : ℕ) (result : PieceResult) → at < s.head.lanes → 1 ≤ slice_index_or left at 0 → HasResultAt at result runs new → AreLeft s runs plan left → AreLeft s new plan (slice_set left at (slice_index_or left at 0 - 1))
left_less {s} {runs} {new} {plan} {left} at result low some has is = record {
  count = length-set left at (slice_index_or left at 0 - 1) ∙ is.count;
  each = λ k d first last.
      let before = is.each k d first last in
      ⊎_elim (λ here.
      let own : slice_index_or (slice_set left at (slice_index_or left at 0 - 1)) (k - 1) 0 ≡ slice_index_or left (k - 1) 0 - 1 =
      subst (λ (i : ℕ). slice_index_or (slice_set left i (slice_index_or left i 0 - 1)) (k - 1) 0 ≡ slice_index_or left (k - 1) 0 - 1) here
      (get_or-set_same left (k - 1) (slice_index_or left (k - 1) 0 - 1) 0 (omega (arith, here, low, is.count))) in
      let done = one_more (slice_index_or runs at d) (slice_index_or new at d) result (has.here d) in
      let more = subst (λ (i : ℕ). length (slice_index_or new i d).results.items ≡ length (slice_index_or runs i d).results.items + 1) (sym here) done in
      let there : 1 ≤ slice_index_or left (k - 1) 0 = subst (λ (i : ℕ). 1 ≤ slice_index_or left i 0) (sym here) some in
      omega (arith, before, own, more, there))
      (λ other.
      let own : slice_index_or (slice_set left at (slice_index_or left at 0 - 1)) (k - 1) 0 ≡ slice_index_or left (k - 1) 0 = get_or-set_other left at (k - 1) (slice_index_or left at 0 - 1) 0 other in
      let same = ap (λ (run : LaneRun). length run.results.items) (has.same.others (k - 1) d other) in
      omega (arith, before, own, same))
      (cases_eq (k - 1) at);
}
  where
    one_more : (run after : LaneRun) (result : PieceResult) → HasResult run result after → length after.results.items ≡ length run.results.items + 1
    one_more run after result one = ap length one.results ∙ length-append run.results.items (result ∷ [])

-- what is left of the lane at a place
pub left_at : {s : Script} {runs : List LaneRun} {plan : PlanState} {left : List ℕ} → AreLeft s runs plan left → (at : ℕ) (d : LaneRun) → at < s.head.lanes →
    slice_index_or left at 0 + length (slice_index_or runs at d).results.items ≡ length (pieces_of plan (at + 1))
left_at {s} {runs} {plan} {left} is at d low =
    let here : at + 1 - 1 ≡ at = omega arith in
    subst (λ (i : ℕ). slice_index_or left i 0 + length (slice_index_or runs i d).results.items ≡ length (pieces_of plan (at + 1))) here (is.each (at + 1) d (omega arith) (omega (arith, low)))

-- a turn has at most 4,096 pieces of each lane
pub left_few : {M : Type 0} {s : Script} {runs : List LaneRun} {plan : PlanState} {place : PlaceState M} {left : List ℕ} → HasPlan s runs plan place → AreLeft s runs plan left → sum left ≤ 4096 * s.head.lanes
left_few {s = s} {runs} {plan} {left = left} has are =
    let each : All (λ (n : ℕ). n ≤ 4096) left = All-from_get_or (λ (n : ℕ). n ≤ 4096) left 0 (λ i low.
    let there : i < s.head.lanes = omega (arith, low, are.count) in
    let d = element_at runs i (omega (arith, there, has.fit.own.count)) in
    omega (arith, left_at are i d there, pieces_fit has.fit.head.shelf.0 (has.planned (i + 1) (omega arith) (omega (arith, there))), has.fit.head.burst.1)) in
    omega (arith, sum_few 4096 left each, are.count)

-- where none is left all were done
pub all_done : {s : Script} {runs : List LaneRun} {plan : PlanState} {left : List ℕ} → AreLeft s runs plan left → All (λ (n : ℕ). n ≡ 0) left → (k : ℕ) (d : LaneRun) → 1 ≤ k → k ≤ s.head.lanes →
    length (slice_index_or runs (k - 1) d).results.items ≡ length (pieces_of plan k)
all_done {left = left} are none k d low high =
    let zero_there = none (k - 1) 0 (omega (arith, low, high, are.count)) in
    omega (arith, are.each k d low high, zero_there)
