use Rattle.std.proofs.Common.{◌≡◌, ◌<◌, ℕ, All, List, [], ◌∷◌, ◌++◌, map, Bool, refl, sym, ap, subst, ◌∙◌, append_assoc, arith}
use Rattle.nvm_model.specs.declared.line.Line.{Line}
use Rattle.nvm_model.specs.declared.script.Script.{Script}
use Rattle.nvm_model.specs.declared.trace.Step.{Step}
use Rattle.nvm_model.specs.History.{Complete}
use Rattle.nvm_model.specs.Medium.{MediumState}
use Rattle.nvm_model.specs.Turn.{InLanes, Plans, PostsAll}
use Rattle.nvm_model.specs.World.{Lane}
use Rattle.nvm_blocks.specs.Namespace.{NamespaceState, media_of}
use Rattle.turns.specs.Frame.{Frame, total_left}
use Rattle.nvm_model.specs.Run.{Here, IsItem, NoneLeft, PieceCalled, among, piece_line, pieces_of}
use Rattle.nvm_model.specs.Run.Item.{Served}
use Rattle.nvm_model.specs.Chain.{Chain}
use Rattle.turns.proofs.FrameLemmas.{frame_less, frame_some, no_first}
use Rattle.session.specs.declared.lane_run.LaneRun.{LaneRun}
use Rattle.session.specs.Lanes.{IsComplete}
use Rattle.session.specs.Phases.{DoesPieces, Fit}
use Rattle.nvm_model.specs.Told.{serial}
use Rattle.session.specs.Place.{AreQuiet, AreUndone, DoesTurn, IsReady, Machine, PlaceState, StandsFor, StandsOn, machine, total_work}
use Rattle.turns.proofs.NextPieceLaws.{items_keep}
use Rattle.session.proofs.RestLemmas.{are_served, at_rest, done_is, work_is}
use Rattle.turns.specs.Parts.{Leads}

-- A turn by its phases.

-- What the phases of a turn come to, from a machine that was ready and not all done: its lanes were planned, the pieces
-- done, and the completions posted.
pub record Phases {M I : Type 0} (state : M → MediumState I) (moves : I → Step → Bool → I → Type 0) (s : Script) (old new : Machine M) (events : List Line) : Type 0 where
  pub ready : IsReady s old
  pub due : All IsComplete old.runs → ⊥
  pub planned_runs : List LaneRun
  pub planned_place : PlaceState M
  pub planned_events : List Line
  pub plan : (lanes : List Lane) → StandsFor s old.runs old.place.controller old.place.windows lanes
      → Leads (InLanes (Plans s) 1) (StandsFor s planned_runs planned_place.controller planned_place.windows) lanes [] planned_events
  pub plan_kept : media_of planned_place.namespace ≡ media_of old.place.namespace
  pub worked_runs : List LaneRun
  pub worked_place : PlaceState M
  pub worked_events : List Line
  pub works : (h : Here M) → StandsOn s (machine planned_runs old.order planned_place) h
      → Leads (DoesPieces state moves s) (StandsOn s (machine worked_runs new.order worked_place)) h planned_events worked_events
  pub finished : (lanes : List Lane) → StandsFor s worked_runs worked_place.controller worked_place.windows lanes → NoneLeft s.head.shelf lanes
  pub posts : (lanes : List Lane) → StandsFor s worked_runs worked_place.controller worked_place.windows lanes
      → Leads (InLanes (PostsAll s) 1) (StandsFor s new.runs new.place.controller new.place.windows) lanes worked_events events
  pub posts_kept : new.place.namespace ≡ worked_place.namespace
  pub fit : Fit s new.runs new.place
  pub quiet : AreQuiet new.place.controller.pairs
  pub undone : AreUndone new.runs
  pub mix : new.order.mix ≡ s.head.mix

-- the pieces of items that are pieces
served_pieces : (pieces : List PieceCalled) → pieces_of (map Served pieces) ≡ pieces
served_pieces [] = refl
served_pieces (p ∷ pieces) = ap (λ (ps : List PieceCalled). p ∷ ps) (served_pieces pieces)

-- from lanes on they are a turn, and less is left
phases_from : {M I : Type 0} {state : M → MediumState I} {moves : I → Step → Bool → I → Type 0} {s : Script} {old new : Machine M} {events : List Line} → Phases state moves s old new events → (h : Here M) → StandsOn s old h →
    (turn : DoesTurn state moves s h events new) × (total_left s 1 turn.new.lanes < total_left s 1 h.lanes)
phases_from {M} {state = state} {moves} {s} {old} {new} {events} p h stands =
    let plan = p.plan h.lanes stands.lanes in
    let planned : Here M = record h { lanes = plan.new; due = [] } in
    let media : h.media ≡ media_of p.planned_place.namespace = stands.media ∙ sym p.plan_kept in
    let works = p.works planned (record { lanes = plan.stands; media = media; words = stands.words; due = refl }) in
    let posts = p.posts works.new.lanes works.stands.lanes in
    let is = p.ready.script in
    let rest = at_rest is p.ready.runs p.ready.quiet stands.lanes in
    let served = are_served s h.lanes is stands.lanes.count in
    let not_complete : Complete s (among h.lanes) → ⊥ = λ complete. p.due (done_is is p.ready.runs stands.lanes complete) in
    let frame : Frame s h.lanes plan.added plan.new works.new.lanes posts.added posts.new = record { planning = plan.part; kept = items_keep state moves (serial s) planned (map Served works.part.pieces) works.new works.part.working; posting = posts.part } in
    let lines : plan.added ++ (works.added ++ posts.added) ≡ events =
    sym (append_assoc plan.added works.added posts.added) ∙ ap (λ (es : List Line). (es ++ works.added) ++ posts.added) (sym plan.events_are) ∙ ap (λ (es : List Line). es ++ posts.added) (sym works.events_are) ∙ sym posts.events_are in
    let own : events ≡ plan.added ++ (map piece_line (pieces_of (map Served works.part.pieces)) ++ posts.added) =
    sym lines ∙ ap (λ (es : List Line). plan.added ++ (es ++ posts.added)) works.part.lines_are ∙ ap (λ (ps : List PieceCalled). plan.added ++ (map piece_line ps ++ posts.added)) (sym (served_pieces works.part.pieces)) in
    let working : Chain (IsItem state moves (serial s)) planned (map Served works.part.pieces) (record works.new { due = [] }) =
    subst (λ (due : List ℕ). Chain (IsItem state moves (serial s)) planned (map Served works.part.pieces) (record works.new { due = due })) works.stands.due works.part.working in (
      record {
        done = record { plan = plan.added; items = map Served works.part.pieces; posts = posts.added };
        new = record works.new { lanes = posts.new };
        turn = record {
          planned = plan.new;
          worked = works.new.lanes;
          planning = plan.part;
          working = working;
          all = p.finished works.new.lanes works.stands.lanes;
          posting = posts.part;
        };
        some = λ none. frame_some is.head.burst.0 rest served not_complete frame (no_first plan.added _ none);
        beside = works.part.beside;
        stands = record {
          lanes = posts.stands;
          media = works.stands.media ∙ ap (λ (n : NamespaceState M). media_of n) (sym p.posts_kept);
          words = works.stands.words;
          due = works.stands.due;
        };
        events_are = own;
      },
      frame_less is.head.burst.0 rest served not_complete frame,
    )

-- they are a turn
pub turn_by_phases : {M I : Type 0} {state : M → MediumState I} {moves : I → Step → Bool → I → Type 0} {s : Script} {old new : Machine M} {events : List Line} → Phases state moves s old new events → (h : Here M) → StandsOn s old h → DoesTurn state moves s h events new
turn_by_phases p h stands = (phases_from p h stands).0

-- after which the machine is ready
pub ready_after : {M I : Type 0} {state : M → MediumState I} {moves : I → Step → Bool → I → Type 0} {s : Script} {old new : Machine M} {events : List Line} → Phases state moves s old new events → IsReady s new
ready_after p =
    let turn = turn_by_phases p p.ready.stood p.ready.stands in
    record { script = p.ready.script; runs = p.fit.own; place = p.fit.at; running = p.fit.running; mix = p.mix; quiet = p.quiet; undone = p.undone; stood = turn.new; stands = turn.stands }

-- and has less left
pub less_after : {M I : Type 0} {state : M → MediumState I} {moves : I → Step → Bool → I → Type 0} {s : Script} {old new : Machine M} {events : List Line} → Phases state moves s old new events →
    total_work 1 new.runs new.place.controller < total_work 1 old.runs old.place.controller
less_after p =
    let is = p.ready.script in
    let from = phases_from p p.ready.stood p.ready.stands in
    let before = work_is is p.ready.runs p.ready.quiet p.ready.stands.lanes in
    let after = work_is is p.fit.own p.quiet from.0.stands.lanes in
    omega (arith, before, after, from.1)
