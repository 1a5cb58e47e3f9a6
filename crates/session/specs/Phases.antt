use Rattle.std.specs.Prelude.{◌≡◌, ℕ, ◌+◌, ◌-◌, ◌*◌, ◌<◌, ◌≤◌, All, Bool, List, [], Vec, length, map, slice_index_or, vec_capacity}
use Rattle.std.specs.declared.alloc.Global.{Global}
use Rattle.nvm_model.specs.declared.line.Line.{Line}
use Rattle.nvm_model.specs.declared.script.Script.{Script}
use Rattle.nvm_model.specs.declared.trace.Step.{Step}
use Rattle.nvm_model.specs.Chain.{Chain}
use Rattle.nvm_model.specs.Medium.{MediumState}
use Rattle.nvm_model.specs.ScriptText.{IsHead}
use Rattle.nvm_blocks.specs.Namespace.{media_of}
use Rattle.hall.specs.Plan.{PlanState, pieces_of}
use Rattle.ctl_state.specs.declared.phase.Phase.TheVariants.{Running}
use Rattle.nvm_model.specs.Run.{Here, IsItem, PieceCalled, piece_line}
use Rattle.nvm_model.specs.Run.Item.{Served}
use Rattle.session.specs.declared.lane_run.LaneRun.{LaneRun}
use Rattle.session.specs.Lanes.{ArePlanned}
use Rattle.nvm_model.specs.Told.{serial}
use Rattle.session.specs.Place.{AreQuiet, AreRunsOf, AreUndone, IsPlaceOf, PlaceState, StandsFor}

-- The phases of a turn: all lanes' plans, then their pieces, then their posts.

-- runs and a place of a script whose controller runs, at any point of a turn
pub record Fit {M : Type 0} (s : Script) (runs : List LaneRun) (place : PlaceState M) : Type 0 where
  pub head : IsHead s.head
  pub own : AreRunsOf s runs
  pub at : IsPlaceOf s place
  pub running : place.controller.phase ≡ Running

-- a plan with room for the pieces of the largest turn
pub record FitPlan (s : Script) (plan : PlanState) : Type 0 where
  pub count : length plan.lanes ≡ s.head.lanes
  pub size : plan.room ≡ 64 * s.head.burst

-- there is room for the largest turn
pub record HasRoom (s : Script) (plan : PlanState) (events : Vec Line Global) : Type 0 where
  pub fits : FitPlan s plan
  pub most : 4608 * s.head.lanes ≤ vec_capacity events

-- a plan has the pieces of all fetched commands
pub record HasPlan {M : Type 0} (s : Script) (runs : List LaneRun) (plan : PlanState) (place : PlaceState M) : Type 0 where
  pub fit : Fit s runs place
  pub fits : FitPlan s plan
  pub planned : ArePlanned s plan place.controller

-- before a turn: no command of any lane is under way, and the plan is empty
pub record MayPlanAll {M : Type 0} (s : Script) (runs : List LaneRun) (plan : PlanState) (place : PlaceState M) : Type 0 where
  pub fit : Fit s runs place
  pub quiet : AreQuiet place.controller.pairs
  pub undone : AreUndone runs
  pub fits : FitPlan s plan
  pub empty : All (λ ps. ps ≡ []) plan.lanes

-- all pieces of the plan were done
abbrev pub AreDone : Script → List LaneRun → PlanState → Type 0
AreDone s runs plan = (k : ℕ) (d : LaneRun) → 1 ≤ k → k ≤ s.head.lanes → length (slice_index_or runs (k - 1) d).results.items ≡ length (pieces_of plan k)

-- the lane at a place has a piece left
pub record HasPieceLeft (s : Script) (at : ℕ) (runs : List LaneRun) (plan : PlanState) : Type 0 where
  pub there : at < s.head.lanes
  pub left : (d : LaneRun) → length (slice_index_or runs at d).results.items < length (pieces_of plan (at + 1))

-- runs over a place stand for lanes over its media
pub record StandsOver {M : Type 0} (s : Script) (runs : List LaneRun) (place : PlaceState M) (h : Here M) : Type 0 where
  pub lanes : StandsFor s runs place.controller place.windows h.lanes
  pub media : h.media ≡ media_of place.namespace
  pub due : h.due ≡ []

-- the same where one piece more was drawn
pub record StandsNext {M : Type 0} (s : Script) (runs : List LaneRun) (place : PlaceState M) (drawn : ℕ) (h : Here M) : Type 0 where
  pub over : StandsOver s runs place h
  pub one : h.drawn ≡ drawn + 1

-- pieces were done on one thread, whose lines are these; they left the media of the other side
pub record DoesPieces {M I : Type 0} (state : M → MediumState I) (moves : I → Step → Bool → I → Type 0) (s : Script) (old : Here M) (lines : List Line) (new : Here M) : Type 0 where
  pub pieces : List PieceCalled
  pub working : Chain (IsItem state moves (serial s)) old (map Served pieces) new
  pub beside : new.other ≡ old.other
  pub lines_are : lines ≡ map piece_line pieces
