use Rattle.std.specs.Prelude.{◌≡◌, ◌≢◌, ℕ, ◌-◌, ◌*◌, ◌+◌, ◌≤◌, All, Bool, List, [], ◌∷◌, length, slice_index_or}
use Rattle.nvm_model.specs.declared.script.Script.{Script}
use Rattle.nvm_model.specs.Ring.{places_between}
use Rattle.nvm_model.specs.ScriptText.{IsScript}
use Rattle.nvm_model.specs.World.{Lane}
use Rattle.nvm_model.specs.declared.line.Line.{Line}
use Rattle.nvm_model.specs.declared.trace.Step.{Step}
use Rattle.nvm_model.specs.Medium.{MediumState}
use Rattle.guest_ram.specs.Window.{WindowState}
use Rattle.nvm_blocks.specs.Namespace.{NamespaceState, media_of}
use Rattle.ctl_state.specs.declared.phase.Phase.TheVariants.{Running}
use Rattle.ctl_state.specs.Controller.{ControllerState, PairState, pair_of}
use Rattle.nvm_model.specs.Run.{Here, IsTurn, TurnDone, turn_lines}
use Rattle.nvm_model.specs.Told.{serial}
use Rattle.session.specs.declared.lane_run.LaneRun.{LaneRun}
use Rattle.session.specs.declared.order.Order.{Order}
use Rattle.session.specs.Lanes.{HasDrawn, HaveWindows, IsRunOf, Stands, window_of}
use Rattle.session.specs.Shelves.{IsNamespaceOf}

-- A place is one side of a run: its media in shelves, its guests' memory, and its controller.
pub record PlaceState (M : Type 0) : Type 0 where
  pub namespace : NamespaceState M
  pub windows : List WindowState
  pub controller : ControllerState

-- what goes where the guests go, and the place on which it stands
pub record Machine (M : Type 0) : Type 0 where
  pub runs : List LaneRun
  pub order : Order
  pub place : PlaceState M

abbrev pub machine : {M : Type 0} → List LaneRun → Order → PlaceState M → Machine M
machine runs order place = record { runs = runs; order = order; place = place }

-- no command of any pair is under way
abbrev pub AreQuiet : List PairState → Type 0
AreQuiet pairs = All (λ (p : PairState). p.commands ≡ []) pairs

-- a place that was opened for a script
pub record IsPlaceOf {M : Type 0} (s : Script) (place : PlaceState M) : Type 0 where
  pub namespace : IsNamespaceOf s.head place.namespace
  pub windows : HaveWindows s place.windows
  pub pairs : length place.controller.pairs ≡ s.head.lanes
  pub burst : place.controller.burst ≡ s.head.burst

-- and at which a controller can go on: it waits for a state, and no command is under way
pub record IsWaiting {M : Type 0} (s : Script) (place : PlaceState M) : Type 0 where
  pub at : IsPlaceOf s place
  pub waiting : place.controller.phase ≢ Running
  pub quiet : AreQuiet place.controller.pairs
  pub fed : place.controller.fed.lanes ≡ length place.controller.pairs

-- the runs of its lanes
pub record AreRunsOf (s : Script) (runs : List LaneRun) : Type 0 where
  pub count : length runs ≡ s.head.lanes
  pub each : (k : ℕ) (d : LaneRun) → 1 ≤ k → k ≤ s.head.lanes → IsRunOf s k (slice_index_or runs (k - 1) d)

-- no piece of the turn was done
abbrev pub AreUndone : List LaneRun → Type 0
AreUndone runs = All (λ (r : LaneRun). r.results.items ≡ []) runs

-- runs, controller and windows stand for these lanes of the model
pub record StandsFor (s : Script) (runs : List LaneRun) (controller : ControllerState) (windows : List WindowState) (lanes : List Lane) : Type 0 where
  pub count : length lanes ≡ s.head.lanes
  pub each : (k : ℕ) (d : LaneRun) (e : Lane) → 1 ≤ k → k ≤ s.head.lanes
      → Stands s k (slice_index_or runs (k - 1) d) (pair_of controller k) (window_of windows k) (slice_index_or lanes (k - 1) e)

-- a machine stands for lanes over its media, where so many pieces were done and no block is to be copied
pub record StandsOn {M : Type 0} (s : Script) (m : Machine M) (h : Here M) : Type 0 where
  pub lanes : StandsFor s m.runs m.place.controller m.place.windows h.lanes
  pub media : h.media ≡ media_of m.place.namespace
  pub words : HasDrawn h.drawn m.order
  pub due : h.due ≡ []

-- a machine between two turns, whose controller runs
pub record IsReady {M : Type 0} (s : Script) (m : Machine M) : Type 0 where
  pub script : IsScript s
  pub runs : AreRunsOf s m.runs
  pub place : IsPlaceOf s m.place
  pub running : m.place.controller.phase ≡ Running
  pub mix : m.order.mix ≡ s.head.mix
  pub quiet : AreQuiet m.place.controller.pairs
  pub undone : AreUndone m.runs
  pub stood : Here M
  pub stands : StandsOn s m stood

-- What is left of the runs of lanes from k on: a turn lowers it.
abbrev pub run_work : LaneRun → PairState → ℕ
run_work run pair =
    4 * (length run.script.acts.items - run.acts_done) + 2 * places_between pair.sq.size pair.sq.head pair.sq.tail + length pair.commands + run.guest.waiting

abbrev pub total_work : ℕ → List LaneRun → ControllerState → ℕ
total_work k [] controller = 0
total_work k (run ∷ runs) controller = run_work run (pair_of controller k) + total_work (k + 1) runs controller

-- A turn was done, whose events are these. It has some, and left the media of the other side.
pub record DoesTurn {M I : Type 0} (state : M → MediumState I) (moves : I → Step → Bool → I → Type 0) (s : Script) (old : Here M) (events : List Line) (m : Machine M) : Type 0 where
  pub done : TurnDone
  pub new : Here M
  pub turn : IsTurn state moves (serial s) [] old done new
  pub some : turn_lines done ≡ [] → ⊥
  pub beside : new.other ≡ old.other
  pub stands : StandsOn s m new
  pub events_are : events ≡ turn_lines done
