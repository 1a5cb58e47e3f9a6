use Rattle.std.specs.Prelude.{◌≡◌, ◌⊎◌, ℕ, ◌+◌, ◌^◌, ◌<◌, ◌≤◌, All, Bool, true, false, List, Option, Some, None}
use Rattle.nvm_model.specs.declared.script.Head.{Head}
use Rattle.nvm_model.specs.declared.script.Script.{Script}
use Rattle.nvm_model.specs.declared.trace.Step.{Step}
use Rattle.nvm_model.specs.Medium.{MediumState}
use Rattle.nvm_blocks.specs.Namespace.{media_of}
use Rattle.nvm_model.specs.declared.run.RunPhase.{RunPhase}
use Rattle.nvm_model.specs.declared.run.RunPhase.TheVariants.{New, Running, Moving, Suspended, Stopped, Over}
use Rattle.nvm_model.specs.declared.run.Side.{Side}
use Rattle.nvm_model.specs.declared.run.Side.TheVariants.{Source, Destination}
use Rattle.nvm_model.specs.Run.{SinkState, Snapshot, Went, here, memory_of}
use Rattle.nvm_model.specs.Owed.{Owed}
use Rattle.guest_ram.specs.Ram.{all_pages}
use Rattle.session.specs.declared.ending.Ending.{Ending}
use Rattle.session.specs.declared.ending.Ending.TheVariants.{Done, GaveUp}
use Rattle.session.specs.declared.lane_run.LaneRun.{LaneRun}
use Rattle.session.specs.declared.order.Order.{Order}
use Rattle.session.specs.declared.session.Next.{Next}
use Rattle.session.specs.declared.session.Next.TheVariants.{Turn, Move, End}
use Rattle.nvm_model.specs.Turn.{word_state}
use Rattle.session.specs.Lanes.{IsComplete, IsNewRun}
use Rattle.nvm_model.specs.Told.{serial}
use Rattle.nvm_model.specs.World.{window_pages}
use Rattle.manager.specs.declared.manager.MovePhase.TheVariants.{New as Unbegun, Begun}
use Rattle.manager.specs.declared.manager.MoveSet.{MoveSet}
use Rattle.manager.specs.Move.{ManagerState, with_all}
use Rattle.session.specs.Moves.{Both, HandsOver, owed_by}
use Rattle.session.specs.Place.{AreRunsOf, IsReady, IsWaiting, Machine, PlaceState, StandsOn, total_work}
use Rattle.session.specs.Served.{Served}

-- What goes where the guests go: the script, the runs of its lanes, the order of pieces, how many turns were done, whether
-- the migration was begun, and where the run is. A manager does the migration.
pub record SessionState : Type 0 where
  pub script : Script
  pub runs : List LaneRun
  pub order : Order
  pub turns : ℕ
  pub tried : Bool
  pub phase : RunPhase
  pub side : Side
  pub manager : ManagerState

-- a session, the place on which it stands, the other one, and the sink
pub record Sides (M : Type 0) : Type 0 where
  pub session : SessionState
  pub at : PlaceState M
  pub other : PlaceState M
  pub out : SinkState

abbrev pub sides : {M : Type 0} → SessionState → PlaceState M → PlaceState M → SinkState → Sides M
sides session at other out = record { session = session; at = at; other = other; out = out }

abbrev pub sink : Option (List ℕ) → ℕ → SinkState
sink taken faults = record { taken = taken; faults = faults }

-- a session with a place as the machine that does turns
abbrev pub machine_of : {M : Type 0} → SessionState → PlaceState M → Machine M
machine_of session place = record { runs = session.runs; order = session.order; place = place }

-- while a migration is under way, the run owes what the manager does
abbrev pub Owes : RunPhase → ManagerState → Owed → Type 0
Owes New m owed = Unit {0}
Owes Running m owed = Unit {0}
Owes Moving m owed = owed ≡ owed_by m
Owes Suspended m owed = owed ≡ owed_by m
Owes Stopped m owed = Unit {0}
Owes Over m owed = Unit {0}

-- they stand for a run between two of its stages
pub record StandsAs {M : Type 0} (m : Sides M) (t : Snapshot M) : Type 0 where
  pub task : t.task ≡ serial m.session.script
  pub phase : t.phase ≡ m.session.phase
  pub side : t.side ≡ m.session.side
  pub tried : t.tried ≡ m.session.tried
  pub turns : t.turns ≡ m.session.turns
  pub owes : Owes m.session.phase m.session.manager t.owed
  pub lanes : StandsOn m.session.script (machine_of m.session m.at) (here t)
  pub memory : memory_of t.task.script t.lanes ≡ all_pages m.at.windows
  pub other : t.other ≡ media_of m.other.namespace
  pub left : t.left ≡ all_pages m.other.windows
  pub out : t.out ≡ m.out

-- from a run between two stages it went on by stages
pub record GoesTo {M I : Type 0} (state : M → MediumState I) (moves : I → Step → Bool → I → Type 0) (t : Snapshot M) (failed : Bool) (new : Sides M) : Type 0 where
  pub end : Snapshot M
  pub went : Went state moves t failed end
  pub stands : StandsAs new end

-- whatever run they stood for, it went on by stages
abbrev pub Goes : {M I : Type 0} → (M → MediumState I) → (I → Step → Bool → I → Type 0) → Sides M → Bool → Sides M → Type 0
Goes {M} state moves old failed new = (t : Snapshot M) → StandsAs old t → GoesTo state moves t failed new

-- A migration that a script asks for, before the turn with some number, and that wasn't begun is due where that turn is next,
-- or where all is done.
pub record IsDueNow (tried : Bool) (asked : Option ℕ) (turns : ℕ) (done : Type 0) : Type 0 where
  pub untried : tried ≡ false
  pub turn : ℕ
  pub asked_is : asked ≡ Some turn
  pub when : (turns + 1 ≡ turn) ⊎ done

abbrev pub IsMoveDue : SessionState → Type 0
IsMoveDue s = IsDueNow s.tried s.script.head.migrate s.turns (All IsComplete s.runs)

-- what comes next
abbrev pub IsNext : SessionState → Next → Type 0
IsNext s Turn = (All IsComplete s.runs → ⊥) × (IsMoveDue s → ⊥)
IsNext s Move = IsMoveDue s
IsNext s End = All IsComplete s.runs × (IsMoveDue s → ⊥)

-- a session stands on a place and does turns, of which there can't be more than their count can tell
pub record IsRunning {M : Type 0} (s : SessionState) (at : PlaceState M) : Type 0 where
  pub phase : s.phase ≡ Running
  pub ready : IsReady s.script (machine_of s at)
  pub few : s.turns + total_work 1 s.runs at.controller < 2 ^ 32

-- a session went on by turns, and can do more
pub record IsOnward {M I : Type 0} (state : M → MediumState I) (moves : I → Step → Bool → I → Type 0) (old : SessionState) (old_at : PlaceState M) (new : SessionState) (at : PlaceState M) : Type 0 where
  pub script : new.script ≡ old.script
  pub side : new.side ≡ old.side
  pub tried : new.tried ≡ old.tried
  pub manager : new.manager ≡ old.manager
  pub served : Served state moves old_at at
  pub running : IsRunning new at

-- turns stop where a migration is due, or at the end
abbrev pub IsStop : Bool → SessionState → Type 0
IsStop true s = IsMoveDue s
IsStop false s = All IsComplete s.runs × (IsMoveDue s → ⊥)

-- The move and the end.

-- what a script asks of a move
abbrev pub move_set : Head → MoveSet
move_set h = record { blocks = h.blocks; ram_pages = window_pages h; slice = h.slice; small = h.small; pages = h.pages; patience = h.patience; cells = h.change }

-- a manager of that move, which hasn't begun
abbrev pub IsNewManager : Script → ManagerState → Type 0
IsNewManager s m = m ≡ with_all false Unbegun (move_set s.head)

-- all that such a move owes at its start may be copied while the guests are suspended
pub record MovesAtOnce (head : Head) : Type 0 where
  pub blocks : head.blocks ≤ head.small
  pub pages : window_pages head ≤ head.pages

-- a session on the source may move to a place that waits
pub record MayMove {M : Type 0} (s : SessionState) (at to : PlaceState M) : Type 0 where
  pub running : IsRunning s at
  pub due : IsMoveDue s
  pub source : s.side ≡ Source
  pub waits : IsWaiting s.script to
  pub manager : IsNewManager s.script s.manager
  pub at_once : MovesAtOnce s.script.head

-- where the guests go on, and what became of the controllers
abbrev pub IsMoved : {M : Type 0} → Ending → Both M → SessionState → Both M → Type 0
IsMoved Done old s new = (s.side ≡ Destination) × IsRunning s new.to × HandsOver Done old new
IsMoved GaveUp old s new = (s.side ≡ Source) × IsRunning s new.from × HandsOver GaveUp old new

-- the migration that was asked for was begun
pub record HasBegun (old new : SessionState) : Type 0 where
  pub script : new.script ≡ old.script
  pub tried : new.tried ≡ true

-- the guests may be suspended: all is owed, and few enough
pub record MaySuspend (s : SessionState) : Type 0 where
  pub phase : s.phase ≡ Moving
  pub owes : s.manager ≡ with_all true Begun (move_set s.script.head)
  pub at_once : MovesAtOnce s.script.head

-- the sides by the one on which a session stands
abbrev pub at_side : {X : Type 0} → Side → X → X → X
at_side Source source destination = source
at_side Destination source destination = destination

abbrev pub by_side : {M : Type 0} → SessionState → PlaceState M → PlaceState M → SinkState → Sides M
by_side s from to out = at_side s.side (sides s from to out) (sides s to from out)

abbrev pub IsEnding : Option ℕ → Side → Ending → Type 0
IsEnding None side Done = Unit {0}
IsEnding None side GaveUp = ⊥
IsEnding (Some turn) Source GaveUp = Unit {0}
IsEnding (Some turn) Source Done = ⊥
IsEnding (Some turn) Destination Done = Unit {0}
IsEnding (Some turn) Destination GaveUp = ⊥

-- how a run ended: a migration that was asked for was given up where the guests are on the source
pub record HasEnded (ending : Ending) (s : SessionState) : Type 0 where
  pub over : s.phase ≡ Over
  pub ended : IsEnding s.script.head.migrate s.side ending

-- What a session is as it is made.

pub record IsNewSession (s : Script) (session : SessionState) : Type 0 where
  pub script : session.script ≡ s
  pub runs : AreRunsOf s session.runs
  pub new : All (IsNewRun s) session.runs
  pub mix : session.order.mix ≡ s.head.mix
  pub words : session.order.words ≡ word_state s.head.mix 0
  pub turns : session.turns ≡ 0
  pub tried : session.tried ≡ false
  pub phase : session.phase ≡ New
  pub side : session.side ≡ Source
  pub manager : IsNewManager s session.manager
