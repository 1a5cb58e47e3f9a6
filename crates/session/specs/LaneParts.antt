use Rattle.std.specs.Prelude.{◌≡◌, ℕ, ◌+◌, ◌≤◌, Bool, true, false, [], Vec, length, vec_capacity, vec_len}
use Rattle.std.specs.declared.alloc.Global.{Global}
use Rattle.nvm_model.specs.declared.line.Line.{Line}
use Rattle.nvm_model.specs.declared.script.Act.{Act}
use Rattle.nvm_model.specs.declared.script.LaneSet.{LaneSet}
use Rattle.nvm_model.specs.declared.script.Script.{Script}
use Rattle.nvm_model.specs.Event.{MayDo}
use Rattle.nvm_model.specs.ScriptText.{IsHead}
use Rattle.nvm_model.specs.World.{Lane, set_of}
use Rattle.nvm_ring.specs.Queues.{HasEnds}
use Rattle.guest_ram.specs.Window.{WindowState}
use Rattle.ctl_state.specs.declared.phase.Phase.TheVariants.{Running}
use Rattle.ctl_state.specs.Controller.{ControllerState, PairState, pair_of}
use Rattle.controller.specs.Pair.{IsSameButPair}
use Rattle.lanes.specs.Guest.{GuestState, lane_after}
use Rattle.lanes.specs.Guest.{Stands as GuestStands}
use Rattle.session.specs.declared.lane_run.LaneRun.{LaneRun}
use Rattle.session.specs.Lanes.{IsRunOf, IsWindowOf}

-- Events.

-- at most so many more, in the room that was there
pub record HasMore (most : ℕ) (old new : Vec Line Global) : Type 0 where
  pub fewer : vec_len old ≤ vec_len new
  pub few : vec_len new ≤ vec_len old + most
  pub capacity : vec_capacity new ≡ vec_capacity old

-- at most one more, and one where it is said so
pub record HasOne (one : Bool) (old new : Vec Line Global) : Type 0 where
  pub more : HasMore 1 old new
  pub exact : one ≡ true → vec_len new ≡ vec_len old + 1

-- The parts of one lane's turn.

-- a lane's run, the controller, and the lane's window
pub record Seat : Type 0 where
  pub run : LaneRun
  pub controller : ControllerState
  pub window : WindowState

abbrev pub seat_of : LaneRun → ControllerState → WindowState → Seat
seat_of run controller window = record { run = run; controller = controller; window = window }

-- they are those of lane k of a script
pub record IsSeat (s : Script) (k : ℕ) (x : Seat) : Type 0 where
  pub run : IsRunOf s k x.run
  pub window : IsWindowOf s k x.window
  pub there : k ≤ length x.controller.pairs

-- no command of the lane is under way
pub record IsFree (s : Script) (k : ℕ) (x : Seat) : Type 0 where
  pub seat : IsSeat s k x
  pub commands : (pair_of x.controller k).commands ≡ []
  pub results : x.run.results.items ≡ []

-- and the script's controller runs
pub record MayFetch (s : Script) (k : ℕ) (x : Seat) : Type 0 where
  pub head : IsHead s.head
  pub high : k ≤ s.head.lanes
  pub free : IsFree s k x
  pub phase : x.controller.phase ≡ Running
  pub burst : x.controller.burst ≡ s.head.burst

-- what steps of the guest of lane k leave
pub record IsGuestStep (s : Script) (k : ℕ) (x y : Seat) : Type 0 where
  pub seat : IsSeat s k y
  pub script : y.run.script ≡ x.run.script
  pub results : y.run.results ≡ x.run.results
  pub pairs : IsSameButPair k x.controller y.controller
  pub commands : (pair_of y.controller k).commands ≡ (pair_of x.controller k).commands

-- a guest with its window and the controller's two ends stand for a lane
pub record BothStand (set : LaneSet) (guest : GuestState) (pair : PairState) (window : WindowState) (lane : Lane) : Type 0 where
  pub guest_stands : GuestStands set guest window lane
  pub ends : HasEnds set pair.sq pair.cq lane

abbrev pub StandBoth : Script → ℕ → Seat → Lane → Type 0
StandBoth s k x lane = BothStand (set_of s.head k) x.run.guest (pair_of x.controller k) x.window lane

-- before its fetches a seat stands for a lane of which no command is under way
pub record StandsFree (s : Script) (k : ℕ) (x : Seat) (lane : Lane) : Type 0 where
  pub both : StandBoth s k x lane
  pub acts : lane.acts ≡ x.run.acts_done
  pub none : lane.running ≡ []

-- what came of an act: it was done, or it can't be done yet
abbrev pub DidAct : Bool → Script → ℕ → Act → Lane → Seat → Type 0
DidAct true s k act lane x = MayDo (set_of s.head k) act lane × StandBoth s k x (lane_after k act lane)
DidAct false s k act lane x = (MayDo (set_of s.head k) act lane → ⊥) × StandBoth s k x lane
