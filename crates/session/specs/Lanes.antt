use Rattle.std.specs.Prelude.{◌≡◌, ◌⊎◌, ℕ, ◌+◌, ◌-◌, ◌*◌, ◌≤◌, List, [], All, length, true, slice_index_or, vec_capacity}
use Rattle.nvm_model.specs.declared.script.Script.{Script}
use Rattle.nvm_ring.specs.Queues.{HasEnds, HasGuestEnds, HasWindow, IsOrdered}
use Rattle.nvm_model.specs.ScriptText.{IsSet, IsAct}
use Rattle.nvm_model.specs.Turn.{word_state}
use Rattle.nvm_model.specs.World.{Lane, set_of, acts_of}
use Rattle.guest_ram.specs.Window.{WindowState, no_window}
use Rattle.hall.specs.Plan.{PlanState}
use Rattle.ctl_state.specs.Controller.{ControllerState, PairState, pair_of}
use Rattle.controller.specs.Pair.{outcomes_of, worked, IsPlanned}
use Rattle.session.specs.declared.lane_run.LaneRun.{LaneRun}
use Rattle.session.specs.declared.lane_script.LaneScript.{LaneScript}
use Rattle.session.specs.declared.order.Order.{Order}

-- What a run has for its lanes, and when it stands for lanes of the model.

-- what a script says of a lane
pub record IsLaneOf (s : Script) (ls : LaneScript) : Type 0 where
  pub lane : (1 ≤ ls.lane) × (ls.lane ≤ 8)
  pub set_is : ls.set ≡ set_of s.head ls.lane
  pub acts_are : ls.acts.items ≡ acts_of ls.lane s.acts
  pub set_fits : IsSet ls.set
  pub acts_fit : All (IsAct ls.set.pages) ls.acts.items
  pub few : length ls.acts.items ≤ 65536

-- the run of lane k: what the script says of it, its guest, and room for the results of a turn
pub record IsRunOf (s : Script) (k : ℕ) (run : LaneRun) : Type 0 where
  pub script : IsLaneOf s run.script
  pub lane : run.script.lane ≡ k
  pub guest : run.guest.lane ≡ k
  pub few : run.acts_done ≤ length run.script.acts.items
  pub room : 64 * s.head.burst ≤ vec_capacity run.results

-- its guest has done its acts, and no command of its is under way
abbrev pub IsComplete : LaneRun → Type 0
IsComplete run = (run.acts_done ≡ length run.script.acts.items) × (run.guest.waiting ≡ 0)

-- a host's window of lane k
abbrev pub window_of : List WindowState → ℕ → WindowState
window_of windows k = slice_index_or windows (k - 1) no_window

-- the window of a lane with this script
pub record IsWindowOf (s : Script) (k : ℕ) (window : WindowState) : Type 0 where
  pub lane : window.lane ≡ k
  pub size : length window.pages ≡ (set_of s.head k).pages + 2

-- a host's guest memory is one window for each lane
pub record HaveWindows (s : Script) (windows : List WindowState) : Type 0 where
  pub count : length windows ≡ s.head.lanes
  pub each : (k : ℕ) → 1 ≤ k → k ≤ s.head.lanes → IsWindowOf s k (window_of windows k)

-- a lane's run at its start
pub record IsNewRun (s : Script) (run : LaneRun) : Type 0 where
  pub acts : run.acts_done ≡ 0
  pub results : run.results.items ≡ []
  pub guest : run.guest ≡ record { lane = run.script.lane; sq = record { size = (set_of s.head run.script.lane).sq; head = 0; tail = 0 }; cq = record { size = (set_of s.head run.script.lane).cq; head = 0; phase = true }; waiting = 0 }

abbrev pub ArePlanned : Script → PlanState → ControllerState → Type 0
ArePlanned s plan controller = (k : ℕ) → 1 ≤ k → k ≤ s.head.lanes → IsPlanned s k plan (pair_of controller k)

-- Standing for the model.

-- a lane's run, its part of the controller and its window stand for a lane of the model
pub record Stands (s : Script) (k : ℕ) (run : LaneRun) (pair : PairState) (window : WindowState) (lane : Lane) : Type 0 where
  pub number : window.lane ≡ k
  pub guest : run.guest.lane ≡ k
  pub window_is : HasWindow k (set_of s.head k) window.pages lane
  pub ordered : IsOrdered (set_of s.head k) lane
  pub guest_ends : HasGuestEnds (set_of s.head k) run.guest.sq run.guest.cq run.guest.waiting lane
  pub ends : HasEnds (set_of s.head k) pair.sq pair.cq lane
  pub acts : lane.acts ≡ run.acts_done
  pub running : lane.running ≡ worked s.head.shelf pair.commands (outcomes_of run.results.items)

-- the stream of the order's words stands where n were drawn
abbrev pub HasDrawn : ℕ → Order → Type 0
HasDrawn n order = (order.mix ≡ 0) ⊎ (order.words ≡ word_state order.mix n)
