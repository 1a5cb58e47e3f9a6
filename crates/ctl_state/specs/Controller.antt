use Rattle.std.specs.Prelude.{◌≡◌, ◌-◌, ℕ, Bool, true, List, [], Option, None, slice_index_or}
use Rattle.std.specs.Bool.{MatchBool}
use Rattle.nvm_values.specs.Status.{StatusPair}
use Rattle.nvm_model.specs.declared.command.Command.{Command}
use Rattle.nvm_model.specs.declared.ring.RingState.{RingState}
use Rattle.nvm_model.specs.Ring.{CqState}
use Rattle.data_queue.specs.declared.change.Change.{Change}
use Rattle.data_queue.specs.Log.{QueueState, Takes}
use Rattle.ctl_state.specs.declared.phase.Phase.{Phase}
use Rattle.ctl_state.specs.Parts.{PartsState}

-- What contracts see of a controller.

-- The controller's part of a queue pair: its ends of the two rings, the commands that were fetched in this turn as they
-- were then, what the last fetches and posts tell, and for how many commands of a turn it has room.
pub record PairState : Type 0 where
  pub sq : RingState
  pub cq : CqState
  pub commands : List Command
  pub fetched : List (ℕ × StatusPair × ℕ)
  pub posted : List (ℕ × StatusPair)
  pub room : ℕ

-- A controller: its queue pairs, that of lane 1 first, the most fetches of a lane in a turn, the queue in which it tells
-- changes of user data and whether it tells them, and what it was fed of a state.
pub record ControllerState : Type 0 where
  pub pairs : List PairState
  pub burst : ℕ
  pub phase : Phase
  pub queue : QueueState
  pub logging : Bool
  pub fed : PartsState

-- what a look-up past the last pair gives
abbrev pub no_pair : PairState
no_pair = record {
  sq = record { size = 0; head = 0; tail = 0 };
  cq = record { ring = record { size = 0; head = 0; tail = 0 }; phase = true };
  commands = [];
  fetched = [];
  posted = [];
  room = 0;
}

abbrev pub pair_of : ControllerState → ℕ → PairState
pair_of c k = slice_index_or c.pairs (k - 1) no_pair

-- The oldest change that isn't taken was taken from its queue, or none was: there is none, or the queue isn't live.
pub record TakesChange (old : ControllerState) (answer : Option Change) (new : ControllerState) : Type 0 where
  pub taken : MatchBool old.queue.live (Takes answer old.queue new.queue) ((answer ≡ None) × (new.queue ≡ old.queue))
  pub others : new ≡ record old { queue = new.queue }
