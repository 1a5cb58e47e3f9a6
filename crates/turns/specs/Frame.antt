use Rattle.std.specs.Prelude.{◌≡◌, ℕ, ◌+◌, ◌-◌, ◌*◌, ◌%◌, ◌≤◌, List, [], ◌∷◌, length}
use Rattle.nvm_model.specs.declared.line.Line.{Line}
use Rattle.nvm_model.specs.declared.script.Script.{Script}
use Rattle.nvm_model.specs.Event.{head_of_last}
use Rattle.nvm_model.specs.History.{Complete, faults_shown}
use Rattle.nvm_model.specs.ScriptText.{IsSet}
use Rattle.nvm_model.specs.Turn.{InLanes, Plans, PostsAll, Turns, events_in}
use Rattle.nvm_model.specs.World.{Lane, World, set_of, acts_of}

-- Lanes between two turns, and what a turn is but for its pieces.

-- what a script says of lane k
pub record IsServed (s : Script) (k : ℕ) : Type 0 where
  pub set : IsSet (set_of s.head k)

-- a lane between two turns: none of its commands is under way, and its queues are in order
pub record IsAtRest (s : Script) (k : ℕ) (lane : Lane) : Type 0 where
  pub acts : lane.acts ≤ length (acts_of k s.acts)
  pub none : lane.running ≡ []
  pub fetched : lane.fetched ≤ length lane.submitted
  pub posted : length lane.posted ≡ lane.fetched
  pub reaped : lane.reaped ≤ length lane.posted
  -- the last completion tells the head
  pub told : head_of_last lane.posted lane.fetched ≡ lane.fetched % (set_of s.head k).sq

-- each of these lanes, the first with number k
abbrev pub AreServed : Script → ℕ → List Lane → Type 0
AreServed s k [] = Unit {0}
AreServed s k (lane ∷ lanes) = IsServed s k × AreServed s (k + 1) lanes

abbrev pub AreAtRest : Script → ℕ → List Lane → Type 0
AreAtRest s k [] = Unit {0}
AreAtRest s k (lane ∷ lanes) = IsAtRest s k lane × AreAtRest s (k + 1) lanes

-- a number that each event but a piece lowers
abbrev pub work_left : Script → ℕ → Lane → ℕ
work_left s k lane =
    4 * (length (acts_of k s.acts) - lane.acts) + 2 * (length lane.submitted - lane.fetched) + length lane.running + (length lane.submitted - lane.reaped)

abbrev pub total_left : Script → ℕ → List Lane → ℕ
total_left s k [] = 0
total_left s k (lane ∷ lanes) = work_left s k lane + total_left s (k + 1) lanes

-- one lane differs from another in its memory and in its running commands alone, of which there are as many
pub record IsSameQueue (old new : Lane) : Type 0 where
  pub acts : new.acts ≡ old.acts
  pub submitted : new.submitted ≡ old.submitted
  pub fetched : new.fetched ≡ old.fetched
  pub posted : new.posted ≡ old.posted
  pub reaped : new.reaped ≡ old.reaped
  pub running : length new.running ≡ length old.running

abbrev pub AreSameQueues : List Lane → List Lane → Type 0
AreSameQueues [] [] = Unit {0}
AreSameQueues (a ∷ xs) (b ∷ ys) = IsSameQueue a b × AreSameQueues xs ys
AreSameQueues [] (b ∷ ys) = ⊥
AreSameQueues (a ∷ xs) [] = ⊥

-- a turn but for its pieces
pub record Frame (s : Script) (lanes : List Lane) (plan : List Line) (planned worked : List Lane) (posts : List Line) (new : List Lane) : Type 0 where
  pub planning : InLanes (Plans s) 1 lanes plan planned
  pub kept : AreSameQueues planned worked
  pub posting : InLanes (PostsAll s) 1 worked posts new

-- turns that bring the run to its end, with no fault
pub record EndsInTurns (s : Script) (n : ℕ) (w : World) : Type 0 where
  pub turns : List (List Line)
  pub v : World
  pub are : Turns s n w turns v
  pub complete : Complete s v
  pub calm : faults_shown (events_in turns) ≡ 0
