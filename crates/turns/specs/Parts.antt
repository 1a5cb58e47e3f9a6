use Rattle.std.specs.Prelude.{◌≡◌, ◌⊎◌, ℕ, ◌+◌, ◌<◌, Bool, true, false, List, ◌++◌, drop, length, take}
use Rattle.nvm_model.specs.declared.line.Line.{Line}
use Rattle.nvm_model.specs.declared.script.Script.{Script}
use Rattle.nvm_model.specs.Turn.{AreOf, InLanes, IsIdle, LaneEvents, NoneLegal}
use Rattle.nvm_model.specs.Turn.Kind.{Act, Reap}
use Rattle.nvm_model.specs.World.{Lane}

-- The parts of a turn, as far as they were done.

-- events lead from x to another, for which the state then stands
pub record Leads {X : Type 0} (Part : X → List Line → X → Type 0) (Stood : X → Type 0) (x : X) (events new_events : List Line) : Type 0 where
  pub new : X
  pub added : List Line
  pub part : Part x added new
  pub stands : Stood new
  pub events_are : new_events ≡ events ++ added

-- completions of a lane were reaped; where none is left, all were
pub record ReapsSome (left : Bool) (s : Script) (k : ℕ) (lane : Lane) (events : List Line) (new : Lane) : Type 0 where
  pub are : AreOf Reap k events
  pub steps : LaneEvents s lane events new
  pub after : new ≡ record lane { reaped = lane.reaped + length events }
  pub all : left ≡ false → new.reaped ≡ length new.posted

-- acts go on behind the last one that was done, or they stop behind an `idle` or where none is legal
abbrev pub Stops : Bool → Script → ℕ → Lane → Lane → Type 0
Stops true s k lane new = lane.acts < new.acts → IsIdle s k new.acts → ⊥
Stops false s k lane new = ((lane.acts < new.acts) × IsIdle s k new.acts) ⊎ NoneLegal s Act k new

-- acts of a lane were done; where they go on, the last one wasn't `idle`
pub record ActsSome (on : Bool) (s : Script) (k : ℕ) (lane : Lane) (events : List Line) (new : Lane) : Type 0 where
  pub are : AreOf Act k events
  pub steps : LaneEvents s lane events new
  pub forward : new.acts ≡ lane.acts + length events
  pub none_behind : (n : ℕ) → lane.acts < n → n < new.acts → IsIdle s k n → ⊥
  pub stops : Stops on s k lane new

-- the first n lanes did their part
pub record SoFar (Part : ℕ → Lane → List Line → Lane → Type 0) (n : ℕ) (lanes : List Lane) (events : List Line) (new : List Lane) : Type 0 where
  pub parts : InLanes Part 1 (take n lanes) events (take n new)
  pub others : drop n new ≡ drop n lanes
