use Rattle.std.specs.Prelude.{◌≡◌, ℕ, ◌==◌, Bool, false, List, Option, Some, None, length}
use Rattle.nvm_model.specs.declared.trace.Step.{Step}
use Rattle.nvm_model.specs.declared.trace.Step.TheVariants.{Get, Put, Mark}
use Rattle.nvm_model.specs.Medium.{MediumState}

-- A namespace whose calls of one block fail, and no others.
pub record ReplayState : Type 0 where
  pub blocks : List (List ℕ)
  pub failing : Option ℕ
  pub faults : ℕ

abbrev pub is_failing : Option ℕ → ℕ → Bool
is_failing None b = false
is_failing (Some f) b = f == b

abbrev pub fails : Option ℕ → Step → Bool
fails failing (Get b) = is_failing failing b
fails failing (Put b) = is_failing failing b
fails failing (Mark n) = false

pub record Replays (old : Option ℕ) (step : Step) (failed : Bool) (new : Option ℕ) : Type 0 where
  pub same : new ≡ old
  pub exact : failed ≡ fails old step

-- it tells its blocks, and no trace
abbrev pub state_of : ReplayState → MediumState (Option ℕ)
state_of r = record { blocks = Some r.blocks; trace = None; faults = r.faults; size = length r.blocks; inside = r.failing }
