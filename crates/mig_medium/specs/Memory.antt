use Rattle.std.specs.Prelude.{ℕ, Bool, true, false, ◌∷◌, [], ◌++◌, List, Option, Some, None, length, nat_lt, replicate, if◌then◌else◌}
use Rattle.nvm_model.specs.declared.trace.Step.{Step}
use Rattle.nvm_model.specs.Medium.{IsCall, MediumState}
use Rattle.nvm_model.specs.declared.trace.Call.{Call}

-- A medium in memory: its blocks, its trace while that has at most `room` steps, the numbers of the gets and of the
-- puts that fail, how many of each were made, and how many failed.
pub record Memory : Type 0 where
  pub blocks : List (List ℕ)
  pub trace : Option (List Step)
  pub room : ℕ
  pub gets : List ℕ
  pub puts : List ℕ
  pub gets_made : ℕ
  pub puts_made : ℕ
  pub faults : ℕ

-- what it is as a medium: it tells all its blocks, and has no meaning of its own
abbrev pub state_of : Memory → MediumState (Unit {0})
state_of m = record { blocks = Some m.blocks; trace = m.trace; faults = m.faults; size = length m.blocks; inside = tt }

abbrev pub no_moves : Unit {0} → Step → Bool → Unit {0} → Type 0
no_moves old step failed new = Unit {0}

abbrev pub IsMemoryCall : Memory → Call → Memory → Type 0
IsMemoryCall old c new = IsCall no_moves (state_of old) c (state_of new)

-- the steps, while they are all
abbrev pub told : Bool → List Step → Option (List Step)
told true steps = Some steps
told false steps = None

-- the trace with one step more, where it has room for that
abbrev pub with_step : ℕ → Step → Option (List Step) → Option (List Step)
with_step room step None = None
with_step room step (Some steps) = if nat_lt (length steps) room then Some (steps ++ step ∷ []) else None

-- that many blocks of 512 zeroes
unfoldable pub zero_blocks : ℕ → List (List ℕ)
zero_blocks count = replicate count (replicate 512 0)
