use Rattle.std.specs.Prelude.{ℕ, zero, suc, ◌+◌, ◌*◌, List, [], ◌∷◌, ◌++◌, None}
use Rattle.mig_medium.specs.Memory.{no_moves}
use Rattle.nvm_model.specs.Medium.{IsCall, MediumState}
use Rattle.nvm_model.specs.declared.trace.Call.{Call}

-- A part of a file as a medium: the file's block that is its block 0, its number of blocks, and how many calls failed.
pub record Part : Type 0 where
  pub first : ℕ
  pub size : ℕ
  pub faults : ℕ

-- what it is as a medium: it tells no blocks and no trace, and has no meaning of its own
abbrev pub state_of : Part → MediumState (Unit {0})
state_of p = record { blocks = None; trace = None; faults = p.faults; size = p.size; inside = tt }

abbrev pub IsPartCall : Part → Call → Part → Type 0
IsPartCall old c new = IsCall no_moves (state_of old) c (state_of new)

-- the byte of the file at which a block of a part begins
abbrev pub place_of : ℕ → ℕ → ℕ
place_of first b = (first + b) * 512

-- the first parts of a file, so many, in their order: each of that size and behind the one before, and none has failed
abbrev pub parts : ℕ → ℕ → List Part
parts size zero = []
parts size (suc n) = parts size n ++ (record { first = n * size; size = size; faults = 0 }) ∷ []
