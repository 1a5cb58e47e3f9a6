use Rattle.std.specs.Prelude.{◌≡◌, ℕ, ◌/◌, List, [], ◌∷◌, ◌++◌, Option, Some, None, if◌then◌else◌, ◌==◌, length, map}
use Rattle.nvm_model.specs.declared.script.Script.{Script}
use Rattle.engine.specs.Built.{IsTaken, Spells}

-- What a host has beside what the script asks of it: the number of shelves, and then each shelf's blocks.

-- a host's sizes beside what is asked: its number of shelves, then the blocks of each
abbrev pub sizes_of : List ℕ → ℕ → ℕ → List (ℕ × ℕ)
sizes_of shelves count shelf = (length shelves, count) ∷ map (λ (size : ℕ). (size, shelf)) shelves

-- the first pair that differs
abbrev pub first_difference : List (ℕ × ℕ) → Option (ℕ × ℕ)
first_difference [] = None
first_difference (pair ∷ pairs) = if pair.0 == pair.1 then first_difference pairs else Some pair

-- the first size of either host that differs from those of the script that the input spelled
abbrev pub Differ : Option (List ℕ) → List ℕ → List ℕ → Option (ℕ × ℕ) → Type 0
Differ told from to first =
    (s : Script) × IsTaken s × Spells told s × (first_difference (sizes_of from (s.head.blocks / s.head.shelf) s.head.shelf ++ sizes_of to (s.head.blocks / s.head.shelf) s.head.shelf) ≡ first)

-- no size of either host differs from the script's
abbrev pub HaveSizes : Script → List ℕ → List ℕ → Type 0
HaveSizes s from to = first_difference (sizes_of from (s.head.blocks / s.head.shelf) s.head.shelf ++ sizes_of to (s.head.blocks / s.head.shelf) s.head.shelf) ≡ None
