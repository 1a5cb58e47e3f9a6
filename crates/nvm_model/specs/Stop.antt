use Rattle.std.specs.Prelude.{◌≡◌, ◌⊎◌, ℕ, ◌<◌, List, [], ◌∷◌, ◌++◌, Some, length, slice_get, take}
use Rattle.nvm_model.specs.declared.line.Line.{Line}
use Rattle.nvm_model.specs.Text.{line_text}

-- A run that stopped where the sink failed.

-- a part of the first of these lines, but not the whole of it
abbrev pub IsPart : List ℕ → List Line → Type 0
IsPart part [] = part ≡ []
IsPart part (l ∷ lines) = (n : ℕ) × (n < length (line_text l)) × (part ≡ take n (line_text l))

-- none, or the last events of one turn
abbrev pub EndOneTurn : List Line → List (List Line) → Type 0
EndOneTurn events turns = (events ≡ []) ⊎ ((i : ℕ) × (turn : List Line) × (front : List Line) × (slice_get turns i ≡ Some turn) × (turn ≡ front ++ events))
