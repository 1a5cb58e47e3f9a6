use Rattle.std.specs.Prelude.{Bool, true, false}

-- an event was found to be legal, and done; or there is no such step
abbrev pub Decides : {L : Type 0} → Bool → (L → Type 0) → L → Type 0
Decides true Step new = Step new
Decides {L} false Step new = (other : L) → Step other → ⊥
