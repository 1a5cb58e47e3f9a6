use Rattle.std.specs.Prelude.{◌≡◌, List, [], ◌∷◌}

-- One step after another, each with its label. The labels of two chains are joined by ++.
abbrev pub Chain : {S A : Type 0} → (S → A → S → Type 0) → S → List A → S → Type 0
Chain {S} R x [] y = y ≡ x
Chain {S} R x (a ∷ labels) y = (z : S) × R x a z × Chain R z labels y
