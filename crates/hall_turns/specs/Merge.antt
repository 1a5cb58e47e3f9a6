use Rattle.std.specs.Prelude.{◌≡◌, ℕ, ◌<◌, ◌==◌, cond, List, [], ◌∷◌, length, slice_index_or, slice_set}
use Rattle.std.specs.List.{AllByRecursion}
use Rattle.nvm_model.specs.Chain.{Chain}

-- Several things in their order, each of which goes its own way by the labels that have its number as their key.

-- the labels with this key, in their order
abbrev pub at_key : {A : Type 0} → (A → ℕ) → ℕ → List A → List A
at_key key i [] = []
at_key key i (a ∷ labels) = cond (key a == i) (a ∷ at_key key i labels) (at_key key i labels)

-- the thing with the label's key makes a step, and the others stay
pub record AtKey {S A : Type 0} (R : S → A → S → Type 0) (key : A → ℕ) (xs : List S) (a : A) (ys : List S) : Type 0 where
  pub there : key a < length xs
  pub does : (d : S) → R (slice_index_or xs (key a) d) a (slice_index_or ys (key a) d)
  pub others : (d : S) → ys ≡ slice_set xs (key a) (slice_index_or ys (key a) d)

-- each thing goes on by the labels with its key
pub record Each {S A : Type 0} (R : S → A → S → Type 0) (key : A → ℕ) (xs : List S) (labels : List A) (ys : List S) : Type 0 where
  pub count : length ys ≡ length xs
  pub there : AllByRecursion (λ (a : A). key a < length xs) labels
  pub each : (i : ℕ) (d : S) → i < length xs → Chain R (slice_index_or xs i d) (at_key key i labels) (slice_index_or ys i d)
