use Rattle.std.specs.Prelude.{◌≡◌, ℕ, ◌-◌, ◌<◌, Bool, List, [], length, map, slice_index_or}
use Rattle.nvm_model.specs.declared.trace.Step.{Step}
use Rattle.nvm_model.specs.Medium.{MediumState, marks_at}
use Rattle.nvm_blocks.specs.ShelfState.{ShelfState}
use Rattle.nvm_blocks.specs.Namespace.{HasCalled, IsNamespace, IsShelf}

-- The shelves as a list.

-- new shelves, the last of so many first
abbrev pub AreNew : {M I : Type 0} → (M → MediumState I) → ℕ → ℕ → ℕ → List (ShelfState M) → Type 0
AreNew {M} state shelf room count shelves = (j : ℕ) (d : ShelfState M) → j < length shelves →
    IsShelf state shelf (count - 1 - j) (slice_index_or shelves j d) × ((slice_index_or shelves j d).entries ≡ []) × ((slice_index_or shelves j d).room ≡ room)

-- the media of so many shelves in front were marked; they stay those of a namespace
pub record AreMarked {M I : Type 0} (state : M → MediumState I) (moves : I → Step → Bool → I → Type 0) (shelf n count : ℕ) (old new : List (ShelfState M)) : Type 0 where
  pub namespace : IsNamespace state shelf new
  pub count_is : length new ≡ length old
  pub called : HasCalled state moves (record { shelves = old; shelf = shelf }) (marks_at count n) (record { shelves = new; shelf = shelf })
  pub entries : map (λ (s : ShelfState M). s.entries) new ≡ map (λ (s : ShelfState M). s.entries) old

-- the same shelf with no entries
abbrev pub cleared : {M : Type 0} → ShelfState M → ShelfState M
cleared s = record s { entries = [] }
