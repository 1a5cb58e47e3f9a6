-- A shelf's word: the holder in the lowest four bits, and eight counts of seven bits above.
use Rattle.std.specs.Prelude.{ℕ, zero, suc, ◌+◌, ◌<◌, ◌*◌, List, [], ◌∷◌, length}
use Rattle.hall_rule.specs.Items.{in_shelf}
use Rattle.hall_rule.specs.declared.item.Item.{Item}

abbrev pub pack : List ℕ → ℕ
pack [] = 0
pack (c ∷ cs) = c + 128 * pack cs

-- the weight of the place k
abbrev pub weight : ℕ → ℕ
weight zero = 1
weight (suc k) = 128 * weight k

abbrev pub word_for : ℕ → List ℕ → ℕ
word_for holder cs = holder + 16 * pack cs

-- how many pieces of each lane were done on the shelf i
abbrev pub count : ℕ → (ℕ → List Item) → ℕ → ℕ
count i lanes h = length (in_shelf i (lanes h))

abbrev pub counts : ℕ → (ℕ → List Item) → List ℕ
counts i lanes = count i lanes 1 ∷ count i lanes 2 ∷ count i lanes 3 ∷ count i lanes 4 ∷ count i lanes 5 ∷ count i lanes 6 ∷ count i lanes 7 ∷ count i lanes 8 ∷ []

-- each has its place of seven bits
abbrev pub Small : List ℕ → Type 0
Small [] = Unit {0}
Small (c ∷ cs) = (c < 128) × Small cs
