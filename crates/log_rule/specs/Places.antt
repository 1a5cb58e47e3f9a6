-- Positions of the log count from 0 on and never wrap. Position p is due to the cell p modulo the number of cells.
use Rattle.std.specs.Prelude.{ℕ, zero, suc, ◌+◌, ◌-◌, ◌==◌, Bool, cond, List, [], ◌∷◌, ◌++◌, nat_le}
use Rattle.log_rule.specs.declared.view.Entry.{Entry}

-- What became of a position: not drawn, drawn by a seat that has to fill it, given up, or filled by a seat with a word.
pub data Place : Type 0 where
  Free : Place
  Pending : ℕ → Place
  GivenUp : Place
  Published : ℕ → ℕ → Place

abbrev pub IsPublished : Place → Type 0
IsPublished Free = ⊥
IsPublished (Pending j) = ⊥
IsPublished GivenUp = ⊥
IsPublished (Published j w) = Unit {0}

-- the word of a position, or another where there is none
abbrev pub word_or : Place → ℕ → ℕ
word_or Free d = d
word_or (Pending j) d = d
word_or GivenUp d = d
word_or (Published j w) d = w

-- the words of so many positions, from the first on
abbrev pub words_from : (ℕ → Place) → ℕ → ℕ → List ℕ
words_from places a zero = []
words_from places a (suc k) = words_from places a k ++ word_or (places (a + k)) 0 ∷ []

abbrev pub entry : ℕ → ℕ → Entry
entry p w = record { at = p; word = w }

-- the entry of a position, where the seat j filled it
abbrev pub entry_by : ℕ → ℕ → Place → List Entry
entry_by j p Free = []
entry_by j p (Pending i) = []
entry_by j p GivenUp = []
entry_by j p (Published i w) = cond (i == j) (entry p w ∷ []) []

-- what the seat j posted at so many positions, from the first on, in their order
abbrev pub posted_by : (ℕ → Place) → ℕ → ℕ → ℕ → List Entry
posted_by places j a zero = []
posted_by places j a (suc k) = posted_by places j a k ++ entry_by j (a + k) (places (a + k))

-- the phase tag of a cell's word, which is its bit 63
abbrev pub tag : ℕ → Bool
tag w = nat_le 9223372036854775808 w

-- What a cell has while its next position is p: the word of p, or that of the position due there before.
abbrev pub content : ℕ → (ℕ → Place) → ℕ → ℕ
content n places p = word_or (places p) (word_or (places (p - n)) 0)
