-- The rule of a shared log's table. Word 0 is the tail, word 1 the head, word 2 the mark, and word i + 3 that of the cell i.
use Rattle.std.specs.Prelude.{◌≡◌, ◌≢◌, ◌⊎◌, ℕ, zero, suc, ◌+◌, ◌-◌, ◌*◌, ◌%◌, ◌<◌, ◌≤◌, List, [], ◌∷◌, length, slice_index, slice_index_or}
use mathlib.Core.Option.{some}
use lib.ListN.{get_elem?}
use Rattle.atomic_table.specs.Table.{State}
use Rattle.nvm_model.specs.Event.{phase_of}
use Rattle.log_rule.specs.declared.view.Desk.{Desk}
use Rattle.log_rule.specs.declared.view.Entry.{Entry}
use Rattle.log_rule.specs.declared.view.Lost.{Lost}
use Rattle.log_rule.specs.declared.view.View.{View}
use Rattle.log_rule.specs.Places.{Place, Free, Pending, GivenUp, Published, IsPublished, content, posted_by, tag, word_or, words_from}

abbrev pub total : {A : Type 0} → (A → ℕ) → List A → ℕ
total f [] = 0
total f (x ∷ xs) = f x + total f xs

-- the positions that a seat and those that it may split off may still draw
abbrev pub purse : View → ℕ
purse v = v.budget + 1152921504606846976 * v.seats

abbrev pub losses : View → ℕ
losses v = length v.lost

abbrev pub no_desk : Desk
no_desk = record { out = 1; posted = [] }

-- what the first seat keeps of the seat j, from 1 on
abbrev pub desk_of : View → ℕ → Desk
desk_of v j = slice_index_or v.desks (j - 1) no_desk

-- what the seat j posted, by the first seat's view
abbrev pub posted_of : View → ℕ → List Entry
posted_of v zero = v.posted
posted_of v (suc j) = (desk_of v (suc j)).posted

-- 0 or 1
abbrev pub mark_for : ℕ → ℕ
mark_for zero = 0
mark_for (suc k) = 1

-- a seat tells that it gave the position up
abbrev pub TellsLost : ℕ → List Lost → Type 0
TellsLost p [] = ⊥
TellsLost p (x ∷ xs) = (x.at ≡ p) ⊎ TellsLost p xs

abbrev pub IsTold : List View → ℕ → Type 0
IsTold views p = (j : ℕ) × (v : View) × (get_elem? views j ≡ some v) × TellsLost p v.lost

-- each told position was given up, and the head loaded for it left no cell for it
abbrev pub AreLost : ℕ → (ℕ → Place) → List Lost → Type 0
AreLost n places [] = Unit {0}
AreLost n places (x ∷ xs) = (places x.at ≡ GivenUp) × (x.head + n ≤ x.at) × AreLost n places xs

-- what a seat's view says of the log
pub record Knows (n h t back front : ℕ) (places : ℕ → Place) (desks : List Desk) (j : ℕ) (v : View) : Type 0 where
  pub number : v.live ≡ 1 → v.number ≡ j
  pub cells : v.live ≡ 1 → v.cells ≡ n
  pub from : 0 < v.head → h < v.head
  pub posted : v.live ≡ 1 → v.posted ≡ posted_by places j t (back - t)
  pub out : v.live ≡ 1 → 0 < j → (slice_index_or desks (j - 1) no_desk).out ≡ 1
  pub gone : v.live ≢ 1 → (v.pending ≡ 0) × (v.lost ≡ [])
  pub pending : (p : ℕ) → v.pending ≡ p + 1 → (places p ≡ Pending j) × ((q : ℕ) (w : ℕ) → p < q → places q ≢ Published j w)
  pub head : v.head ≤ front + 1
  pub lost : AreLost n places v.lost

-- what the first seat's view says, which alone takes
pub record Leads (h front : ℕ) (places : ℕ → Place) (desks : List Desk) (f : View) : Type 0 where
  pub live : f.live ≡ 1
  pub desks_are : f.desks ≡ desks
  pub few : length desks + f.seats ≡ 8
  pub head : (k : ℕ) → f.head ≡ k + 1 → k ≡ front
  pub seen : (w : ℕ) → f.seen ≡ w + 1 → (IsPublished (places front)) × (word_or (places front) 0 ≡ w)
  pub taken : f.taken ≡ words_from places h (front - h)

-- n cells, head h and tail t at the start, the cells' words then, and what a word of an entry has to be
module _ (n h t : ℕ) (start : ℕ → ℕ) (good : ℕ → Type 0) where
  -- what became of the positions, and what the words say of them
  pub record Holds (words : List ℕ) (views : List View) (seats : ℕ) (places : ℕ → Place) : Type 0 where
    pub wide : length words ≡ n + 3
    pub head : (h ≤ slice_index words 1) × (slice_index words 1 ≤ slice_index words 0)
    pub tail : t ≤ slice_index words 0
    pub before : (p : ℕ) → p < t → places p ≡ Published 0 (start (p % n))
    pub beyond : (p : ℕ) → slice_index words 0 ≤ p → places p ≡ Free
    pub drawn : (p : ℕ) → t ≤ p → p < slice_index words 0 → places p ≢ Free
    pub below : (p : ℕ) → p < slice_index words 1 → IsPublished (places p)
    pub near : (p j w : ℕ) → places p ≡ Published j w → p < slice_index words 1 + n
    pub cells : (p : ℕ) → slice_index words 1 ≤ p → p < slice_index words 1 + n → slice_index words (p % n + 3) ≡ content n places p
    pub phases : (p j w : ℕ) → places p ≡ Published j w → t ≤ p + n → tag w ≡ phase_of n p
    pub sound : (p j w : ℕ) → places p ≡ Published j w → h ≤ p → good w × (j ≤ seats)
    pub given : (p : ℕ) → places p ≡ GivenUp → (h + n ≤ p) × IsTold views p
    pub pending : (p j : ℕ) → places p ≡ Pending j → (v : View) × (get_elem? views j ≡ some v) × (v.pending ≡ p + 1)

  pub record IsLogTable {S : Type 0} (s : State S View) : Type 0 where
    pub places : ℕ → Place
    pub desks : List Desk
    pub holds : Holds s.words s.views (length desks) places
    pub knows : (j : ℕ) (v : View) → get_elem? s.views j ≡ some v → Knows n h t (slice_index s.words 0) (slice_index s.words 1) places desks j v
    pub lead : (f : View) × (get_elem? s.views 0 ≡ some f) × Leads h (slice_index s.words 1) places desks f
    pub count : length s.views ≡ length desks + 1
    pub kept : (j : ℕ) → (slice_index_or desks j no_desk).out ≡ 0 → (slice_index_or desks j no_desk).posted ≡ posted_by places (j + 1) t (slice_index s.words 0 - t)
    pub marked : slice_index s.words 2 ≡ mark_for (total losses s.views)
    pub bound : slice_index s.words 0 + total purse s.views ≤ t + 10376293541461622784

  -- what is left once every seat was joined
  pub record Whole (v : View) (words : List ℕ) : Type 0 where
    pub places : ℕ → Place
    pub holds : Holds words (v ∷ []) (length v.desks) places
    pub filled : (p : ℕ) → p < slice_index words 0 → IsPublished (places p) ⊎ (places p ≡ GivenUp)
    pub posted : (j : ℕ) → j ≤ length v.desks → posted_of v j ≡ posted_by places j t (slice_index words 0 - t)
    pub taken : v.taken ≡ words_from places h (slice_index words 1 - h)
    pub lost : AreLost n places v.lost
    pub marked : slice_index words 2 ≡ mark_for (length v.lost)
