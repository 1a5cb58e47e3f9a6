-- What a clause reads of a seat.
use Rattle.std.specs.Prelude.{◌≡◌, ◌≢◌, ℕ, ◌+◌, ◌-◌, ◌<◌, ◌≤◌, [], ◌∷◌, ◌++◌, length, slice_index_or}
use Rattle.atomic_table.specs.declared.badge.Badge.{Badge}
use Rattle.nvm_model.specs.Event.{phase_of}
use Rattle.data_queue.specs.declared.change.Change.{Change}
use Rattle.log_rule.specs.declared.view.View.{View}
use Rattle.log_rule.specs.Places.{entry, tag}
use Rattle.log_rule.specs.Plays.{spent}
use Rattle.log_rule.specs.Rule.{desk_of}
use Rattle.log_ring.specs.Words.{IsEntryWord, change_in, entry_word}

abbrev pub view_of : Badge View → View
view_of b = slice_index_or b.views 0 spent

-- between its calls a seat has no position that isn't filled, no head and no cell seen
pub record IsIdle (v : View) : Type 0 where
  pub live : v.live ≡ 1
  pub pending : v.pending ≡ 0
  pub head : v.head ≡ 0
  pub seen : v.seen ≡ 0

abbrev pub with_entry : View → ℕ → ℕ → View
with_entry v p w = record v { pending = 0; head = 0; budget = v.budget - 1; posted = v.posted ++ entry p w ∷ [] }

abbrev pub with_loss : View → ℕ → ℕ → View
with_loss v p head = record v { pending = 0; head = 0; budget = v.budget - 1; lost = v.lost ++ record { at = p; head = head } ∷ [] }

abbrev pub with_word : View → ℕ → View
with_word v w = record v { head = 0; seen = 0; taken = v.taken ++ w ∷ [] }

abbrev pub with_none : View → ℕ → ℕ → View
with_none v head w = record v { head = 0; empty = v.empty ++ record { head = head; word = w } ∷ [] }

-- A position was drawn, and the head that was loaded then left a cell of n for it, into which the change went.
pub record Posts (n : ℕ) (c : Change) (v w : View) : Type 0 where
  pub at : ℕ
  pub head : ℕ
  pub room : at < head + n
  pub change : change_in (entry_word c (phase_of n at)) ≡ c
  pub view : w ≡ with_entry v at (entry_word c (phase_of n at))

-- A position was drawn, and the head that was loaded then left no cell of n for it, which is noted.
pub record Loses (n : ℕ) (v w : View) : Type 0 where
  pub at : ℕ
  pub head : ℕ
  pub full : head + n ≤ at
  pub view : w ≡ with_loss v at head

-- The cell at the head had the phase tag of its position, and its change was taken.
pub record Takes (n : ℕ) (c : Change) (v w : View) : Type 0 where
  pub head : ℕ
  pub word : ℕ
  pub phase : tag word ≡ phase_of n head
  pub entry_is : IsEntryWord word
  pub change : c ≡ change_in word
  pub view : w ≡ with_word v word

-- The cell at the head had the other phase tag, which is noted.
pub record Misses (n : ℕ) (v w : View) : Type 0 where
  pub head : ℕ
  pub word : ℕ
  pub phase : tag word ≢ phase_of n head
  pub view : w ≡ with_none v head word

-- each seat that was split off was joined
abbrev pub AreJoined : View → Type 0
AreJoined v = (j : ℕ) → 0 < j → j ≤ length v.desks → (desk_of v j).out ≡ 0
