use Rattle.std.specs.Prelude.{◌≡◌, ℕ, ◌+◌, ◌%◌, ◌<◌, ◌≤◌, ◌==◌, ◌&&◌, ◌||◌, Bool, not, true, cond, List, [], ◌∷◌, ◌++◌, Option, Some, None, length, nat_le, nat_lt, replicate, slice_get, slice_index_or, slice_set}
use Rattle.std.specs.Bool.{MatchBool}
use Rattle.nvm_model.specs.Event.{phase_of}
use Rattle.nvm_model.specs.Ring.{next_place, places_between}
use Rattle.data_queue.specs.declared.change.Change.{Change}
use Rattle.data_queue.specs.Change.{IsChange, change_bytes, change_of}

-- What is seen of a queue.
pub record QueueState : Type 0 where
  -- entries of 32 bytes, one after another round the ring
  pub cells : List (List ℕ)
  -- the places of the oldest entry that isn't taken and of the next one, and how many lie between
  pub head : ℕ
  pub next : ℕ
  pub waiting : ℕ
  -- the phase tag of the next entry
  pub phase : Bool
  -- an entry found no free cell
  pub marked : Bool
  -- the queue was created and isn't deleted
  pub live : Bool

-- A queue stands for the changes that were posted since it was created, the oldest so many of which are taken. Each cell
-- has the last entry that is due there, with the phase tag of its pass: 1 in the first, the other one in the next. A cell
-- into which none was written has zeroes.
pub record IsLog (q : QueueState) (posted : List Change) (taken : ℕ) : Type 0 where
  pub order : q.waiting + taken ≡ length posted
  pub few : q.waiting ≤ length q.cells
  pub head : q.head ≡ taken % length q.cells
  pub next : q.next ≡ length posted % length q.cells
  pub phase : q.phase ≡ phase_of (length q.cells) (length posted)
  pub changes : (m : ℕ) (c : Change) → slice_get posted m ≡ Some c → IsChange c
  pub written : (m : ℕ) (c : Change) → slice_get posted m ≡ Some c → length posted ≤ m + length q.cells
      → slice_index_or q.cells (m % length q.cells) [] ≡ change_bytes c (phase_of (length q.cells) m)
  pub unwritten : (m : ℕ) → length posted ≤ m → m < length q.cells → slice_index_or q.cells m [] ≡ replicate 32 0

-- the list that a queue stands for, and how many of it are taken
pub record HasLog (q : QueueState) : Type 0 where
  pub posted : List Change
  pub taken : ℕ
  pub is : IsLog q posted taken

-- a post finds no free cell, or the mark is up
abbrev pub is_lost : QueueState → Bool
is_lost q = q.marked || (q.waiting == length q.cells)

-- the queue with an entry more, in the next cell
abbrev pub with_entry : Change → QueueState → QueueState
with_entry c q = record q {
  cells = slice_set q.cells q.next (change_bytes c q.phase);
  next = next_place (length q.cells) q.next;
  waiting = q.waiting + 1;
  phase = cond (next_place (length q.cells) q.next == 0) (not q.phase) q.phase;
}

-- An entry was posted behind the others, or it was lost and the mark is up, and nothing else changed.
pub record Posted (old : QueueState) (c : Change) (new : QueueState) : Type 0 where
  pub marked : new.marked ≡ is_lost old
  pub live : new.live ≡ old.live
  pub cells : length new.cells ≡ length old.cells
  pub queue : MatchBool (is_lost old) (new ≡ record old { marked = true }) (new ≡ with_entry c old)
  pub log : (posted : List Change) (taken : ℕ) → IsLog old posted taken → IsLog new (posted ++ cond (is_lost old) [] (c ∷ [])) taken

-- The oldest change that isn't taken was taken: it stands at the head, which goes on by a place.
pub record TakesOne (c : Change) (old new : QueueState) : Type 0 where
  pub waiting : new.waiting + 1 ≡ old.waiting
  pub head : new.head ≡ next_place (length old.cells) old.head
  pub others : new ≡ record old { head = new.head; waiting = new.waiting }
  pub cell : c ≡ change_of (slice_index_or old.cells old.head [])
  pub log : (posted : List Change) (taken : ℕ) → IsLog old posted taken → (slice_get posted taken ≡ Some c) × IsLog new posted (taken + 1)

-- what a take answers, and the queue then
abbrev pub Takes : Option Change → QueueState → QueueState → Type 0
Takes None old new = (old.waiting ≡ 0) × (new ≡ old)
Takes (Some c) old new = TakesOne c old new

-- a place of the queue from the head to the next place of posting, in ring order
abbrev pub is_head : ℕ → QueueState → Bool
is_head value q = nat_lt value (length q.cells) && nat_le (places_between (length q.cells) q.head value) q.waiting

-- All entries before a place were taken.
pub record TakesBefore (value : ℕ) (old new : QueueState) : Type 0 where
  pub waiting : new.waiting + places_between (length old.cells) old.head value ≡ old.waiting
  pub others : new ≡ record old { head = value; waiting = new.waiting }
  pub log : (posted : List Change) (taken : ℕ) → IsLog old posted taken
      → IsLog new posted (taken + places_between (length old.cells) old.head value)
