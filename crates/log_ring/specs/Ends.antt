-- What is left of a shared log.
use Rattle.std.specs.Prelude.{◌≡◌, ◌≢◌, ◌⊎◌, ℕ, zero, suc, ◌+◌, ◌-◌, ◌%◌, ◌<◌, ◌≤◌, ◌==◌, true, List, [], ◌∷◌, ◌++◌, Some, length, max, nat_lt, replicate, slice_get, slice_index, slice_index_or}
use Rattle.nvm_model.specs.Event.{phase_of}
use Rattle.data_queue.specs.declared.change.Change.{Change}
use Rattle.data_queue.specs.declared.places.Places.{Places}
use Rattle.data_queue.specs.Change.{IsChange, change_bytes}
use Rattle.data_queue.specs.Log.{IsLog, QueueState}
use Rattle.log_rule.specs.declared.view.View.{View}
use Rattle.log_rule.specs.Places.{Place, GivenUp, Published, posted_by, tag, word_or}
use Rattle.log_rule.specs.Rule.{AreLost, posted_of}
use Rattle.log_ring.specs.Words.{change_in}

-- the changes of so many positions, from the first on
abbrev pub changes_from : (ℕ → Place) → ℕ → ℕ → List Change
changes_from places a zero = []
changes_from places a (suc k) = changes_from places a k ++ change_in (word_or (places (a + k)) 0) ∷ []

-- A queue of n cells stands for a list of changes, so many of which are taken, as `IsLog` says; where the mark is up, what
-- stands in the cells of entries that are taken isn't said.
pub record IsLeft (n : ℕ) (q : QueueState) (list : List Change) (taken : ℕ) : Type 0 where
  pub order : q.waiting + taken ≡ length list
  pub few : q.waiting ≤ n
  pub head : q.head ≡ taken % n
  pub next : q.next ≡ length list % n
  pub phase : q.phase ≡ phase_of n (length list)
  pub changes : (m : ℕ) (c : Change) → slice_get list m ≡ Some c → IsChange c
  pub written : (m : ℕ) (c : Change) → slice_get list m ≡ Some c → length list ≤ m + n → (q.marked ≡ true → taken ≤ m)
      → slice_index_or q.cells (m % n) [] ≡ change_bytes c (phase_of n m)
  pub unwritten : (m : ℕ) → length list ≤ m → m < n → slice_index_or q.cells m [] ≡ replicate 32 0

-- the words that were taken are those of a list's entries, from the a-th on
abbrev pub AreTaken : List Change → ℕ → List ℕ → Type 0
AreTaken list a words = (i w : ℕ) → slice_get words i ≡ Some w → slice_get list (a + i) ≡ Some (change_in w)

-- A queue was opened as a shared log, with the head h and the tail t, and closed with the first seat's view v. What became
-- of each position is one function. What each seat posted, it posted in the order of positions, and each once. The entries
-- of the positions from t up to the last stand behind those that the queue held. A position that was given up ends them,
-- and one was exactly where a seat answered `Full`, which is where the mark is up.
pub record HasClosed (old : QueueState) (h t : ℕ) (v : View) (new : QueueState) : Type 0 where
  pub places : ℕ → Place
  pub tail : ℕ
  pub last : ℕ
  pub order : (t ≤ last) × (last ≤ tail)
  pub posted : (j : ℕ) → j ≤ length v.desks → posted_of v j ≡ posted_by places j t (tail - t)
  pub owned : (p : ℕ) → t ≤ p → p < last → (j w : ℕ) × (places p ≡ Published j w) × (j ≤ length v.desks)
  pub lost : AreLost (length old.cells) places v.lost
  pub marked : new.marked ≡ nat_lt 0 (length v.lost)
  pub whole : v.lost ≡ [] → last ≡ tail
  pub ended : 0 < length v.lost → places last ≡ GivenUp
  pub live : new.live ≡ true
  pub size : length new.cells ≡ length old.cells
  pub log : (list : List Change) (taken : ℕ) → IsLog old list taken
      → IsLeft (length old.cells) new (list ++ changes_from places t (last - t)) (taken + length v.taken) × AreTaken (list ++ changes_from places t (last - t)) taken v.taken
  pub plain : (list : List Change) (taken : ℕ) → IsLog old list taken → v.lost ≡ [] → IsLog new (list ++ changes_from places t (last - t)) (taken + length v.taken)

-- The first position from the head on, below the tail and within the n cells, whose cell hasn't its phase tag, or the end.
pub record IsLast (words : List ℕ) (n head tail last : ℕ) : Type 0 where
  pub from : head ≤ last
  pub below : last ≤ tail
  pub near : last ≤ head + n
  pub tagged : (p : ℕ) → head ≤ p → p < last → tag (slice_index words (p % n + 3)) ≡ phase_of n p
  pub stops : (last ≡ tail) ⊎ ((last ≡ head + n) ⊎ (tag (slice_index words (last % n + 3)) ≢ phase_of n last))

-- the first of the positions that are written back
abbrev pub first_back : ℕ → ℕ → ℕ → ℕ
first_back n from last = max from (last - n)

-- The entries of positions up to the last are written into their cells, and nothing else.
pub record WritesBack (words : List ℕ) (from last : ℕ) (old new : List (List ℕ)) : Type 0 where
  pub written : (p : ℕ) → first_back (length old) from last ≤ p → p < last
      → slice_index_or new (p % length old) [] ≡ change_bytes (change_in (slice_index words (p % length old + 3))) (phase_of (length old) p)
  pub others : (i : ℕ) → ((p : ℕ) → first_back (length old) from last ≤ p → p < last → p % length old ≢ i) → slice_index_or new i [] ≡ slice_index_or old i []

abbrev pub ended_places : ℕ → ℕ → ℕ → ℕ → Places
ended_places n head last mark = record {
  head = head % n;
  next = last % n;
  waiting = last - head;
  phase = phase_of n last;
  marked = mark == 1;
  live = true;
}
