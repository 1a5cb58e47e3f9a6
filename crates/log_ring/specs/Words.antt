-- A cell of the shared log is one word: the phase tag in bit 63, the number of blocks from bit 32 on, the first block in
-- the bits below, and 0 elsewhere.
use Rattle.std.specs.Prelude.{◌≡◌, ℕ, ◌+◌, ◌*◌, ◌/◌, ◌%◌, ◌<◌, ◌≤◌, Bool, cond, [], replicate, length, slice_index_or}
use Rattle.data_queue.specs.declared.change.Change.{Change}
use Rattle.data_queue.specs.Change.{IsChange, change_bytes}
use Rattle.data_queue.specs.Log.{QueueState}

abbrev pub entry_word : Change → Bool → ℕ
entry_word c phase = c.span.first + 4294967296 * c.span.count + cond phase 9223372036854775808 0

-- the change in a word
abbrev pub change_in : ℕ → Change
change_in w = record { span = record { first = w % 4294967296; count = w / 4294967296 % 256 } }

abbrev pub IsEntryWord : ℕ → Type 0
IsEntryWord w = IsChange (change_in w)

-- the position of the next entry when the log is opened: it has the place and the phase tag of the queue's next entry,
-- and as many positions lie below it as there are cells behind the oldest entry
abbrev pub tail_for : QueueState → ℕ
tail_for q = q.next + length q.cells * cond q.phase 2 3

-- The words of the cells at the start: that of the entry, or 0 where none was written.
pub record AreWords (q : QueueState) (start : ℕ → ℕ) : Type 0 where
  pub entries : (i : ℕ) (c : Change) (phase : Bool) → i < length q.cells → IsChange c → change_bytes c phase ≡ slice_index_or q.cells i [] → start i ≡ entry_word c phase
  pub zeroes : (i : ℕ) → i < length q.cells → slice_index_or q.cells i [] ≡ replicate 32 0 → start i ≡ 0

-- what was opened, as the log's rule names it
pub record IsOpened (q : QueueState) (cells head tail : ℕ) (start : ℕ → ℕ) : Type 0 where
  pub cells_are : cells ≡ length q.cells
  pub tail_is : tail ≡ tail_for q
  pub head_is : head + q.waiting ≡ tail
  pub words : AreWords q start

-- How far the positions of head and tail lie apart when n cells are opened, and from 0 and the largest word.
pub record Fits (n h t : ℕ) : Type 0 where
  pub some : 0 < n
  pub few : n ≤ 65536
  pub far : n ≤ h
  pub order : h ≤ t
  pub near : t ≤ h + n
  pub small : t < 4294967296
