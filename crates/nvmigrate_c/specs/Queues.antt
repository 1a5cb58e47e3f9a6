use Rattle.std.specs.Prelude.{ℕ, ◌≤◌, ◌==◌, List, Option, Some, None, if◌then◌else◌}
use Rattle.data_queue.specs.declared.change.Change.{Change}
use Rattle.data_queue.specs.declared.places.Places.{Places}
use Rattle.data_queue.specs.Log.{QueueState}
use Rattle.data_queue.specs.Places.{ArePlaces, queue_of}
use Rattle.nvmigrate_c.specs.declared.queue.Entry.{Entry}
use Rattle.nvmigrate_c.specs.declared.queue.Queue.{Queue}

-- What C's structs of a change queue say.

abbrev pub change_in : Entry → Change
change_in e = record { span = record { first = e.first; count = e.count } }

abbrev pub places_in : Queue → Places
places_in q = record {
  head = q.head;
  next = q.next;
  waiting = q.waiting;
  phase = q.phase == 1;
  marked = q.marked == 1;
  live = q.live == 1;
}

-- with the cells that C owns
abbrev pub queue_in : Queue → List (List ℕ) → QueueState
queue_in q cells = queue_of (places_in q) cells

-- a queue of so many cells
pub record IsQueue (count : ℕ) (q : Queue) : Type 0 where
  pub places : ArePlaces count (places_in q)
  pub phase : q.phase ≤ 1
  pub marked : q.marked ≤ 1
  pub live : q.live ≤ 1

-- what a code tells of an entry that was taken
abbrev pub change_told : ℕ → Entry → Option Change
change_told code e = if code == 0 then Some (change_in e) else None
