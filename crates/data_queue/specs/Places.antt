use Rattle.std.specs.Prelude.{◌≡◌, ℕ, ◌+◌, ◌%◌, ◌<◌, ◌≤◌, List}
use Rattle.data_queue.specs.declared.places.Places.{Places}
use Rattle.data_queue.specs.Log.{QueueState}

-- the queue of these places over these cells
abbrev pub queue_of : Places → List (List ℕ) → QueueState
queue_of p cells = record {
  cells = cells;
  head = p.head;
  next = p.next;
  waiting = p.waiting;
  phase = p.phase;
  marked = p.marked;
  live = p.live;
}

-- the places of a queue of so many cells, which agree
pub record ArePlaces (count : ℕ) (p : Places) : Type 0 where
  pub some : 2 ≤ count
  pub few : count ≤ 65536
  pub head : p.head < count
  pub next : p.next < count
  pub waiting : p.waiting ≤ count
  pub agree : p.next ≡ (p.head + p.waiting) % count
