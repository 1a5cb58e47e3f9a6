use Rattle.std.specs.Prelude.{◌≡◌, ℕ, ◌+◌, ◌-◌, ◌*◌, ◌%◌, ◌<◌, ◌≤◌, ◌==◌, Bool, false, List, [], ◌∷◌, ◌++◌, Option, Some, None, filter, length, map, take, drop, replicate, slice_get}
use Rattle.std.specs.List.{enumerate_from, flat_map, last_or, range_with_len}
use Rattle.nvm_values.specs.declared.sqe.Sqe.{Sqe}
use Rattle.nvm_values.specs.Sqe.{sqe_bytes, sqe_of}
use Rattle.nvm_values.specs.Cqe.{CqeFields, cqe_bytes, cqe_of}
use Rattle.nvm_model.specs.declared.command.Completion.{Completion}
use Rattle.nvm_model.specs.declared.ring.RingState.{RingState}
use Rattle.nvm_model.specs.declared.script.Head.{Head}
use Rattle.nvm_model.specs.Event.{phase_of}
use Rattle.nvm_model.specs.World.{Lane, set_of}

-- Rings of queue entries in a page of guest memory: a submission queue's entries have 64 bytes, a completion queue's 16.
-- (Base 2.1, queues: a ring is empty where head equals tail, and full where tail plus 1 is head.)

-- the bytes of a cell
abbrev pub cell : ℕ → ℕ → List ℕ → List ℕ
cell bytes place page = take bytes (drop (bytes * place) page)

-- the place after a place of a ring
abbrev pub next_place : ℕ → ℕ → ℕ
next_place size place = (place + 1) % size

-- how many entries lie between two places of a ring
abbrev pub places_between : ℕ → ℕ → ℕ → ℕ
places_between size head tail = (tail + size - head) % size

-- A submission ring in a page stands for the entries that were submitted and aren't fetched, oldest first.
pub record IsSqRing (ring : RingState) (page : List ℕ) (entries : List Sqe) : Type 0 where
  pub head : ring.head < ring.size
  pub tail : ring.tail < ring.size
  pub count : length entries ≡ places_between ring.size ring.head ring.tail
  pub cells : (i : ℕ) (e : Sqe) → slice_get entries i ≡ Some e → sqe_of (cell 64 ((ring.head + i) % ring.size) page) ≡ e

-- A completion ring's page holds the last completions that were posted, each in the cell that is due to its number, and
-- zeroes in the cells that none was written into. The phase tag turns over with each pass.
pub record IsCqPage (size : ℕ) (page : List ℕ) (posted : List CqeFields) : Type 0 where
  pub written : (m : ℕ) (c : CqeFields) → slice_get posted m ≡ Some c → length posted ≤ m + size → cqe_of (cell 16 (m % size) page) ≡ c
  pub unwritten : (m : ℕ) → length posted ≤ m → m < size → cell 16 m page ≡ replicate 16 0
  pub phases : (m : ℕ) (c : CqeFields) → slice_get posted m ≡ Some c → c.phase ≡ phase_of size m

-- the controller's end of a completion ring: its places, and the phase tag of the next entry
pub record CqState : Type 0 where
  pub ring : RingState
  pub phase : Bool

-- It stands for all completions that were posted, so many of which are reaped, as far as it was told.
pub record IsCqRing (cq : CqState) (page : List ℕ) (posted : List CqeFields) (reaped : ℕ) : Type 0 where
  pub page_is : IsCqPage cq.ring.size page posted
  pub tail : cq.ring.tail ≡ length posted % cq.ring.size
  pub head : cq.ring.head ≡ reaped % cq.ring.size
  pub phase : cq.phase ≡ phase_of cq.ring.size (length posted)
  pub order : reaped ≤ length posted
  pub few : length posted < reaped + cq.ring.size

-- the guest's end of a completion ring: its place, and the phase tag of the next entry
pub record GuestCqState : Type 0 where
  pub size : ℕ
  pub head : ℕ
  pub phase : Bool

-- It stands for all completions that were posted, so many of which it has reaped.
pub record IsGuestCq (cq : GuestCqState) (page : List ℕ) (posted : List CqeFields) (reaped : ℕ) : Type 0 where
  pub page_is : IsCqPage cq.size page posted
  pub head : cq.head ≡ reaped % cq.size
  pub phase : cq.phase ≡ phase_of cq.size reaped
  pub order : reaped ≤ length posted
  pub few : length posted < reaped + cq.size

-- The memory of a lane, byte for byte.

-- Of entries that were written one after another, those that are due to a place of a ring: entry m stands at place m
-- modulo the ring's size.
abbrev pub due_entries : ℕ → ℕ → List (List ℕ) → List (ℕ × List ℕ)
due_entries size place entries = filter (λ (e : ℕ × List ℕ). e.0 % size == place) (enumerate_from 0 entries)

-- an entry of these, or zeroes where there is none
abbrev pub entry_or_zeroes : ℕ → Option (ℕ × List ℕ) → List ℕ
entry_or_zeroes bytes None = replicate bytes 0
entry_or_zeroes bytes (Some e) = e.1

-- a cell has the last entry that is due to its place, or zeroes
abbrev pub ring_cell : ℕ → ℕ → List (List ℕ) → ℕ → List ℕ
ring_cell bytes size entries place = entry_or_zeroes bytes (last_or None (due_entries size place entries))

-- the page of a ring has its cells, and zeroes behind them
unfoldable pub ring_page : ℕ → ℕ → List (List ℕ) → List ℕ
ring_page bytes size entries = flat_map (ring_cell bytes size entries) (range_with_len 0 size) ++ replicate (4096 - bytes * size) 0

-- the submission queue's page after all these entries were submitted
abbrev pub sq_page : ℕ → List Sqe → List ℕ
sq_page size submitted = ring_page 64 size (map sqe_bytes submitted)

-- the entry of a completion of a lane's queue pair
abbrev pub completion_entry : ℕ → Completion → CqeFields
completion_entry lane c = record { dw0 = 0; dw1 = 0; sqhd = c.head; sqid = lane; cid = c.cid; phase = c.phase; status = c.status; mid = 0; more = false; dnr = false }

-- the completion queue's page after all these completions were posted
abbrev pub cq_page : ℕ → ℕ → List Completion → List ℕ
cq_page lane size posted = ring_page 16 size (map (λ (c : Completion). cqe_bytes (completion_entry lane c)) posted)

-- a lane's window pages: the submission queue, the completion queue, and the data pages
abbrev pub lane_window : Head → ℕ → Lane → List (List ℕ)
lane_window head k lane = sq_page (set_of head k).sq lane.submitted ∷ cq_page k (set_of head k).cq lane.posted ∷ lane.pages

-- the window pages of lanes, the first with number k
abbrev pub lane_windows : Head → ℕ → List Lane → List (List (List ℕ))
lane_windows head k [] = []
lane_windows head k (lane ∷ lanes) = lane_window head k lane ∷ lane_windows head (k + 1) lanes
