use Rattle.std.specs.Prelude.{◌≡◌, ℕ, ◌+◌, ◌%◌, ◌<◌, ◌≤◌, List, Some, drop, length, map, slice_get}
use Rattle.nvm_values.specs.Cqe.{CqeFields}
use Rattle.nvm_model.specs.declared.command.Completion.{Completion}
use Rattle.nvm_model.specs.declared.ring.RingState.{RingState}
use Rattle.nvm_model.specs.declared.script.LaneSet.{LaneSet}
use Rattle.nvm_model.specs.Event.{head_of_last, phase_of}
use Rattle.nvm_model.specs.Memory.{page_at}
use Rattle.nvm_model.specs.Ring.{CqState, GuestCqState, IsSqRing, IsCqPage, completion_entry, cq_page, sq_page}
use Rattle.nvm_model.specs.World.{Lane}

-- What the window of a lane, its guest and its controller have where they stand for a lane of the model.

-- a lane's completions as entries of its queue
abbrev pub posted_entries : ℕ → List Completion → List CqeFields
posted_entries k posted = map (completion_entry k) posted

-- the controller's end of the submission ring
abbrev pub sq_of : LaneSet → Lane → RingState
sq_of set lane = record { size = set.sq; head = lane.fetched % set.sq; tail = length lane.submitted % set.sq }

-- the window's pages are those of lane k, byte for byte, and its queues stand in the first two
pub record HasWindow (k : ℕ) (set : LaneSet) (pages : List (List ℕ)) (lane : Lane) : Type 0 where
  pub size : length pages ≡ set.pages + 2
  pub sq : page_at pages 0 ≡ sq_page set.sq lane.submitted
  pub cq : page_at pages 1 ≡ cq_page k set.cq lane.posted
  pub memory : lane.pages ≡ drop 2 pages
  pub entries : IsSqRing (sq_of set lane) (page_at pages 0) (drop lane.fetched lane.submitted)
  pub completions : IsCqPage set.cq (page_at pages 1) (posted_entries k lane.posted)

-- Each completion tells the submission queue's head as it was posted: the place of the number of entries that were
-- fetched by then, `told n` of them as completion n was posted, which never falls. Where nothing runs the last told all.
pub record TellsHeads (size : ℕ) (posted : List Completion) (fetched : ℕ) (told : ℕ → ℕ) : Type 0 where
  pub none : told 0 ≡ 0
  pub heads : (m : ℕ) (c : Completion) → slice_get posted m ≡ Some c → c.head ≡ told (m + 1) % size
  pub rising : (m n : ℕ) → m ≤ n → n ≤ length posted → told m ≤ told n
  pub few : told (length posted) ≤ fetched
  pub last : length posted ≡ fetched → told (length posted) ≡ fetched

-- A lane whose queues are in order. The guest knows of so many fetched entries as the last completion told that it reaped.
pub record IsOrdered (set : LaneSet) (lane : Lane) : Type 0 where
  pub submitted : length lane.submitted ≤ lane.acts
  pub fetched : lane.fetched ≤ length lane.submitted
  pub posted : length lane.posted + length lane.running ≡ lane.fetched
  pub reaped : lane.reaped ≤ length lane.posted
  pub in_flight : lane.fetched < lane.reaped + set.cq
  pub told : ℕ → ℕ
  pub tells : TellsHeads set.sq lane.posted lane.fetched told
  pub untold : length lane.submitted < told lane.reaped + set.sq

-- the guest's ends of the two rings, and how many of its entries have no completion that it reaped
pub record HasGuestEnds (set : LaneSet) (sq : RingState) (cq : GuestCqState) (waiting : ℕ) (lane : Lane) : Type 0 where
  pub sq_is : sq ≡ record { size = set.sq; head = head_of_last lane.posted lane.reaped; tail = length lane.submitted % set.sq }
  pub cq_is : cq ≡ record { size = set.cq; head = lane.reaped % set.cq; phase = phase_of set.cq lane.reaped }
  pub waits : waiting + lane.reaped ≡ length lane.submitted

-- the controller's ends
pub record HasEnds (set : LaneSet) (sq : RingState) (cq : CqState) (lane : Lane) : Type 0 where
  pub sq_is : sq ≡ sq_of set lane
  pub cq_is : cq ≡ record { ring = record { size = set.cq; head = lane.reaped % set.cq; tail = length lane.posted % set.cq }; phase = phase_of set.cq (length lane.posted) }
