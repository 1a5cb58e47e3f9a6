use Rattle.std.specs.Prelude.{◌≡◌, ◌≢◌, ℕ, ◌+◌, ◌-◌, ◌*◌, ◌%◌, ◌^◌, ◌++◌, List, [], ◌∷◌, Option, Some, None, drop, length, min, slice_get, take}
use Rattle.nvm_values.specs.declared.sqe.Sqe.{Sqe}
use Rattle.nvm_values.specs.Cqe.{CqeFields, cqe_of}
use Rattle.nvm_values.specs.Sqe.{sqe_bytes}
use Rattle.nvm_model.specs.declared.command.Completion.{Completion}
use Rattle.nvm_model.specs.declared.ring.RingState.{RingState}
use Rattle.nvm_model.specs.declared.script.Act.{Act}
use Rattle.nvm_model.specs.declared.script.Act.TheVariants.{Fill, Poke, List as PrpList, Submit, Raw, Wait, Idle}
use Rattle.nvm_model.specs.declared.script.LaneSet.{LaneSet}
use Rattle.nvm_model.specs.Event.{MayDo, pages_after_act, submitted_by}
use Rattle.nvm_model.specs.Memory.{with_bytes}
use Rattle.nvm_model.specs.Ring.{GuestCqState, cell, completion_entry, next_place}
use Rattle.nvm_model.specs.World.{Lane}
use Rattle.nvm_ring.specs.Moves.{after_learn, after_reap, after_submit}
use Rattle.nvm_ring.specs.Queues.{HasGuestEnds, HasWindow, IsOrdered}
use Rattle.guest_ram.specs.Window.{WindowState}
use Rattle.lanes.specs.declared.guest.ActAnswer.{ActAnswer}
use Rattle.lanes.specs.declared.guest.ActAnswer.TheVariants.{Done, Rang, NotYet}

-- A guest: its lane's number, its ends of the two rings, and how many of its entries have no completion that it reaped.
pub record GuestState : Type 0 where
  pub lane : ℕ
  pub sq : RingState
  pub cq : GuestCqState
  pub waiting : ℕ

-- What it does, by its own ends of the rings and whatever the window holds.

-- the completion at the guest's place of its queue's page
abbrev pub next_completion : List ℕ → GuestState → CqeFields
next_completion page guest = cqe_of (cell 16 guest.cq.head page)

-- it takes a completion, and learns the head that this tells
abbrev pub after_completion : CqeFields → GuestState → GuestState
after_completion cqe guest = record guest { sq = after_learn cqe.sqhd guest.sq; cq = after_reap guest.cq; waiting = guest.waiting - 1 }

-- a reap takes the completion at its place, if that has the phase tag of this pass
abbrev pub TakesNext : List ℕ → GuestState → GuestState → Option CqeFields → Type 0
TakesNext page guest new None = ((next_completion page guest).phase ≢ guest.cq.phase) × (new ≡ guest)
TakesNext page guest new (Some cqe) = ((next_completion page guest).phase ≡ guest.cq.phase) × (cqe ≡ next_completion page guest) × (new ≡ after_completion cqe guest)

-- It can submit where its ring has a free place, by the head that it learnt last, and end a wait where it reaped a
-- completion of each of its entries.
abbrev pub CanDo : GuestState → Act → Type 0
CanDo guest (Submit cid op slba count p1 p2) = next_place guest.sq.size guest.sq.tail ≢ guest.sq.head
CanDo guest (Raw entry) = next_place guest.sq.size guest.sq.tail ≢ guest.sq.head
CanDo guest Wait = guest.waiting ≡ 0
CanDo guest (Fill page byte) = Unit {0}
CanDo guest (Poke page at bytes used) = Unit {0}
CanDo guest (PrpList page pages used) = Unit {0}
CanDo guest Idle = Unit {0}

-- the window's pages after an act wrote its bytes into data pages
abbrev pub written_pages : ℕ → Act → List (List ℕ) → List (List ℕ)
written_pages k act pages = take 2 pages ++ pages_after_act k act (drop 2 pages)

-- An act that submits no entry, and one that submits one: this stands in its place of the queue's page then.
abbrev pub Submits : List Sqe → List (List ℕ) → GuestState → GuestState → List (List ℕ) → ActAnswer → Type 0
Submits [] pages guest new new_pages answer = (answer ≡ Done) × (new ≡ guest) × (new_pages ≡ pages)
Submits (entry ∷ _) pages guest new new_pages answer =
    (answer ≡ Rang new.sq.tail) × (new ≡ record guest { sq = after_submit guest.sq; waiting = min (guest.waiting + 1) (2 ^ 32 - 1) })
    × (new_pages ≡ with_bytes pages 0 (64 * guest.sq.tail) (sqe_bytes entry))

-- an act was done
pub record HasDone (act : Act) (guest new : GuestState) (window new_window : WindowState) (answer : ActAnswer) : Type 0 where
  pub can : CanDo guest act
  pub lane : new_window.lane ≡ window.lane
  pub submits : Submits (submitted_by guest.lane act) (written_pages guest.lane act window.pages) guest new new_window.pages answer

-- what comes of an act: it is done where the guest can do it, and else nothing changes
abbrev pub Acts : Act → GuestState → GuestState → WindowState → WindowState → ActAnswer → Type 0
Acts act guest new window new_window NotYet = (CanDo guest act → ⊥) × (new ≡ guest) × (new_window ≡ window)
Acts act guest new window new_window Done = HasDone act guest new window new_window Done
Acts act guest new window new_window (Rang tail) = HasDone act guest new window new_window (Rang tail)

-- What that is for a lane of the model.

-- a guest and its window stand for a lane
pub record Stands (set : LaneSet) (guest : GuestState) (window : WindowState) (lane : Lane) : Type 0 where
  pub number : window.lane ≡ guest.lane
  pub window_is : HasWindow guest.lane set window.pages lane
  pub ordered : IsOrdered set lane
  pub ends : HasGuestEnds set guest.sq guest.cq guest.waiting lane

-- the guest reaped its oldest completion
pub record Reaped (set : LaneSet) (guest new : GuestState) (window : WindowState) (lane : Lane) (cqe : CqeFields) : Type 0 where
  pub completion : Completion
  pub oldest : slice_get lane.posted lane.reaped ≡ Some completion
  pub cqe_is : cqe ≡ completion_entry guest.lane completion
  pub stands : Stands set new window (record lane { reaped = lane.reaped + 1 })

-- what came of a reap: there was no completion, or the oldest was reaped
abbrev pub Reaps : LaneSet → GuestState → GuestState → WindowState → Lane → Option CqeFields → Type 0
Reaps set guest new window lane None = (lane.reaped ≡ length lane.posted) × (new ≡ guest)
Reaps set guest new window lane (Some cqe) = Reaped set guest new window lane cqe

-- the lane after the guest did an act
abbrev pub lane_after : ℕ → Act → Lane → Lane
lane_after k act lane = record lane { pages = pages_after_act k act lane.pages; acts = lane.acts + 1; submitted = lane.submitted ++ submitted_by k act }

-- What came of an act: it was done, with the new tail where it submitted an entry, or it can't be done yet and nothing
-- changed.
abbrev pub Does : LaneSet → Act → GuestState → GuestState → WindowState → WindowState → Lane → ActAnswer → Type 0
Does set act guest new window new_window lane Done = MayDo set act lane × (submitted_by guest.lane act ≡ []) × Stands set new new_window (lane_after guest.lane act lane)
Does set act guest new window new_window lane (Rang tail) =
    MayDo set act lane × (length (submitted_by guest.lane act) ≡ 1) × (tail ≡ length (lane_after guest.lane act lane).submitted % set.sq) × Stands set new new_window (lane_after guest.lane act lane)
Does set act guest new window new_window lane NotYet = (MayDo set act lane → ⊥) × (new ≡ guest) × (new_window ≡ window)
