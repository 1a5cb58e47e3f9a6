use Rattle.std.specs.Prelude.{ℕ, ◌≤◌, ◌==◌, Option, Some, None, Result, Ok, Err, if◌then◌else◌}
use Rattle.nvm_values.specs.declared.sqe.Sqe.{Sqe}
use Rattle.nvm_values.specs.Cqe.{CqeFields}
use Rattle.nvm_model.specs.declared.ring.RingState.{RingState}
use Rattle.nvm_model.specs.Ring.{CqState, GuestCqState}
use Rattle.nvm_ring.specs.Places.{IsRing, IsGuestRing}
use Rattle.nvmigrate_c.specs.declared.entry.SqEntry.{SqEntry}
use Rattle.nvmigrate_c.specs.declared.entry.CqEntry.{CqEntry}
use Rattle.nvmigrate_c.specs.declared.ring.Sq.{Sq}
use Rattle.nvmigrate_c.specs.declared.ring.GuestSq.{GuestSq}
use Rattle.nvmigrate_c.specs.declared.completion.Cq.{Cq}
use Rattle.nvmigrate_c.specs.declared.completion.GuestCq.{GuestCq}
use Rattle.nvmigrate_c.specs.Entries.{cqe_in, sqe_in}

-- What C's structs of rings say, and which of them are rings.

abbrev pub sq_in : Sq → RingState
sq_in sq = record { size = sq.size; head = sq.head; tail = sq.tail }

abbrev pub IsSq : Sq → Type 0
IsSq sq = IsRing 64 (sq_in sq)

abbrev pub guest_sq_in : GuestSq → RingState
guest_sq_in sq = record { size = sq.size; head = sq.head; tail = sq.tail }

abbrev pub IsGuestSq : GuestSq → Type 0
IsGuestSq sq = IsRing 64 (guest_sq_in sq)

abbrev pub cq_in : Cq → CqState
cq_in cq = record { ring = record { size = cq.size; head = cq.head; tail = cq.tail }; phase = cq.phase == 1 }

pub record IsCq (cq : Cq) : Type 0 where
  pub ring : IsRing 256 (cq_in cq).ring
  pub phase : cq.phase ≤ 1

abbrev pub guest_cq_in : GuestCq → GuestCqState
guest_cq_in cq = record { size = cq.size; head = cq.head; phase = cq.phase == 1 }

pub record IsGuest (cq : GuestCq) : Type 0 where
  pub ring : IsGuestRing 256 (guest_cq_in cq)
  pub phase : cq.phase ≤ 1

-- What a code tells, 0 being done: with an entry that was written, or by itself.

abbrev pub sqe_told : ℕ → SqEntry → Option Sqe
sqe_told code e = if code == 0 then Some (sqe_in e) else None

abbrev pub cqe_told : ℕ → CqEntry → Option CqeFields
cqe_told code e = if code == 0 then Some (cqe_in e) else None

abbrev pub told : ℕ → Result (Unit {0}) ℕ
told code = if code == 0 then Ok tt else Err code
