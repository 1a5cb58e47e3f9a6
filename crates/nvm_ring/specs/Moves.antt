use Rattle.std.specs.Prelude.{◌≡◌, ℕ, Bool, not, nat_lt, ◌==◌, if◌then◌else◌}
use Rattle.nvm_values.specs.Cqe.{CqeFields, cqe_bytes, cqe_of}
use Rattle.nvm_model.specs.declared.ring.RingState.{RingState}
use Rattle.nvm_model.specs.Ring.{next_place, CqState, GuestCqState}

-- What one entry more or less does to the places of a ring. (Base 2.1, phase tag: it turns over with each pass.)

abbrev pub after_fetch : RingState → RingState
after_fetch ring = record ring { head = next_place ring.size ring.head }

abbrev pub after_submit : RingState → RingState
after_submit ring = record ring { tail = next_place ring.size ring.tail }

-- a head that is told, where it's a place of the ring
abbrev pub after_learn : ℕ → RingState → RingState
after_learn head ring = if nat_lt head ring.size then record ring { head = head } else ring

-- the phase tag at a place, by that at the place before
abbrev pub phase_at : ℕ → Bool → Bool
phase_at place phase = if place == 0 then not phase else phase

abbrev pub after_post : CqState → CqState
after_post cq = record { ring = after_submit cq.ring; phase = phase_at (next_place cq.ring.size cq.ring.tail) cq.phase }

abbrev pub after_reap : GuestCqState → GuestCqState
after_reap cq = record { size = cq.size; head = next_place cq.size cq.head; phase = phase_at (next_place cq.size cq.head) cq.phase }

-- an entry with another phase tag
abbrev pub with_phase : Bool → CqeFields → CqeFields
with_phase phase c = record c { phase = phase }

-- the bytes of an entry are read as that entry again
abbrev pub IsReadBack : CqeFields → Type 0
IsReadBack c = cqe_of (cqe_bytes c) ≡ c
