use Rattle.std.specs.Prelude.{◌≡◌, ℕ, ◌+◌, ◌-◌, ◌%◌, ◌<◌, ◌≤◌, List, [], ◌∷◌, ◌++◌, Option, Some, None, Result, IsOk, OnOk, length, slice_get}
use Rattle.nvm_values.specs.declared.sqe.Sqe.{Sqe}
use Rattle.nvm_values.specs.Cqe.{CqeFields}
use Rattle.nvm_model.specs.declared.ring.RingState.{RingState}
use Rattle.nvm_model.specs.Event.{phase_of}
use Rattle.nvm_model.specs.Ring.{IsSqRing, CqState, IsCqRing, GuestCqState, IsGuestCq}
use Rattle.nvm_ring.specs.Moves.{after_submit, with_phase}

-- What each end of a ring does to the entries that the ring stands for.

-- a fetch of a ring that stands for these entries
abbrev pub Fetched : RingState → RingState → List ℕ → Option Sqe → List Sqe → Type 0
Fetched old new page result [] = (result ≡ None) × (new ≡ old)
Fetched old new page result (e ∷ rest) = (result ≡ Some e) × IsSqRing new page rest

-- a fetch gives the oldest entry and leaves the others
abbrev pub FetchesOldest : RingState → RingState → List ℕ → Option Sqe → Type 0
FetchesOldest old new page result = (entries : List Sqe) → IsSqRing old page entries → Fetched old new page result entries

-- An entry is the newest after those that its ring stands for, where one place more than they need is there: for the
-- controller, once it is told the new tail.
abbrev pub SubmitsNewest : {A E : Type 0} → RingState → List ℕ → List ℕ → Sqe → Result A E → Type 0
SubmitsNewest guest page new_page e result =
    (ring : RingState) (entries : List Sqe) → ring.size ≡ guest.size → ring.tail ≡ guest.tail → IsSqRing ring page entries → length entries + 1 < guest.size
    → OnOk result (IsSqRing (after_submit ring) new_page (entries ++ e ∷ []))

-- a completion is posted after those before it, with the phase tag of its number, where fewer than a ring of them less
-- one aren't reaped
abbrev pub PostsNewest : {A E : Type 0} → CqState → CqState → List ℕ → List ℕ → CqeFields → Result A E → Type 0
PostsNewest old new page new_page c result =
    (posted : List CqeFields) (reaped : ℕ) → IsCqRing old page posted reaped → length posted + 1 < reaped + old.ring.size
    → IsOk result × IsCqRing new new_page (posted ++ with_phase (phase_of old.ring.size (length posted)) c ∷ []) reaped

-- the free places are those of the completions that could be posted before one more is reaped
abbrev pub CountsFree : CqState → ℕ → Type 0
CountsFree cq free =
    (page : List ℕ) (posted : List CqeFields) (reaped : ℕ) → IsCqRing cq page posted reaped → free + (length posted - reaped) ≡ cq.ring.size - 1

-- the doorbell's value is the place of any number of completions that the guest may have reaped
abbrev pub TakesReaped : {A E : Type 0} → CqState → CqState → ℕ → Result A E → Type 0
TakesReaped old new value result =
    (page : List ℕ) (posted : List CqeFields) (reaped now : ℕ) → IsCqRing old page posted reaped → reaped ≤ now → now ≤ length posted → value ≡ now % old.ring.size
    → IsOk result × IsCqRing new page posted now

-- a reap gives the oldest completion that wasn't reaped, and none where all were
pub record Reaped (old new : GuestCqState) (page : List ℕ) (posted : List CqeFields) (reaped : ℕ) (result : Option CqeFields) : Type 0 where
  pub oldest : result ≡ slice_get posted reaped
  pub one_more : reaped < length posted → IsGuestCq new page posted (reaped + 1)
  pub none_left : length posted ≤ reaped → new ≡ old

abbrev pub ReapsOldest : GuestCqState → GuestCqState → List ℕ → Option CqeFields → Type 0
ReapsOldest old new page result = (posted : List CqeFields) (reaped : ℕ) → IsGuestCq old page posted reaped → Reaped old new page posted reaped result
