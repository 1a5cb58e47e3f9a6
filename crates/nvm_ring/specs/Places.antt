use Rattle.std.specs.Prelude.{ℕ, ◌<◌, ◌≤◌}
use Rattle.nvm_model.specs.declared.ring.RingState.{RingState}
use Rattle.nvm_model.specs.Ring.{GuestCqState}

-- A ring has from 2 places to so many, and its head and tail are two of them. (Base 2.1, queue size.)
pub record IsRing (most : ℕ) (ring : RingState) : Type 0 where
  pub at_least : 2 ≤ ring.size
  pub at_most : ring.size ≤ most
  pub head : ring.head < ring.size
  pub tail : ring.tail < ring.size

-- the same of the guest's end of a completion ring, which knows no tail
pub record IsGuestRing (most : ℕ) (cq : GuestCqState) : Type 0 where
  pub at_least : 2 ≤ cq.size
  pub at_most : cq.size ≤ most
  pub head : cq.head < cq.size
