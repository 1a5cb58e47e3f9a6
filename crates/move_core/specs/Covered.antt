use Rattle.std.specs.Prelude.{◌≡◌, ◌⊎◌, ℕ, ◌+◌, ◌<◌, ◌≤◌, true, false, List, [], ◌∷◌, length}
use Rattle.mig_base.specs.declared.span.Span.{Span}
use Rattle.move_core.specs.declared.event.CoreEvent.{CoreEvent}
use Rattle.move_core.specs.declared.event.CoreEvent.TheVariants.{Resume}
use Rattle.move_core.specs.declared.phase.CorePhase.{CorePhase}
use Rattle.move_core.specs.declared.phase.CorePhase.TheVariants.{Moving, Suspended, Resumed, GaveUp}
use Rattle.move_core.specs.State.{CoreState, block_at, is_owed, NoneUnposted}

-- What differs is owed.

-- as many of each block's things as there are blocks, and eight lanes
pub record IsShaped (c : CoreState) : Type 0 where
  pub destination : length c.destination ≡ length c.source
  pub owed : length c.owed ≡ length c.source
  pub lanes : length c.unposted ≡ 8

abbrev pub IsIn : ℕ → Span → Type 0
IsIn b span = (span.first ≤ b) × (b < span.first + span.count)

-- a block lies in one of these spans
abbrev pub InSome : ℕ → List Span → Type 0
InSome b [] = ⊥
InSome b (span ∷ spans) = IsIn b span ⊎ InSome b spans

-- a block lies in a span of one of the lanes
abbrev pub InLane : ℕ → List (List Span) → Type 0
InLane b [] = ⊥
InLane b (spans ∷ lanes) = InSome b spans ⊎ InLane b lanes

-- a block is the same on both sides, or it is known that it may not be
abbrev pub IsCovered : CoreState → ℕ → Type 0
IsCovered c b = (block_at c.source b ≡ block_at c.destination b) ⊎ (is_owed c b ≡ true) ⊎ InSome b c.log ⊎ InLane b c.unposted ⊎ (c.mark ≡ true)

-- nothing but the owed blocks and the log is open while the guest is suspended
abbrev pub IsCalm : CoreState → Type 0
IsCalm c = NoneUnposted c.unposted × (c.mark ≡ false)

-- each block in which the sides differ is owed, or in a span that is still told, or the mark is up
abbrev pub CoveredIn : CorePhase → CoreState → Type 0
CoveredIn Moving c = (b : ℕ) → b < length c.source → IsCovered c b
CoveredIn Suspended c = ((b : ℕ) → b < length c.source → IsCovered c b) × IsCalm c
CoveredIn Resumed c = Unit {0}
CoveredIn GaveUp c = Unit {0}

abbrev pub IsCoreCovered : CoreState → Type 0
IsCoreCovered c = CoveredIn c.phase c

-- what an event does to both sides besides: at a resumption they are equal, and after one the source's blocks stay
pub record KeepsSides (old : CoreState) (e : CoreEvent) (new : CoreState) : Type 0 where
  pub equal : e ≡ Resume → new.source ≡ new.destination
  pub frozen : old.phase ≡ Resumed → new.source ≡ old.source
