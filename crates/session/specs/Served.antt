use Rattle.std.specs.Prelude.{◌≡◌, ℕ, ◌+◌, ◌*◌, ◌&&◌, Bool, true, false, nat_lt, List, [], ◌∷◌}
use Rattle.std.specs.Bool.{MatchBool}
use Rattle.std.specs.List.{flat_map, range_with_len}
use Rattle.nvm_model.specs.declared.run.Side.{Side}
use Rattle.nvm_model.specs.declared.run.Side.TheVariants.{Source, Destination}
use Rattle.nvm_model.specs.declared.trace.Step.{Step}
use Rattle.nvm_model.specs.declared.trace.Step.TheVariants.{Get, Put, Mark}
use Rattle.nvm_model.specs.Chain.{Chain}
use Rattle.nvm_model.specs.Medium.{At, IsAt, MediumState}
use Rattle.nvm_model.specs.Run.{PieceCalled}
use Rattle.nvm_blocks.specs.Namespace.{SameShelves, media_of}
use Rattle.data_queue.specs.Log.{Posted, QueueState}
use Rattle.ctl_state.specs.declared.phase.Phase.{Phase}
use Rattle.ctl_state.specs.declared.phase.Phase.TheVariants as phase
use Rattle.ctl_state.specs.Controller.{ControllerState}
use Rattle.session.specs.declared.ending.Ending.TheVariants.{Done}
use Rattle.session.specs.Moves.{Both, HandsOver}
use Rattle.session.specs.Place.{PlaceState}

-- What turns leave of a place.

-- the blocks that calls put, where each shelf has so many
abbrev pub put_by : ℕ → ℕ → Step → Bool → List ℕ
put_by shelf i (Put b) false = (i * shelf + b) ∷ []
put_by shelf i (Put b) true = []
put_by shelf i (Get b) failed = []
put_by shelf i (Mark n) failed = []

abbrev pub put_blocks : ℕ → List At → List ℕ
put_blocks shelf calls = flat_map (λ (at : At). put_by shelf at.shelf at.call.step at.call.failed) calls

-- The blocks that a piece put are so many, from its first on, and where changes are told and the queue is live they are
-- posted as one change. Else the queue stays, and where it put none.
pub record TellsPiece (logging : Bool) (shelf : ℕ) (old : QueueState) (p : PieceCalled) (new : QueueState) : Type 0 where
  pub count : ℕ
  pub put : put_blocks shelf p.calls ≡ range_with_len p.first count
  pub told : MatchBool (logging && old.live && nat_lt 0 count) (Posted old (record { span = record { first = p.first; count = count } }) new) (new ≡ old)

-- Pieces were done at a place, one after another, by these calls of its media, and the queue was told what each put. Beside
-- the queue and the pairs nothing of the controller changed, nor a shelf its size.
pub record Served {M I : Type 0} (state : M → MediumState I) (moves : I → Step → Bool → I → Type 0) (old new : PlaceState M) : Type 0 where
  pub pieces : List PieceCalled
  pub called : Chain (IsAt state moves) (media_of old.namespace) (flat_map (λ (p : PieceCalled). p.calls) pieces) (media_of new.namespace)
  pub told : Chain (TellsPiece old.controller.logging old.namespace.shelf) old.controller.queue pieces new.controller.queue
  pub shelves : SameShelves old.namespace new.namespace
  pub rest : new.controller ≡ record old.controller { pairs = new.controller.pairs; queue = new.controller.queue }

-- What a move leaves of both places, by the side on which the guests are then, also where its lines weren't taken. Where
-- they stayed, what was fed to the source's controller is all that may have changed of either, and the other's memory is as
-- it was.
abbrev pub Leaves : {M : Type 0} → Side → Both M → Both M → Type 0
Leaves Source old new = (new.from.controller ≡ record old.from.controller { fed = new.from.controller.fed }) × (new.to.controller ≡ old.to.controller) × (new.to.windows ≡ old.to.windows)
Leaves Destination old new = HandsOver Done old new

-- a controller that is in this phase now, and logs as before
pub record IsNow (now : Phase) (old new : ControllerState) : Type 0 where
  pub phase_is : new.phase ≡ now
  pub burst_is : new.burst ≡ old.burst
  pub logging_is : new.logging ≡ old.logging

-- What a run leaves of them: the side that the guests left is suspended, and the one to which they didn't go is as it was.
abbrev pub HasLeft : {M : Type 0} → Side → Both M → Both M → Type 0
HasLeft Source old new = IsNow phase.Running old.from.controller new.from.controller × (new.to.controller ≡ old.to.controller) × (new.to.windows ≡ old.to.windows)
HasLeft Destination old new = IsNow phase.Suspended old.from.controller new.from.controller × IsNow phase.Running old.to.controller new.to.controller
