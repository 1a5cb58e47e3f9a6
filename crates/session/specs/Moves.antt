use Rattle.std.specs.Prelude.{◌≡◌, ℕ, ◌++◌, Bool, true, List, Result, Ok, Err, length, map}
use Rattle.std.specs.List.{flat_map}
use Rattle.nvm_model.specs.declared.script.Script.{Script}
use Rattle.nvm_model.specs.declared.trace.Step.{Step}
use Rattle.nvm_model.specs.Chain.{Chain}
use Rattle.nvm_model.specs.Medium.{IsAt, MediumState}
use Rattle.nvm_model.specs.Owed.{Owed}
use Rattle.nvm_model.specs.Run.{CopiesAll, CopiesUpTo, Copy, gets_of, puts_of, resume_mark, suspend_mark}
use Rattle.nvm_blocks.specs.Namespace.{media_of, SameShelves}
use Rattle.ctl_state.specs.declared.phase.Phase.TheVariants as phase
use Rattle.ctl_state.specs.Admin.{image_of}
use Rattle.ctl_state.specs.Controller.{ControllerState}
use Rattle.manager.specs.declared.manager.MediumFault.{MediumFault}
use Rattle.manager.specs.declared.manager.Pause.{Pause}
use Rattle.manager.specs.declared.manager.MovePhase.TheVariants.{Begun}
use Rattle.manager.specs.declared.side.Side.TheVariants.{From}
use Rattle.manager.specs.Asks.{Asked, resume_asks}
use Rattle.manager.specs.Move.{IsCutOver, IsGivenUp, ManagerState, SidesAfter, gone_on_with, suspended, with_all}
use Rattle.manager.specs.Owed.{places_of}
use Rattle.manager.specs.Port.{PortCall, PortState}
use Rattle.session.specs.declared.ending.Ending.{Ending}
use Rattle.session.specs.declared.ending.Ending.TheVariants.{Done, GaveUp}
use Rattle.session.specs.Place.{PlaceState}

-- A move from one place to another.

pub record Both (M : Type 0) : Type 0 where
  pub from : PlaceState M
  pub to : PlaceState M

abbrev pub both : {M : Type 0} → PlaceState M → PlaceState M → Both M
both from to = record { from = from; to = to }

-- what a manager owes
abbrev pub owed_by : ManagerState → Owed
owed_by m = record { blocks = places_of m.blocks; pages = places_of m.pages }

-- The calls of both places' media in the pause after turn n, with these copies. No shelf changed, nor the memory of the place
-- that is left.
pub record Crosses {M I : Type 0} (state : M → MediumState I) (moves : I → Step → Bool → I → Type 0) (s : Script) (n : ℕ) (copies : List Copy) (old new : Both M) : Type 0 where
  pub gets : Chain (IsAt state moves) (media_of old.from.namespace) (suspend_mark s n ++ (flat_map (gets_of s.head.shelf) copies ++ resume_mark s n)) (media_of new.from.namespace)
  pub puts : Chain (IsAt state moves) (media_of old.to.namespace) (suspend_mark s n ++ (flat_map (puts_of s.head.shelf) copies ++ resume_mark s n)) (media_of new.to.namespace)
  pub from_shelves : SameShelves old.from.namespace new.from.namespace
  pub to_shelves : SameShelves old.to.namespace new.to.namespace
  pub from_memory : new.from.windows ≡ old.from.windows

-- What becomes of the two controllers. The source's is suspended, and the destination's goes on with its rings: what was fed
-- to it is all else that changed there. After a move that was given up the source's runs again, and the destination's stayed.
abbrev pub HandsState : Ending → ControllerState → ControllerState → ControllerState → ControllerState → Type 0
HandsState Done from to new_from new_to = (new_from ≡ suspended from) × (new_to ≡ record (gone_on_with (map image_of from.pairs) to) { fed = new_to.fed })
HandsState GaveUp from to new_from new_to = (new_from ≡ record (suspended from) { phase = phase.Running }) × (new_to ≡ to)

abbrev pub HandsOver : {M : Type 0} → Ending → Both M → Both M → Type 0
HandsOver ending old new = HandsState ending old.from.controller old.to.controller new.from.controller new.to.controller

-- a manager that has begun, and owes all
abbrev pub owing_all : ManagerState → ManagerState
owing_all m = with_all true Begun m.set

-- A cutover over a port after turn t, or one that stopped at some state of it and was given up.
abbrev pub Brings : {I : Type 0} → (I → PortCall → I → Type 0) → ℕ → ManagerState → Result Pause MediumFault → PortState I → PortState I → Type 0
Brings moves t m (Ok pause) old new =
    IsCutOver moves t m (Ok pause) old new × SidesAfter m (Ok pause) old new × (pause ≡ record { blocks = length (places_of m.blocks); pages = length (places_of m.pages) })
Brings {I} moves t m (Err fault) old new =
    (mid : PortState I) × IsCutOver moves t m (Err fault) old mid × SidesAfter m (Err fault) old mid × Asked moves (resume_asks From t) mid new × IsGivenUp mid new

-- the guests were moved after turn n: every block that was owed was copied, and the memory, and the state was handed over
pub record Moves {M I : Type 0} (state : M → MediumState I) (moves : I → Step → Bool → I → Type 0) (s : Script) (n : ℕ) (owed : Owed) (old new : Both M) : Type 0 where
  pub copies : List Copy
  pub all : CopiesAll owed.blocks copies
  pub crosses : Crosses state moves s n copies old new
  pub to_memory : new.to.windows ≡ old.from.windows
  pub controllers : HandsOver Done old new

-- a copy failed, and the guests stayed
pub record Stays {M I : Type 0} (state : M → MediumState I) (moves : I → Step → Bool → I → Type 0) (s : Script) (n : ℕ) (owed : Owed) (old new : Both M) : Type 0 where
  pub copies : List Copy
  pub up_to : CopiesUpTo owed.blocks copies
  pub crosses : Crosses state moves s n copies old new
  pub to_memory : new.to.windows ≡ old.to.windows
  pub controllers : HandsOver GaveUp old new

abbrev pub Tries : {M I : Type 0} → (M → MediumState I) → (I → Step → Bool → I → Type 0) → Script → ℕ → Owed → Result Pause MediumFault → Both M → Both M → Type 0
Tries state moves s n owed (Ok pause) old new = Moves state moves s n owed old new × (pause ≡ record { blocks = length owed.blocks; pages = length owed.pages })
Tries state moves s n owed (Err fault) old new = Stays state moves s n owed old new
