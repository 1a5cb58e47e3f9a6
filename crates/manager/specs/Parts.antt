use Rattle.std.specs.Prelude.{◌≡◌, ◌≢◌, ℕ, ◌+◌, ◌-◌, ◌*◌, ◌≤◌, List, [], ◌∷◌, ◌++◌, Result, Ok, Err, drop, length, min, take}
use Rattle.mig_base.specs.Count.{RisesBy}
use Rattle.adm_values.specs.declared.command.AdminCpl.{AdminCpl}
use Rattle.adm_values.specs.declared.command.What.{What}
use Rattle.adm_values.specs.declared.command.What.TheVariants.{SetState, GetState}
use Rattle.ctl_state.specs.Parts.{image_size, kept}
use Rattle.ctl_state.specs.declared.phase.Phase.TheVariants as phase
use Rattle.ctl_state.specs.Admin.{AdminResult, Does, Resumes, Sets, completion_of, given, state_bytes}
use Rattle.ctl_state.specs.Controller.{ControllerState}
use Rattle.manager.specs.declared.manager.MediumFault.{MediumFault}
use Rattle.manager.specs.declared.side.Side.{Side}
use Rattle.manager.specs.declared.side.Side.TheVariants.{From, To}
use Rattle.manager.specs.Asks.{Ask, Asked, command, copy_asks, page_asks, part_asks, resume_asks, stop_asks, suspend_asks, whole_parts}
use Rattle.manager.specs.Asks.Ask.{Admin}
use Rattle.manager.specs.Move.{HasImage, IsQuiet, suspended}
use Rattle.manager.specs.Owed.{DifferIn, TellDifference}
use Rattle.manager.specs.Port.{IsAnswered, PortCall, PortState, SideState, side_of, with_controller, with_media_of}

-- Inside the crate: the parts of a cutover, each with what it asks for and what it leaves.

pub record DoesSuspend {I : Type 0} (moves : I → PortCall → I → Type 0) (t : ℕ) (old new : PortState I) : Type 0 where
  pub asked : Asked moves (suspend_asks t) old new
  pub from_is : new.from ≡ with_controller (suspended old.from.controller) old.from
  pub to_is : new.to ≡ old.to

-- These blocks were copied, and the source's are as they were. In which the sides may have differed besides, they still may.
pub record DoesCopy {I : Type 0} (moves : I → PortCall → I → Type 0) (asks : List Ask) (done : List ℕ) (old new : PortState I) : Type 0 where
  pub asked : Asked moves asks old new
  pub fewer : (rest : List ℕ) → TellDifference old.count (done ++ rest) old.from.blocks old.to.blocks → TellDifference old.count rest new.from.blocks new.to.blocks
  pub from_later : old.from.faults ≤ new.from.faults
  pub to_later : old.to.faults ≤ new.to.faults
  pub from_is : new.from ≡ record old.from { faults = new.from.faults }
  pub to_is : new.to ≡ with_media_of new.to old.to

-- a copy failed after these, and others of all were left
pub record DoesStop {I : Type 0} (moves : I → PortCall → I → Type 0) (all : List ℕ) (side : Side) (old new : PortState I) : Type 0 where
  pub front : List ℕ
  pub last : ℕ
  pub others : List ℕ
  pub all_is : all ≡ front ++ last ∷ others
  pub copy : DoesCopy moves (stop_asks front last side) front old new
  pub rose : RisesBy 1 (side_of side old).faults (side_of side new).faults

abbrev pub DoesCopies : {T I : Type 0} → (I → PortCall → I → Type 0) → List ℕ → Result T MediumFault → PortState I → PortState I → Type 0
DoesCopies moves all (Ok _) old new = DoesCopy moves (copy_asks all) all old new
DoesCopies moves all (Err fault) old new = DoesStop moves all fault.side old new

pub record DoesPages {I : Type 0} (moves : I → PortCall → I → Type 0) (done : List ℕ) (old new : PortState I) : Type 0 where
  pub asked : Asked moves (page_asks done) old new
  pub from_is : new.from ≡ old.from
  pub to_is : new.to ≡ record old.to { pages = new.to.pages }
  pub long : length new.to.pages ≡ length old.to.pages
  pub fewer : (count : ℕ) (rest : List ℕ) → DifferIn count (done ++ rest) old.from.pages old.to.pages → DifferIn count rest new.from.pages new.to.pages

-- The state.

abbrev pub size_of : ControllerState → ℕ
size_of c = image_size (length c.pairs)

-- how many bytes part i has
abbrev pub part_length : ℕ → ControllerState → ℕ
part_length i c = min 64 (size_of c - 64 * i)

-- a side whose controller was fed these bytes of a state, and nothing else changed
abbrev pub with_fed : List ℕ → SideState → SideState
with_fed bytes side = with_controller (record side.controller { phase = phase.Loading; fed = record side.controller.fed { bytes = bytes } }) side

-- so many whole parts were handed over, and the destination waits for more: what it is fed next makes the same of it as of the
-- one at the start
pub record HasFed {I : Type 0} (moves : I → PortCall → I → Type 0) (n : ℕ) (old new : PortState I) : Type 0 where
  pub asked : Asked moves (whole_parts n) old new
  pub from_is : new.from ≡ old.from
  pub to_fed : (bytes : List ℕ) → with_fed bytes new.to ≡ with_fed bytes old.to
  pub waiting : new.to.controller.phase ≢ phase.Running
  pub bytes : kept (64 * n) new.to.controller.fed.bytes ≡ take (64 * n) (state_bytes old.from.controller)

-- part i was handed over, behind those before it
pub record HandsPart {I : Type 0} (moves : I → PortCall → I → Type 0) (i : ℕ) (old new : PortState I) : Type 0 where
  pub asked : Asked moves (part_asks i (part_length i old.from.controller)) old new
  pub from_is : new.from ≡ old.from
  pub to_is : new.to ≡ with_fed (take (64 * i + part_length i old.from.controller) (state_bytes old.from.controller)) old.to

-- the whole state was
pub record HandsOver {I : Type 0} (moves : I → PortCall → I → Type 0) (asks : List Ask) (old new : PortState I) : Type 0 where
  pub asked : Asked moves asks old new
  pub from_is : new.from ≡ old.from
  pub to_is : new.to ≡ with_fed (state_bytes old.from.controller) old.to

pub record DoesResume {I : Type 0} (moves : I → PortCall → I → Type 0) (side : Side) (t : ℕ) (old new : PortState I) : Type 0 where
  pub asked : Asked moves (resume_asks side t) old new
  pub controller : ControllerState
  pub result : AdminResult
  pub resumes : Resumes (side_of side old).controller.phase (side_of side old).controller result controller
  pub sides : IsAnswered side old controller new

-- One command.

pub record Sends {I : Type 0} (moves : I → PortCall → I → Type 0) (side : Side) (what : What) (bytes : List ℕ) (cpl : AdminCpl) (new_bytes : List ℕ) (old new : PortState I) : Type 0 where
  pub asked : Asked moves (Admin side (command what) ∷ []) old new
  pub controller : ControllerState
  pub result : AdminResult
  pub told : cpl ≡ completion_of result
  pub does : Does what (side_of side old).controller bytes result controller new_bytes
  pub sides : IsAnswered side old controller new

-- a part was read, and nothing changed
pub record GetsPart {I : Type 0} (moves : I → PortCall → I → Type 0) (offset : ℕ) (part : List ℕ) (count : ℕ) (old new : PortState I) : Type 0 where
  pub asked : Asked moves (Admin From (command (GetState offset 64)) ∷ []) old new
  pub count_is : count ≡ given offset 64 old.from.controller
  pub front : take count part ≡ take count (drop offset (state_bytes old.from.controller))
  pub from_is : new.from ≡ old.from
  pub to_is : new.to ≡ old.to

-- a part was sent
pub record SetsPart {I : Type 0} (moves : I → PortCall → I → Type 0) (offset : ℕ) (part : List ℕ) (old new : PortState I) : Type 0 where
  pub asked : Asked moves (Admin To (command (SetState offset (length part))) ∷ []) old new
  pub controller : ControllerState
  pub result : AdminResult
  pub sets : Sets old.to.controller.phase offset part old.to.controller result controller
  pub from_is : new.from ≡ old.from
  pub to_is : new.to ≡ with_controller controller old.to

-- a suspended source and a destination that waits, each with as many queue pairs
pub record Begins {I : Type 0} (p : PortState I) : Type 0 where
  pub suspended : p.from.controller.phase ≡ phase.Suspended
  pub waiting : p.to.controller.phase ≢ phase.Running
  pub image : HasImage p.from.controller
  pub fed : p.to.controller.fed.lanes ≡ length p.from.controller.pairs
  pub from_quiet : IsQuiet p.from
  pub to_quiet : IsQuiet p.to
