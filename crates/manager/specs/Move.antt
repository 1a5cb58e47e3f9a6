use Rattle.std.specs.Prelude.{◌≡◌, ◌≢◌, ℕ, ◌+◌, ◌*◌, ◌^◌, ◌≤◌, All, Bool, List, [], ◌∷◌, ◌++◌, Option, None, Result, Ok, Err, length, map, replicate}
use Rattle.mig_base.specs.Count.{RisesBy}
use Rattle.ctl_state.specs.declared.image.Image.{Image}
use Rattle.ctl_state.specs.declared.image.PairState.{PairState as PairImage}
use Rattle.ctl_state.specs.Image.{IsImage, pairs_of}
use Rattle.ctl_state.specs.Parts.{image_size}
use Rattle.ctl_state.specs.declared.phase.Phase.TheVariants as phase
use Rattle.ctl_state.specs.Admin.{image_of, with_images}
use Rattle.ctl_state.specs.Controller.{ControllerState, PairState}
use Rattle.manager.specs.declared.manager.MoveSet.{MoveSet}
use Rattle.manager.specs.declared.manager.MovePhase.{MovePhase}
use Rattle.manager.specs.declared.manager.MovePhase.TheVariants.{New, Begun, Stopped, Moved, GivenUp}
use Rattle.manager.specs.declared.manager.MediumFault.{MediumFault}
use Rattle.manager.specs.declared.manager.Pause.{Pause}
use Rattle.manager.specs.declared.side.Side.{Side}
use Rattle.manager.specs.declared.side.Side.TheVariants.{From}
use Rattle.manager.specs.Asks.{Ask, Asked, cut_over_asks, resume_asks, stopped_asks}
use Rattle.manager.specs.Asks.Ask.{Mark}
use Rattle.manager.specs.Owed.{DifferIn, TellDifference, TellSame, places_of}
use Rattle.manager.specs.Work.{TurnWork}
use Rattle.manager.specs.Port.{PortCall, PortState, SideState, side_of, with_controller, with_media_of}

-- A manager of a move: what was asked for, where the move is, and of each block and each page whether it is owed, but for the
-- blocks that are still to be copied in this turn; these, those whose shelf was busy, and the side whose medium failed; and how
-- many rounds were done.
pub record ManagerState : Type 0 where
  pub set : MoveSet
  pub phase : MovePhase
  pub blocks : List Bool
  pub pages : List Bool
  pub due : List ℕ
  pub busy : List ℕ
  pub failed : Option Side
  pub rounds : ℕ

-- its work in a turn
abbrev pub work_in : ManagerState → TurnWork
work_in m = record { slice = m.set.slice; cells = m.set.cells; owed = m.blocks; due = m.due; busy = m.busy; failed = m.failed }

-- and the manager after such work
abbrev pub with_work : TurnWork → ManagerState → ManagerState
with_work w m = record m { blocks = w.owed; due = w.due; busy = w.busy; failed = w.failed }

pub record IsMoveSet (set : MoveSet) : Type 0 where
  pub blocks : (1 ≤ set.blocks) × (set.blocks ≤ 131072)
  pub ram_pages : (1 ≤ set.ram_pages) × (set.ram_pages ≤ 2064)
  pub slice : (1 ≤ set.slice) × (set.slice ≤ set.blocks)
  pub small : (set.slice ≤ set.small) × (set.small ≤ set.blocks)
  pub pages : (1 ≤ set.pages) × (set.pages ≤ 2064)
  pub patience : (1 ≤ set.patience) × (set.patience ≤ 65535)
  pub cells : (2 ≤ set.cells) × (set.cells ≤ 65536)

-- all blocks and pages are owed, or none
abbrev pub with_all : Bool → MovePhase → MoveSet → ManagerState
with_all owed phase set = record { set = set; phase = phase; blocks = replicate set.blocks owed; pages = replicate set.ram_pages owed; due = []; busy = []; failed = None; rounds = 0 }

-- whatever two sides of that size hold, they differ in what is owed alone
pub record Covers (m : ManagerState) : Type 0 where
  pub blocks : (from to : List (List ℕ)) → length from ≡ m.set.blocks → length to ≡ m.set.blocks → DifferIn m.set.blocks (places_of m.blocks) from to
  pub pages : (from to : List (List ℕ)) → length from ≡ m.set.ram_pages → length to ≡ m.set.ram_pages → DifferIn m.set.ram_pages (places_of m.pages) from to

-- The cutover.

-- it is due where few enough blocks and pages are owed
abbrev pub IsDue : ManagerState → Type 0
IsDue m = (length (places_of m.blocks) ≤ m.set.small) × (length (places_of m.pages) ≤ m.set.pages)

-- a controller's state as an image
pub record HasImage (c : ControllerState) : Type 0 where
  pub image : Image
  pub is : IsImage (length c.pairs) image
  pub rings : pairs_of image ≡ map image_of c.pairs

abbrev pub IsQuiet : SideState → Type 0
IsQuiet side = All (λ (p : PairState). p.commands ≡ []) side.controller.pairs

-- a port of the manager's size: it has as many calls left as a move may need, and at both sides no command is under way
pub record Fits {I : Type 0} (m : ManagerState) (p : PortState I) : Type 0 where
  pub blocks : p.count ≡ m.set.blocks
  pub from_pages : length p.from.pages ≡ m.set.ram_pages
  pub to_pages : length p.to.pages ≡ m.set.ram_pages
  pub calls : 2 ^ 18 ≤ p.left
  pub from_quiet : IsQuiet p.from
  pub to_quiet : IsQuiet p.to

-- no call of a manager takes more of the calls that are left
abbrev pub Spends : {I : Type 0} → PortState I → PortState I → Type 0
Spends old new = old.left ≤ new.left + 2 ^ 18

-- the source runs, and the destination waits for a state of as many queue pairs
pub record MayCutOver {I : Type 0} (p : PortState I) : Type 0 where
  pub running : p.from.controller.phase ≡ phase.Running
  pub waiting : p.to.controller.phase ≢ phase.Running
  pub image : HasImage p.from.controller
  pub lanes : length p.to.controller.pairs ≡ length p.from.controller.pairs
  pub fed : p.to.controller.fed.lanes ≡ length p.from.controller.pairs

-- what was asked of the port; a cutover that stopped asked for nothing after the copy that failed
abbrev pub IsCutOver : {I : Type 0} → (I → PortCall → I → Type 0) → ℕ → ManagerState → Result Pause MediumFault → PortState I → PortState I → Type 0
IsCutOver moves t m (Ok pause) old new =
    Asked moves (cut_over_asks t (places_of m.blocks) (places_of m.pages) (image_size (length old.from.controller.pairs))) old new
IsCutOver moves t m (Err fault) old new = (front : List ℕ) × (last : ℕ) × (others : List ℕ)
    × (places_of m.blocks ≡ front ++ last ∷ others) × Asked moves (stopped_asks t front last fault.side) old new

-- a controller that was suspended
abbrev pub suspended : ControllerState → ControllerState
suspended c = record c { phase = phase.Suspended; fed = record { lanes = length c.pairs; bytes = [] } }

-- The source is suspended, and else as it was but for its count of faults.
pub record LeavesSource (old new : SideState) : Type 0 where
  pub is : new ≡ record old { controller = suspended old.controller; faults = new.faults }

-- a controller that goes on with these rings
abbrev pub gone_on_with : List PairImage → ControllerState → ControllerState
gone_on_with rings c = record c { phase = phase.Running; pairs = with_images rings c.pairs }

-- Both sides hold the same where nothing but what was owed differed. The destination runs with the source's rings, and what
-- was fed is all else that changed of its controller.
pub record HoldsSame {I : Type 0} (m : ManagerState) (old new : PortState I) : Type 0 where
  pub blocks : TellDifference m.set.blocks (places_of m.blocks) old.from.blocks old.to.blocks → TellSame new.from.blocks new.to.blocks
  pub pages : DifferIn m.set.ram_pages (places_of m.pages) old.from.pages old.to.pages → new.to.pages ≡ new.from.pages
  pub running : new.to.controller ≡ record (gone_on_with (map image_of old.from.controller.pairs) old.to.controller) { fed = new.to.controller.fed }
  pub state : map image_of new.to.controller.pairs ≡ map image_of new.from.controller.pairs

abbrev pub SidesAfter : {I : Type 0} → ManagerState → Result Pause MediumFault → PortState I → PortState I → Type 0
SidesAfter m (Ok pause) old new = LeavesSource old.from new.from × HoldsSame m old new
SidesAfter m (Err fault) old new = LeavesSource old.from new.from × (new.to ≡ with_media_of new.to old.to) × RisesBy 1 (side_of fault.side old).faults (side_of fault.side new).faults

-- the manager then; the pause tells how much was owed
abbrev pub HasCut : Result Pause MediumFault → ManagerState → ManagerState → Type 0
HasCut (Ok pause) old new = (new ≡ record old { phase = Moved }) × (pause ≡ record { blocks = length (places_of old.blocks); pages = length (places_of old.pages) })
HasCut (Err fault) old new = new ≡ record old { phase = Stopped }

-- Giving up.

-- a move that began and isn't over
abbrev pub IsOn : MovePhase → Type 0
IsOn New = ⊥
IsOn Begun = Unit {0}
IsOn Stopped = Unit {0}
IsOn Moved = ⊥
IsOn GivenUp = ⊥

-- the source runs until it is suspended
abbrev pub IsSource : MovePhase → SideState → Type 0
IsSource New from = Unit {0}
IsSource Begun from = from.controller.phase ≡ phase.Running
IsSource Stopped from = from.controller.phase ≡ phase.Suspended
IsSource Moved from = Unit {0}
IsSource GivenUp from = Unit {0}

abbrev pub give_up_asks : MovePhase → ℕ → List Ask
give_up_asks Stopped t = resume_asks From t
give_up_asks _ t = Mark (3 * t + 2) ∷ []

-- The source runs as it was, and the destination stays.
pub record IsGivenUp {I : Type 0} (old new : PortState I) : Type 0 where
  pub from : new.from ≡ with_controller (record old.from.controller { phase = phase.Running }) old.from
  pub to : new.to ≡ old.to
