use Rattle.std.specs.Prelude.{◌≡◌, ℕ, ◌+◌, ◌<◌, ◌≤◌, List, [], Option, All, length, slice_index_or, slice_set}
use Rattle.mig_base.specs.Count.{RisesBy}
use Rattle.nvm_model.specs.Medium.{StayTold}
use Rattle.adm_values.specs.declared.command.AdminCmd.{AdminCmd}
use Rattle.adm_values.specs.declared.command.AdminCpl.{AdminCpl}
use Rattle.adm_values.specs.Command.{IsCommand, command_bytes}
use Rattle.ctl_state.specs.Admin.{Answers, FitsBuffer}
use Rattle.ctl_state.specs.Controller.{ControllerState, PairState, TakesChange}
use Rattle.data_queue.specs.declared.change.Change.{Change}
use Rattle.manager.specs.declared.side.CopyAnswer.{CopyAnswer}
use Rattle.manager.specs.declared.side.CopyAnswer.TheVariants.{Copied, Busy, Fault}
use Rattle.manager.specs.declared.side.Side.{Side}
use Rattle.manager.specs.declared.side.Side.TheVariants.{From, To}
use Rattle.manager.specs.Work.{WorkCall, WorkState}
use Rattle.manager.specs.Work.WorkCall.{Copy as CopyWork, Take as TakeWork}

-- A port between the two sides of a move. Its calls are seen with their data.

-- What contracts see of a side: its blocks where they are told, how many calls of its media failed, the guests' window
-- pages, and its controller.
pub record SideState : Type 0 where
  pub blocks : Option (List (List ℕ))
  pub faults : ℕ
  pub pages : List (List ℕ)
  pub controller : ControllerState

-- The side that is left and the other one, how many blocks each has, how many calls may still be made, and a meaning of
-- the port's own.
pub record PortState (I : Type 0) : Type 0 where
  pub from : SideState
  pub to : SideState
  pub count : ℕ
  pub left : ℕ
  pub inside : I

abbrev pub side_of : {I : Type 0} → Side → PortState I → SideState
side_of From p = p.from
side_of To p = p.to

-- A call with its answer, and with the bytes that went through it.
pub data PortCall : Type 0 where
  -- a block is got at the source and put at the destination
  Copy : ℕ → List ℕ → CopyAnswer → PortCall
  -- the oldest change is taken from the source's queue
  Take : Option Change → PortCall
  -- an admin command goes to a side's controller: its buffer before, its completion, and the buffer after
  Admin : Side → AdminCmd → List ℕ → AdminCpl → List ℕ → PortCall
  -- a window page is copied
  CopyPage : ℕ → PortCall
  -- every medium gets the mark
  Mark : ℕ → PortCall

-- A copy.

-- The bytes that came are the block's, where it was read. Between two sides nothing is ever busy.
abbrev pub IsRead : CopyAnswer → ℕ → List (List ℕ) → List ℕ → Type 0
IsRead Copied b blocks bytes = bytes ≡ slice_index_or blocks b []
IsRead (Busy holder) b blocks bytes = ⊥
IsRead (Fault From) b blocks bytes = Unit {0}
IsRead (Fault To) b blocks bytes = bytes ≡ slice_index_or blocks b []

-- a copy that failed leaves every block
abbrev pub with_copy : CopyAnswer → ℕ → List ℕ → List (List ℕ) → List (List ℕ)
with_copy Copied b bytes blocks = slice_set blocks b bytes
with_copy (Busy holder) b bytes blocks = blocks
with_copy (Fault side) b bytes blocks = blocks

abbrev pub HasCause : {I : Type 0} → CopyAnswer → PortState I → PortState I → Type 0
HasCause Copied old new = Unit {0}
HasCause (Busy holder) old new = ⊥
HasCause (Fault side) old new = RisesBy 1 (side_of side old).faults (side_of side new).faults

-- a side whose blocks and count of faults may have changed
abbrev pub with_media_of : SideState → SideState → SideState
with_media_of new old = record old { blocks = new.blocks; faults = new.faults }

pub record Copies {I : Type 0} (old : PortState I) (b : ℕ) (bytes : List ℕ) (answer : CopyAnswer) (new : PortState I) : Type 0 where
  pub there : b < old.count
  pub read : StayTold (λ bs cs. (cs ≡ bs) × IsRead answer b bs bytes) old.from.blocks new.from.blocks
  pub written : StayTold (λ bs cs. cs ≡ with_copy answer b bytes bs) old.to.blocks new.to.blocks
  pub cause : HasCause answer old new
  pub from_later : old.from.faults ≤ new.from.faults
  pub to_later : old.to.faults ≤ new.to.faults
  pub from_is : new.from ≡ with_media_of new.from old.from
  pub to_is : new.to ≡ with_media_of new.to old.to

-- An admin command: that side's controller answers it by its table, and nothing else changes.

abbrev pub with_controller : ControllerState → SideState → SideState
with_controller c side = record side { controller = c }

abbrev pub IsAnswered : {I : Type 0} → Side → PortState I → ControllerState → PortState I → Type 0
IsAnswered From old c new = (new.from ≡ with_controller c old.from) × (new.to ≡ old.to)
IsAnswered To old c new = (new.from ≡ old.from) × (new.to ≡ with_controller c old.to)

pub record Commands {I : Type 0} (old : PortState I) (side : Side) (cmd : AdminCmd) (bytes : List ℕ) (cpl : AdminCpl) (new_bytes : List ℕ) (new : PortState I) : Type 0 where
  pub controller : ControllerState
  pub answers : Answers (command_bytes cmd) (side_of side old).controller bytes cpl controller new_bytes
  pub sides : IsAnswered side old controller new

-- a command may go to a side: no command of a guest is under way there, and the buffer has the length that is named
pub record MayCommand (side : SideState) (cmd : AdminCmd) (bytes : List ℕ) : Type 0 where
  pub command : IsCommand cmd
  pub quiet : All (λ (p : PairState). p.commands ≡ []) side.controller.pairs
  pub buffer : FitsBuffer (command_bytes cmd) (length bytes)

-- A page.

pub record CopiesPage {I : Type 0} (old : PortState I) (page : ℕ) (new : PortState I) : Type 0 where
  pub from_is : new.from ≡ old.from
  pub to_is : new.to ≡ record old.to { pages = slice_set old.to.pages page (slice_index_or old.from.pages page []) }

abbrev pub HasPage : {I : Type 0} → PortState I → ℕ → Type 0
HasPage p page = (page < length p.from.pages) × (page < length p.to.pages)

-- A take: of the source's controller the queue alone changes.
pub record TakesFrom {I : Type 0} (old : PortState I) (answer : Option Change) (new : PortState I) : Type 0 where
  pub controller : ControllerState
  pub takes : TakesChange old.from.controller answer controller
  pub from_is : new.from ≡ with_controller controller old.from
  pub to_is : new.to ≡ old.to

-- a mark is seen by the port's own meaning alone
abbrev pub DoesCall : {I : Type 0} → PortState I → PortCall → PortState I → Type 0
DoesCall old (Copy b bytes answer) new = Copies old b bytes answer new
DoesCall old (Take answer) new = TakesFrom old answer new
DoesCall old (Admin side cmd bytes cpl new_bytes) new = Commands old side cmd bytes cpl new_bytes new
DoesCall old (CopyPage page) new = CopiesPage old page new
DoesCall old (Mark n) new = (new.from ≡ old.from) × (new.to ≡ old.to)

-- one call of a port, whose own meaning goes on by its relation
pub record IsPortCall {I : Type 0} (moves : I → PortCall → I → Type 0) (old : PortState I) (c : PortCall) (new : PortState I) : Type 0 where
  pub does : DoesCall old c new
  pub count : new.count ≡ old.count
  pub left : old.left ≤ new.left + 1
  pub moved : moves old.inside c new.inside

-- Work over a port.

-- each call of work as one of a port
abbrev pub port_call : WorkCall → PortCall
port_call (CopyWork b bytes answer) = Copy b bytes answer
port_call (TakeWork answer) = Take answer

-- Each call of a port's work is one of the port, by what the work's meaning tells of both sides; it has the same blocks and the
-- same calls left.
pub record WorksAtBoth {S I J : Type 0} (work : S → WorkState J) (works : J → WorkCall → J → Type 0) (seated : J → Type 0) (state : S → PortState I) (moves : I → PortCall → I → Type 0) : Type 0 where
  pub told : J → PortState I
  pub count : (p : S) → (work p).count ≡ (state p).count
  pub left : (p : S) → (work p).left ≡ (state p).left
  pub sides : (p : S) → told (work p).inside ≡ state p
  pub calls : (old : J) (c : WorkCall) (new : J) → works old c new → IsPortCall moves (told old) (port_call c) (told new)
  pub always : (inside : J) → seated inside

-- A port's work can mean all that is seen of the port, and then each call of it is one of the port.
abbrev pub work_of : {I : Type 0} → PortState I → WorkState (PortState I)
work_of p = record { count = p.count; left = p.left; inside = p }

abbrev pub works_port : {I : Type 0} → (I → PortCall → I → Type 0) → PortState I → WorkCall → PortState I → Type 0
works_port moves old c new = IsPortCall moves old (port_call c) new
