use Rattle.std.specs.Prelude.{◌≡◌, ℕ, ◌+◌, ◌^◌, ◌≤◌, Bool, true, false, List, [], ◌∷◌, length, min, slice_set, sum}
use Rattle.mig_base.specs.Count.{RisesBy}
use Rattle.nvm_model.specs.declared.trace.Step.{Step}
use Rattle.nvm_model.specs.Chain.{Chain}
use Rattle.nvm_model.specs.Medium.{At, IsAt, MediumState, StayTold, marks_at}
use Rattle.nvm_model.specs.Run.{at_block, get_of, put_of}
use Rattle.guest_ram.specs.Ram.{all_pages, shape}
use Rattle.nvm_blocks.specs.Namespace.{SameShelves, block_count, faults_of, media_of, told_of}
use Rattle.adm_values.specs.declared.command.AdminCmd.{AdminCmd}
use Rattle.adm_values.specs.declared.command.AdminCpl.{AdminCpl}
use Rattle.adm_values.specs.Command.{command_bytes}
use Rattle.ctl_state.specs.Admin.{Answers}
use Rattle.ctl_state.specs.Controller.{ControllerState}
use Rattle.manager.specs.declared.side.CopyAnswer.TheVariants.{Copied, Busy, Fault}
use Rattle.manager.specs.declared.side.Side.TheVariants.{From, To}
use Rattle.manager.specs.Port.{PortCall, PortState, SideState, with_controller, with_media_of}
use Rattle.manager.specs.Port.PortCall.{Copy as Copying, Take as Taking, Admin as Commanding, CopyPage as CopyingPage, Mark as Marking}
use Rattle.session.specs.Place.{PlaceState}

-- The other side of a move, to which a place or the far end of a link may stand.

-- What contracts see of it: what a manager sees, how many blocks it has, how many calls may still be made, and a meaning of
-- its own.
pub record DestState (I : Type 0) : Type 0 where
  pub side : SideState
  pub count : ℕ
  pub left : ℕ
  pub inside : I

-- A call with its answer, and with the bytes that went through it.
pub data DestCall : Type 0 where
  -- a block is written, or that failed
  Put : ℕ → List ℕ → Bool → DestCall
  -- a window page is written
  Page : ℕ → List ℕ → DestCall
  -- an admin command: its buffer before, its completion, and the buffer after
  Admin : AdminCmd → List ℕ → AdminCpl → List ℕ → DestCall
  -- every medium gets the mark
  Mark : ℕ → DestCall

-- a put that failed leaves every block, and its cause is a count that rose; no count falls
abbrev pub with_put : ℕ → List ℕ → Bool → List (List ℕ) → List (List ℕ)
with_put b bytes true blocks = blocks
with_put b bytes false blocks = slice_set blocks b bytes

abbrev pub HasPutCause : Bool → ℕ → ℕ → Type 0
HasPutCause true before now = RisesBy 1 before now
HasPutCause false before now = Unit {0}

pub record Puts (old : SideState) (b : ℕ) (bytes : List ℕ) (failed : Bool) (new : SideState) : Type 0 where
  pub written : StayTold (λ bs cs. cs ≡ with_put b bytes failed bs) old.blocks new.blocks
  pub later : old.faults ≤ new.faults
  pub cause : HasPutCause failed old.faults new.faults
  pub is : new ≡ with_media_of new old

pub record Commands (old : SideState) (cmd : AdminCmd) (bytes : List ℕ) (cpl : AdminCpl) (new_bytes : List ℕ) (new : SideState) : Type 0 where
  pub controller : ControllerState
  pub answers : Answers (command_bytes cmd) old.controller bytes cpl controller new_bytes
  pub is : new ≡ with_controller controller old

abbrev pub DoesDest : SideState → DestCall → SideState → Type 0
DoesDest old (Put b bytes failed) new = Puts old b bytes failed new
DoesDest old (Page page bytes) new = new ≡ record old { pages = slice_set old.pages page bytes }
DoesDest old (Admin cmd bytes cpl new_bytes) new = Commands old cmd bytes cpl new_bytes new
DoesDest old (Mark n) new = new ≡ old

-- one call of the other side, whose own meaning goes on by its relation
pub record IsDestCall {I : Type 0} (moves : I → DestCall → I → Type 0) (old : DestState I) (c : DestCall) (new : DestState I) : Type 0 where
  pub does : DoesDest old.side c new.side
  pub count : new.count ≡ old.count
  pub left : old.left ≤ new.left + 1
  pub moved : moves old.inside c new.inside

-- A place as a side of a move.

-- what a manager sees of it
abbrev pub side_of_place : {M I : Type 0} → (M → MediumState I) → PlaceState M → SideState
side_of_place state p = record { blocks = told_of state p.namespace; faults = sum (faults_of state p.namespace); pages = all_pages p.windows; controller = p.controller }

-- a place can be called as often as no run ever does
abbrev pub calls_left : ℕ
calls_left = 2 ^ 62

abbrev pub dest_of_place : {M I : Type 0} → (M → MediumState I) → PlaceState M → DestState (PlaceState M)
dest_of_place state p = record { side = side_of_place state p; count = block_count p.namespace; left = calls_left; inside = p }

-- beside the media nothing changed
pub record SamePlace {M : Type 0} (old new : PlaceState M) : Type 0 where
  pub shelves : SameShelves old.namespace new.namespace
  pub rest : new ≡ record old { namespace = new.namespace }

-- these calls were made of its media, and beside these nothing changed
pub record CallsPlace {M I : Type 0} (state : M → MediumState I) (moves : I → Step → Bool → I → Type 0) (calls : List At) (old new : PlaceState M) : Type 0 where
  pub called : Chain (IsAt state moves) (media_of old.namespace) calls (media_of new.namespace)
  pub same : SamePlace old new

-- its guests' memory alone changed, and no window its size
pub record WritesPage {M : Type 0} (old new : PlaceState M) : Type 0 where
  pub shape_is : shape new.windows ≡ shape old.windows
  pub rest : new ≡ record old { windows = new.windows }

-- its controller alone changed
abbrev pub Obeys : {M : Type 0} → PlaceState M → PlaceState M → Type 0
Obeys old new = new ≡ record old { controller = new.controller }

-- how a call takes a whole place on
abbrev pub moves_place : {M I : Type 0} → (M → MediumState I) → (I → Step → Bool → I → Type 0) → PlaceState M → DestCall → PlaceState M → Type 0
moves_place state moves old (Put b bytes failed) new = CallsPlace state moves (at_block old.namespace.shelf b (put_of bytes failed) ∷ []) old new
moves_place state moves old (Page page bytes) new = WritesPage old new
moves_place state moves old (Admin cmd bytes cpl new_bytes) new = Obeys old new
moves_place state moves old (Mark n) new = CallsPlace state moves (marks_at (length old.namespace.shelves) n) old new

-- The port between a place and the other side.

-- its own meaning: which two borrows it holds, the place whole, and what the other side means
pub record Ends (M J : Type 0) : Type 0 where
  pub names : ℕ × ℕ
  pub from : PlaceState M
  pub to : J

abbrev pub port_of : {M I J : Type 0} → (M → MediumState I) → ℕ × ℕ → PlaceState M → DestState J → PortState (Ends M J)
port_of state names from to = record {
  from = side_of_place state from;
  to = to.side;
  count = min (block_count from.namespace) to.count;
  left = to.left;
  inside = record { names = names; from = from; to = to.inside };
}

-- how a call takes both ends on
abbrev pub moves_ends : {M I J : Type 0} → (M → MediumState I) → (I → Step → Bool → I → Type 0) → (J → DestCall → J → Type 0) → Ends M J → PortCall → Ends M J → Type 0
moves_ends state moves dest old (Copying b bytes Copied) new = CallsPlace state moves (at_block old.from.namespace.shelf b (get_of bytes false) ∷ []) old.from new.from × dest old.to (Put b bytes false) new.to
moves_ends state moves dest old (Copying b bytes (Busy holder)) new = ⊥
moves_ends state moves dest old (Copying b bytes (Fault From)) new = CallsPlace state moves (at_block old.from.namespace.shelf b (get_of [] true) ∷ []) old.from new.from × (new.to ≡ old.to)
moves_ends state moves dest old (Copying b bytes (Fault To)) new = CallsPlace state moves (at_block old.from.namespace.shelf b (get_of bytes false) ∷ []) old.from new.from × dest old.to (Put b bytes true) new.to
moves_ends state moves dest old (Taking answer) new = Obeys old.from new.from × (new.to ≡ old.to)
moves_ends state moves dest old (Commanding From cmd bytes cpl new_bytes) new = Obeys old.from new.from × (new.to ≡ old.to)
moves_ends state moves dest old (Commanding To cmd bytes cpl new_bytes) new = (new.from ≡ old.from) × dest old.to (Admin cmd bytes cpl new_bytes) new.to
moves_ends state moves dest old (CopyingPage page) new = (new.from ≡ old.from) × (bytes : List ℕ) × dest old.to (Page page bytes) new.to
moves_ends state moves dest old (Marking n) new = CallsPlace state moves (marks_at (length old.from.namespace.shelves) n) old.from new.from × dest old.to (Mark n) new.to

-- and it holds these two borrows as before
abbrev pub moves_port : {M I J : Type 0} → (M → MediumState I) → (I → Step → Bool → I → Type 0) → (J → DestCall → J → Type 0) → Ends M J → PortCall → Ends M J → Type 0
moves_port state moves dest old c new = (new.names ≡ old.names) × moves_ends state moves dest old c new
