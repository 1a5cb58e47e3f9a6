use Rattle.std.specs.Prelude.{◌≡◌, ℕ, ◌-◌, ◌*◌, ◌==◌, ◌&&◌, All, Bool, true, false, not, nat_le, min, List, [], ◌∷◌, ◌++◌, Option, Some, None, Result, Ok, Err, length, map, take, drop}
use Rattle.std.specs.Bool.{MatchBool}
use Rattle.adm_values.specs.declared.command.AdminCmd.{AdminCmd}
use Rattle.adm_values.specs.declared.command.AdminCpl.{AdminCpl}
use Rattle.adm_values.specs.declared.command.What.{What}
use Rattle.adm_values.specs.declared.command.What.TheVariants as what
use Rattle.adm_values.specs.declared.kind.AdminRefusal.{AdminRefusal}
use Rattle.adm_values.specs.declared.kind.AdminRefusal.TheVariants.{BadOpcode, BadSelect, BadField}
use Rattle.adm_values.specs.Command.{IsCommand, Reads, command_bytes}
use Rattle.ctl_state.specs.declared.image.Image.{Image}
use Rattle.ctl_state.specs.declared.image.PairState.{PairState as PairImage}
use Rattle.ctl_state.specs.declared.parts.PartRefusal.{PartRefusal}
use Rattle.ctl_state.specs.declared.parts.PartRefusal.TheVariants as part
use Rattle.ctl_state.specs.Image.{header, pairs_bytes, pairs_of}
use Rattle.ctl_state.specs.Parts.{Feeds, IsWhole, image_size}
use Rattle.data_queue.specs.Log.{IsLog}
use Rattle.nvm_values.specs.Status.{success}
use Rattle.ctl_state.specs.declared.phase.Phase.{Phase}
use Rattle.ctl_state.specs.declared.phase.Phase.TheVariants.{Running, Suspended, Loading}
use Rattle.ctl_state.specs.declared.refusal.Refusal.{Refusal}
use Rattle.ctl_state.specs.declared.refusal.Refusal.TheVariants.{IsSuspended, NotSuspended, BadDataQueue, DataQueueFull, BadImage, BadSequence, InvalidField, InvalidOpcode}
use Rattle.ctl_state.specs.Controller.{ControllerState, PairState}

-- What admin commands do to a controller, phase by phase. (Base 2.1, Migration Send, Migration Receive, Controller Data
-- Queue and Track Send commands.)

-- The completion of a command that was done, with what dword 0 says, and of one that was refused.
abbrev pub completion_of : Result ℕ Refusal → AdminCpl
completion_of (Ok dw0) = record { status = success; dw0 = dw0 }
completion_of (Err IsSuspended) = record { status = (1, 0xc0); dw0 = 0 }
completion_of (Err NotSuspended) = record { status = (1, 0xc1); dw0 = 0 }
completion_of (Err BadDataQueue) = record { status = (1, 0xc2); dw0 = 0 }
completion_of (Err DataQueueFull) = record { status = (1, 0xc3); dw0 = 0 }
completion_of (Err (BadImage place)) = record { status = (1, 0xc4); dw0 = place }
completion_of (Err BadSequence) = record { status = (1, 0xc5); dw0 = 0 }
completion_of (Err InvalidField) = record { status = (0, 0x02); dw0 = 0 }
completion_of (Err InvalidOpcode) = record { status = (0, 0x01); dw0 = 0 }

-- Why bytes that are no command are refused, and a part of an image.
abbrev pub unread : AdminRefusal → Refusal
unread BadOpcode = InvalidOpcode
unread BadSelect = InvalidField
unread (BadField place) = InvalidField

abbrev pub refusal_of : PartRefusal → Refusal
refusal_of part.BadSequence = BadSequence
refusal_of part.TooLong = InvalidField
refusal_of (part.BadImage place) = BadImage place

-- the command is refused, and nothing changed; or it is done, with 0 in dword 0, and this is the controller then
abbrev pub Refuses : Refusal → ControllerState → Result ℕ Refusal → ControllerState → Type 0
Refuses refusal old result new = (result ≡ Err refusal) × (new ≡ old)

abbrev pub Becomes : ControllerState → Result ℕ Refusal → ControllerState → Type 0
Becomes after result new = (result ≡ Ok 0) × (new ≡ after)

-- Suspend: what was fed of an image is let go.
abbrev pub Suspends : Phase → ControllerState → Result ℕ Refusal → ControllerState → Type 0
Suspends Running old result new = Becomes (record old { phase = Suspended; fed = record { lanes = length old.pairs; bytes = [] } }) result new
Suspends Suspended old result new = Refuses IsSuspended old result new
Suspends Loading old result new = Refuses IsSuspended old result new

-- pairs with the rings of an image
abbrev pub with_rings : PairImage → PairState → PairState
with_rings image pair = record pair { sq = image.sq; cq = record { ring = image.cq; phase = image.phase } }

abbrev pub with_images : List PairImage → List PairState → List PairState
with_images [] pairs = pairs
with_images (image ∷ images) [] = []
with_images (image ∷ images) (pair ∷ pairs) = with_rings image pair ∷ with_images images pairs

-- Resume: a controller that took an image goes on with its rings, where it is whole.
abbrev pub GoesOnWith : ControllerState → Option Image → Result ℕ Refusal → ControllerState → Type 0
GoesOnWith old (Some image) result new = IsWhole old.fed.lanes old.fed.bytes image × Becomes (record old { phase = Running; pairs = with_images (pairs_of image) old.pairs }) result new
GoesOnWith old None result new = ((image : Image) → IsWhole old.fed.lanes old.fed.bytes image → ⊥) × Refuses BadSequence old result new

abbrev pub Resumes : Phase → ControllerState → Result ℕ Refusal → ControllerState → Type 0
Resumes Running old result new = Refuses NotSuspended old result new
Resumes Suspended old result new = Becomes (record old { phase = Running }) result new
Resumes Loading old result new = (image : Option Image) × GoesOnWith old image result new

-- Set Controller State: the part is fed.
abbrev pub TakesPart : Result (Unit {0}) PartRefusal → ControllerState → Result ℕ Refusal → ControllerState → Type 0
TakesPart (Ok _) old result new = Becomes (record old { phase = Loading; fed = new.fed }) result new
TakesPart (Err refusal) old result new = (result ≡ Err (refusal_of refusal)) × (new ≡ record old { fed = new.fed })

abbrev pub FeedsPart : ℕ → List ℕ → ControllerState → Result ℕ Refusal → ControllerState → Type 0
FeedsPart offset bytes old result new = (fed : Result (Unit {0}) PartRefusal) × Feeds offset bytes fed old.fed new.fed × TakesPart fed old result new

abbrev pub Sets : Phase → ℕ → List ℕ → ControllerState → Result ℕ Refusal → ControllerState → Type 0
Sets Running offset bytes old result new = Refuses NotSuspended old result new
Sets Suspended offset bytes old result new = FeedsPart offset bytes old result new
Sets Loading offset bytes old result new = FeedsPart offset bytes old result new

-- Get Controller State: the image of the controller's rings, from a byte on, as much as there is and was asked.
abbrev pub image_of : PairState → PairImage
image_of pair = record { sq = pair.sq; cq = pair.cq.ring; phase = pair.cq.phase }

abbrev pub state_bytes : ControllerState → List ℕ
state_bytes c = header (length c.pairs) ++ pairs_bytes 1 (map image_of c.pairs)

abbrev pub given : ℕ → ℕ → ControllerState → ℕ
given offset asked c = min asked (image_size (length c.pairs) - offset)

abbrev pub Gets : Phase → ℕ → ControllerState → List ℕ → Result ℕ Refusal → List ℕ → Type 0
Gets Running offset c bytes result new_bytes = (result ≡ Err NotSuspended) × (new_bytes ≡ bytes)
Gets Suspended offset c bytes result new_bytes = MatchBool (nat_le offset (image_size (length c.pairs)))
    ((result ≡ Ok (given offset (length bytes) c)) × (new_bytes ≡ take (given offset (length bytes) c) (drop offset (state_bytes c)) ++ drop (given offset (length bytes) c) bytes))
    ((result ≡ Err InvalidField) × (new_bytes ≡ bytes))
Gets Loading offset c bytes result new_bytes = (result ≡ Err BadSequence) × (new_bytes ≡ bytes)

-- Controller Data Queue: one queue, of the cells for which the controller was made. Its number is 1.
pub record IsCreated (old new : ControllerState) : Type 0 where
  pub empty : IsLog new.queue [] 0
  pub live : new.queue.live ≡ true
  pub unmarked : new.queue.marked ≡ false
  pub size : length new.queue.cells ≡ length old.queue.cells
  pub others : new ≡ record old { queue = new.queue }

abbrev pub Creates : ℕ → ControllerState → Result ℕ Refusal → ControllerState → Type 0
Creates cells old result new = MatchBool (not old.queue.live && (cells == length old.queue.cells)) ((result ≡ Ok 0) × IsCreated old new) (Refuses BadDataQueue old result new)

abbrev pub is_queue : ℕ → ControllerState → Bool
is_queue number c = c.queue.live && (number == 1)

-- Logging ends with the queue.
abbrev pub Deletes : ℕ → ControllerState → Result ℕ Refusal → ControllerState → Type 0
Deletes number old result new =
    MatchBool (is_queue number old) (Becomes (record old { queue = record old.queue { live = false }; logging = false }) result new) (Refuses BadDataQueue old result new)

-- Log User Data Changes.
abbrev pub Logs : Bool → ℕ → ControllerState → Result ℕ Refusal → ControllerState → Type 0
Logs false number old result new = Becomes (record old { logging = false }) result new
Logs true number old result new = MatchBool (is_queue number old)
    (MatchBool old.queue.marked (Refuses DataQueueFull old result new) (Becomes (record old { logging = true }) result new))
    (Refuses BadDataQueue old result new)

-- What a command does, and with the buffer that it came with. Memory isn't tracked yet.
abbrev pub Does : What → ControllerState → List ℕ → Result ℕ Refusal → ControllerState → List ℕ → Type 0
Does (what.LogUserData start queue) old bytes result new new_bytes = Logs start queue old result new × (new_bytes ≡ bytes)
Does (what.TrackMemory start) old bytes result new new_bytes = Refuses InvalidOpcode old result new × (new_bytes ≡ bytes)
Does (what.MemoryChanges max) old bytes result new new_bytes = Refuses InvalidOpcode old result new × (new_bytes ≡ bytes)
Does what.Suspend old bytes result new new_bytes = Suspends old.phase old result new × (new_bytes ≡ bytes)
Does what.Resume old bytes result new new_bytes = Resumes old.phase old result new × (new_bytes ≡ bytes)
Does (what.SetState offset length) old bytes result new new_bytes = Sets old.phase offset bytes old result new × (new_bytes ≡ bytes)
Does (what.GetState offset length) old bytes result new new_bytes = Gets old.phase offset old bytes result new_bytes × (new ≡ old)
Does (what.CreateQueue cells) old bytes result new new_bytes = Creates cells old result new × (new_bytes ≡ bytes)
Does (what.DeleteQueue queue) old bytes result new new_bytes = Deletes queue old result new × (new_bytes ≡ bytes)

-- what becomes of 64 bytes as they are read
abbrev pub DoesRead : Result AdminCmd AdminRefusal → ControllerState → List ℕ → Result ℕ Refusal → ControllerState → List ℕ → Type 0
DoesRead (Ok command) old bytes result new new_bytes = Does command.what old bytes result new new_bytes
DoesRead (Err refusal) old bytes result new new_bytes = Refuses (unread refusal) old result new × (new_bytes ≡ bytes)

-- The table: 64 bytes were read, and the command was done or refused.
pub record Answers (cmd : List ℕ) (old : ControllerState) (bytes : List ℕ) (cpl : AdminCpl) (new : ControllerState) (new_bytes : List ℕ) : Type 0 where
  pub read : Result AdminCmd AdminRefusal
  pub reads : Reads cmd read
  pub result : Result ℕ Refusal
  pub told : cpl ≡ completion_of result
  pub does : DoesRead read old bytes result new new_bytes

-- the buffer has the length that the command names
abbrev pub HasLength : What → ℕ → Type 0
HasLength (what.LogUserData start queue) n = Unit {0}
HasLength (what.TrackMemory start) n = Unit {0}
HasLength (what.MemoryChanges max) n = n ≡ 4 * max
HasLength what.Suspend n = Unit {0}
HasLength what.Resume n = Unit {0}
HasLength (what.SetState offset length) n = n ≡ length
HasLength (what.GetState offset length) n = n ≡ length
HasLength (what.CreateQueue cells) n = Unit {0}
HasLength (what.DeleteQueue queue) n = Unit {0}

abbrev pub FitsBuffer : List ℕ → ℕ → Type 0
FitsBuffer cmd n = (command : AdminCmd) → IsCommand command → command_bytes command ≡ cmd → HasLength command.what n

-- what every command keeps: as many pairs, the burst, and that no command is fetched
pub record IsKept (old new : ControllerState) : Type 0 where
  pub count : length new.pairs ≡ length old.pairs
  pub burst_is : new.burst ≡ old.burst
  pub between : All (λ p. p.commands ≡ []) new.pairs

-- what a command comes to: dword 0, or why it was refused
abbrev pub AdminResult : Type 0
AdminResult = Result ℕ Refusal
