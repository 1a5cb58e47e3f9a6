use Rattle.std.specs.Prelude.{◌≡◌, ◌≢◌, ℕ, ◌+◌, ◌<◌, ◌≤◌, ◌^◌, List, Result, Ok, Err, cond, slice_index}
use Rattle.nvm_values.specs.declared.sqe.Sqe.{Sqe}
use Rattle.nvm_values.specs.Sqe.{sqe_bytes}
use Rattle.adm_values.specs.declared.command.AdminCmd.{AdminCmd}
use Rattle.adm_values.specs.declared.command.What.{What}
use Rattle.adm_values.specs.declared.command.What.TheVariants.{LogUserData, TrackMemory, MemoryChanges, Suspend, Resume, SetState, GetState, CreateQueue, DeleteQueue}
use Rattle.adm_values.specs.declared.kind.AdminRefusal.{AdminRefusal}
use Rattle.adm_values.specs.declared.kind.AdminRefusal.TheVariants.{BadOpcode, BadSelect, BadField}

-- The layout of a command. (Base 2.1, common command format; Track Send, Track Receive, Migration Send, Migration Receive
-- and Controller Data Queue commands, whose profile this is.)

abbrev pub opcode_of : What → ℕ
opcode_of (LogUserData start queue) = 0x3d
opcode_of (TrackMemory start) = 0x3d
opcode_of (MemoryChanges max) = 0x3e
opcode_of Suspend = 0x41
opcode_of Resume = 0x41
opcode_of (SetState offset length) = 0x41
opcode_of (GetState offset length) = 0x42
opcode_of (CreateQueue cells) = 0x45
opcode_of (DeleteQueue queue) = 0x45

-- the selector tells apart the commands of an opcode
abbrev pub select_of : What → ℕ
select_of (LogUserData start queue) = 0
select_of (TrackMemory start) = 1
select_of (MemoryChanges max) = 0
select_of Suspend = 0
select_of Resume = 1
select_of (SetState offset length) = 2
select_of (GetState offset length) = 0
select_of (CreateQueue cells) = 0
select_of (DeleteQueue queue) = 1

abbrev pub dword_11 : What → ℕ
dword_11 (LogUserData start queue) = cond start 1 0
dword_11 (TrackMemory start) = cond start 1 0
dword_11 (MemoryChanges max) = max
dword_11 Suspend = 0
dword_11 Resume = 0
dword_11 (SetState offset length) = offset
dword_11 (GetState offset length) = offset
dword_11 (CreateQueue cells) = cells
dword_11 (DeleteQueue queue) = queue

abbrev pub dword_12 : What → ℕ
dword_12 (LogUserData start queue) = queue
dword_12 (TrackMemory start) = 0
dword_12 (MemoryChanges max) = 0
dword_12 Suspend = 0
dword_12 Resume = 0
dword_12 (SetState offset length) = length
dword_12 (GetState offset length) = length
dword_12 (CreateQueue cells) = 0
dword_12 (DeleteQueue queue) = 0

-- A command as a submission entry: the opcode, the identifier, the selector in dword 10, the two numbers in dwords 11 and
-- 12, and zeroes elsewhere.
abbrev pub entry_of : AdminCmd → Sqe
entry_of c = record {
  opcode = opcode_of c.what;
  flags = 0;
  cid = c.cid;
  nsid = 0;
  cdw2 = 0;
  cdw3 = 0;
  mptr = 0;
  prp1 = 0;
  prp2 = 0;
  cdw10 = select_of c.what;
  cdw11 = dword_11 c.what;
  cdw12 = dword_12 c.what;
  cdw13 = 0;
  cdw14 = 0;
  cdw15 = 0;
}

-- its 64 bytes, every number little-endian
abbrev pub command_bytes : AdminCmd → List ℕ
command_bytes c = sqe_bytes (entry_of c)

-- the numbers that a command may have
abbrev pub IsInRange : What → Type 0
IsInRange (LogUserData start queue) = queue < 2 ^ 16
IsInRange (TrackMemory start) = Unit {0}
IsInRange (MemoryChanges max) = (1 ≤ max) × (max ≤ 2064)
IsInRange Suspend = Unit {0}
IsInRange Resume = Unit {0}
IsInRange (SetState offset length) = (offset < 2 ^ 32) × (1 ≤ length) × (length ≤ 4096)
IsInRange (GetState offset length) = (offset < 2 ^ 32) × (1 ≤ length) × (length ≤ 4096)
IsInRange (CreateQueue cells) = (2 ≤ cells) × (cells ≤ 65536)
IsInRange (DeleteQueue queue) = queue < 2 ^ 16

pub record IsCommand (c : AdminCmd) : Type 0 where
  pub cid : c.cid < 2 ^ 16
  pub numbers : IsInRange c.what

-- a command with the opcode and the selector of these bytes has the same bytes at every place before `end`
pub record GoesOn (bytes : List ℕ) (end : ℕ) : Type 0 where
  pub command : AdminCmd
  pub is : IsCommand command
  pub opcode : opcode_of command.what ≡ slice_index bytes 0
  pub selector : select_of command.what ≡ slice_index bytes 40
  pub same : (i : ℕ) → i < end → slice_index (command_bytes command) i ≡ slice_index bytes i

-- one has at every place before this one, and none up to it
pub record IsFirstBad (bytes : List ℕ) (place : ℕ) : Type 0 where
  pub there : place < 64
  pub before : GoesOn bytes place
  pub no_more : GoesOn bytes (place + 1) → ⊥

-- what 64 bytes are read as
abbrev pub Reads : List ℕ → Result AdminCmd AdminRefusal → Type 0
Reads bytes (Ok c) = IsCommand c × (command_bytes c ≡ bytes)
Reads bytes (Err BadOpcode) = (what : What) → opcode_of what ≢ slice_index bytes 0
Reads bytes (Err BadSelect) = ((what : What) × (opcode_of what ≡ slice_index bytes 0))
    × ((what : What) → opcode_of what ≡ slice_index bytes 0 → select_of what ≢ slice_index bytes 40)
Reads bytes (Err (BadField place)) = IsFirstBad bytes place
