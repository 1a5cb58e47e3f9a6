use Rattle.std.specs.Prelude.{◌≡◌, ℕ, ◌+◌, ◌*◌, ◌<◌, ◌≤◌, ◌==◌, Bool, List, Option, Some, None, Result, Ok, Err, cond, if◌then◌else◌, nat_le, nat_lt, slice_index}
use Rattle.std.specs.Int.{w32, to_le_bytes}
use Rattle.nvm_values.specs.Sqe.{number_at}
use Rattle.adm_values.specs.declared.command.What.{What}
use Rattle.adm_values.specs.declared.command.What.TheVariants as what
use Rattle.adm_values.specs.declared.kind.AdminRefusal.{AdminRefusal}
use Rattle.adm_values.specs.declared.kind.AdminRefusal.TheVariants.{BadOpcode, BadSelect}
use Rattle.adm_values.specs.declared.kind.Kind.{Kind}
use Rattle.adm_values.specs.Command.{IsFirstBad}
use Rattle.adm_values.specs.declared.kind.Kind.TheVariants.{LogUserData, TrackMemory, MemoryChanges, Suspend, Resume, SetState, GetState, CreateQueue, DeleteQueue}

-- Inside the crate: commands without their numbers, and what their dwords may hold.

abbrev pub kind_of : What → Kind
kind_of (what.LogUserData start queue) = LogUserData
kind_of (what.TrackMemory start) = TrackMemory
kind_of (what.MemoryChanges max) = MemoryChanges
kind_of what.Suspend = Suspend
kind_of what.Resume = Resume
kind_of (what.SetState offset length) = SetState
kind_of (what.GetState offset length) = GetState
kind_of (what.CreateQueue cells) = CreateQueue
kind_of (what.DeleteQueue queue) = DeleteQueue

-- that of an opcode and a selector
abbrev pub kind_at : ℕ → ℕ → Result Kind AdminRefusal
kind_at opcode select =
    if opcode == 0x3d then (if select == 0 then Ok LogUserData else (if select == 1 then Ok TrackMemory else Err BadSelect)) else (
    if opcode == 0x3e then (if select == 0 then Ok MemoryChanges else Err BadSelect) else (
    if opcode == 0x41 then (if select == 0 then Ok Suspend else (if select == 1 then Ok Resume else (if select == 2 then Ok SetState else Err BadSelect))) else (
    if opcode == 0x42 then (if select == 0 then Ok GetState else Err BadSelect) else (
    if opcode == 0x45 then (if select == 0 then Ok CreateQueue else (if select == 1 then Ok DeleteQueue else Err BadSelect)) else Err BadOpcode))))

abbrev pub selector : Kind → ℕ
selector LogUserData = 0
selector TrackMemory = 1
selector MemoryChanges = 0
selector Suspend = 0
selector Resume = 1
selector SetState = 2
selector GetState = 0
selector CreateQueue = 0
selector DeleteQueue = 1

-- What a dword may hold.

-- the least number and the greatest
abbrev pub LimitPair : Type 0
LimitPair = ℕ × ℕ

abbrev pub IsWithin : LimitPair → ℕ → Type 0
IsWithin limits x = (limits.0 ≤ x) × (x ≤ limits.1)

pub record IsLimits (limits : LimitPair) : Type 0 where
  pub low : limits.0 ≤ 255
  pub some : limits.0 ≤ limits.1
  pub high : limits.1 < 4294967296

abbrev pub only : ℕ → LimitPair
only x = (x, x)

abbrev pub limits_11 : Kind → LimitPair
limits_11 LogUserData = (0, 1)
limits_11 TrackMemory = (0, 1)
limits_11 MemoryChanges = (1, 2064)
limits_11 Suspend = only 0
limits_11 Resume = only 0
limits_11 SetState = (0, 4294967295)
limits_11 GetState = (0, 4294967295)
limits_11 CreateQueue = (2, 65536)
limits_11 DeleteQueue = (0, 65535)

abbrev pub limits_12 : Kind → LimitPair
limits_12 LogUserData = (0, 65535)
limits_12 TrackMemory = only 0
limits_12 MemoryChanges = only 0
limits_12 Suspend = only 0
limits_12 Resume = only 0
limits_12 SetState = (1, 4096)
limits_12 GetState = (1, 4096)
limits_12 CreateQueue = only 0
limits_12 DeleteQueue = only 0

abbrev pub limits_of : Kind → ℕ → LimitPair
limits_of kind dword = if dword == 10 then only (selector kind) else (if dword == 11 then limits_11 kind else (if dword == 12 then limits_12 kind else only 0))

-- the command with these numbers
abbrev pub what_of : Kind → ℕ → ℕ → What
what_of LogUserData first second = what.LogUserData (first == 1) second
what_of TrackMemory first second = what.TrackMemory (first == 1)
what_of MemoryChanges first second = what.MemoryChanges first
what_of Suspend first second = what.Suspend
what_of Resume first second = what.Resume
what_of SetState first second = what.SetState first second
what_of GetState first second = what.GetState first second
what_of CreateQueue first second = what.CreateQueue first
what_of DeleteQueue first second = what.DeleteQueue first

-- a number within the limits has these low bytes, of which there are `size` many
abbrev pub may_begin : LimitPair → ℕ → ℕ → Bool
may_begin limits low_bytes size = nat_le (cond (nat_lt low_bytes limits.0) (low_bytes + size) low_bytes) limits.1

-- the first bytes of two numbers are the same
abbrev pub HaveSame : ℕ → ℕ → ℕ → Type 0
HaveSame count x y = (i : ℕ) → i < count → slice_index (to_le_bytes w32 x) i ≡ slice_index (to_le_bytes w32 y) i

-- the first byte of a number such that none within the limits has the same bytes up to it
abbrev pub FirstBadByte : LimitPair → ℕ → Option ℕ → Type 0
FirstBadByte limits x None = IsWithin limits x
FirstBadByte limits x (Some byte) = (byte < 4) × ((y : ℕ) × IsWithin limits y × HaveSame byte y x)
    × ((y : ℕ) → IsWithin limits y → HaveSame (byte + 1) y x → ⊥)

-- the dword of bytes
abbrev pub dword_at : List ℕ → ℕ → ℕ
dword_at bytes dword = number_at w32 (4 * dword) bytes

-- each dword before that one is right, and byte 1
pub record IsRightTo (kind : Kind) (bytes : List ℕ) (end : ℕ) : Type 0 where
  pub flags : slice_index bytes 1 ≡ 0
  pub dwords : (d : ℕ) → 1 ≤ d → d < end → IsWithin (limits_of kind d) (dword_at bytes d)

-- where bytes with the opcode and the selector of that kind are no command
abbrev pub IsFirstBadOf : Kind → List ℕ → Option ℕ → Type 0
IsFirstBadOf kind bytes None = IsRightTo kind bytes 16
IsFirstBadOf kind bytes (Some place) = IsFirstBad bytes place
