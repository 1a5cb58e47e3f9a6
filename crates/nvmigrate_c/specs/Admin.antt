use Rattle.std.specs.Prelude.{ℕ, ◌==◌, Option, Some, None, Result, Ok, Err, cond, if◌then◌else◌, nat_le}
use Rattle.adm_values.specs.declared.command.AdminCmd.{AdminCmd}
use Rattle.adm_values.specs.declared.command.What.{What}
use Rattle.adm_values.specs.declared.command.What.TheVariants.{LogUserData, TrackMemory, MemoryChanges, Suspend, Resume, SetState, GetState, CreateQueue, DeleteQueue}
use Rattle.adm_values.specs.declared.kind.AdminRefusal.{AdminRefusal}
use Rattle.adm_values.specs.declared.kind.AdminRefusal.TheVariants.{BadOpcode, BadSelect, BadField}
use Rattle.nvmigrate_c.specs.declared.admin.Command.{Command}

-- What C's struct of an admin command says, by the number of what it asks for; of a number or a flag that is none,
-- nothing.

abbrev pub what_in : Command → Option What
what_in c =
    if c.what == 0 then (if nat_le c.start 1 then Some (LogUserData (c.start == 1) c.queue) else None) else (
    if c.what == 1 then (if nat_le c.start 1 then Some (TrackMemory (c.start == 1)) else None) else (
    if c.what == 2 then Some (MemoryChanges c.max) else (
    if c.what == 3 then Some Suspend else (
    if c.what == 4 then Some Resume else (
    if c.what == 5 then Some (SetState c.offset c.length) else (
    if c.what == 6 then Some (GetState c.offset c.length) else (
    if c.what == 7 then Some (CreateQueue c.cells) else (
    if c.what == 8 then Some (DeleteQueue c.queue) else None))))))))

abbrev pub with_cid : ℕ → Option What → Option AdminCmd
with_cid cid None = None
with_cid cid (Some what) = Some (record { cid = cid; what = what })

abbrev pub command_in : Command → Option AdminCmd
command_in c = with_cid c.cid (what_in c)

-- a command as C's struct: the numbers that it hasn't are zeroes
abbrev pub asked_as : ℕ → What → Command
asked_as cid (LogUserData start queue) = record { cid = cid; what = 0; start = cond start 1 0; queue = queue; max = 0; offset = 0; length = 0; cells = 0 }
asked_as cid (TrackMemory start) = record { cid = cid; what = 1; start = cond start 1 0; queue = 0; max = 0; offset = 0; length = 0; cells = 0 }
asked_as cid (MemoryChanges max) = record { cid = cid; what = 2; start = 0; queue = 0; max = max; offset = 0; length = 0; cells = 0 }
asked_as cid Suspend = record { cid = cid; what = 3; start = 0; queue = 0; max = 0; offset = 0; length = 0; cells = 0 }
asked_as cid Resume = record { cid = cid; what = 4; start = 0; queue = 0; max = 0; offset = 0; length = 0; cells = 0 }
asked_as cid (SetState offset length) = record { cid = cid; what = 5; start = 0; queue = 0; max = 0; offset = offset; length = length; cells = 0 }
asked_as cid (GetState offset length) = record { cid = cid; what = 6; start = 0; queue = 0; max = 0; offset = offset; length = length; cells = 0 }
asked_as cid (CreateQueue cells) = record { cid = cid; what = 7; start = 0; queue = 0; max = 0; offset = 0; length = 0; cells = cells }
asked_as cid (DeleteQueue queue) = record { cid = cid; what = 8; start = 0; queue = queue; max = 0; offset = 0; length = 0; cells = 0 }

abbrev pub command_of : AdminCmd → Command
command_of c = asked_as c.cid c.what

abbrev pub as_read : Option AdminCmd → Option (Result AdminCmd AdminRefusal)
as_read None = None
as_read (Some command) = Some (Ok command)

-- What a code tells of bytes that are read: a command, or why they are none. Another code is no answer.
abbrev pub read_told : ℕ → Option AdminCmd → ℕ → Option (Result AdminCmd AdminRefusal)
read_told code command place =
    if code == 0 then as_read command else (
    if code == 6 then Some (Err BadOpcode) else (
    if code == 7 then Some (Err BadSelect) else (
    if code == 5 then Some (Err (BadField place)) else None)))
