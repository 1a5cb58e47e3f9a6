use Rattle.std.specs.Prelude.{ℕ, zero, suc, ◌+◌, ◌-◌, ◌*◌, ◌/◌, ◌%◌, Bool, false, not, ◌&&◌, ◌||◌, ◌==◌, nat_lt, nat_le, if◌then◌else◌, List, [], ◌∷◌, ◌++◌, Option, Some, None, Result, Ok, Err, is_err, is_none, length, map, take, drop, replicate}
use Rattle.std.specs.List.{list_any}
use Rattle.std.specs.Int.{w64, from_le_bytes}
use Rattle.nvm_values.specs.declared.sqe.Sqe.{Sqe}
use Rattle.nvm_values.specs.declared.op.Op.{Op}
use Rattle.nvm_values.specs.Op.{op_of, moves_data}
use Rattle.nvm_values.specs.Sqe.{fuse_of, psdt_of, slba_of, count_of}
use Rattle.nvm_values.specs.Status.{StatusPair, success, invalid_opcode, invalid_field, id_conflict, invalid_namespace, out_of_range}
use Rattle.nvm_model.specs.declared.command.Command.{Command}
use Rattle.nvm_model.specs.declared.command.Pages.{Pages}
use Rattle.nvm_model.specs.declared.command.Work.{Work}
use Rattle.nvm_model.specs.Memory.{window_address, page_at}

-- A command is checked when it is fetched, by eight tests in this order. The first that holds decides its status, and
-- the command has no pieces then. (Fields and statuses: Base 2.1 and NVM Command Set. The order is this project's.)

-- fused operations and scatter gather lists aren't served
abbrev pub has_attributes : Sqe → Bool
has_attributes e = not (fuse_of e == 0) || not (psdt_of e == 0)

-- the identifier is one of these
abbrev pub is_busy : ℕ → List ℕ → Bool
is_busy cid busy = list_any (λ (n : ℕ). n == cid) busy

-- the identifiers of commands
abbrev pub identifiers : List Command → List ℕ
identifiers running = map (λ (c : Command). c.cid) running

-- the identifier is that of a command of the same lane that was fetched and isn't posted
abbrev pub is_in_use : ℕ → List Command → Bool
is_in_use cid running = is_busy cid (identifiers running)

-- the opcode is none of the six
abbrev pub is_unknown : Sqe → Bool
is_unknown e = is_none (op_of e.opcode)

-- opcode 00h
abbrev pub is_flush : Sqe → Bool
is_flush e = e.opcode == 0x00

-- the one namespace is 1; a Flush may name all of them
abbrev pub has_other_namespace : Sqe → Bool
has_other_namespace e = not (e.nsid == 1) && not (is_flush e && (e.nsid == 0xffffffff))

-- the largest transfer is 64 blocks
abbrev pub is_too_long : Sqe → Bool
is_too_long e = nat_lt 64 (count_of e)

-- the first block plus the number of blocks is above the namespace's blocks
abbrev pub is_out_of_range : ℕ → Sqe → Bool
is_out_of_range blocks e = nat_lt blocks (slba_of e + count_of e)

-- the opcode is known, and its command moves data
abbrev pub needs_pages : Option Op → Bool
needs_pages None = false
needs_pages (Some op) = moves_data op

-- the data page, of so many, whose address a pointer is: no offset, inside the lane's window
abbrev pub is_page : ℕ → ℕ → ℕ → Bool
is_page lane count pointer =
    nat_le (window_address lane + 8192) pointer && (((pointer % 4096) == 0) && nat_lt (pointer - window_address lane) ((count + 2) * 4096))

-- the number of the data page that a pointer names, if it names one
abbrev pub page_named : ℕ → ℕ → ℕ → Option ℕ
page_named lane count pointer = if is_page lane count pointer then Some ((pointer - window_address lane) / 4096 - 2) else None

-- the pages that pointers name, or the place of the first pointer that names none; the first of them has place i
abbrev pub with_page : ℕ → Option ℕ → Result (List ℕ) ℕ → Result (List ℕ) ℕ
with_page i None others = Err i
with_page i (Some page) (Ok pages) = Ok (page ∷ pages)
with_page i (Some page) (Err place) = Err place

-- the same of pointers from the first on
abbrev pub all_named : ℕ → ℕ → ℕ → List ℕ → Result (List ℕ) ℕ
all_named lane count i [] = Ok []
all_named lane count i (pointer ∷ pointers) = with_page i (page_named lane count pointer) (all_named lane count (i + 1) pointers)

-- the i-th pointer of a list page
abbrev pub list_entry : List ℕ → ℕ → ℕ
list_entry page i = from_le_bytes w64 (take 8 (drop (8 * i) page))

-- n pointers of a list page, from entry i on
abbrev pub list_entries : List ℕ → ℕ → ℕ → List ℕ
list_entries page i zero = []
list_entries page i (suc n) = list_entry page i ∷ list_entries page (i + 1) n

-- the pages behind a list page, which has place 8 where it is bad itself
abbrev pub listed : ℕ → List (List ℕ) → ℕ → Option ℕ → Result (List ℕ) ℕ
listed lane memory n None = Err 8
listed lane memory n (Some page) = all_named lane (length memory) 1 (list_entries (page_at memory page) 0 n)

-- The pages of count blocks, eight to a page: one page is named by PRP1; of two, the second by PRP2; of more, PRP2
-- names a list page, whose entries name the others. (Base 2.1, physical region pages; offsets and more than one list
-- page aren't served.)
abbrev pub pages_needed : ℕ → ℕ
pages_needed count = (count + 7) / 8

-- the pages of a command's data; the first bad pointer is told: page 0, then the list page, then the entries
abbrev pub pages_named : ℕ → List (List ℕ) → ℕ → ℕ → ℕ → Result (List ℕ) ℕ
pages_named lane memory prp1 prp2 count =
    if nat_le (pages_needed count) 2 then all_named lane (length memory) 0 (take (pages_needed count) (prp1 ∷ prp2 ∷ []))
    else with_page 0 (page_named lane (length memory) prp1) (listed lane memory (pages_needed count - 1) (page_named lane (length memory) prp2))

-- it moves data, and a pointer of it names no data page
abbrev pub has_bad_pages : ℕ → List (List ℕ) → Sqe → Bool
has_bad_pages lane memory e = needs_pages (op_of e.opcode) && is_err (pages_named lane memory e.prp1 e.prp2 (count_of e))

-- the status of the first test that holds, if one does
abbrev pub first_holding : List (Bool × StatusPair) → Option StatusPair
first_holding [] = None
first_holding (test ∷ tests) = if test.0 then Some test.1 else first_holding tests

-- the status of an entry, if a test decides it, where these identifiers are in use
unfoldable pub verdict : ℕ → ℕ → List (List ℕ) → List ℕ → Sqe → Option StatusPair
verdict blocks lane memory busy e = first_holding (
    (has_attributes e, invalid_field)
    ∷ (is_busy e.cid busy, id_conflict)
    ∷ (is_unknown e, invalid_opcode)
    ∷ (has_other_namespace e, invalid_namespace)
    ∷ (is_flush e, success)
    ∷ (is_too_long e, invalid_field)
    ∷ (is_out_of_range blocks e, out_of_range)
    ∷ (has_bad_pages lane memory e, invalid_field)
    ∷ [])

-- the same where the lane's running commands say which identifiers are in use
abbrev pub decision : ℕ → ℕ → List (List ℕ) → List Command → Sqe → Option StatusPair
decision blocks lane memory running e = verdict blocks lane memory (identifiers running) e

-- a list of pages as a command keeps it
abbrev pub as_pages : Result (List ℕ) ℕ → Pages
as_pages (Ok pages) = record { list = pages ++ replicate (8 - length pages) 0; used = length pages }
as_pages (Err place) = record { list = replicate 8 0; used = 0 }

-- the work of a command that passed
abbrev pub work_of : ℕ → List (List ℕ) → Sqe → Op → Work
work_of lane memory e op = record {
  op = op;
  span = record { first = slba_of e; count = count_of e };
  pages = if moves_data op then as_pages (pages_named lane memory e.prp1 e.prp2 (count_of e)) else as_pages (Ok []);
  done = 0;
}

-- a command that passed, none of whose pieces is done
abbrev pub opened : ℕ → List (List ℕ) → Sqe → Option Op → Option Work
opened lane memory e None = None
opened lane memory e (Some op) = Some (work_of lane memory e op)

-- the command that a fetch of the entry makes
abbrev pub fetched_command : Option StatusPair → ℕ → List (List ℕ) → Sqe → Command
fetched_command (Some status) lane memory e = record { cid = e.cid; status = status; work = None }
fetched_command None lane memory e = record { cid = e.cid; status = success; work = opened lane memory e (op_of e.opcode) }

-- the command that a fetch of an entry makes; its pages are found then, so a later change of the list page has no
-- effect
abbrev pub checked_command : ℕ → ℕ → List (List ℕ) → List Command → Sqe → Command
checked_command blocks lane memory running e = fetched_command (decision blocks lane memory running e) lane memory e
