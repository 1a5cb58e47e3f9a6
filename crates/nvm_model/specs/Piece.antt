use Rattle.std.specs.Prelude.{ℕ, ◌+◌, ◌-◌, ◌*◌, ◌/◌, ◌%◌, ◌<◌, max, min, suc, zero, Bool, ◌&&◌, ◌==◌, if◌then◌else◌, List, [], Option, Some, None, take, drop, slice_index, slice_index_or, slice_set}
use Rattle.std.specs.List.{flat_map}
use Rattle.sha2.specs.Sha256.{sha256}
use Rattle.mig_base.specs.declared.span.Span.{Span}
use Rattle.nvm_values.specs.Status.{StatusPair, success, write_fault, read_error, compare_failure}
use Rattle.nvm_values.specs.declared.op.Op.{Op}
use Rattle.nvm_values.specs.declared.op.Op.TheVariants.{Flush, Write, Read, Compare, WriteZeroes, Verify}
use Rattle.nvm_model.specs.declared.command.Command.{Command}
use Rattle.nvm_model.specs.declared.command.Outcome.{Outcome}
use Rattle.nvm_model.specs.declared.command.Outcome.TheVariants.{Done, Faulted, Differs}
use Rattle.nvm_model.specs.declared.command.Pages.{Pages}
use Rattle.nvm_model.specs.declared.command.Work.{Work}
use Rattle.nvm_model.specs.Memory.{page_at, with_bytes, zero_block}

-- The pieces of a command are its range of blocks cut at the bounds of shelves, and each piece has its effect.

-- how many shelves a range of blocks touches
abbrev pub piece_count : ℕ → Span → ℕ
piece_count shelf span = (span.first + span.count - 1) / shelf - span.first / shelf + 1

-- the part of the range that lies in the i-th of these shelves
abbrev pub piece_at : ℕ → Span → ℕ → Span
piece_at shelf span i =
    let first : ℕ = max span.first ((span.first / shelf + i) * shelf) in
    let end : ℕ = min (span.first + span.count) ((span.first / shelf + i + 1) * shelf) in
    record { first = first; count = end - first }

-- how many pieces a command has that aren't done
abbrev pub pieces_left : ℕ → Command → ℕ
pieces_left shelf command = left command.work
  where
    left : Option Work → ℕ
    left None = 0
    left (Some work) = piece_count shelf work.span - work.done

-- the data page that has block i of a command's data, and where in it the block stands
abbrev pub page_of : Pages → ℕ → ℕ
page_of pages i = slice_index pages.list (i / 8)

-- at byte 512 times i modulo 8
abbrev pub place_of : ℕ → ℕ
place_of i = 512 * (i % 8)

-- these 512 bytes
unfoldable pub data_block : List (List ℕ) → Pages → ℕ → List ℕ
data_block memory pages i = take 512 (drop (place_of i) (page_at memory (page_of pages i)))

-- block b of the namespace
abbrev pub block_at : List (List ℕ) → ℕ → List ℕ
block_at blocks b = slice_index_or blocks b []

-- the namespace after n blocks were put, from block first on
abbrev pub put_blocks : (ℕ → List ℕ) → ℕ → ℕ → List (List ℕ) → List (List ℕ)
put_blocks content first zero blocks = blocks
put_blocks content first (suc n) blocks = slice_set (put_blocks content first n blocks) (first + n) (content n)

-- the memory after n blocks were read, from block first on, into the data from block at on
abbrev pub read_blocks : List (List ℕ) → Pages → ℕ → ℕ → ℕ → List (List ℕ) → List (List ℕ)
read_blocks blocks pages first at zero memory = memory
read_blocks blocks pages first at (suc n) memory =
    with_bytes (read_blocks blocks pages first at n memory) (page_of pages (at + n)) (place_of (at + n)) (block_at blocks (first + n))

-- how many blocks of a piece were done
abbrev pub done_blocks : ℕ → Outcome → ℕ
done_blocks count Done = count
done_blocks count (Faulted at) = at
done_blocks count (Differs at) = at

-- which outcomes there may be, where same i says that block i equals its memory
abbrev pub ComparesTo : (ℕ → Type 0) → ℕ → Outcome → Type 0
ComparesTo same count Done = (i : ℕ) → i < count → same i
ComparesTo same count (Faulted at) = (at < count) × ((i : ℕ) → i < at → same i)
ComparesTo same count (Differs at) = (at < count) × ((i : ℕ) → i < at → same i) × (same at → ⊥)

-- another command is done, or stopped by a fault within the piece, and never differs
abbrev pub MovesTo : ℕ → Outcome → Type 0
MovesTo count Done = Unit {0}
MovesTo count (Faulted at) = at < count
MovesTo count (Differs at) = ⊥

-- the first for Compare, the second for Write, Read, Write Zeroes and Verify; no outcome fits a Flush, which has no
-- pieces
abbrev pub OutcomeFits : Op → (ℕ → Type 0) → ℕ → Outcome → Type 0
OutcomeFits Compare same count outcome = ComparesTo same count outcome
OutcomeFits Write same count outcome = MovesTo count outcome
OutcomeFits Read same count outcome = MovesTo count outcome
OutcomeFits WriteZeroes same count outcome = MovesTo count outcome
OutcomeFits Verify same count outcome = MovesTo count outcome
OutcomeFits Flush same count outcome = ⊥

-- The namespace, the memory and the digest after a piece of which n blocks were done. The piece's first block is block
-- first of the namespace and block at of the command's data.
abbrev pub blocks_after : Op → Pages → ℕ → ℕ → ℕ → List (List ℕ) → List (List ℕ) → List (List ℕ)
blocks_after Write pages first at n memory blocks = put_blocks (λ i. data_block memory pages (at + i)) first n blocks
blocks_after WriteZeroes pages first at n memory blocks = put_blocks (λ _. zero_block) first n blocks
blocks_after Read pages first at n memory blocks = blocks
blocks_after Compare pages first at n memory blocks = blocks
blocks_after Verify pages first at n memory blocks = blocks
blocks_after Flush pages first at n memory blocks = blocks

-- a Read writes its done blocks into the lane's data pages, and no other command changes them
abbrev pub memory_after : Op → Pages → ℕ → ℕ → ℕ → List (List ℕ) → List (List ℕ) → List (List ℕ)
memory_after Read pages first at n memory blocks = read_blocks blocks pages first at n memory
memory_after Write pages first at n memory blocks = memory
memory_after WriteZeroes pages first at n memory blocks = memory
memory_after Compare pages first at n memory blocks = memory
memory_after Verify pages first at n memory blocks = memory
memory_after Flush pages first at n memory blocks = memory

-- the bytes of n blocks, from block first on
abbrev pub bytes_of : ℕ → ℕ → List (List ℕ) → List ℕ
bytes_of first n blocks = flat_map (λ (block : List ℕ). block) (take n (drop first blocks))

-- for a Read the SHA-256 of its done blocks' bytes in order, and no digest for another command
abbrev pub digest_after : Op → ℕ → ℕ → List (List ℕ) → Option (List ℕ)
digest_after Read first n blocks = Some (sha256 (bytes_of first n blocks))
digest_after Write first n blocks = None
digest_after WriteZeroes first n blocks = None
digest_after Compare first n blocks = None
digest_after Verify first n blocks = None
digest_after Flush first n blocks = None

-- the status that a piece's outcome gives
abbrev pub outcome_status : Op → Outcome → StatusPair
outcome_status op Done = success
outcome_status op (Differs at) = compare_failure
outcome_status Write (Faulted at) = write_fault
outcome_status WriteZeroes (Faulted at) = write_fault
outcome_status Read (Faulted at) = read_error
outcome_status Compare (Faulted at) = read_error
outcome_status Verify (Faulted at) = read_error
outcome_status Flush (Faulted at) = success

-- type 0 and code 00h
abbrev pub is_success : StatusPair → Bool
is_success status = (status.0 == 0) && (status.1 == 0)

-- a command keeps its first failure
abbrev pub join_status : StatusPair → Op → Outcome → StatusPair
join_status so_far op outcome = if is_success so_far then outcome_status op outcome else so_far

-- a command after its next piece
abbrev pub after_piece : Command → Work → Outcome → Command
after_piece command work outcome = record { cid = command.cid; status = join_status command.status work.op outcome; work = Some (record work { done = work.done + 1 }) }
