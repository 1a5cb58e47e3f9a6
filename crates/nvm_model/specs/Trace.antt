use Rattle.std.specs.Prelude.{◌≡◌, ℕ, ◌+◌, ◌<◌, true, false, List, [], ◌∷◌, ◌++◌, length}
use Rattle.nvm_values.specs.declared.op.Op.{Op}
use Rattle.nvm_values.specs.declared.op.Op.TheVariants.{Flush, Write, Read, Compare, WriteZeroes, Verify}
use Rattle.nvm_model.specs.declared.command.Outcome.{Outcome}
use Rattle.nvm_model.specs.declared.command.Outcome.TheVariants.{Done, Faulted, Differs}
use Rattle.nvm_model.specs.declared.command.Pages.{Pages}
use Rattle.nvm_model.specs.declared.piece.Piece.{Piece}
use Rattle.nvm_model.specs.declared.piece.PieceResult.{PieceResult}
use Rattle.nvm_model.specs.declared.trace.Step.{Step}
use Rattle.nvm_model.specs.declared.trace.Step.TheVariants.{Get, Put}
use Rattle.nvm_model.specs.Chain.{Chain}
use Rattle.nvm_model.specs.Medium.{Effect}
use Rattle.nvm_model.specs.declared.trace.Call.{Call}
use Rattle.nvm_model.specs.Memory.{zero_block}
use Rattle.nvm_model.specs.Piece.{OutcomeFits, block_at, data_block, digest_after, done_blocks, memory_after}
use Rattle.nvm_model.specs.Shelf.{HasEffect, digest_bytes}

-- A piece as the calls that it makes of its medium, with their bytes.

-- the step that a command makes for a block; a Flush has no pieces
abbrev pub step_of : Op → ℕ → Step
step_of Write b = Put b
step_of WriteZeroes b = Put b
step_of Read b = Get b
step_of Compare b = Get b
step_of Verify b = Get b
step_of Flush b = Get b

-- a call for each of these blocks, ascending from block first on, of which none failed
abbrev pub good_calls : (ℕ → Step) → ℕ → List (List ℕ) → List Call
good_calls step first [] = []
good_calls step first (bytes ∷ moved) = record { step = step first; bytes = bytes; failed = false } ∷ good_calls step (first + 1) moved

-- what a piece sends for block j of its command's data; one that gets sends nothing
abbrev pub data_sent : Op → Pages → List (List ℕ) → ℕ → List ℕ
data_sent Write pages memory j = data_block memory pages j
data_sent WriteZeroes pages memory j = zero_block
data_sent Read pages memory j = []
data_sent Compare pages memory j = []
data_sent Verify pages memory j = []
data_sent Flush pages memory j = []

-- A call for each block that was moved, ascending from block first of the medium on, and the one that failed where the
-- piece stopped with a fault.
abbrev pub piece_calls : Piece → ℕ → List (List ℕ) → List (List ℕ) → Outcome → List Call
piece_calls piece first memory moved outcome = good_calls (step_of piece.op) first moved ++ last outcome
  where
    last : Outcome → List Call
    last Done = []
    last (Differs at) = []
    last (Faulted at) = record { step = step_of piece.op (first + at); bytes = data_sent piece.op piece.pages memory (piece.at + at); failed = true } ∷ []

-- how many blocks were moved; the one that differs was
abbrev pub moved_count : ℕ → Outcome → ℕ
moved_count count Done = count
moved_count count (Faulted at) = at
moved_count count (Differs at) = at + 1

-- each of the blocks that were moved is the one that is due in its place
abbrev pub AreDue : (ℕ → List ℕ) → List (List ℕ) → Type 0
AreDue due moved = (i : ℕ) → i < length moved → block_at moved i ≡ due i

-- what was put is the piece's data
abbrev pub Carries : Op → Pages → ℕ → List (List ℕ) → List (List ℕ) → Type 0
Carries Write pages at memory moved = AreDue (λ i. data_block memory pages (at + i)) moved
Carries WriteZeroes pages at memory moved = AreDue (λ _. zero_block) moved
Carries Read pages at memory moved = Unit {0}
Carries Compare pages at memory moved = Unit {0}
Carries Verify pages at memory moved = Unit {0}
Carries Flush pages at memory moved = Unit {0}

-- What a piece comes to, by the blocks that were moved: its result, and its lane's data pages after it. It names no
-- medium.
pub record IsPieceDone (piece : Piece) (moved : List (List ℕ)) (result : PieceResult) (memory new_memory : List (List ℕ)) : Type 0 where
  pub count : length moved ≡ moved_count piece.span.count result.outcome
  pub carries : Carries piece.op piece.pages piece.at memory moved
  pub fits : OutcomeFits piece.op (λ i. block_at moved i ≡ data_block memory piece.pages (piece.at + i)) piece.span.count result.outcome
  pub digest_is : result.digest ≡ digest_bytes (digest_after piece.op 0 (done_blocks piece.span.count result.outcome) moved)
  pub memory_is : new_memory ≡ memory_after piece.op piece.pages 0 piece.at (done_blocks piece.span.count result.outcome) memory moved

-- where a piece's calls were made on blocks, and it came to what was moved, it had its effect on them
abbrev pub PieceCallsHaveEffect : Type 0
PieceCallsHaveEffect =
    (piece : Piece) (first : ℕ) (moved : List (List ℕ)) (result : PieceResult) (memory new_memory blocks new_blocks : List (List ℕ)) →
    IsPieceDone piece moved result memory new_memory → Chain Effect blocks (piece_calls piece first memory moved result.outcome) new_blocks →
    HasEffect piece first result blocks memory new_blocks new_memory
