use Rattle.std.specs.Prelude.{◌≡◌, ℕ, ◌+◌, ◌/◌, ◌^◌, ◌<◌, ◌≤◌, Bool, List, Option, IfSome, IsTrue, length, take}
use Rattle.nvm_values.specs.declared.op.Op.{Op}
use Rattle.nvm_values.specs.declared.op.Op.TheVariants.{Flush}
use Rattle.nvm_values.specs.Op.{moves_data}
use Rattle.nvm_model.specs.declared.command.Outcome.{Outcome}
use Rattle.nvm_model.specs.declared.command.Pages.{Pages}
use Rattle.nvm_model.specs.declared.piece.Piece.{Piece}
use Rattle.nvm_model.specs.declared.piece.PieceResult.{PieceResult}
use Rattle.nvm_model.specs.declared.trace.Step.{Step}
use Rattle.nvm_model.specs.Chain.{Chain}
use Rattle.nvm_model.specs.Medium.{IsMade, MediumState, StayTold}
use Rattle.nvm_model.specs.Piece.{page_of}
use Rattle.nvm_model.specs.Shelf.{HasEffect, LiesIn, no_digest}
use Rattle.nvm_model.specs.Trace.{IsPieceDone, good_calls, piece_calls, step_of}
use Rattle.guest_ram.specs.Window.{WindowState}

-- What a piece needs.

-- block j of a command's data stands in one of the data pages, so many, that the command names
abbrev pub HasPage : Pages → ℕ → ℕ → Type 0
HasPage pages count j = (j / 8 < pages.used) × (j / 8 < 8) × (page_of pages j < count)

-- a window of so many data pages has those that the blocks of the piece need; only Write, Read and Compare need any
abbrev pub HasDataPages : Piece → ℕ → Type 0
HasDataPages piece count = (i : ℕ) → i < piece.span.count → HasPage piece.pages count (piece.at + i)

abbrev pub HasPages : Piece → ℕ → Type 0
HasPages piece count = IsTrue (moves_data piece.op) → HasDataPages piece count

-- A piece for a shelf of so many blocks that begins at block first, and for a window of so many data pages: it has from 1
-- to 64 blocks, all in the shelf, and isn't a Flush.
pub record IsForShelf (first size pages : ℕ) (piece : Piece) : Type 0 where
  pub op : piece.op ≡ Flush → ⊥
  pub some : 1 ≤ piece.span.count
  pub few : piece.span.count ≤ 64
  pub within : LiesIn first size piece.span
  pub has_pages : HasPages piece pages

-- so many blocks from block first on are a medium's, and have numbers of 32 bits
abbrev pub HasBlocks : {I : Type 0} → ℕ → ℕ → MediumState I → Type 0
HasBlocks first count medium = (first + count ≤ medium.size) × (medium.size < 2 ^ 32)

-- What it does.

-- nothing of a window but its data pages may have changed
pub record IsSameButData (w new : WindowState) : Type 0 where
  pub lane : new.lane ≡ w.lane
  pub count : length new.pages ≡ length w.pages
  pub rings : take 2 new.pages ≡ take 2 w.pages

-- a piece was done on a medium by its calls, and by no other
pub record HasApplied {M I : Type 0} (state : M → MediumState I) (moves : I → Step → Bool → I → Type 0) (piece : Piece) (first : ℕ) (result : PieceResult) (medium : M) (memory : List (List ℕ)) (new : M) (new_memory : List (List ℕ)) : Type 0 where
  pub moved : List (List ℕ)
  pub done : IsPieceDone piece moved result memory new_memory
  pub calls : Chain (IsMade state moves) medium (piece_calls piece first memory moved result.outcome) new

-- the effect where the blocks are told, and whether they are never changes
abbrev pub HasToldEffect : Piece → ℕ → PieceResult → Option (List (List ℕ)) → List (List ℕ) → Option (List (List ℕ)) → List (List ℕ) → Type 0
HasToldEffect piece first result told memory new_told new_memory =
    StayTold (λ blocks new_blocks. HasEffect piece first result blocks memory new_blocks new_memory) told new_told

-- a medium tells as many blocks as it has
abbrev pub IsSized : Option (List (List ℕ)) → ℕ → Type 0
IsSized told size = IfSome told (λ (blocks : List (List ℕ)). length blocks ≡ size)

-- Below, the parts of a piece's work.

-- a result without a digest
abbrev pub plain : Outcome → PieceResult
plain outcome = record { outcome = outcome; digest = no_digest }

-- so many blocks were moved, a call for each and no other, and this is true of them
pub record HasMoved {M I : Type 0} (state : M → MediumState I) (moves : I → Step → Bool → I → Type 0) (op : Op) (first count : ℕ) (P : List (List ℕ) → Type 0) (medium new : M) : Type 0 where
  pub moved : List (List ℕ)
  pub count_is : length moved ≡ count
  pub are : P moved
  pub size : (state new).size ≡ (state medium).size
  pub calls : Chain (IsMade state moves) medium (good_calls (step_of op) first moved) new
