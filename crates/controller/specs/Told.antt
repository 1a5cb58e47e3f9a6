use Rattle.std.specs.Prelude.{ℕ, ◌/◌, ◌%◌, List, Option, Some, None}
use Rattle.nvm_values.specs.declared.op.Op.{Op}
use Rattle.nvm_values.specs.declared.op.Op.TheVariants.{Flush, Write, Read, Compare, WriteZeroes, Verify}
use Rattle.nvm_model.specs.declared.line.Line.{Line}
use Rattle.nvm_model.specs.declared.line.Line.TheVariants as line
use Rattle.nvm_model.specs.declared.piece.Piece.{Piece}
use Rattle.nvm_model.specs.declared.piece.PieceResult.{PieceResult}
use Rattle.nvm_model.specs.declared.command.Work.{Work}
use Rattle.nvm_model.specs.declared.script.Script.{Script}
use Rattle.nvm_model.specs.Medium.{all_at}
use Rattle.nvm_model.specs.Run.{PieceCalled}
use Rattle.nvm_model.specs.Trace.{piece_calls}

-- What is told of a piece that was done.

-- the digest that a piece's line tells
abbrev pub digest_told : Op → List ℕ → Option (List ℕ)
digest_told Read digest = Some digest
digest_told Write digest = None
digest_told WriteZeroes digest = None
digest_told Compare digest = None
digest_told Verify digest = None
digest_told Flush digest = None

-- the line of a piece that was done
abbrev pub piece_event : Piece → PieceResult → Line
piece_event piece result = line.Piece piece.lane piece.cid piece.span.first piece.span.count result.outcome (digest_told piece.op result.digest)

-- a piece as its line tells it, with its calls
abbrev pub called : Script → Work → Piece → PieceResult → List (List ℕ) → List (List ℕ) → PieceCalled
called s work piece result memory moved = record {
  lane = piece.lane;
  cid = piece.cid;
  first = piece.span.first;
  count = piece.span.count;
  outcome = result.outcome;
  digest = digest_told piece.op result.digest;
  work = work;
  calls = all_at (piece.span.first / s.head.shelf) (piece_calls piece (piece.span.first % s.head.shelf) memory moved result.outcome);
}
