use Rattle.std.specs.Prelude.{◌≡◌, ℕ, ◌&&◌, nat_lt}
use Rattle.std.specs.Bool.{MatchBool}
use Rattle.data_queue.specs.Log.{Posted}
use Rattle.nvm_values.specs.declared.op.Op.{Op}
use Rattle.nvm_values.specs.declared.op.Op.TheVariants.{Flush, Write, Read, Compare, WriteZeroes, Verify}
use Rattle.nvm_model.specs.declared.command.Outcome.{Outcome}
use Rattle.nvm_model.specs.declared.piece.Piece.{Piece}
use Rattle.nvm_model.specs.declared.piece.PieceResult.{PieceResult}
use Rattle.nvm_model.specs.Piece.{done_blocks}
use Rattle.ctl_state.specs.Controller.{ControllerState}

-- How many blocks a piece changed, from its first on: those that a Write or a Write Zeroes did, also before a fault.
abbrev pub changed_count : Piece → Outcome → ℕ
changed_count piece outcome = of piece.op
  where
    of : Op → ℕ
    of Write = done_blocks piece.span.count outcome
    of WriteZeroes = done_blocks piece.span.count outcome
    of Flush = 0
    of Read = 0
    of Compare = 0
    of Verify = 0

-- The change is posted where changes are logged, the queue is live and there is one; else the queue stays.
pub record Notes (piece : Piece) (result : PieceResult) (old new : ControllerState) : Type 0 where
  pub queue : MatchBool (old.logging && old.queue.live && nat_lt 0 (changed_count piece result.outcome))
      (Posted old.queue (record { span = record { first = piece.span.first; count = changed_count piece result.outcome } }) new.queue)
      (new.queue ≡ old.queue)
  pub others : new ≡ record old { queue = new.queue }
