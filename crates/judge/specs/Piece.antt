use Rattle.std.specs.Prelude.{◌≡◌, ℕ, ◌+◌, ◌-◌, ◌^◌, min, List, Option, Some, None}
use Rattle.nvm_values.specs.declared.op.Op.{Op}
use Rattle.nvm_values.specs.declared.op.Op.TheVariants.{Flush, Write, Read, Compare, WriteZeroes, Verify}
use Rattle.nvm_model.specs.declared.command.Outcome.{Outcome}
use Rattle.nvm_model.specs.declared.command.Outcome.TheVariants.{Done, Faulted, Differs}
use Rattle.nvm_model.specs.declared.piece.Piece.{Piece}
use Rattle.nvm_model.specs.Piece.{OutcomeFits, block_at, blocks_after, data_block, digest_after, done_blocks, memory_after}

-- A piece may have ended so, with that digest, on these blocks and this memory, and leaves those.
pub record EndsSo (piece : Piece) (outcome : Outcome) (digest : Option (List ℕ)) (blocks memory new_blocks new_memory : List (List ℕ)) : Type 0 where
  pub fits : OutcomeFits piece.op (λ i. block_at blocks (piece.span.first + i) ≡ data_block memory piece.pages (piece.at + i)) piece.span.count outcome
  pub digest_is : digest ≡ digest_after piece.op piece.span.first (done_blocks piece.span.count outcome) blocks
  pub blocks_is : new_blocks ≡ blocks_after piece.op piece.pages piece.span.first piece.at (done_blocks piece.span.count outcome) memory blocks
  pub memory_is : new_memory ≡ memory_after piece.op piece.pages piece.span.first piece.at (done_blocks piece.span.count outcome) memory blocks

-- the block whose call failed, if one did; the largest number of 32 bits stands for those past it
abbrev pub failing_block : ℕ → Outcome → Option ℕ
failing_block first Done = None
failing_block first (Differs at) = None
failing_block first (Faulted at) = Some (min (first + at) (2 ^ 32 - 1))

-- the digest that is told, where the bytes of the blocks that were done have this one
abbrev pub told_digest : Op → List ℕ → Option (List ℕ)
told_digest Read digest = Some digest
told_digest Flush digest = None
told_digest Write digest = None
told_digest Compare digest = None
told_digest WriteZeroes digest = None
told_digest Verify digest = None
