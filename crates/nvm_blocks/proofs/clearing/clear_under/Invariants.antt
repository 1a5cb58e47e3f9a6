use Rattle.std.proofs.Common.{◌≡◌, ◌<◌, ℕ, [], get_or}
use Rattle.nvm_model.specs.declared.piece.Piece.{Piece}
use Rattle.nvm_blocks.specs.Namespace.{IsSameButEntries, entries_at}
use Rattle.nvm_blocks.proofs.clearing.clear_under.Given as goal

abbrev pub invariant-loop-piece : goal.invariant-loop-piece
invariant-loop-piece g l = record {
  kept : IsSameButEntries l.fn.namespace l.namespace;
  cleared : (i : ℕ) (d : Piece) → i < l.piece-index → entries_at l.namespace (get_or l.pieces i d).span.first ≡ [];
}
