use Rattle.std.proofs.Common.{◌≡◌, ◌<◌, ℕ, List, [], All, get_or}
use Rattle.nvm_model.specs.declared.piece.Piece.{Piece}
use Rattle.nvm_blocks.specs.Namespace.{entries_at}
use Rattle.session.specs.Seats.{DropsEntries}
use Rattle.session.proofs.pieces.clear_shelves.Given as goal

abbrev pub invariant-loop-at : goal.invariant-loop-at
invariant-loop-at g l = record {
  kept : DropsEntries l.fn.place l.place;
  cleared : (i : ℕ) (d : List Piece) → i < l.at → All (λ (p : Piece). entries_at l.place.namespace p.span.first ≡ []) (get_or l.plan.lanes i d);
}
