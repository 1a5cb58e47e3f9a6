use Rattle.std.proofs.Common.{ℕ, ◌*◌, ◌≤◌, List, sym, subst, ◌∙◌}
use Rattle.std.specs.List.{All}
use Rattle.nvm_model.specs.declared.script.Head.{Head}
use Rattle.nvm_blocks.specs.Namespace.{NamespaceState, SameShelves}
use Rattle.nvm_blocks.proofs.NamespaceLaws.{same_count}
use Rattle.session.specs.Shelves.{IsNamespaceOf}

-- The namespace of a script.

-- what a run is over, it stays over
pub same_namespace : {M : Type 0} {head : Head} {n new : NamespaceState M} → IsNamespaceOf head n → SameShelves n new → IsNamespaceOf head new
same_namespace {head = head} is same = record {
  shelf = same.shelf ∙ is.shelf;
  blocks = same_count same ∙ is.blocks;
  rooms = subst (λ (rooms : List ℕ). All (λ (room : ℕ). head.burst * head.lanes ≤ room) rooms) (sym same.rooms) is.rooms;
}
