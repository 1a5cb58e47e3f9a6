use Rattle.std.specs.Prelude.{◌≡◌, ℕ, ◌*◌, ◌≤◌, All}
use Rattle.nvm_model.specs.declared.script.Head.{Head}
use Rattle.nvm_blocks.specs.Namespace.{NamespaceState, block_count, rooms_of}

-- The namespace that a run is over.

-- So many blocks in shelves of the script's length. Each has room for the entries of a turn: a command has at most one
-- piece in a shelf.
pub record IsNamespaceOf {M : Type 0} (head : Head) (n : NamespaceState M) : Type 0 where
  pub shelf : n.shelf ≡ head.shelf
  pub blocks : block_count n ≡ head.blocks
  pub rooms : All (λ (room : ℕ). head.burst * head.lanes ≤ room) (rooms_of n)
