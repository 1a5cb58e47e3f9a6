use Rattle.std.specs.Prelude.{ℕ, List}
use Rattle.nvm_model.specs.declared.piece.ShelfEntry.{ShelfEntry}

-- A shelf: its medium, the number of its first block in the namespace, the pieces that were done on it since it was
-- cleared, and how many of these it has room for.
pub record ShelfState (M : Type 0) : Type 0 where
  pub medium : M
  pub first : ℕ
  pub entries : List ShelfEntry
  pub room : ℕ
