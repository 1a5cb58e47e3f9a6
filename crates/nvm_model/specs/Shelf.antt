use Rattle.std.specs.Prelude.{◌≡◌, ℕ, ◌+◌, ◌-◌, ◌*◌, ◌<◌, ◌≤◌, ◌++◌, List, [], ◌∷◌, Option, Some, None, All, length, replicate, slice_index_or, slice_set}
use Rattle.std.specs.List.{flat_map}
use Rattle.std.specs.Option.{option_map}
use Rattle.mig_base.specs.declared.span.Span.{Span}
use Rattle.nvm_model.specs.declared.piece.Piece.{Piece}
use Rattle.nvm_model.specs.declared.piece.PieceResult.{PieceResult}
use Rattle.nvm_model.specs.Piece.{OutcomeFits, block_at, data_block, done_blocks, blocks_after, memory_after, digest_after}

-- A shelf is the part of the namespace that one medium keeps. What a piece does to it is what it does to the namespace.

-- a digest as 32 bytes, which are zeroes where there is none
unfoldable pub no_digest : List ℕ
no_digest = replicate 32 0

-- a digest's bytes, and 32 zeroes where there is none
abbrev pub digest_bytes : Option (List ℕ) → List ℕ
digest_bytes None = no_digest
digest_bytes (Some digest) = digest

-- What a piece does to blocks, where its first block has place `first` among them, and to its lane's data pages.
pub record HasEffect (piece : Piece) (first : ℕ) (result : PieceResult) (blocks memory new_blocks new_memory : List (List ℕ)) : Type 0 where
  pub fits : OutcomeFits piece.op (λ i. block_at blocks (first + i) ≡ data_block memory piece.pages (piece.at + i)) piece.span.count result.outcome
  pub digest_is : result.digest ≡ digest_bytes (digest_after piece.op first (done_blocks piece.span.count result.outcome) blocks)
  pub blocks_is : new_blocks ≡ blocks_after piece.op piece.pages first piece.at (done_blocks piece.span.count result.outcome) memory blocks
  pub memory_is : new_memory ≡ memory_after piece.op piece.pages first piece.at (done_blocks piece.span.count result.outcome) memory blocks

-- the range lies in the shelf of so many blocks that begins at block first
abbrev pub LiesIn : ℕ → ℕ → Span → Type 0
LiesIn first size span = (first ≤ span.first) × (span.first + span.count ≤ first + size)

-- the namespace: the blocks of its shelves, one shelf after another
abbrev pub all_blocks : List (List (List ℕ)) → List (List ℕ)
all_blocks shelves = flat_map (λ (shelf : List (List ℕ)). shelf) shelves

-- a namespace's blocks, shelf after shelf, where each shelf's are told
abbrev pub joined : List (Option (List (List ℕ))) → Option (List (List ℕ))
joined [] = Some []
joined (None ∷ shelves) = None
joined (Some blocks ∷ shelves) = option_map (λ others. blocks ++ others) (joined shelves)

-- shelves of so many blocks each
abbrev pub AreShelves : ℕ → List (List (List ℕ)) → Type 0
AreShelves size shelves = All (λ (shelf : List (List ℕ)). length shelf ≡ size) shelves

-- the i-th of these
abbrev pub shelf_at : List (List (List ℕ)) → ℕ → List (List ℕ)
shelf_at shelves i = slice_index_or shelves i []

-- a piece that lies in shelf i has its effect on the namespace where it has it on that shelf and no other shelf changes
abbrev pub PieceIsLocal : Type 0
PieceIsLocal =
    (piece : Piece) (result : PieceResult) (size i : ℕ) (shelves : List (List (List ℕ))) (memory new_shelf new_memory : List (List ℕ)) →
    AreShelves size shelves → i < length shelves → LiesIn (i * size) size piece.span →
    HasEffect piece (piece.span.first - i * size) result (shelf_at shelves i) memory new_shelf new_memory →
    HasEffect piece piece.span.first result (all_blocks shelves) memory (all_blocks (slice_set shelves i new_shelf)) new_memory
