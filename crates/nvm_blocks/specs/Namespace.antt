use Rattle.std.specs.Prelude.{◌≡◌, ℕ, ◌+◌, ◌-◌, ◌*◌, ◌/◌, ◌%◌, ◌<◌, ◌≤◌, Bool, List, [], ◌∷◌, ◌++◌, Option, length, map, slice_index_or, slice_set}
use Rattle.nvm_values.specs.declared.op.Op.TheVariants.{Flush}
use Rattle.nvm_model.specs.declared.piece.Piece.{Piece}
use Rattle.nvm_model.specs.declared.piece.PieceResult.{PieceResult}
use Rattle.nvm_model.specs.declared.piece.ShelfEntry.{ShelfEntry}
use Rattle.nvm_model.specs.declared.trace.Step.{Step}
use Rattle.nvm_model.specs.Chain.{Chain}
use Rattle.nvm_model.specs.Medium.{At, HasSize, HaveSize, IsAt, MediumState, all_at, faults_in, told_in}
use Rattle.nvm_model.specs.declared.trace.Call.{Call}
use Rattle.nvm_model.specs.Shelf.{joined}
use Rattle.nvm_model.specs.Trace.{IsPieceDone, piece_calls}
use Rattle.nvm_blocks.specs.ShelfState.{ShelfState}
use Rattle.nvm_blocks.specs.Work.{HasPages}

-- A namespace: its shelves in order, and how many blocks each has.
pub record NamespaceState (M : Type 0) : Type 0 where
  pub shelves : List (ShelfState M)
  pub shelf : ℕ

-- Shelf after shelf: the media, the entries, and the room for these.

abbrev pub media_of : {M : Type 0} → NamespaceState M → List M
media_of {M} n = map (λ (s : ShelfState M). s.medium) n.shelves

abbrev pub entries_of : {M : Type 0} → NamespaceState M → List (List ShelfEntry)
entries_of {M} n = map (λ (s : ShelfState M). s.entries) n.shelves

abbrev pub rooms_of : {M : Type 0} → NamespaceState M → List ℕ
rooms_of {M} n = map (λ (s : ShelfState M). s.room) n.shelves

abbrev pub block_count : {M : Type 0} → NamespaceState M → ℕ
block_count n = length n.shelves * n.shelf

-- the namespace's blocks, where each medium tells its own
abbrev pub told_of : {M I : Type 0} → (M → MediumState I) → NamespaceState M → Option (List (List ℕ))
told_of state n = joined (told_in state (media_of n))

-- how many calls of each medium failed
abbrev pub faults_of : {M I : Type 0} → (M → MediumState I) → NamespaceState M → List ℕ
faults_of state n = faults_in state (media_of n)

-- those of the shelf that has block b
abbrev pub entries_at : {M : Type 0} → NamespaceState M → ℕ → List ShelfEntry
entries_at n b = slice_index_or (entries_of n) (b / n.shelf) []

-- shelf i has one entry more
abbrev pub with_entry : ℕ → ShelfEntry → List (List ShelfEntry) → List (List ShelfEntry)
with_entry i entry all = slice_set all i (slice_index_or all i [] ++ entry ∷ [])

-- shelf i has room for an entry more
abbrev pub HasRoom : {M : Type 0} → NamespaceState M → ℕ → Type 0
HasRoom n i = length (slice_index_or (entries_of n) i []) < slice_index_or (rooms_of n) i 0

-- A piece for a namespace, and for a window of so many data pages: it has from 1 to 64 blocks, all in one shelf, and isn't
-- a Flush.
pub record IsForNamespace {M : Type 0} (n : NamespaceState M) (pages : ℕ) (piece : Piece) : Type 0 where
  pub op : piece.op ≡ Flush → ⊥
  pub some : 1 ≤ piece.span.count
  pub few : piece.span.count ≤ 64
  pub within : piece.span.first + piece.span.count ≤ block_count n
  pub one_shelf : piece.span.first / n.shelf ≡ (piece.span.first + piece.span.count - 1) / n.shelf
  pub has_pages : HasPages piece pages

-- What its calls do.

-- the call of a block of the namespace: that of its medium, by its place there
abbrev pub block_call : {M : Type 0} → NamespaceState M → ℕ → (ℕ → Call) → At
block_call n b call = record { shelf = b / n.shelf; call = call (b % n.shelf) }

-- These calls were made of the media of a namespace, each of which has as many blocks as a shelf, and no other call.
-- Beside these only entries may have changed.
pub record HasCalled {M I : Type 0} (state : M → MediumState I) (moves : I → Step → Bool → I → Type 0) (n : NamespaceState M) (calls : List At) (new : NamespaceState M) : Type 0 where
  pub sizes : HaveSize state n.shelf (media_of n)
  pub made : Chain (IsAt state moves) (media_of n) calls (media_of new)
  pub shelf : new.shelf ≡ n.shelf
  pub rooms : rooms_of new ≡ rooms_of n

-- a piece was done on a namespace, by its calls of the medium of its shelf
pub record HasAppliedIn {M I : Type 0} (state : M → MediumState I) (moves : I → Step → Bool → I → Type 0) (piece : Piece) (result : PieceResult) (n : NamespaceState M) (memory : List (List ℕ)) (new : NamespaceState M) (new_memory : List (List ℕ)) : Type 0 where
  pub moved : List (List ℕ)
  pub done : IsPieceDone piece moved result memory new_memory
  pub called : HasCalled state moves n (all_at (piece.span.first / n.shelf) (piece_calls piece (piece.span.first % n.shelf) memory moved result.outcome)) new

-- as many shelves as before, with the same room
pub record SameShelves {M : Type 0} (n new : NamespaceState M) : Type 0 where
  pub shelf : new.shelf ≡ n.shelf
  pub count : length new.shelves ≡ length n.shelves
  pub rooms : rooms_of new ≡ rooms_of n

-- the shelf of block b has one entry more, and no other shelf
pub record Enters {M : Type 0} (b : ℕ) (entry : ShelfEntry) (n new : NamespaceState M) : Type 0 where
  pub shelf : new.shelf ≡ n.shelf
  pub entries : entries_of new ≡ with_entry (b / n.shelf) entry (entries_of n)

-- the shelf of block b has no entries, and nothing else changed
pub record IsClearedAt {M : Type 0} (b : ℕ) (n new : NamespaceState M) : Type 0 where
  pub media : media_of new ≡ media_of n
  pub shelf : new.shelf ≡ n.shelf
  pub rooms : rooms_of new ≡ rooms_of n
  pub entries : entries_of new ≡ slice_set (entries_of n) (b / n.shelf) []

-- entries were dropped, and beside these nothing changed
pub record IsSameButEntries {M : Type 0} (n new : NamespaceState M) : Type 0 where
  pub media : media_of new ≡ media_of n
  pub shelves : SameShelves n new
  pub none : (i : ℕ) → slice_index_or (entries_of n) i [] ≡ [] → slice_index_or (entries_of new) i [] ≡ []

-- Below, what is true of every namespace.

-- shelf i, which begins where the shelves before it end
pub record IsShelf {M I : Type 0} (state : M → MediumState I) (shelf i : ℕ) (s : ShelfState M) : Type 0 where
  pub first : s.first ≡ i * shelf
  pub size : HasSize shelf (state s.medium)

abbrev pub AreInOrder : {M I : Type 0} → (M → MediumState I) → ℕ → List (ShelfState M) → Type 0
AreInOrder {M} state shelf shelves = (i : ℕ) (d : ShelfState M) → i < length shelves → IsShelf state shelf i (slice_index_or shelves i d)

pub record IsNamespace {M I : Type 0} (state : M → MediumState I) (shelf : ℕ) (shelves : List (ShelfState M)) : Type 0 where
  pub large : 1 ≤ shelf
  pub some : 1 ≤ length shelves
  pub few : length shelves * shelf ≤ 131072
  pub each : AreInOrder state shelf shelves
