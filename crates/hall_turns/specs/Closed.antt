use Rattle.std.specs.Prelude.{◌≡◌, ℕ, ◌+◌, ◌-◌, ◌/◌, ◌<◌, ◌≤◌, Bool, List, ◌∷◌, ◌++◌, length, map, slice_index_or}
use Rattle.std.specs.List.{AllByRecursion}
use Rattle.nvm_model.specs.declared.script.Script.{Script}
use Rattle.nvm_model.specs.declared.trace.Call.{Call}
use Rattle.nvm_model.specs.declared.trace.Step.{Step}
use Rattle.nvm_model.specs.Chain.{Chain}
use Rattle.nvm_model.specs.Medium.{IsAt, IsMade, MediumState, all_at}
use Rattle.nvm_model.specs.Run.{Copy, Item, PieceCalled, PieceOnLane, Task, copies_of, due_after, gets_of, here_of, pieces_of, puts_of}
use Rattle.nvm_model.specs.Run.Item.{Served, Crossed}
use Rattle.nvm_model.specs.Run.Order.{Free}
use Rattle.nvm_model.specs.World.{Lane}
use Rattle.hall_rule.specs.declared.item.Item.{Item as Done}
use Rattle.hall_rule.specs.Items.{by, in_shelf}
use Rattle.hall_turns.specs.Merge.{Each}

-- A closed hall, and what a turn does.

-- the script's pieces, done by threads
abbrev pub by_threads : Script → Task
by_threads s = record { script = s; order = Free }

-- the shelf, of so many blocks each, of the first block of an item
abbrev pub shelf_of : ℕ → Item → ℕ
shelf_of size (Served p) = p.first / size
shelf_of size (Crossed c) = c.block / size

abbrev pub place_of : PieceCalled → ℕ
place_of p = p.lane - 1

-- a lane goes on by one of its pieces
abbrev pub OnLane : Script → Lane → PieceCalled → Lane → Type 0
OnLane s old p new = PieceOnLane s p old new

-- a medium gets the calls of an item on the side on which the guests stand, which are all its own
pub record GetsCalls {M I : Type 0} (state : M → MediumState I) (moves : I → Step → Bool → I → Type 0) (size : ℕ) (old : M) (x : Item) (new : M) : Type 0 where
  pub calls : List Call
  pub calls_are : here_of size x ≡ all_at (shelf_of size x) calls
  pub made : Chain (IsMade state moves) old calls new

-- The other side of a migration: its media, and the blocks that are still to be copied there.
pub record Across (M : Type 0) : Type 0 where
  pub media : List M
  pub due : List ℕ

-- one of these is copied, in any order
pub record GoesAcross {M I : Type 0} (state : M → MediumState I) (moves : I → Step → Bool → I → Type 0) (size : ℕ) (old : Across M) (c : Copy) (new : Across M) : Type 0 where
  pub front : List ℕ
  pub others : List ℕ
  pub due : old.due ≡ front ++ c.block ∷ others
  pub puts : Chain (IsAt state moves) old.media (puts_of size c) new.media
  pub left : new.due ≡ due_after c.ended (front ++ others)

-- each lane, each medium and the other side went on by those items that are its own
pub record Parts {M I : Type 0} (state : M → MediumState I) (moves : I → Step → Bool → I → Type 0) (s : Script) (lanes : List Lane) (media : List M) (across : Across M) (items : List Item) (new_lanes : List Lane) (new_media : List M) (new_across : Across M) : Type 0 where
  pub numbers : AllByRecursion (λ (p : PieceCalled). 1 ≤ p.lane) (pieces_of items)
  pub lanes_go : Each (OnLane s) place_of lanes (pieces_of items) new_lanes
  pub media_go : Each (GetsCalls state moves s.head.shelf) (shelf_of s.head.shelf) media items new_media
  pub copies_go : Chain (GoesAcross state moves s.head.shelf) across (copies_of items) new_across

-- What was done in a hall is this item of a turn: of holder 1 to 8 a piece of the lane with that number, of holder 9 a copy.
-- Its calls are those of its shelf's medium.
abbrev pub IsTold : ℕ → ℕ → Done → Item → Type 0
IsTold size lanes x (Served p) = (1 ≤ x.holder) × (x.holder ≤ lanes) × (p.lane ≡ x.holder) × (p.first / size ≡ x.shelf) × (p.calls ≡ all_at x.shelf x.calls)
IsTold size lanes x (Crossed c) = (x.holder ≡ 9) × (c.block / size ≡ x.shelf) × (gets_of size c ≡ all_at x.shelf x.calls)

-- What a closed hall leaves: all that was done in one list by tickets, told as items; each shelf's medium got the calls of its
-- own, each lane went on by its own, and the manager's copies went across.
pub record IsClosed {M I : Type 0} (state : M → MediumState I) (moves : I → Step → Bool → I → Type 0) (s : Script) (told : Done → Item) (lanes : List Lane) (media : List M) (across : Across M) (turn : List Done) (new_lanes : List Lane) (new_media : List M) (new_across : Across M) : Type 0 where
  pub few : length lanes ≤ 8
  pub lanes_count : length new_lanes ≡ length lanes
  pub media_count : length new_media ≡ length media
  pub are_told : AllByRecursion (λ (x : Done). IsTold s.head.shelf (length lanes) x (told x)) turn
  pub inside : AllByRecursion (λ (x : Done). x.shelf < length media) turn
  pub shelves : (i : ℕ) (d : M) → i < length media → Chain (λ (old : M) (x : Done) (new : M). Chain (IsMade state moves) old x.calls new) (slice_index_or media i d) (in_shelf i turn) (slice_index_or new_media i d)
  pub pieces : (i : ℕ) (d : Lane) → i < length lanes → Chain (OnLane s) (slice_index_or lanes i d) (pieces_of (map told (by (i + 1) turn))) (slice_index_or new_lanes i d)
  pub copies : Chain (GoesAcross state moves s.head.shelf) across (copies_of (map told (by 9 turn))) new_across
