use Rattle.std.specs.Prelude.{◌≡◌, ℕ, ◌-◌, ◌/◌, ◌%◌, ◌≤◌, Bool, List, [], length, slice_index_or, slice_set}
use Rattle.nvm_model.specs.declared.piece.Piece.{Piece}
use Rattle.nvm_model.specs.declared.piece.PieceResult.{PieceResult}
use Rattle.nvm_model.specs.declared.script.Script.{Script}
use Rattle.nvm_model.specs.declared.trace.Step.{Step}
use Rattle.nvm_model.specs.Chain.{Chain}
use Rattle.nvm_model.specs.Medium.{IsAt, MediumState, all_at}
use Rattle.nvm_model.specs.ScriptText.{IsHead}
use Rattle.nvm_model.specs.Trace.{IsPieceDone, piece_calls}
use Rattle.nvm_model.specs.World.{Lane}
use Rattle.nvm_blocks.specs.Namespace.{HasRoom, IsForNamespace, IsSameButEntries, SameShelves, block_count, media_of}
use Rattle.nvm_blocks.specs.Work.{IsSameButData}
use Rattle.guest_ram.specs.Window.{WindowState, data_pages, no_window}
use Rattle.ctl_state.specs.declared.phase.Phase.TheVariants.{Running}
use Rattle.controller.specs.Changes.{Notes}
use Rattle.ctl_state.specs.Controller.{pair_of}
use Rattle.controller.specs.Pair.{IsSameButPair}
use Rattle.session.specs.declared.lane_run.LaneRun.{LaneRun}
use Rattle.session.specs.Lanes.{IsRunOf, Stands, window_of}
use Rattle.session.specs.Place.{IsPlaceOf, PlaceState}

-- A lane's seat at a place: its pair of the controller's queues, and its window.

-- a run with its seat stands for a lane
abbrev pub Sits : {M : Type 0} → Script → ℕ → LaneRun → PlaceState M → Lane → Type 0
Sits s k run place lane = Stands s k run (pair_of place.controller k) (window_of place.windows k) lane

-- a run of the script has its seat at the place
pub record HasSeat {M : Type 0} (s : Script) (run : LaneRun) (place : PlaceState M) : Type 0 where
  pub head : IsHead s.head
  pub there : (1 ≤ run.script.lane) × (run.script.lane ≤ s.head.lanes)
  pub own : IsRunOf s run.script.lane run
  pub at : IsPlaceOf s place

-- where the controller runs, and no command of the lane is under way
pub record MayPlan {M : Type 0} (s : Script) (run : LaneRun) (place : PlaceState M) : Type 0 where
  pub seat : HasSeat s run place
  pub running : place.controller.phase ≡ Running
  pub commands : (pair_of place.controller run.script.lane).commands ≡ []
  pub results : run.results.items ≡ []

-- a piece for the place's namespace, where its shelf has room for its entry, and for the window of its lane, which is there
pub record IsForPlace {M : Type 0} (piece : Piece) (place : PlaceState M) : Type 0 where
  pub lane : (1 ≤ piece.lane) × (piece.lane ≤ length place.windows)
  pub fits : IsForNamespace place.namespace (length (data_pages (window_of place.windows piece.lane))) piece
  pub room : HasRoom place.namespace (piece.span.first / place.namespace.shelf)
  pub few : block_count place.namespace ≤ 131072

-- entries of its shelves were dropped, and beside these nothing of a place changed
pub record DropsEntries {M : Type 0} (old new : PlaceState M) : Type 0 where
  pub entries : IsSameButEntries old.namespace new.namespace
  pub rest : new ≡ record old { namespace = new.namespace }

-- the windows but that of lane k stayed, and it kept its number and its size
pub record IsSameButWindow (k : ℕ) (old new : List WindowState) : Type 0 where
  pub count : length new ≡ length old
  pub others : (i : ℕ) → (i ≡ k - 1 → ⊥) → slice_index_or new i no_window ≡ slice_index_or old i no_window
  pub lane : (window_of new k).lane ≡ (window_of old k).lane
  pub size : length (window_of new k).pages ≡ length (window_of old k).pages

-- a place where the seat of lane k changed, and nothing else
pub record IsSameButSeat {M : Type 0} (k : ℕ) (old new : PlaceState M) : Type 0 where
  pub namespace : new.namespace ≡ old.namespace
  pub pairs : IsSameButPair k old.controller new.controller
  pub windows : IsSameButWindow k old.windows new.windows

-- a place where nothing but windows and the controller's pairs changed
pub record IsSameButSeats {M : Type 0} (old new : PlaceState M) : Type 0 where
  pub namespace : new.namespace ≡ old.namespace
  pub controller : new.controller ≡ record old.controller { pairs = new.controller.pairs }

-- A piece of a lane was done at a place: these calls were made of its media, and beside these its window's data pages
-- alone may have changed, and the controller's queue, which has what the piece changed where changes are told.
pub record DoesPieceAt {M I : Type 0} (state : M → MediumState I) (moves : I → Step → Bool → I → Type 0) (piece : Piece) (result : PieceResult) (old new : PlaceState M) : Type 0 where
  pub moved : List (List ℕ)
  pub done : IsPieceDone piece moved result (data_pages (window_of old.windows piece.lane)) (data_pages (window_of new.windows piece.lane))
  pub called : Chain (IsAt state moves) (media_of old.namespace)
      (all_at (piece.span.first / old.namespace.shelf) (piece_calls piece (piece.span.first % old.namespace.shelf) (data_pages (window_of old.windows piece.lane)) moved result.outcome))
      (media_of new.namespace)
  pub shelves : SameShelves old.namespace new.namespace
  pub kept : IsSameButData (window_of old.windows piece.lane) (window_of new.windows piece.lane)
  pub windows : new.windows ≡ slice_set old.windows (piece.lane - 1) (window_of new.windows piece.lane)
  pub noted : Notes piece result old.controller new.controller
