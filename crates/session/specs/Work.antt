use Rattle.std.specs.Prelude.{◌≡◌, ℕ, ◌+◌, ◌-◌, ◌≤◌, List, [], ◌∷◌, ◌++◌, All, length, map, slice_index_or, vec_capacity}
use Rattle.nvm_model.specs.declared.piece.Piece.{Piece}
use Rattle.nvm_model.specs.declared.piece.PieceResult.{PieceResult}
use Rattle.nvm_model.specs.declared.script.Script.{Script}
use Rattle.nvm_model.specs.World.{set_of}
use Rattle.nvm_blocks.specs.Namespace.{Enters, NamespaceState}
use Rattle.hall.specs.Plan.{PlanState, pieces_of}
use Rattle.ctl_state.specs.Controller.{PairState}
use Rattle.controller.specs.Pair.{IsFetched, lane_pieces, told_fetch}
use Rattle.session.specs.declared.lane_run.LaneRun.{LaneRun}
use Rattle.session.specs.declared.pieces.Due.{Due}

-- The pieces of a turn, one by one.

-- how many pieces of each lane aren't done
pub record AreLeft (s : Script) (runs : List LaneRun) (plan : PlanState) (left : List ℕ) : Type 0 where
  pub count : length left ≡ s.head.lanes
  pub each : (k : ℕ) (d : LaneRun) → 1 ≤ k → k ≤ s.head.lanes
      → slice_index_or left (k - 1) 0 + length (slice_index_or runs (k - 1) d).results.items ≡ length (pieces_of plan k)

-- a run after one result more
pub record HasResult (run : LaneRun) (result : PieceResult) (new : LaneRun) : Type 0 where
  pub script : new.script ≡ run.script
  pub guest : new.guest ≡ run.guest
  pub acts_done : new.acts_done ≡ run.acts_done
  pub results : new.results.items ≡ run.results.items ++ result ∷ []
  pub room : vec_capacity new.results ≡ vec_capacity run.results

-- no run but the one at a place changed
pub record IsSameButRun (at : ℕ) (runs new : List LaneRun) : Type 0 where
  pub count : length new ≡ length runs
  pub others : (i : ℕ) (d : LaneRun) → (i ≡ at → ⊥) → slice_index_or new i d ≡ slice_index_or runs i d

-- the run at a place has one result more
pub record HasResultAt (at : ℕ) (result : PieceResult) (runs new : List LaneRun) : Type 0 where
  pub here : (d : LaneRun) → HasResult (slice_index_or runs at d) result (slice_index_or new at d)
  pub same : IsSameButRun at runs new

-- the piece that is due of the lane at a place
abbrev pub due_piece : List LaneRun → PlanState → ℕ → LaneRun → Piece → Piece
due_piece runs plan at d none = slice_index_or (pieces_of plan (at + 1)) (length (slice_index_or runs at d).results.items) none

-- it was done: its result stands behind its lane's, and its entry, with the ticket that it drew, behind its shelf's
pub record HasDone {M : Type 0} (due : Due) (plan : PlanState) (runs new_runs : List LaneRun) (n new : NamespaceState M) : Type 0 where
  pub result : PieceResult
  pub has : HasResultAt due.at result runs new_runs
  pub entered : (d : LaneRun) (none : Piece)
      → Enters (due_piece runs plan due.at d none).span.first (record { lane = (due_piece runs plan due.at d none).lane; index = length (slice_index_or runs due.at d).results.items; ticket = due.ticket; result = result }) n new

-- the commands of a lane were fetched, and all their pieces were done
pub record MayPost (s : Script) (k : ℕ) (run : LaneRun) (pair : PairState) : Type 0 where
  pub told : pair.fetched ≡ map (told_fetch s.head.shelf) pair.commands
  pub checked : All (IsFetched s.head.blocks (set_of s.head k).pages) pair.commands
  pub few : length pair.commands ≤ s.head.burst
  pub done : length run.results.items ≡ length (lane_pieces k s.head.shelf pair.commands)
