use Rattle.std.specs.Prelude.{ℕ, ◌-◌, ◌<◌, ◌≤◌, List, [], ◌∷◌, ◌++◌, length, slice_index_or, slice_set, Vec, vec_capacity}
use Rattle.nvm_model.specs.declared.piece.Piece.{Piece}

-- A plan: the pieces of each lane, those of lane 1 first, and how many there is room for in each.
pub record PlanState : Type 0 where
  pub lanes : List (List Piece)
  pub room : ℕ

-- those of a lane
abbrev pub pieces_of : PlanState → ℕ → List Piece
pieces_of plan lane = slice_index_or plan.lanes (lane - 1) []

-- a piece more of its lane
abbrev pub with_piece : Piece → PlanState → PlanState
with_piece p plan = record plan { lanes = slice_set plan.lanes (p.lane - 1) (pieces_of plan p.lane ++ p ∷ []) }

-- below, inside the crate: each lane's list has the room
abbrev pub HaveRoom : {Z : Type 0} → ℕ → List (Vec Piece Z) → Type 0
HaveRoom {Z} room lanes = (i : ℕ) (d : Vec Piece Z) → i < length lanes → room ≤ vec_capacity (slice_index_or lanes i d)
