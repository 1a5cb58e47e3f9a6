use Rattle.std.proofs.Common.{◌≡◌, ℕ, ◌+◌, ◌-◌, List, [], Option, Some, IfSome, get_or, ap, ◌∙◌, arith}
use Rattle.nvm_model.specs.declared.piece.Piece.{Piece}
use Rattle.hall.specs.Plan.{PlanState, pieces_of}

-- the pieces of the lane at a place, which are those of the lane with the next number
pub lane_at : (plan : PlanState) (at : ℕ) → pieces_of plan (at + 1) ≡ get_or plan.lanes at []
lane_at plan at = let here : at + 1 - 1 ≡ at = omega arith in ap (λ (j : ℕ). get_or plan.lanes j []) here

-- found by the lane's number
pub lane_found : (plan : PlanState) (at k : ℕ) {number : Option ℕ} {pieces : List Piece} → number ≡ Some k → IfSome number (λ n. n ≡ at + 1) → pieces ≡ pieces_of plan k → pieces ≡ get_or plan.lanes at []
lane_found plan at k is value pieces_are = pieces_are ∙ ap (pieces_of plan) (rw is at value) ∙ lane_at plan at
