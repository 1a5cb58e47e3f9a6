use Rattle.std.proofs.Common.{◌≡◌, ℕ, ◌-◌, ◌<◌, ◌≤◌, List, [], ◌++◌, Result, Ok, Err, get_or, get_or-set_other, get_or-set_same, length, length-set, refl, sym, ap, ◌∙◌, arith}
use Rattle.nvm_model.specs.declared.piece.Piece.{Piece}
use Rattle.nvm_ring.specs.declared.place.BadDoorbell.{BadDoorbell}
use Rattle.hall.specs.Plan.{PlanState, pieces_of}
use Rattle.ctl_state.specs.Controller.{ControllerState, PairState, no_pair, pair_of}
use Rattle.controller.specs.Pair.{AtLane, IsSameButPair, IsSameButPieces, RingsCq, with_pieces}

-- Of a controller one pair changed, of a plan the pieces of one lane.

-- one controller and another that differs in the pair of lane k alone
pub pair_same : {k : ℕ} (c : ControllerState) → IsSameButPair k c c
pair_same c = record { count = refl; rest = refl; others = λ i other. refl }

pub pair_more : {k : ℕ} {a b c : ControllerState} → IsSameButPair k a b → IsSameButPair k b c → IsSameButPair k a c
pair_more {c = c} x y = record {
  count = y.count ∙ x.count;
  rest = y.rest ∙ ap (λ (d : ControllerState). record d { pairs = c.pairs }) x.rest;
  others = λ i other. y.others i other ∙ x.others i other;
}

-- a step of the pair of lane k alone
pub pair_stepped : {k : ℕ} {Step : PairState → PairState → Type 0} {a b : ControllerState} → AtLane k Step a b → IsSameButPair k a b
pair_stepped {k} {a = a} {b} at = record {
  count = ap (λ (c : ControllerState). length c.pairs) at.others ∙ length-set a.pairs (k - 1) (pair_of b k);
  rest = at.others ∙ ap (λ (pairs : List PairState). record a { pairs = pairs }) (sym (ap (λ (c : ControllerState). c.pairs) at.others));
  others = λ i other. ap (λ (c : ControllerState). get_or c.pairs i no_pair) at.others ∙ get_or-set_other a.pairs (k - 1) i (pair_of b k) no_pair other;
}

-- which leaves the burst
pub burst_stays : {k : ℕ} {old new : ControllerState} → IsSameButPair k old new → new.burst ≡ old.burst
burst_stays same = ap (λ (c : ControllerState). c.burst) same.rest

-- a doorbell leaves the commands, whatever was rung
pub rung_commands : {value : ℕ} {old new : PairState} (result : Result (Unit {0}) BadDoorbell) → RingsCq value result old new → new.commands ≡ old.commands
rung_commands (Ok a) rings = ap (λ (p : PairState). p.commands) rings.moved
rung_commands (Err bad) rings = ap (λ (p : PairState). p.commands) rings.same.1

-- the pair of another lane
pub other_pair : (j k : ℕ) {old new : ControllerState} → IsSameButPair k old new → 1 ≤ j → 1 ≤ k → (j ≡ k → ⊥) → pair_of new j ≡ pair_of old j
other_pair j k same low first other = same.others (j - 1) (λ at. other (omega (arith, at, low, first)))

-- its pieces
pub other_pieces : (j k : ℕ) {old new : PlanState} → IsSameButPieces k old new → 1 ≤ j → 1 ≤ k → (j ≡ k → ⊥) → pieces_of new j ≡ pieces_of old j
other_pieces j k same low first other = same.others (j - 1) (λ at. other (omega (arith, at, low, first)))

-- a plan with more pieces of lane k
pub with_same : (k : ℕ) (pieces : List Piece) (old : PlanState) {new : PlanState} → new ≡ with_pieces k pieces old → IsSameButPieces k old new
with_same k pieces old is = record {
  count = ap (λ (p : PlanState). length p.lanes) is ∙ length-set old.lanes (k - 1) _;
  size = ap (λ (p : PlanState). p.room) is;
  others = λ i other. ap (λ (p : PlanState). get_or p.lanes i []) is ∙ get_or-set_other old.lanes (k - 1) i _ [] other;
}

-- where it had none, it has these
pub with_here : (k : ℕ) (pieces : List Piece) (old : PlanState) {new : PlanState} → new ≡ with_pieces k pieces old → pieces_of old k ≡ [] → k - 1 < length old.lanes → pieces_of new k ≡ pieces
with_here k pieces old is none there = ap (λ (p : PlanState). pieces_of p k) is ∙ get_or-set_same old.lanes (k - 1) _ [] there ∙ ap (λ (ps : List Piece). ps ++ pieces) none
