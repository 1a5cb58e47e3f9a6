use Rattle.std.proofs.Common.{◌≡◌, ℕ, ◌+◌, ◌-◌, ◌*◌, ◌/◌, ◌<◌, ◌≤◌, List, [], ◌∷◌, ◌++◌, length, map, set, ap, subst, ◌∙◌, arith}
use Rattle.std.specs.List.{range_with_len}
use Rattle.std.proofs.lemmas.Grind.{flat_map-append}
use Rattle.std.proofs.lemmas.List.{append-nil, append_assoc, get_or-set_same, length-append, set-set}
use Rattle.std.proofs.lemmas.List.FromFn.{map-range_with_len_more}
use Rattle.std.proofs.Math.Nat.{div-lt_iff_lt-mul, mul-le-mul_left}
use Rattle.mig_base.specs.declared.span.Span.{Span}
use Rattle.nvm_model.specs.declared.command.Command.{Command}
use Rattle.nvm_model.specs.declared.piece.Piece.{Piece}
use Rattle.nvm_model.specs.Piece.{piece_count}
use Rattle.hall.specs.Plan.{PlanState, pieces_of}
use Rattle.nvm_cmd.proofs.CutLemmas.{shelf_holds}
use Rattle.controller.specs.Pair.{command_pieces, lane_pieces, with_pieces}

-- A plan with more pieces of a lane.

pub with_more : (k : ℕ) (a b : List Piece) (plan : PlanState) → 1 ≤ k → k ≤ length plan.lanes → with_pieces k b (with_pieces k a plan) ≡ with_pieces k (a ++ b) plan
with_more k a b plan one there =
    let place : k - 1 < length plan.lanes = omega arith in
    let first = pieces_of plan k ++ a in
    ap (λ (ps : List Piece). record plan { lanes = set (set plan.lanes (k - 1) first) (k - 1) (ps ++ b) }) (get_or-set_same plan.lanes (k - 1) first [] place)
    ∙ ap (λ (lanes : List (List Piece)). record plan { lanes = lanes }) (set-set plan.lanes (k - 1) first (first ++ b))
    ∙ ap (λ (ps : List Piece). record plan { lanes = set plan.lanes (k - 1) ps }) (append_assoc (pieces_of plan k) a b)

-- how many pieces the lane has then
pub count_with : (k : ℕ) (a : List Piece) (plan : PlanState) → 1 ≤ k → k ≤ length plan.lanes → length (pieces_of (with_pieces k a plan) k) ≡ length (pieces_of plan k) + length a
count_with k a plan one there =
    ap length (get_or-set_same plan.lanes (k - 1) (pieces_of plan k ++ a) [] (omega arith)) ∙ length-append (pieces_of plan k) a

-- the pieces of one command more
pub pieces_more : (k shelf : ℕ) (commands : List Command) (command : Command) → lane_pieces k shelf (commands ++ command ∷ []) ≡ lane_pieces k shelf commands ++ command_pieces k shelf command
pieces_more k shelf commands command =
    flat_map-append (command_pieces k shelf) commands (command ∷ []) ∙ ap (λ (ps : List Piece). lane_pieces k shelf commands ++ ps) (append-nil (command_pieces k shelf command))

-- n blocks further on are at most n shelves further on
shelves_on : (shelf first n : ℕ) → 1 ≤ shelf → (first + n) / shelf < first / shelf + n + 1
shelves_on shelf first n large =
    let own = shelf_holds shelf first large in
    let more : n ≤ shelf * n = grind (arith, mul-le-mul_left n large) in
    (div-lt_iff_lt-mul large).1 (omega (arith, own.1, more))

-- a range touches no more shelves than it has blocks
pub few_pieces : (shelf : ℕ) (span : Span) → 1 ≤ shelf → 1 ≤ span.count → piece_count shelf span ≤ span.count
few_pieces shelf span large some =
    let on = shelves_on shelf span.first (span.count - 1) large in
    let last : span.first + (span.count - 1) ≡ span.first + span.count - 1 = omega arith in
    let before = subst (λ (b : ℕ). b / shelf < span.first / shelf + (span.count - 1) + 1) last on in
    omega (arith, before)

-- one piece more
pub made_more : (f : ℕ → Piece) (n : ℕ) → map f (range_with_len 0 (n + 1)) ≡ map f (range_with_len 0 n) ++ f n ∷ []
made_more f n = map-range_with_len_more f 0 n n (omega arith)
