use Rattle.std.proofs.Common.{◌≡◌, ℕ, ◌-◌, ◌*◌, ◌<◌, ◌≤◌, All, List, [], length, slice_index_or, sym, ap, subst, ◌∙◌, arith}
use Rattle.nvm_model.specs.declared.command.Command.{Command}
use Rattle.nvm_model.specs.declared.command.Outcome.{Outcome}
use Rattle.nvm_model.specs.declared.piece.Piece.{Piece}
use Rattle.nvm_model.specs.declared.script.Script.{Script}
use Rattle.nvm_model.specs.World.{set_of}
use Rattle.guest_ram.specs.Window.{WindowState, data_pages}
use Rattle.hall.specs.Plan.{PlanState, pieces_of}
use Rattle.hall.proofs.AheadLaws.{in_shelf}
use Rattle.ctl_state.specs.Controller.{PairState}
use Rattle.controller.specs.Pair.{FetchesTurn, IsFetched, IsPlanned, PlansLane, lane_pieces}
use Rattle.controller.proofs.NextLemmas.{IsNext, is_next, lane_few}
use Rattle.controller.proofs.PairLemmas.{with_here, with_same}
use Rattle.controller.proofs.ShelfLemmas.{lane_in_shelf}
use Rattle.controller.proofs.StepLemmas.{all_fetched}

-- What stands in the plan of a lane.

-- the pieces that were fetched in a turn
pub turn_planned : (s : Script) (k : ℕ) {blocks shelf burst : ℕ} {window : WindowState} {plan new_plan : PlanState} {old new : PairState} → FetchesTurn k blocks shelf burst window plan new_plan old new → s.head.blocks ≡ blocks → s.head.shelf ≡ shelf → s.head.burst ≡ burst →
    length (data_pages window) ≡ (set_of s.head k).pages → old.commands ≡ [] → pieces_of plan k ≡ [] → k - 1 < length plan.lanes → PlansLane s k plan new_plan new
turn_planned s k {blocks} {window = window} {plan} {new = new} step blocks_is shelf_is burst_is pages none empty there =
    let all = all_fetched step none in
    let fits = subst (λ (n : ℕ). All (IsFetched blocks n) new.commands) pages (subst (λ (cs : List Command). All (IsFetched blocks (length (data_pages window))) cs) (sym all) step.fits) in
    record {
      planned = record {
        pieces = rw shelf_is (with_here k _ plan step.planned empty there ∙ ap (λ (cs : List Command). lane_pieces k _ cs) (sym all));
        told = rw shelf_is (step.told none);
        checked = rw blocks_is fits;
        few = omega (arith, step.few, burst_is);
      };
      same = with_same k _ plan step.planned;
    }

-- the piece that follows so many that were done is the next one
pub planned_next : {s : Script} {k : ℕ} {plan : PlanState} {pair : PairState} → IsPlanned s k plan pair → (os : List Outcome) (d : Piece) → length os < length (pieces_of plan k) →
    IsNext k s.head.shelf s.head.blocks (set_of s.head k).pages pair.commands os (slice_index_or (pieces_of plan k) (length os) d)
planned_next {s} {k} {plan} {pair} is os d few =
    subst (λ (ps : List Piece). IsNext k s.head.shelf s.head.blocks (set_of s.head k).pages pair.commands os (slice_index_or ps (length os) d)) (sym is.pieces)
    (is_next k s.head.shelf s.head.blocks (set_of s.head k).pages pair.commands os d is.checked (omega (arith, few, ap length is.pieces)))

-- a lane has at most 64 pieces for each command that may be fetched
pub pieces_fit : {s : Script} {k : ℕ} {plan : PlanState} {pair : PairState} → 1 ≤ s.head.shelf → IsPlanned s k plan pair → length (pieces_of plan k) ≤ 64 * s.head.burst
pieces_fit {s} {k} {plan} {pair} large is =
    let all : length (pieces_of plan k) ≡ length (lane_pieces k s.head.shelf pair.commands) = ap length is.pieces in
    omega (arith, all, is.few, lane_few k s.head.shelf s.head.blocks (set_of s.head k).pages pair.commands large is.checked)

-- it has few in each shelf
pub planned_in_shelf : {s : Script} {k : ℕ} {plan : PlanState} {pair : PairState} (i : ℕ) → 1 ≤ s.head.shelf → IsPlanned s k plan pair → in_shelf s.head.shelf i (pieces_of plan k) ≤ s.head.burst
planned_in_shelf {s} {k} {pair = pair} i large is =
    omega (arith, ap (in_shelf s.head.shelf i) is.pieces, lane_in_shelf k s.head.shelf s.head.blocks (set_of s.head k).pages i pair.commands large is.checked, is.few)
