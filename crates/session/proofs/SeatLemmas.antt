use Rattle.std.proofs.Common.{◌≡◌, ℕ, ◌-◌, ◌<◌, Bool, List, get_or, length, set, sym, ap, subst, ◌∙◌, length-set, get_or-set_same, arith, ◌≤◌, refl}
use Rattle.std.proofs.lemmas.List.{get_or-set_other, get_or_read}
use Rattle.nvm_model.specs.declared.piece.Piece.{Piece}
use Rattle.nvm_model.specs.declared.piece.PieceResult.{PieceResult}
use Rattle.nvm_model.specs.declared.trace.Step.{Step}
use Rattle.nvm_model.specs.Medium.{MediumState}
use Rattle.nvm_blocks.specs.Namespace.{HasAppliedIn, NamespaceState}
use Rattle.nvm_blocks.specs.Work.{IsSameButData}
use Rattle.guest_ram.specs.Window.{WindowState, data_pages, no_window}
use Rattle.controller.specs.Changes.{Notes}
use Rattle.ctl_state.specs.Controller.{ControllerState, PairState}
use Rattle.controller.specs.Pair.{IsSameButPair}
use Rattle.session.specs.Lanes.{window_of, Stands, HaveWindows, IsWindowOf}
use Rattle.session.specs.Seats.{DoesPieceAt, HasSeat, IsSameButSeat, IsSameButSeats, IsSameButWindow}
use Rattle.nvm_model.specs.declared.script.Script.{Script}
use Rattle.nvm_model.specs.declared.line.Line.{Line}
use Rattle.nvm_model.specs.World.{Lane}
use Rattle.session.specs.declared.lane_run.LaneRun.{LaneRun}
use Rattle.session.specs.LaneParts.{IsSeat, seat_of}
use Rattle.session.specs.Place.{PlaceState}
use Rattle.nvm_blocks.proofs.NamespaceLaws.{called_same}
use Rattle.turns.specs.Parts.{Leads}

-- A place's parts while they are lent.

-- the window that was lent
pub lent_window : (ram : List WindowState) (k : ℕ) (w : WindowState) → w ≡ get_or ram (k - 1) w → k - 1 < length ram → window_of ram k ≡ w
lent_window ram k w is there = sym (get_or_read ram (k - 1) w there is no_window)

-- the one that came back
pub window_back : (ram : List WindowState) (k : ℕ) (w : WindowState) → k - 1 < length ram → window_of (set ram (k - 1) w) k ≡ w
window_back ram k w there = get_or-set_same ram (k - 1) w no_window there

-- no other window changed
pub other_windows : {ram : List WindowState} (k : ℕ) (w : WindowState) → k - 1 < length ram → w.lane ≡ (window_of ram k).lane → length w.pages ≡ length (window_of ram k).pages → IsSameButWindow k ram (set ram (k - 1) w)
other_windows {ram} k w there lane size = record {
  count = length-set ram (k - 1) w;
  others = λ i other. get_or-set_other ram (k - 1) i w no_window other;
  lane = ap (λ (v : WindowState). v.lane) (window_back ram k w there) ∙ lane;
  size = ap (λ (v : WindowState). length v.pages) (window_back ram k w there) ∙ size;
}

-- a run has its seat with the window that was lent
pub seat_lent : {M : Type 0} {s : Script} {run : LaneRun} {place : PlaceState M} {w : WindowState} → HasSeat s run place → w ≡ get_or place.windows (run.script.lane - 1) w → IsSeat s run.script.lane (seat_of run place.controller w)
seat_lent {s = s} {run} {place} {w} seat is = record {
  run = seat.own;
  window = subst (IsWindowOf s run.script.lane) (lent_window place.windows run.script.lane w is (omega (arith, seat.there.0, seat.there.1, seat.at.windows.count))) (seat.at.windows.each run.script.lane seat.there.0 seat.there.1);
  there = omega (arith, seat.there.1, seat.at.pairs);
}

-- its seat alone changed
pub seat_moved : {M : Type 0} {s : Script} {k : ℕ} {namespace : NamespaceState M} {ram : List WindowState} {c new : ControllerState} {w : WindowState} → HaveWindows s ram → 1 ≤ k → k ≤ s.head.lanes → IsSameButPair k c new → IsWindowOf s k w →
    IsSameButSeat k (record { namespace = namespace; windows = ram; controller = c }) (record { namespace = namespace; windows = set ram (k - 1) w; controller = new })
seat_moved {k = k} {w = w} have first last pairs is =
    let was = have.each k first last in
    record { namespace = refl; pairs = pairs; windows = other_windows k w (omega (arith, have.count, first, last)) (is.lane ∙ sym was.lane) (is.size ∙ sym was.size) }

-- what the window that was lent led to, the place leads to
pub seat_leads : {s : Script} {k : ℕ} {run new_run : LaneRun} {p q : PairState} {Part : Lane → List Line → Lane → Type 0} {a b : List Line} (ram : List WindowState) (w v : WindowState) → w ≡ get_or ram (k - 1) w → k - 1 < length ram →
    ((l : Lane) → Stands s k run p w l → Leads Part (Stands s k new_run q v) l a b) → (l : Lane) → Stands s k run p (window_of ram k) l → Leads Part (Stands s k new_run q (window_of (set ram (k - 1) v) k)) l a b
seat_leads {s} {k} {run} {new_run} {p} {q} {Part} {a} {b} ram w v is there leads l stands =
    subst (λ (u : WindowState). Leads Part (Stands s k new_run q u) l a b) (sym (window_back ram k v there)) (leads l (subst (λ (u : WindowState). Stands s k run p u l) (lent_window ram k w is there) stands))

-- a piece was done, with the window that was lent
pub piece_done : {M I : Type 0} {state : M → MediumState I} {moves : I → Step → Bool → I → Type 0} {piece : Piece} {result : PieceResult} {old new : NamespaceState M} {ram : List WindowState} {controller new_controller : ControllerState} (w v : WindowState) →
    w ≡ get_or ram (piece.lane - 1) w → piece.lane - 1 < length ram → HasAppliedIn state moves piece result old (data_pages w) new (data_pages v) → IsSameButData w v → Notes piece result controller new_controller →
    DoesPieceAt state moves piece result (record { namespace = old; windows = ram; controller = controller }) (record { namespace = new; windows = set ram (piece.lane - 1) v; controller = new_controller })
piece_done {M} {I} {state} {moves} {piece} {result} {old} {new} {ram} w v is there applied kept noted =
    let back = window_back ram piece.lane v there in
    let lent = lent_window ram piece.lane w is there in
    record {
      moved = applied.moved;
      done = rw (back, lent) applied.done;
      called = rw lent applied.called.made;
      shelves = called_same applied.called;
      kept = rw (back, lent) kept;
      windows = ap (λ (u : WindowState). set ram (piece.lane - 1) u) (sym back);
      noted = noted;
    }

-- one seat more of a place changed
pub seats_more : {M : Type 0} {k : ℕ} {a b c : PlaceState M} → IsSameButSeats a b → IsSameButSeat k b c → IsSameButSeats a c
seats_more {c = c} x y = record {
  namespace = y.namespace ∙ x.namespace;
  controller = y.pairs.rest ∙ ap (λ (d : ControllerState). record d { pairs = c.controller.pairs }) x.controller;
}
