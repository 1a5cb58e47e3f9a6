use Rattle.std.proofs.Common.{◌≡◌, ℕ, ◌+◌, ◌*◌, ◌/◌, ◌%◌, Bool, List, [], ◌∷◌, ◌++◌, append-nil, length, refl, sym, ap, subst, ◌∙◌, arith}
use Rattle.std.proofs.lemmas.Grind.{flat_map-append}
use Rattle.std.proofs.lemmas.Nat.{div-add-mod'}
use Rattle.std.specs.List.{flat_map, range_with_len}
use Rattle.nvm_values.specs.declared.op.Op.{Op}
use Rattle.nvm_values.specs.declared.op.Op.TheVariants.{Flush, Write, Read, Compare, WriteZeroes, Verify}
use Rattle.nvm_model.specs.declared.command.Outcome.{Outcome}
use Rattle.nvm_model.specs.declared.command.Outcome.TheVariants.{Done, Faulted, Differs}
use Rattle.nvm_model.specs.declared.command.Work.{Work}
use Rattle.nvm_model.specs.declared.piece.Piece.{Piece}
use Rattle.nvm_model.specs.declared.piece.PieceResult.{PieceResult}
use Rattle.nvm_model.specs.declared.run.Side.{Side}
use Rattle.nvm_model.specs.declared.script.Script.{Script}
use Rattle.nvm_model.specs.declared.run.Side.TheVariants.{Source, Destination}
use Rattle.nvm_model.specs.declared.trace.Call.{Call}
use Rattle.nvm_model.specs.declared.trace.Step.{Step}
use Rattle.nvm_model.specs.declared.trace.Step.TheVariants.{Get, Put}
use Rattle.nvm_model.specs.Chain.{Chain}
use Rattle.nvm_model.specs.Medium.{At, IsAt, MediumState, all_at}
use Rattle.nvm_model.specs.Owed.{Owed}
use Rattle.nvm_model.specs.Piece.{MovesTo, OutcomeFits, done_blocks}
use Rattle.nvm_model.specs.Run.{PieceCalled}
use Rattle.nvm_model.specs.Trace.{good_calls, moved_count, piece_calls, step_of}
use Rattle.nvm_model.proofs.ChainLemmas.{chain_more, chain_one}
use Rattle.guest_ram.specs.Window.{data_pages}
use Rattle.nvm_blocks.specs.Namespace.{NamespaceState, SameShelves, media_of}
use Rattle.nvm_blocks.proofs.NamespaceLaws.{same_more, same_stay}
use Rattle.data_queue.specs.Log.{QueueState}
use Rattle.ctl_state.specs.declared.phase.Phase.{Phase}
use Rattle.ctl_state.specs.declared.phase.Phase.TheVariants as phase
use Rattle.ctl_state.specs.Controller.{ControllerState, PairState}
use Rattle.ctl_state.specs.Parts.{PartsState}
use Rattle.controller.specs.Changes.{changed_count}
use Rattle.controller.specs.Told.{digest_told}
use Rattle.session.specs.Moves.{Both, Stays, both}
use Rattle.session.specs.Lanes.{window_of}
use Rattle.session.specs.Place.{PlaceState}
use Rattle.session.specs.Seats.{DoesPieceAt, DropsEntries, IsSameButSeats}
use Rattle.session.specs.Served.{HasLeft, IsNow, Leaves, Served, TellsPiece, put_blocks}

-- What turns leave of a place.

-- The blocks that the calls of a piece put.

good_put : (shelf i : ℕ) (step : ℕ → Step) → ((b : ℕ) → step b ≡ Put b) → (first : ℕ) (moved : List (List ℕ)) (tail : List Call) →
    put_blocks shelf (all_at i (good_calls step first moved ++ tail)) ≡ range_with_len (i * shelf + first) (length moved) ++ put_blocks shelf (all_at i tail)
good_put shelf i step is first [] tail = refl
good_put shelf i step is first (bytes ∷ moved) tail =
    let next : i * shelf + (first + 1) ≡ i * shelf + first + 1 = omega arith in
    rw (is first) (ap (λ (bs : List ℕ). (i * shelf + first) ∷ bs) (good_put shelf i step is (first + 1) moved tail ∙ ap (λ (b : ℕ). range_with_len b (length moved) ++ put_blocks shelf (all_at i tail)) next))

good_got : (shelf i : ℕ) (step : ℕ → Step) → ((b : ℕ) → step b ≡ Get b) → (first : ℕ) (moved : List (List ℕ)) (tail : List Call) → put_blocks shelf (all_at i (good_calls step first moved ++ tail)) ≡ put_blocks shelf (all_at i tail)
good_got shelf i step is first [] tail = refl
good_got shelf i step is first (bytes ∷ moved) tail = rw (is first) (good_got shelf i step is (first + 1) moved tail)

module _ (piece : Piece) (shelf i first : ℕ) (memory moved : List (List ℕ)) where
  abbrev calls_as : Op → Outcome → List At
  calls_as op outcome = all_at i (piece_calls (record piece { op = op }) first memory moved outcome)

  those_put : (op : Op) → ((b : ℕ) → step_of op b ≡ Put b) → (outcome : Outcome) → length moved ≡ moved_count piece.span.count outcome → MovesTo piece.span.count outcome → put_blocks shelf (calls_as op outcome) ≡ range_with_len (i * shelf + first) (done_blocks piece.span.count outcome)
  those_put op is Done long fits = good_put shelf i (step_of op) is first moved [] ∙ append-nil _ ∙ ap (range_with_len (i * shelf + first)) long
  those_put op is (Faulted at) long fits = good_put shelf i (step_of op) is first moved _ ∙ rw (is (first + at)) (append-nil _ ∙ ap (range_with_len (i * shelf + first)) long)
  those_put op is (Differs at) long fits = absurd fits

  none_put : (op : Op) → ((b : ℕ) → step_of op b ≡ Get b) → (outcome : Outcome) → put_blocks shelf (calls_as op outcome) ≡ []
  none_put op is Done = good_got shelf i (step_of op) is first moved []
  none_put op is (Faulted at) = good_got shelf i (step_of op) is first moved _ ∙ rw (is (first + at)) refl
  none_put op is (Differs at) = good_got shelf i (step_of op) is first moved []

  -- those that it changed
  changed_put : (same : ℕ → Type 0) (op : Op) (outcome : Outcome) → length moved ≡ moved_count piece.span.count outcome → OutcomeFits op same piece.span.count outcome →
      put_blocks shelf (calls_as op outcome) ≡ range_with_len (i * shelf + first) (changed_count (record piece { op = op }) outcome)
  changed_put same Write outcome long fits = those_put Write (λ b. refl) outcome long fits
  changed_put same WriteZeroes outcome long fits = those_put WriteZeroes (λ b. refl) outcome long fits
  changed_put same Read outcome long fits = none_put Read (λ b. refl) outcome
  changed_put same Compare outcome long fits = none_put Compare (λ b. refl) outcome
  changed_put same Verify outcome long fits = none_put Verify (λ b. refl) outcome
  changed_put same Flush outcome long fits = absurd fits

-- Pieces that were served.

pub served_none : {M I : Type 0} {state : M → MediumState I} {moves : I → Step → Bool → I → Type 0} {old new : PlaceState M} → IsSameButSeats old new → Served state moves old new
served_none {M} {old = old} {new} same =
    let queue : new.controller.queue ≡ old.controller.queue = ap (λ (c : ControllerState). c.queue) same.controller in
    record {
      pieces = [];
      called = ap (λ (n : NamespaceState M). media_of n) same.namespace;
      told = queue;
      shelves = subst (SameShelves old.namespace) (sym same.namespace) (same_stay old.namespace);
      rest = same.controller ∙ ap (λ (q : QueueState). record old.controller { pairs = new.controller.pairs; queue = q }) (sym queue);
    }

pub served_cleared : {M I : Type 0} {state : M → MediumState I} {moves : I → Step → Bool → I → Type 0} {old new : PlaceState M} → DropsEntries old new → Served state moves old new
served_cleared {M} {old = old} {new} drops =
    let same : new.controller ≡ old.controller = ap (λ (p : PlaceState M). p.controller) drops.rest in
    record {
      pieces = [];
      called = drops.entries.media;
      told = ap (λ (c : ControllerState). c.queue) same;
      shelves = drops.entries.shelves;
      rest = same ∙ ap (λ (c : ControllerState). record old.controller { pairs = c.pairs; queue = c.queue }) (sym same);
    }

pub served_piece : {M I : Type 0} {state : M → MediumState I} {moves : I → Step → Bool → I → Type 0} {piece : Piece} {result : PieceResult} {old new : PlaceState M} → DoesPieceAt state moves piece result old new → Served state moves old new
served_piece {M} {I} {state} {moves} {piece} {result} {old} {new} does =
    let shelf : ℕ = old.namespace.shelf in
    let first : ℕ = piece.span.first in
    let count : ℕ = changed_count piece result.outcome in
    let memory : List (List ℕ) = data_pages (window_of old.windows piece.lane) in
    let calls : List At = all_at (first / shelf) (piece_calls piece (first % shelf) memory does.moved result.outcome) in
    let work : Work = record { op = piece.op; span = piece.span; pages = piece.pages; done = 0 } in
    let one : PieceCalled = record { lane = piece.lane; cid = piece.cid; first = first; count = piece.span.count; outcome = result.outcome; digest = digest_told piece.op result.digest; work = work; calls = calls } in
    let put = changed_put piece shelf (first / shelf) (first % shelf) memory does.moved _ piece.op result.outcome does.done.count does.done.fits ∙ ap (λ (b : ℕ). range_with_len b count) (div-add-mod' first shelf) in
    record {
      pieces = one ∷ [];
      called = subst (λ (cs : List At). Chain (IsAt state moves) (media_of old.namespace) cs (media_of new.namespace)) (sym (append-nil calls)) does.called;
      told = chain_one (TellsPiece old.controller.logging shelf) old.controller.queue one new.controller.queue (record { count = count; put = put; told = does.noted.queue });
      shelves = does.shelves;
      rest = does.noted.others ∙ ap (λ (pairs : List PairState). record old.controller { pairs = pairs; queue = new.controller.queue }) (sym (ap (λ (c : ControllerState). c.pairs) does.noted.others));
    }

pub served_more : {M I : Type 0} {state : M → MediumState I} {moves : I → Step → Bool → I → Type 0} {a b c : PlaceState M} → Served state moves a b → Served state moves b c → Served state moves a c
served_more {M} {I} {state} {moves} {a} {b} {c} x y =
    let calls : List PieceCalled → List At = flat_map (λ (p : PieceCalled). p.calls) in
    let logging : b.controller.logging ≡ a.controller.logging = ap (λ (d : ControllerState). d.logging) x.rest in
    record {
      pieces = x.pieces ++ y.pieces;
      called = subst (λ (cs : List At). Chain (IsAt state moves) (media_of a.namespace) cs (media_of c.namespace)) (sym (flat_map-append (λ (p : PieceCalled). p.calls) x.pieces y.pieces))
          (chain_more (IsAt state moves) (media_of a.namespace) (calls x.pieces) (media_of b.namespace) (calls y.pieces) (media_of c.namespace) x.called y.called);
      told = chain_more (TellsPiece a.controller.logging a.namespace.shelf) a.controller.queue x.pieces b.controller.queue y.pieces c.controller.queue x.told
          (subst (λ (l : Bool). Chain (TellsPiece l a.namespace.shelf) b.controller.queue y.pieces c.controller.queue) logging
          (subst (λ (n : ℕ). Chain (TellsPiece b.controller.logging n) b.controller.queue y.pieces c.controller.queue) x.shelves.shelf y.told));
      shelves = same_more x.shelves y.shelves;
      rest = y.rest ∙ ap (λ (d : ControllerState). record d { pairs = c.controller.pairs; queue = c.controller.queue }) x.rest;
    }

-- What a move and a run leave of both places.

-- the guests stayed
pub stayed_leaves : {M I : Type 0} {state : M → MediumState I} {moves : I → Step → Bool → I → Type 0} {s : Script} {n : ℕ} {owed : Owed} {old new : Both M} → old.from.controller.phase ≡ phase.Running → Stays state moves s n owed old new → Leaves Source old new
stayed_leaves {old = old} {new} running stays =
    let from : ControllerState = old.from.controller in
    let fed : PartsState = record { lanes = length from.pairs; bytes = [] } in
    let is : new.from.controller ≡ record from { fed = fed } = stays.controllers.0 ∙ ap (λ (now : Phase). record from { phase = now; fed = fed }) (sym running) in
    (is ∙ ap (λ (f : PartsState). record from { fed = f }) (sym (ap (λ (c : ControllerState). c.fed) is)), stays.controllers.1, stays.to_memory)

now_served : {M I : Type 0} {state : M → MediumState I} {moves : I → Step → Bool → I → Type 0} {now : Phase} {c : ControllerState} {old new : PlaceState M} → Served state moves old new → IsNow now c old.controller → IsNow now c new.controller
now_served s is = record {
  phase_is = ap (λ (d : ControllerState). d.phase) s.rest ∙ is.phase_is;
  burst_is = ap (λ (d : ControllerState). d.burst) s.rest ∙ is.burst_is;
  logging_is = ap (λ (d : ControllerState). d.logging) s.rest ∙ is.logging_is;
}

-- turns were done on the source
pub left_running : {M I : Type 0} {state : M → MediumState I} {moves : I → Step → Bool → I → Type 0} {side : Side} (from new_from to : PlaceState M) → side ≡ Source → from.controller.phase ≡ phase.Running → Served state moves from new_from →
    HasLeft side (both from to) (both new_from to)
left_running from new_from to is running served =
    subst (λ (s : Side). HasLeft s (both from to) (both new_from to)) (sym is) (now_served served (record { phase_is = running; burst_is = refl; logging_is = refl }), refl, refl)

-- then a move was tried
pub left_tried : {M I : Type 0} {state : M → MediumState I} {moves : I → Step → Bool → I → Type 0} (side : Side) (from mid to : PlaceState M) (new : Both M) → from.controller.phase ≡ phase.Running → Served state moves from mid → Leaves side (both mid to) new → HasLeft side (both from to) new
left_tried Source from mid to new running served leaves =
    let is : IsNow phase.Running from.controller mid.controller = now_served served (record { phase_is = running; burst_is = refl; logging_is = refl }) in (
      record {
        phase_is = ap (λ (c : ControllerState). c.phase) leaves.0 ∙ is.phase_is;
        burst_is = ap (λ (c : ControllerState). c.burst) leaves.0 ∙ is.burst_is;
        logging_is = ap (λ (c : ControllerState). c.logging) leaves.0 ∙ is.logging_is;
      },
      leaves.1,
      leaves.2,
    )
left_tried Destination from mid to new running served leaves =
    let is : IsNow phase.Running from.controller mid.controller = now_served served (record { phase_is = running; burst_is = refl; logging_is = refl }) in (
      record {
        phase_is = ap (λ (c : ControllerState). c.phase) leaves.0;
        burst_is = ap (λ (c : ControllerState). c.burst) leaves.0 ∙ is.burst_is;
        logging_is = ap (λ (c : ControllerState). c.logging) leaves.0 ∙ is.logging_is;
      },
      record {
        phase_is = ap (λ (c : ControllerState). c.phase) leaves.1;
        burst_is = ap (λ (c : ControllerState). c.burst) leaves.1;
        logging_is = ap (λ (c : ControllerState). c.logging) leaves.1;
      },
    )

-- and turns were done on the side of the guests
pub left_there : {M I : Type 0} {state : M → MediumState I} {moves : I → Step → Bool → I → Type 0} {side mid_side : Side} (old : Both M) (from to new_to : PlaceState M) → mid_side ≡ Destination → side ≡ mid_side → HasLeft mid_side old (both from to) → Served state moves to new_to → HasLeft side old (both from new_to)
left_there old from to new_to is same left served =
    let had = subst (λ (s : Side). HasLeft s old (both from to)) is left in
    subst (λ (s : Side). HasLeft s old (both from new_to)) (sym (same ∙ is)) (had.0, now_served served had.1)

pub left_here : {M I : Type 0} {state : M → MediumState I} {moves : I → Step → Bool → I → Type 0} {side mid_side : Side} (old : Both M) (from to new_from : PlaceState M) → mid_side ≡ Source → side ≡ mid_side → HasLeft mid_side old (both from to) → Served state moves from new_from → HasLeft side old (both new_from to)
left_here old from to new_from is same left served =
    let had = subst (λ (s : Side). HasLeft s old (both from to)) is left in
    subst (λ (s : Side). HasLeft s old (both new_from to)) (sym (same ∙ is)) (now_served served had.0, had.1, had.2)
