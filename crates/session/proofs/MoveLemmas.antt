use Rattle.std.proofs.Common.{◌≡◌, ℕ, ◌+◌, ◌-◌, ◌*◌, ◌/◌, ◌<◌, ◌≤◌, Bool, true, List, ◌∷◌, ◌++◌, Result, Ok, Err, get_or, length, min, refl, sym, ap, subst, ◌∙◌, arith}
use Rattle.std.specs.List.{flat_map}
use Rattle.nvm_ring.specs.Places.{IsRing}
use Rattle.std.proofs.Math.Nat.{mod-lt, mul-div_cancel}
use Rattle.nvm_model.specs.declared.script.Head.{Head}
use Rattle.nvm_model.specs.declared.script.Script.{Script}
use Rattle.nvm_model.specs.declared.trace.Step.{Step}
use Rattle.nvm_model.specs.Chain.{Chain}
use Rattle.nvm_model.specs.Medium.{At, MediumState}
use Rattle.nvm_model.specs.Ring.{CqState}
use Rattle.nvm_model.specs.Run.{CopiesUpTo, Copy, gets_of, media_count, puts_of, resume_mark, suspend_mark}
use Rattle.nvm_model.specs.ScriptText.{IsHead}
use Rattle.nvm_model.specs.World.{new_lane, window_pages}
use Rattle.turns.proofs.ScriptLaws.{few_pages, set_fits, some_pages}
use Rattle.guest_ram.specs.Ram.{all_pages}
use Rattle.nvm_blocks.specs.Namespace.{block_count}
use Rattle.ctl_state.specs.Image.{IsPair}
use Rattle.ctl_state.specs.declared.phase.Phase.TheVariants as phase
use Rattle.ctl_state.specs.Admin.{image_of}
use Rattle.ctl_state.specs.Controller.{ControllerState, no_pair}
use Rattle.manager.specs.declared.manager.MediumFault.{MediumFault}
use Rattle.manager.specs.declared.manager.MovePhase.TheVariants.{Begun}
use Rattle.manager.specs.declared.manager.MoveSet.{MoveSet}
use Rattle.manager.specs.declared.manager.Pause.{Pause}
use Rattle.manager.specs.declared.side.Side.{Side}
use Rattle.manager.specs.declared.side.Side.TheVariants.{From}
use Rattle.manager.specs.Asks.{Asked, cut_over_asks, resume_asks, stopped_asks}
use Rattle.manager.specs.Move.{Covers, Fits, HoldsSame, IsGivenUp, IsMoveSet, LeavesSource, ManagerState, MayCutOver, with_all}
use Rattle.manager.specs.Owed.{places_of}
use Rattle.manager.specs.Port.{PortCall, PortState, SideState, with_media_of}
use Rattle.manager.proofs.AskLemmas.{asked_more}
use Rattle.manager.proofs.CallLaws.{AreMoveCalls, cut_calls, stopped_calls}
use Rattle.manager.proofs.MoveLemmas.{covers_all, has_image}
use Rattle.session.specs.Moves.{Brings, Crosses, Moves, Stays, Tries, both, owed_by}
use Rattle.session.specs.Place.{IsPlaceOf, IsReady, IsWaiting, Machine, PlaceState}
use Rattle.session.specs.Port.{DestCall, Ends, dest_of_place, moves_place, moves_port, port_of, side_of_place}
use Rattle.session.specs.Sides.{move_set}
use Rattle.guest_ram.proofs.Copied.{same_memory}
use Rattle.session.proofs.MemoryLemmas.{have_pages, one_shape}
use Rattle.session.proofs.RestLemmas.{some_run}
use Rattle.session.proofs.PortLemmas.{names_kept}
use Rattle.session.proofs.MoveCallLemmas.{IsShelved, PlaceGoes, from_all, to_all}

-- What a manager says of its port, of both places.

abbrev pub port_at : {M I : Type 0} → (M → MediumState I) → ℕ × ℕ → PlaceState M → PlaceState M → PortState (Ends M (PlaceState M))
port_at state names at to = port_of state names at (dest_of_place state to)

abbrev pub ends_move : {M I : Type 0} → (M → MediumState I) → (I → Step → Bool → I → Type 0) → Ends M (PlaceState M) → PortCall → Ends M (PlaceState M) → Type 0
ends_move state moves = moves_port state moves (moves_place state moves)

-- a place has the shelves of its script
shelved : {M : Type 0} {s : Script} {p : PlaceState M} → IsHead s.head → IsPlaceOf s p → IsShelved s.head.shelf (media_count s) p
shelved {s = s} {p} head is =
    let whole : length p.namespace.shelves * s.head.shelf ≡ s.head.blocks = ap (λ (k : ℕ). length p.namespace.shelves * k) (sym is.namespace.shelf) ∙ is.namespace.blocks in
    (is.namespace.shelf, sym (mul-div_cancel (length p.namespace.shelves) (omega (arith, head.shelf.0))) ∙ ap (λ (n : ℕ). n / s.head.shelf) whole)

-- both places went on by the calls of a pause with these copies
pub record Goes {M I : Type 0} (state : M → MediumState I) (moves : I → Step → Bool → I → Type 0) (s : Script) (n : ℕ) (copies : List Copy) (old new : Ends M (PlaceState M)) : Type 0 where
  pub from : PlaceGoes state moves (suspend_mark s n ++ (flat_map (gets_of s.head.shelf) copies ++ resume_mark s n)) old.from new.from
  pub to : PlaceGoes state moves (suspend_mark s n ++ (flat_map (puts_of s.head.shelf) copies ++ resume_mark s n)) old.to new.to

goes : {M I : Type 0} {state : M → MediumState I} {moves : I → Step → Bool → I → Type 0} {s : Script} (n : ℕ) (old new : Ends M (PlaceState M)) (calls : List PortCall) (copies : List Copy) → IsHead s.head → IsPlaceOf s old.from → IsPlaceOf s old.to →
    Chain (ends_move state moves) old calls new → AreMoveCalls (media_count s) n calls copies → Goes state moves s n copies old new
goes {state = state} {moves} {s} n old new calls copies head at to c are = record {
  from = subst (λ (xs : List At). PlaceGoes state moves xs old.from new.from) (are.all (gets_of s.head.shelf)) (from_all state moves s.head.shelf (media_count s) calls old new c (shelved head at));
  to = subst (λ (xs : List At). PlaceGoes state moves xs old.to new.to) (are.all (puts_of s.head.shelf)) (to_all state moves s.head.shelf (media_count s) calls old new c (shelved head to));
}

crosses : {M I : Type 0} {state : M → MediumState I} {moves : I → Step → Bool → I → Type 0} {s : Script} {n : ℕ} {copies : List Copy} (old new : Ends M (PlaceState M)) → Goes state moves s n copies old new → all_pages new.from.windows ≡ all_pages old.from.windows →
    Crosses state moves s n copies (both old.from old.to) (both new.from new.to)
crosses old new g pages = record {
  gets = g.from.called;
  puts = g.to.called;
  from_shelves = g.from.shelves;
  to_shelves = g.to.shelves;
  from_memory = same_memory new.from.windows old.from.windows g.from.shape_is pages;
}

-- the guests were moved
pub moved : {M I : Type 0} {state : M → MediumState I} {moves : I → Step → Bool → I → Type 0} {s : Script} {at to new_at new_to : PlaceState M} {names new_names : ℕ × ℕ} (n size : ℕ) (m : ManagerState) → IsHead s.head → IsPlaceOf s at → IsPlaceOf s to →
    m ≡ with_all true Begun (move_set s.head) → Covers m →
    Asked (ends_move state moves) (cut_over_asks n (places_of m.blocks) (places_of m.pages) size) (port_at state names at to) (port_at state new_names new_at new_to) →
    LeavesSource (side_of_place state at) (side_of_place state new_at) → HoldsSame m (port_at state names at to) (port_at state new_names new_at new_to) → Moves state moves s n (owed_by m) (both at to) (both new_at new_to)
moved {M} {state = state} {s = s} {at} {to} {new_at} {new_to} {names} {new_names} n size m head is waits made covers asked leaves holds =
    let old : Ends M (PlaceState M) = record { names = names; from = at; to = to } in
    let new : Ends M (PlaceState M) = record { names = new_names; from = new_at; to = new_to } in
    let calls = cut_calls (media_count s) n (places_of m.blocks) (places_of m.pages) size asked.calls asked.asks_are in
    let g = goes {s = s} n old new asked.calls calls.0 head is waits asked.inside calls.2 in
    let left : all_pages new_at.windows ≡ all_pages at.windows = ap (λ (x : SideState). x.pages) leaves.is in
    let count : m.set.ram_pages ≡ window_pages s.head = ap (λ (k : ManagerState). k.set.ram_pages) made in
    let pages = holds.pages (covers.pages (all_pages at.windows) (all_pages to.windows) (have_pages head is.windows ∙ sym count) (have_pages head waits.windows ∙ sym count)) in
    record {
      copies = calls.0;
      all = calls.1;
      crosses = crosses old new g left;
      to_memory = same_memory new_to.windows at.windows (g.to.shape_is ∙ one_shape waits.windows is.windows) (pages ∙ left);
      controllers = (ap (λ (x : SideState). x.controller) leaves.is, holds.running);
    }

-- the guests stayed
pub stayed : {M I : Type 0} {state : M → MediumState I} {moves : I → Step → Bool → I → Type 0} {s : Script} {at to new_at new_to : PlaceState M} {names new_names : ℕ × ℕ} (n : ℕ) (front : List ℕ) (last : ℕ) (others : List ℕ) (side : Side) (mid : PortState (Ends M (PlaceState M))) (m : ManagerState) →
    IsHead s.head → IsPlaceOf s at → IsPlaceOf s to → places_of m.blocks ≡ front ++ last ∷ others →
    Asked (ends_move state moves) (stopped_asks n front last side) (port_at state names at to) mid → Asked (ends_move state moves) (resume_asks From n) mid (port_at state new_names new_at new_to) →
    LeavesSource (side_of_place state at) mid.from → mid.to ≡ with_media_of mid.to (side_of_place state to) → IsGivenUp mid (port_at state new_names new_at new_to) → Stays state moves s n (owed_by m) (both at to) (both new_at new_to)
stayed {M} {state = state} {s = s} {at} {to} {new_at} {new_to} {names} {new_names} n front last others side mid m head is waits owed first second leaves to_is given =
    let old : Ends M (PlaceState M) = record { names = names; from = at; to = to } in
    let new : Ends M (PlaceState M) = record { names = new_names; from = new_at; to = new_to } in
    let asked = asked_more first second in
    let calls = stopped_calls (media_count s) n front last others side asked.calls asked.asks_are in
    let g = goes {s = s} n old new asked.calls calls.0 head is waits asked.inside calls.2 in
    let left : all_pages new_at.windows ≡ all_pages at.windows = ap (λ (x : SideState). x.pages) given.from ∙ ap (λ (x : SideState). x.pages) leaves.is in
    record {
      copies = calls.0;
      up_to = subst (λ (bs : List ℕ). CopiesUpTo bs calls.0) (sym owed) calls.1;
      crosses = crosses old new g left;
      to_memory = same_memory new_to.windows to.windows g.to.shape_is (ap (λ (x : SideState). x.pages) given.to ∙ ap (λ (x : SideState). x.pages) to_is);
      controllers = (
        ap (λ (x : SideState). x.controller) given.from ∙ ap (λ (x : SideState). record x.controller { phase = phase.Running }) leaves.is,
        ap (λ (x : SideState). x.controller) given.to ∙ ap (λ (x : SideState). x.controller) to_is,
      );
    }

-- either
pub brought : {M I : Type 0} (state : M → MediumState I) (moves : I → Step → Bool → I → Type 0) {s : Script} {at to : PlaceState M} (n : ℕ) (names : ℕ × ℕ) (new_at new_to : PlaceState M) (m : ManagerState) (result : Result Pause MediumFault) → IsHead s.head → IsPlaceOf s at → IsPlaceOf s to →
    m ≡ with_all true Begun (move_set s.head) → Brings (ends_move state moves) n m result (port_at state names at to) (port_at state names new_at new_to) → Tries state moves s n (owed_by m) result (both at to) (both new_at new_to)
brought state moves {s} n names new_at new_to m (Ok pause) head is waits made b = (moved n _ m head is waits made (covers_all m (ap (λ (k : ManagerState). k.blocks) own) (ap (λ (k : ManagerState). k.pages) own)) b.0 b.1.0 b.1.1, b.2)
  where
    own : m ≡ with_all true Begun m.set
    own = made ∙ ap (λ (k : MoveSet). with_all true Begun k) (sym (ap (λ (k : ManagerState). k.set) made))
brought state moves n names new_at new_to m (Err fault) head is waits made b = stayed n b.1.0 b.1.1 b.1.2 fault.side b.0 m head is waits b.1.3 b.1.4 b.3 b.2.0 b.2.1 b.4

-- the port holds the borrows that it held
pub same_names : {M I J : Type 0} (state : M → MediumState I) (moves : I → Step → Bool → I → Type 0) (dest : J → DestCall → J → Type 0) (t : ℕ) (m : ManagerState) (result : Result Pause MediumFault) (old new : PortState (Ends M J)) → Brings (moves_port state moves dest) t m result old new → new.inside.names ≡ old.inside.names
same_names state moves dest t m (Ok pause) old new b = names_kept state moves dest old.inside new.inside b.0.calls b.0.inside
same_names state moves dest t m (Err fault) old new b = names_kept state moves dest b.0.inside new.inside b.3.calls b.3.inside ∙ names_kept state moves dest old.inside b.0.inside b.1.4.calls b.1.4.inside

-- What a manager needs of its port.

min_self : (n : ℕ) → min n n ≡ n
min_self n = omega arith

-- a script's move is one that a manager can do
pub move_fits : (h : Head) → IsHead h → IsMoveSet (move_set h)
move_fits h is = record {
  blocks = is.blocks;
  ram_pages = (some_pages h is, few_pages h is);
  slice = is.slice;
  small = is.small;
  pages = is.pages;
  patience = is.patience;
  cells = is.change;
}

-- of two places that are to move
module _ {M I : Type 0} (state : M → MediumState I) {s : Script} {m : Machine M} {to : PlaceState M} (names : ℕ × ℕ) (ready : IsReady s m) (waits : IsWaiting s to) where
  abbrev c : ControllerState
  c = m.place.controller

  pub fits : (n : ManagerState) → n.set ≡ move_set s.head → Fits n (port_at state names m.place to)
  fits n is =
      let from = ready.place.namespace.blocks in
      let here = waits.at.namespace.blocks in
      let pages = ap (λ (x : MoveSet). x.ram_pages) (sym is) in
      record {
        blocks = ap (λ (k : ℕ). min k (block_count to.namespace)) (from ∙ sym here) ∙ min_self (block_count to.namespace) ∙ here ∙ ap (λ (x : MoveSet). x.blocks) (sym is);
        from_pages = have_pages ready.script.head ready.place.windows ∙ pages;
        to_pages = have_pages ready.script.head waits.at.windows ∙ pages;
        calls = omega arith;
        from_quiet = ready.quiet;
        to_quiet = waits.quiet;
      }

  -- the source's rings are those of an image
  pair_fits : (i : ℕ) → i < length c.pairs → IsPair (image_of (get_or c.pairs i no_pair))
  pair_fits i there =
      let low : 1 ≤ i + 1 = omega arith in
      let high : i + 1 ≤ s.head.lanes = omega (arith, there, ready.place.pairs) in
      let place : i + 1 - 1 ≡ i = omega arith in
      let set = set_fits s.head (i + 1) ready.script.head low high in
      let run = some_run ready.script ready.runs in
      let ends = (ready.stands.lanes.each (i + 1) run (new_lane 0) low high).ends in
      subst (λ (j : ℕ). IsPair (image_of (get_or c.pairs j no_pair))) place (record {
        sq = subst (IsRing 64) (sym ends.sq_is) (record { at_least = set.0; at_most = set.1; head = mod-lt _ (omega (arith, set.0)); tail = mod-lt _ (omega (arith, set.0)) });
        cq = subst (IsRing 256) (sym (ap (λ (q : CqState). q.ring) ends.cq_is)) (record { at_least = set.2; at_most = set.3; head = mod-lt _ (omega (arith, set.2)); tail = mod-lt _ (omega (arith, set.2)) });
      })

  pub may_cut_over : MayCutOver (port_at state names m.place to)
  may_cut_over =
      let lanes = waits.at.pairs ∙ sym ready.place.pairs in
      record { running = ready.running; waiting = waits.waiting; image = has_image c (omega (arith, ready.place.pairs, ready.script.head.lanes.1)) pair_fits; lanes = lanes; fed = waits.fed ∙ lanes }
