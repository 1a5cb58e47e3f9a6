use Rattle.std.proofs.Common.{◌≡◌, ℕ, ◌<◌, Bool, true, false, List, [], ◌∷◌, Option, Result, Ok, Err, length, refl, ap, ◌∙◌, arith}
use Rattle.std.specs.Prelude.{is_err, min, sum}
use Rattle.mig_base.proofs.CountLemmas.{never_sum}
use Rattle.nvm_model.specs.declared.trace.Step.{Step}
use Rattle.nvm_model.specs.Medium.{At, MediumState, marks_at, sent}
use Rattle.nvm_model.specs.Run.{at_block, get_of}
use Rattle.nvm_blocks.specs.Namespace.{HasCalled, NamespaceState, block_call, block_count, faults_of}
use Rattle.nvm_model.specs.Chain.{Chain}
use Rattle.nvm_model.proofs.ChainLemmas.{chain_keeps}
use Rattle.manager.proofs.PortLaws.{always, rises_sum, stay, stay_same}
use Rattle.nvm_blocks.proofs.NamespaceLaws.{called_same, same_count, was_marked, was_put, was_read}
use Rattle.manager.specs.declared.side.CopyAnswer.{CopyAnswer}
use Rattle.manager.specs.declared.side.CopyAnswer.TheVariants.{Copied, Fault}
use Rattle.manager.specs.declared.side.Side.TheVariants.{From, To}
use Rattle.manager.specs.Port.{IsPortCall, PortCall, PortState, port_call, work_of, works_port}
use Rattle.manager.specs.Work.{IsWorkCall, WorkCall}
use Rattle.manager.specs.Port.PortCall.{Copy as Copying}
use Rattle.session.specs.Place.{PlaceState}
use Rattle.session.specs.Port.{CallsPlace, DestCall, DestState, Ends, IsDestCall, dest_of_place, moves_place, moves_port, port_of, side_of_place}
use Rattle.session.specs.Port.DestCall.{Put, Mark}

-- A place's calls.

place_called : {M I : Type 0} {state : M → MediumState I} {moves : I → Step → Bool → I → Type 0} {calls : List At} (p : PlaceState M) (n : NamespaceState M) →
    HasCalled state moves p.namespace calls n → CallsPlace state moves calls p (record p { namespace = n })
place_called p n h = record { called = h.made; same = record { shelves = called_same h; rest = refl } }

pub place_put : {M I T E : Type 0} {state : M → MediumState I} {moves : I → Step → Bool → I → Type 0} (b : ℕ) (bytes : List ℕ) (result : Result T E) (p : PlaceState M) (n : NamespaceState M) →
    HasCalled state moves p.namespace (block_call p.namespace b (λ place. sent place bytes (is_err result)) ∷ []) n →
    IsDestCall (moves_place state moves) (dest_of_place state p) (Put b bytes (is_err result)) (dest_of_place state (record p { namespace = n }))
place_put {T = T} {E} {state} b bytes (Ok x) p n h =
    let w = was_put {T = T} {E = E} b bytes (Ok x) h in
    record {
      does = record { written = w.put; later = never_sum _ _ w.cause.later; cause = tt; is = refl };
      count = same_count (called_same h);
      left = omega arith;
      moved = place_called p n h;
    }
place_put {T = T} {E} {state} b bytes (Err x) p n h =
    let w = was_put {T = T} {E = E} b bytes (Err x) h in
    record {
      does = record { written = stay _ _ w.kept; later = never_sum _ _ w.cause.later; cause = rises_sum (faults_of state p.namespace) (faults_of state n) (w.cause.failed refl); is = refl };
      count = same_count (called_same h);
      left = omega arith;
      moved = place_called p n h;
    }

pub place_mark : {M I : Type 0} {state : M → MediumState I} {moves : I → Step → Bool → I → Type 0} (mark : ℕ) (p : PlaceState M) (n : NamespaceState M) →
    HasCalled state moves p.namespace (marks_at (length p.namespace.shelves) mark) n →
    IsDestCall (moves_place state moves) (dest_of_place state p) (Mark mark) (dest_of_place state (record p { namespace = n }))
place_mark {state = state} mark p n h =
    let w = was_marked mark h in
    record {
      does = ap (λ (x : Option (List (List ℕ)) × List ℕ). record (side_of_place state p) { blocks = x.0; faults = sum x.1 }) (λ i. (w.0 i, w.1 i));
      count = same_count (called_same h);
      left = omega arith;
      moved = place_called p n h;
    }

-- The port's copy.

-- a block couldn't be got
pub copy_not_got : {M I J : Type 0} {state : M → MediumState I} {moves : I → Step → Bool → I → Type 0} (dest : J → DestCall → J → Type 0) (names : ℕ × ℕ) (b : ℕ) (p : PlaceState M) (n : NamespaceState M) (d : DestState J) →
    b < min (block_count p.namespace) d.count → HasCalled state moves p.namespace (at_block p.namespace.shelf b (get_of [] true) ∷ []) n →
    IsPortCall (moves_port state moves dest) (port_of state names p d) (Copying b [] (Fault From)) (port_of state names (record p { namespace = n }) d)
copy_not_got {state = state} dest names b p n d there h =
    let w = was_read {T = ℕ} {E = ℕ} b [] (Err 0) h in
    record {
      does = record {
        there = there;
        read = stay_same (λ _. Unit {0}) _ _ w.blocks (always _);
        written = stay d.side.blocks d.side.blocks refl;
        cause = rises_sum (faults_of state p.namespace) (faults_of state n) (w.cause.failed refl);
        from_later = never_sum _ _ w.cause.later;
        to_later = omega arith;
        from_is = refl;
        to_is = refl;
      };
      count = ap (λ (k : ℕ). min k d.count) (same_count (called_same h));
      left = omega arith;
      moved = (refl, (place_called p n h, refl));
    }

-- what a copy answers, by whether the put failed
abbrev pub put_answer : Bool → CopyAnswer
put_answer false = Copied
put_answer true = Fault To

-- a block was got, and was put or couldn't be
pub copy_got : {M I J : Type 0} {state : M → MediumState I} {moves : I → Step → Bool → I → Type 0} {dest : J → DestCall → J → Type 0} (names : ℕ × ℕ) (b : ℕ) (bytes : List ℕ) (failed : Bool) (p : PlaceState M) (n : NamespaceState M) (d new : DestState J) →
    b < min (block_count p.namespace) d.count → HasCalled state moves p.namespace (at_block p.namespace.shelf b (get_of bytes false) ∷ []) n → IsDestCall dest d (Put b bytes failed) new →
    IsPortCall (moves_port state moves dest) (port_of state names p d) (Copying b bytes (put_answer failed)) (port_of state names (record p { namespace = n }) new)
copy_got names b bytes false p n d new there h put =
    let w = was_read {T = ℕ} {E = ℕ} b bytes (Ok 0) h in
    record {
      does = record {
        there = there;
        read = stay_same _ _ _ w.blocks w.gives;
        written = put.does.written;
        cause = tt;
        from_later = never_sum _ _ w.cause.later;
        to_later = put.does.later;
        from_is = refl;
        to_is = put.does.is;
      };
      count = ap (λ (k : ℕ). min k new.count) (same_count (called_same h)) ∙ ap (min (block_count p.namespace)) put.count;
      left = put.left;
      moved = (refl, (place_called p n h, put.moved));
    }
copy_got names b bytes true p n d new there h put =
    let w = was_read {T = ℕ} {E = ℕ} b bytes (Ok 0) h in
    record {
      does = record {
        there = there;
        read = stay_same _ _ _ w.blocks w.gives;
        written = put.does.written;
        cause = put.does.cause;
        from_later = never_sum _ _ w.cause.later;
        to_later = put.does.later;
        from_is = refl;
        to_is = put.does.is;
      };
      count = ap (λ (k : ℕ). min k new.count) (same_count (called_same h)) ∙ ap (min (block_count p.namespace)) put.count;
      left = put.left;
      moved = (refl, (place_called p n h, put.moved));
    }

-- A call of the port as one of its work.
pub worked : {I : Type 0} {moves : I → PortCall → I → Type 0} {c : WorkCall} {old new : PortState I} → IsPortCall moves old (port_call c) new → IsWorkCall (works_port moves) 1 (work_of old) c (work_of new)
worked call = record { count = call.count; left = call.left; done = call }

-- The port's calls, one after another.

-- it holds the same borrows
pub names_kept : {M I J : Type 0} (state : M → MediumState I) (moves : I → Step → Bool → I → Type 0) (dest : J → DestCall → J → Type 0) (old new : Ends M J) (calls : List PortCall) →
    Chain (moves_port state moves dest) old calls new → new.names ≡ old.names
names_kept {M} {J = J} state moves dest old new calls c =
    chain_keeps (moves_port state moves dest) (λ (e : Ends M J). e.names ≡ old.names) (λ x call y r same. r.0 ∙ same) old calls new c refl
