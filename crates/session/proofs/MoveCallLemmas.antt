use Rattle.std.proofs.Common.{◌≡◌, ℕ, Bool, true, false, List, [], ◌∷◌, ◌++◌, length, sym, ap, subst, ◌∙◌}
use Rattle.nvm_model.specs.declared.trace.Step.{Step}
use Rattle.nvm_model.specs.Chain.{Chain}
use Rattle.nvm_model.specs.Medium.{At, IsAt, MediumState, marks_at}
use Rattle.nvm_model.specs.Run.{Copy, at_block, get_of, gets_of, put_of, puts_of}
use Rattle.nvm_model.proofs.ChainLemmas.{chain_more}
use Rattle.guest_ram.specs.Ram.{shape}
use Rattle.nvm_blocks.specs.Namespace.{NamespaceState, media_of, SameShelves}
use Rattle.manager.specs.declared.side.CopyAnswer.TheVariants.{Copied, Busy, Fault}
use Rattle.manager.specs.declared.side.Side.TheVariants.{From, To}
use Rattle.manager.specs.Port.{PortCall}
use Rattle.manager.specs.Port.PortCall.{Copy as Copying, Take as Taking, Admin as Commanding, CopyPage as CopyingPage, Mark as Marking}
use Rattle.session.specs.Place.{PlaceState}
use Rattle.session.specs.Port.{CallsPlace, Ends, moves_place, moves_port}
use Rattle.nvm_blocks.proofs.NamespaceLaws.{same_more, same_stay}
use Rattle.manager.proofs.CallLaws.{all_in, calls_in}

-- What the calls of a port come to at the media of both places.

-- A place.

-- its media got these calls, and no shelf changed, nor a window its size
pub record PlaceGoes {M I : Type 0} (state : M → MediumState I) (moves : I → Step → Bool → I → Type 0) (calls : List At) (old new : PlaceState M) : Type 0 where
  pub called : Chain (IsAt state moves) (media_of old.namespace) calls (media_of new.namespace)
  pub shelves : SameShelves old.namespace new.namespace
  pub shape_is : shape new.windows ≡ shape old.windows

-- it has so many shelves of so many blocks
abbrev pub IsShelved : {M : Type 0} → ℕ → ℕ → PlaceState M → Type 0
IsShelved shelf count p = (p.namespace.shelf ≡ shelf) × (length p.namespace.shelves ≡ count)

module _ {M I : Type 0} (state : M → MediumState I) (moves : I → Step → Bool → I → Type 0) (shelf count : ℕ) where
  goes_more : {front back : List At} {a b c : PlaceState M} → PlaceGoes state moves front a b → PlaceGoes state moves back b c → PlaceGoes state moves (front ++ back) a c
  goes_more {front} {back} {a} {b} {c} x y = record {
    called = chain_more (IsAt state moves) (media_of a.namespace) front (media_of b.namespace) back (media_of c.namespace) x.called y.called;
    shelves = same_more x.shelves y.shelves;
    shape_is = y.shape_is ∙ x.shape_is;
  }

  -- nothing was called
  goes_none : {old new : PlaceState M} → new.namespace ≡ old.namespace → shape new.windows ≡ shape old.windows → PlaceGoes state moves [] old new
  goes_none {old} {new} namespace shape_is = record {
    called = ap (λ (n : NamespaceState M). media_of n) namespace;
    shelves = subst (SameShelves old.namespace) (sym namespace) (same_stay old.namespace);
    shape_is = shape_is;
  }

  goes_same : {old new : PlaceState M} → new ≡ old → PlaceGoes state moves [] old new
  goes_same is = goes_none (ap (λ (p : PlaceState M). p.namespace) is) (ap (λ (p : PlaceState M). shape p.windows) is)

  -- these were
  goes_called : {calls : List At} {old new : PlaceState M} → CallsPlace state moves calls old new → PlaceGoes state moves calls old new
  goes_called does = record { called = does.called; shelves = does.same.shelves; shape_is = ap (λ (p : PlaceState M). shape p.windows) does.same.rest }

  goes_block : {old new : PlaceState M} (call : ℕ → At) → old.namespace.shelf ≡ shelf → CallsPlace state moves (call old.namespace.shelf ∷ []) old new → PlaceGoes state moves (call shelf ∷ []) old new
  goes_block {old} {new} call is does = subst (λ (k : ℕ). PlaceGoes state moves (call k ∷ []) old new) is (goes_called does)

  goes_marked : {old new : PlaceState M} (n : ℕ) → length old.namespace.shelves ≡ count → CallsPlace state moves (marks_at (length old.namespace.shelves) n) old new → PlaceGoes state moves (marks_at count n) old new
  goes_marked {old} {new} n is does = subst (λ (k : ℕ). PlaceGoes state moves (marks_at k n) old new) is (goes_called does)

  -- a call of the port takes the place on that is left
  from_goes : (old : Ends M (PlaceState M)) (c : PortCall) (new : Ends M (PlaceState M)) → moves_port state moves (moves_place state moves) old c new → IsShelved shelf count old.from →
      PlaceGoes state moves (calls_in count (gets_of shelf) c) old.from new.from
  from_goes old (Copying b bytes Copied) new m is = goes_block (λ k. at_block k b (get_of bytes false)) is.0 m.1.0
  from_goes old (Copying b bytes (Busy holder)) new m is = absurd m.1
  from_goes old (Copying b bytes (Fault From)) new m is = goes_block (λ k. at_block k b (get_of [] true)) is.0 m.1.0
  from_goes old (Copying b bytes (Fault To)) new m is = goes_block (λ k. at_block k b (get_of bytes false)) is.0 m.1.0
  from_goes old (Taking answer) new m is = goes_none (ap (λ (p : PlaceState M). p.namespace) m.1.0) (ap (λ (p : PlaceState M). shape p.windows) m.1.0)
  from_goes old (Commanding From cmd bytes cpl new_bytes) new m is = goes_none (ap (λ (p : PlaceState M). p.namespace) m.1.0) (ap (λ (p : PlaceState M). shape p.windows) m.1.0)
  from_goes old (Commanding To cmd bytes cpl new_bytes) new m is = goes_same m.1.0
  from_goes old (CopyingPage page) new m is = goes_same m.1.0
  from_goes old (Marking n) new m is = goes_marked n is.1 m.1.0

  -- and the other one
  to_goes : (old : Ends M (PlaceState M)) (c : PortCall) (new : Ends M (PlaceState M)) → moves_port state moves (moves_place state moves) old c new → IsShelved shelf count old.to →
      PlaceGoes state moves (calls_in count (puts_of shelf) c) old.to new.to
  to_goes old (Copying b bytes Copied) new m is = goes_block (λ k. at_block k b (put_of bytes false)) is.0 m.1.1
  to_goes old (Copying b bytes (Busy holder)) new m is = absurd m.1
  to_goes old (Copying b bytes (Fault From)) new m is = goes_same m.1.1
  to_goes old (Copying b bytes (Fault To)) new m is = goes_block (λ k. at_block k b (put_of bytes true)) is.0 m.1.1
  to_goes old (Taking answer) new m is = goes_same m.1.1
  to_goes old (Commanding From cmd bytes cpl new_bytes) new m is = goes_same m.1.1
  to_goes old (Commanding To cmd bytes cpl new_bytes) new m is = goes_none (ap (λ (p : PlaceState M). p.namespace) m.1.1) (ap (λ (p : PlaceState M). shape p.windows) m.1.1)
  to_goes old (CopyingPage page) new m is = goes_none (ap (λ (p : PlaceState M). p.namespace) m.1.2.rest) m.1.2.shape_is
  to_goes old (Marking n) new m is = goes_marked n is.1 m.1.1

  -- all calls do
  all_go : (of : Copy → List At) (side : Ends M (PlaceState M) → PlaceState M) →
      ((old : Ends M (PlaceState M)) (c : PortCall) (new : Ends M (PlaceState M)) → moves_port state moves (moves_place state moves) old c new → IsShelved shelf count (side old) → PlaceGoes state moves (calls_in count of c) (side old) (side new)) →
      (calls : List PortCall) (old new : Ends M (PlaceState M)) → Chain (moves_port state moves (moves_place state moves)) old calls new → IsShelved shelf count (side old) → PlaceGoes state moves (all_in count of calls) (side old) (side new)
  all_go of side one [] old new c is = goes_same (ap side c)
  all_go of side one (call ∷ calls) old new c is =
      let first = one old call c.0 c.1 is in
      goes_more first (all_go of side one calls c.0 new c.2 (first.shelves.shelf ∙ is.0, first.shelves.count ∙ is.1))

  pub from_all : (calls : List PortCall) (old new : Ends M (PlaceState M)) → Chain (moves_port state moves (moves_place state moves)) old calls new → IsShelved shelf count old.from →
      PlaceGoes state moves (all_in count (gets_of shelf) calls) old.from new.from
  from_all calls old new c is = all_go (gets_of shelf) (λ e. e.from) from_goes calls old new c is

  pub to_all : (calls : List PortCall) (old new : Ends M (PlaceState M)) → Chain (moves_port state moves (moves_place state moves)) old calls new → IsShelved shelf count old.to →
      PlaceGoes state moves (all_in count (puts_of shelf) calls) old.to new.to
  to_all calls old new c is = all_go (puts_of shelf) (λ e. e.to) to_goes calls old new c is
