use Rattle.std.proofs.Common.{◌≡◌, inl, inr, ⊎_elim, ℕ, zero, suc, ◌+◌, ◌<◌, ◌≤◌, Bool, true, false, List, [], ◌∷◌, ◌++◌, Option, Some, None, Result, Ok, Err, length, replicate, refl, slice_index_or, slice_set, sym, ap, append_assoc, ◌∙◌, arith}
use Rattle.std.proofs.lemmas.Bool.{cases_eq, cases_lt}
use Rattle.std.proofs.lemmas.Grind.{get_or-set_at}
use Rattle.std.proofs.lemmas.List.{get_or_default, get_or_past, get_or-set_other, length-set, same_lists}
use Rattle.std.proofs.lemmas.List.FromFn.{length-range_with_len}
use Rattle.std.specs.List.{range_with_len}
use Rattle.mig_base.specs.Count.{RisesBy}
use Rattle.nvm_model.specs.Medium.{StayTold}
use Rattle.manager.specs.declared.manager.MediumFault.{MediumFault}
use Rattle.manager.specs.declared.side.CopyAnswer.{CopyAnswer}
use Rattle.manager.specs.declared.side.CopyAnswer.TheVariants.{Copied, Fault}
use Rattle.manager.specs.declared.side.Side.{Side}
use Rattle.manager.specs.declared.side.Side.TheVariants.{From, To}
use Rattle.manager.specs.Asks.{Ask, copy_asks}
use Rattle.manager.specs.Asks.Ask.{Copy as AskCopy}
use Rattle.manager.specs.Owed.{DifferIn, IsAmong, TellDifference, TellSame, places_from, places_of}
use Rattle.manager.specs.Parts.{DoesCopies, DoesCopy, DoesPages, DoesStop}
use Rattle.manager.specs.Port.{IsPortCall, PortCall, PortState, SideState, side_of, with_media_of}
use Rattle.manager.specs.Port.PortCall.{Copy, CopyPage}
use Rattle.manager.proofs.AskLemmas.{asked_call, asked_more, asked_none}

-- What is copied, place after place.

-- A place that holds the same at both sides needn't be among those in which they differ.
one_fewer : (count place : ℕ) (rest : List ℕ) (from to : List (List ℕ)) → place < count → DifferIn count (place ∷ rest) from to → DifferIn count rest from (slice_set to place (slice_index_or from place []))
one_fewer count place rest from to there d = record {
  from_long = d.from_long;
  to_long = length-set to place (slice_index_or from place []) ∙ d.to_long;
  same = λ i. ⊎_elim
      (λ (here : i ≡ place). inl (get_or-set_at to place i (slice_index_or from place []) [] here (omega (arith, d.to_long, there)) ∙ ap (λ j. slice_index_or from j []) (sym here)))
      (λ (other : i ≡ place → ⊥). rw (get_or-set_other to place i (slice_index_or from place []) [] other) (⊎_elim inl (⊎_elim (λ (at : i ≡ place). absurd (other at)) inr) (d.same i)))
      (cases_eq i place);
}

-- the same of sides as they are told, before and after a block went over
pub told_fewer : (count b : ℕ) (rest bytes : List ℕ) (from new_from to new_to : Option (List (List ℕ))) → b < count
    → StayTold (λ bs cs. (cs ≡ bs) × (bytes ≡ slice_index_or bs b [])) from new_from → StayTold (λ bs cs. cs ≡ slice_set bs b bytes) to new_to
    → TellDifference count (b ∷ rest) from to → TellDifference count rest new_from new_to
told_fewer count b rest bytes None None to new_to there read written d = tt
told_fewer count b rest bytes (Some from) (Some y) None None there read written d = tt
told_fewer count b rest bytes (Some from) (Some y) (Some to) (Some z) there read written d = rw (written, read.1, read.0) (one_fewer count b rest from to there d)
told_fewer count b rest bytes _ _ _ _ there read written d = search

-- what is told, and stays as it was
told_same : {B : Type 0} {R : B → B → Type 0} (old new : Option B) → ((x y : B) → R x y → y ≡ x) → StayTold R old new → new ≡ old
told_same None None same stay = refl
told_same (Some x) (Some y) same stay = ap Some (same x y stay)
told_same _ _ same stay = absurd stay

-- Where they differ in no place they are the same.
pub none_differs : (count : ℕ) (from to : List (List ℕ)) → DifferIn count [] from to → to ≡ from
none_differs count from to d = same_lists to from (d.to_long ∙ sym d.from_long) (λ i e there.
    get_or_default to i e [] there ∙ ⊎_elim (λ same. same) (λ among. absurd among) (d.same i) ∙ get_or_default from i [] e (omega (arith, there, d.from_long, d.to_long)))

pub none_told_differs : (count : ℕ) (from to : Option (List (List ℕ))) → TellDifference count [] from to → TellSame from to
none_told_differs count None to d = tt
none_told_differs count (Some from) None d = tt
none_told_differs count (Some from) (Some to) d = none_differs count from to d

-- Blocks.

pub none_copied : {I : Type 0} (moves : I → PortCall → I → Type 0) (p : PortState I) → DoesCopy moves [] [] p p
none_copied moves p = record { asked = asked_none moves p; fewer = λ rest d. d; from_later = omega arith; to_later = omega arith; from_is = refl; to_is = refl }

-- one was tried, and these are done by it
pub one_tried : {I : Type 0} {moves : I → PortCall → I → Type 0} {answer : CopyAnswer} {done : List ℕ} {old new : PortState I} (b : ℕ) (bytes : List ℕ) → IsPortCall moves old (Copy b bytes answer) new
    → ((rest : List ℕ) → TellDifference old.count (done ++ rest) old.from.blocks old.to.blocks → TellDifference old.count rest new.from.blocks new.to.blocks) → DoesCopy moves (AskCopy b answer ∷ []) done old new
one_tried {answer = answer} {old = old} {new} b bytes c fewer = record {
  asked = asked_call (Copy b bytes answer) c;
  fewer = fewer;
  from_later = c.does.from_later;
  to_later = c.does.to_later;
  from_is = c.does.from_is ∙ ap (λ (blocks : Option (List (List ℕ))). record old.from { blocks = blocks; faults = new.from.faults }) (told_same old.from.blocks new.from.blocks (λ x y both. both.0) c.does.read);
  to_is = c.does.to_is;
}

-- and it failed
pub one_stopped : {I : Type 0} {moves : I → PortCall → I → Type 0} {old new : PortState I} (b : ℕ) (bytes : List ℕ) (side : Side) → IsPortCall moves old (Copy b bytes (Fault side)) new → DoesStop moves (b ∷ []) side old new
one_stopped {old = old} {new} b bytes side c =
    let from = told_same old.from.blocks new.from.blocks (λ x y both. both.0) c.does.read in
    let to = told_same old.to.blocks new.to.blocks (λ x y same. same) c.does.written in
    record { front = []; last = b; others = []; all_is = refl; copy = one_tried b bytes c (λ rest d. rw (from, to) d); rose = c.does.cause }

-- one and then others
copied_more : {I : Type 0} {moves : I → PortCall → I → Type 0} {asks : List Ask} {b : ℕ} {done : List ℕ} {old mid new : PortState I} → DoesCopy moves (copy_asks (b ∷ [])) (b ∷ []) old mid → DoesCopy moves asks done mid new
    → DoesCopy moves (AskCopy b Copied ∷ asks) (b ∷ done) old new
copied_more {I} {moves} {asks} {b} {done} {old} {mid} {new} p q = record {
  asked = asked_more p.asked q.asked;
  fewer = λ rest d. rw p.asked.count at (q.fewer rest (rw p.asked.count (p.fewer (done ++ rest) d)));
  from_later = omega (arith, p.from_later, q.from_later);
  to_later = omega (arith, p.to_later, q.to_later);
  from_is = q.from_is ∙ ap (λ (s : SideState). record s { faults = new.from.faults }) p.from_is;
  to_is = q.to_is ∙ ap (with_media_of new.to) p.to_is;
}

rose_after : {I : Type 0} (side : Side) (old mid new : PortState I) → old.from.faults ≤ mid.from.faults → old.to.faults ≤ mid.to.faults
    → RisesBy 1 (side_of side mid).faults (side_of side new).faults → RisesBy 1 (side_of side old).faults (side_of side new).faults
rose_after From old mid new from to rises = omega (arith, from, rises)
rose_after To old mid new from to rises = omega (arith, to, rises)

pub copies_more : {I : Type 0} {moves : I → PortCall → I → Type 0} {T : Type 0} {b : ℕ} {old mid : PortState I} (rest : List ℕ) (new : PortState I) (result : Result T MediumFault)
    → DoesCopy moves (copy_asks (b ∷ [])) (b ∷ []) old mid → DoesCopies moves rest result mid new → DoesCopies moves (b ∷ rest) result old new
copies_more rest new (Ok x) p q = copied_more p q
copies_more {b = b} {old} {mid} rest new (Err fault) p q = record {
  front = b ∷ q.front;
  last = q.last;
  others = q.others;
  all_is = ap (λ (bs : List ℕ). b ∷ bs) q.all_is;
  copy = copied_more p q.copy;
  rose = rose_after fault.side old mid new p.from_later p.to_later q.rose;
}

-- no other is tried after one that didn't go over
pub stops_here : {I : Type 0} {moves : I → PortCall → I → Type 0} {all : List ℕ} {side : Side} {old new : PortState I} (rest : List ℕ) → DoesStop moves all side old new → DoesStop moves (all ++ rest) side old new
stops_here rest q = record {
  front = q.front;
  last = q.last;
  others = q.others ++ rest;
  all_is = ap (λ (bs : List ℕ). bs ++ rest) q.all_is ∙ append_assoc q.front (q.last ∷ q.others) rest;
  copy = q.copy;
  rose = q.rose;
}

-- Pages.

pub pages_more : {I : Type 0} {moves : I → PortCall → I → Type 0} {page : ℕ} {done : List ℕ} {old mid new : PortState I} → page < length old.from.pages
    → IsPortCall moves old (CopyPage page) mid → DoesPages moves done mid new → DoesPages moves (page ∷ done) old new
pages_more {I} {moves} {page} {done} {old} {mid} {new} there c p = record {
  asked = asked_more (asked_call (CopyPage page) c) p.asked;
  from_is = p.from_is ∙ c.does.from_is;
  to_is = p.to_is ∙ ap (λ (s : SideState). record s { pages = new.to.pages }) c.does.to_is;
  long = p.long ∙ ap (λ (s : SideState). length s.pages) c.does.to_is ∙ length-set old.to.pages page (slice_index_or old.from.pages page []);
  fewer = λ count rest d. p.fewer count rest (rw (c.does.from_is, c.does.to_is) (one_fewer count page (done ++ rest) old.from.pages old.to.pages (omega (arith, there, d.from_long)) d));
}

-- The owed places: no more than there are.

pub length-places : (k : ℕ) (owed : List Bool) → length (places_from k owed) ≤ length owed
length-places k [] = omega arith
length-places k (true ∷ owed) = omega (arith, length-places (k + 1) owed)
length-places k (false ∷ owed) = omega (arith, length-places (k + 1) owed)

-- All are owed, or none.

pub places_all : (k n : ℕ) → places_from k (replicate n true) ≡ range_with_len k n
places_all k zero = refl
places_all k (suc n) = ap (λ (ps : List ℕ). k ∷ ps) (places_all (k + 1) n)

pub all_places : (k n : ℕ) → length (places_from k (replicate n true)) ≡ n
all_places k n = rw places_all (length-range_with_len k n)

pub no_places : (k n : ℕ) → places_from k (replicate n false) ≡ []
no_places k zero = refl
no_places k (suc n) = no_places (k + 1) n

among_all : (k n i : ℕ) → k ≤ i → i < k + n → IsAmong i (places_from k (replicate n true))
among_all k zero i low high = absurd (omega (arith, low, high))
among_all k (suc n) i low high = ⊎_elim inl (λ (other : i ≡ k → ⊥). inr (among_all (k + 1) n i (omega (arith, low, other)) (omega (arith, high)))) (cases_eq i k)

pub all_differ : (n : ℕ) (from to : List (List ℕ)) → length from ≡ n → length to ≡ n → DifferIn n (places_of (replicate n true)) from to
all_differ n from to from_long to_long = record {
  from_long = from_long;
  to_long = to_long;
  same = λ i. ⊎_elim (λ (within : i < n). inr (among_all 0 n i (omega arith) (omega (arith, within)))) (λ (past : n ≤ i). inl (get_or_past to i [] (omega (arith, past, to_long)) ∙ sym (get_or_past from i [] (omega (arith, past, from_long))))) (cases_lt i n);
}
