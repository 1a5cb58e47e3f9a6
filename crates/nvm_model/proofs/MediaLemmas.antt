use Rattle.std.specs.List.{All}
use Rattle.std.specs.Option.{IfSome, option_map}
use Rattle.std.proofs.Common.{◌≡◌, ℕ, zero, suc, ◌+◌, ◌*◌, ◌<◌, ◌≤◌, ◌⊎◌, inl, inr, Bool, true, false, cond, List, [], ◌∷◌, ◌++◌, Option, Some, None, length, map, get_or, set, refl, sym, ap, subst, ◌∙◌, arith}
use Rattle.std.proofs.lemmas.List.{length-append, length-map, length-set, get_or-map, get_or-set_same, map-append, map-set, set-get_or, set-set}
use Rattle.std.proofs.lemmas.List.Elements.{All-head, All-tail, All-set, All-map}
use Rattle.mig_base.specs.Count.{RisesBy, NeverFall, RiseBy}
use Rattle.mig_base.proofs.CountLemmas.{never_more, never_set, never_stay, rise_more, rise_none, rise_set}
use Rattle.nvm_values.specs.declared.op.Op.{Op}
use Rattle.nvm_values.specs.declared.op.Op.TheVariants.{Flush, Write, Read, Compare, WriteZeroes, Verify}
use Rattle.nvm_model.specs.declared.command.Outcome.{Outcome}
use Rattle.nvm_model.specs.declared.command.Outcome.TheVariants.{Done, Faulted, Differs}
use Rattle.nvm_model.specs.declared.piece.Piece.{Piece}
use Rattle.nvm_model.specs.declared.piece.PieceResult.{PieceResult}
use Rattle.nvm_model.specs.declared.trace.Step.{Step}
use Rattle.nvm_model.specs.declared.trace.Step.TheVariants.{Get, Put, Mark}
use Rattle.nvm_model.specs.Chain.{Chain}
use Rattle.nvm_model.specs.History.{is_faulted}
use Rattle.nvm_model.specs.Medium.{At, Effect, HasSize, HaveSize, IsAt, IsCall, IsMade, MediumState, StayTold, all_at, blocks_with, failures_in, faults_in, flat_call, flat_step, told_in}
use Rattle.nvm_model.specs.declared.trace.Call.{Call}
use Rattle.nvm_model.specs.Shelf.{AreShelves, HasEffect, all_blocks, joined, shelf_at}
use Rattle.nvm_model.specs.Trace.{IsPieceDone, data_sent, good_calls, piece_calls, step_of}
use Rattle.nvm_model.proofs.ChainLemmas.{chain_map, told_chain}
use Rattle.nvm_model.proofs.PieceLemmas.{piece_law}
use Rattle.nvm_model.proofs.ShelfLemmas.{block_of_shelf, set_in_shelf}

-- Calls of several media, one shelf over each, as calls of all their blocks together.

abbrev Blocks : Type 0
Blocks = List (List ℕ)

-- shelves of so many blocks each, where these are told
abbrev pub AreSized : ℕ → List (Option Blocks) → Type 0
AreSized size shelves = All (λ (shelf : Option Blocks). IfSome shelf (λ (blocks : Blocks). length blocks ≡ size)) shelves

-- Either all shelves' blocks are told, or the namespace's aren't.

abbrev told : List Blocks → List (Option Blocks)
told shelves = map (λ (shelf : Blocks). Some shelf) shelves

joined_told : (shelves : List Blocks) → joined (told shelves) ≡ Some (all_blocks shelves)
joined_told [] = refl
joined_told (s ∷ rest) = ap (option_map (λ (others : Blocks). s ++ others)) (joined_told rest)

more_told : (s : Blocks) (rest : List (Option Blocks)) → ((xs : List Blocks) × (rest ≡ told xs)) ⊎ (joined rest ≡ None) → ((xs : List Blocks) × (Some s ∷ rest ≡ told xs)) ⊎ (joined (Some s ∷ rest) ≡ None)
more_told s rest (inl h) = inl (s ∷ h.0, ap (λ (l : List (Option Blocks)). Some s ∷ l) h.1)
more_told s rest (inr h) = inr (ap (option_map (λ (others : Blocks). s ++ others)) h)

all_told : (shelves : List (Option Blocks)) → ((xs : List Blocks) × (shelves ≡ told xs)) ⊎ (joined shelves ≡ None)
all_told [] = inl ([], refl)
all_told (None ∷ rest) = inr refl
all_told (Some s ∷ rest) = more_told s rest (all_told rest)

abbrev is_some : Option Blocks → Type 0
is_some None = ⊥
is_some (Some blocks) = Unit {0}

no_map : (f : Blocks → Blocks) (o : Option Blocks) → option_map f o ≡ None → o ≡ None
no_map f None h = refl
no_map f (Some x) h = absurd (subst is_some h tt)

-- a namespace that isn't told stays so, where no shelf becomes told
untold_stays : (i : ℕ) (shelves : List (Option Blocks)) (new : Option Blocks) → joined shelves ≡ None → (get_or shelves i None ≡ None → new ≡ None) → joined (set shelves i new) ≡ None
untold_stays i [] new none stays = absurd (subst is_some none tt)
untold_stays zero (None ∷ rest) new none stays = ap (λ (o : Option Blocks). joined (o ∷ rest)) (stays refl)
untold_stays (suc i) (None ∷ rest) new none stays = refl
untold_stays zero (Some s ∷ rest) None none stays = refl
untold_stays zero (Some s ∷ rest) (Some new) none stays = ap (option_map (λ (others : Blocks). new ++ others)) (no_map (λ (others : Blocks). s ++ others) (joined rest) none)
untold_stays (suc i) (Some s ∷ rest) new none stays =
    ap (option_map (λ (others : Blocks). s ++ others)) (untold_stays i rest new (no_map (λ (others : Blocks). s ++ others) (joined rest) none) stays)

shelves_sized : (size : ℕ) (xs : List Blocks) → AreSized size (told xs) → AreShelves size xs
shelves_sized size xs h = λ k d l.
    subst (λ (o : Option Blocks). IfSome o (λ (blocks : Blocks). length blocks ≡ size)) (get_or-map (λ (shelf : Blocks). Some shelf) xs k d (Some d) l) (h k (Some d) (simp length-map l))

told_at : (xs : List Blocks) (i : ℕ) → i < length xs → get_or (told xs) i None ≡ Some (shelf_at xs i)
told_at xs i l = get_or-map (λ (shelf : Blocks). Some shelf) xs i [] None l

joined_set : (xs : List Blocks) (i : ℕ) (new : Blocks) → joined (set (told xs) i (Some new)) ≡ Some (all_blocks (set xs i new))
joined_set xs i new = ap joined (sym (map-set (λ (shelf : Blocks). Some shelf) xs i new)) ∙ joined_told (set xs i new)

-- The number of blocks.

length_all : (size : ℕ) (xs : List Blocks) → AreShelves size xs → length (all_blocks xs) ≡ length xs * size
length_all size [] h = omega arith
length_all size (s ∷ rest) h =
    length-append s (all_blocks rest) ∙ omega (arith, All-head (λ (shelf : Blocks). length shelf ≡ size) s rest h, length_all size rest (All-tail (λ (shelf : Blocks). length shelf ≡ size) s rest h))

length_cases : (size : ℕ) (shelves : List (Option Blocks)) → AreSized size shelves → ((xs : List Blocks) × (shelves ≡ told xs)) ⊎ (joined shelves ≡ None) →
    IfSome (joined shelves) (λ (blocks : Blocks). length blocks ≡ length shelves * size)
length_cases size shelves h (inr none) = subst (λ (o : Option Blocks). IfSome o (λ (blocks : Blocks). length blocks ≡ length shelves * size)) (sym none) tt
length_cases size shelves h (inl found) =
    let xs : List Blocks = found.0 in
    let are : shelves ≡ told xs = found.1 in
    subst (λ (o : Option Blocks). IfSome o (λ (blocks : Blocks). length blocks ≡ length shelves * size)) (sym (ap joined are ∙ joined_told xs))
    (length_all size xs (shelves_sized size xs (subst (AreSized size) are h))
    ∙ ap (λ (k : ℕ). k * size) (sym (ap length are ∙ length-map xs (λ (shelf : Blocks). Some shelf))))

pub length_joined : (size : ℕ) (shelves : List (Option Blocks)) → AreSized size shelves → IfSome (joined shelves) (λ (blocks : Blocks). length blocks ≡ length shelves * size)
length_joined size shelves h = length_cases size shelves h (all_told shelves)

-- A call of one shelf.

in_flat : (size i b : ℕ) (xs : List Blocks) → AreShelves size xs → i < length xs → b < size → i * size + b < length (all_blocks xs)
in_flat size i b [] h there within = absurd (omega (arith, there))
in_flat size zero b (s ∷ rest) h there within =
    omega (arith, within, length-append s (all_blocks rest), All-head (λ (shelf : Blocks). length shelf ≡ size) s rest h)
in_flat size (suc i) b (s ∷ rest) h there within =
    let tail : i < length rest = omega (arith, there) in
    omega (arith, in_flat size i b rest (All-tail (λ (shelf : Blocks). length shelf ≡ size) s rest h) tail within, length-append s (all_blocks rest), All-head (λ (shelf : Blocks). length shelf ≡ size) s rest h)

same_shelf : (i : ℕ) (xs : List Blocks) (new : Blocks) → new ≡ shelf_at xs i → all_blocks (set xs i new) ≡ all_blocks xs
same_shelf i xs new h = ap (λ (s : Blocks). all_blocks (set xs i s)) h ∙ ap all_blocks (set-get_or xs i [])

abbrev the_call : Step → List ℕ → Bool → Call
the_call step bytes failed = record { step = step; bytes = bytes; failed = failed }

flat_effect : (size i : ℕ) (step : Step) (bytes : List ℕ) (failed : Bool) (xs : List Blocks) (new : Blocks) → AreShelves size xs → i < length xs →
    Effect (shelf_at xs i) (the_call step bytes failed) new → Effect (all_blocks xs) (the_call (flat_step size i step) bytes failed) (all_blocks (set xs i new))
flat_effect size i (Get b) bytes true xs new h there e =
    let within : b < size = omega (arith, e.there, h i [] there) in
    record { there = in_flat size i b xs h there within; new_is = same_shelf i xs new e.new_is; gives = tt }
flat_effect size i (Get b) bytes false xs new h there e =
    let within : b < size = omega (arith, e.there, h i [] there) in
    record { there = in_flat size i b xs h there within; new_is = same_shelf i xs new e.new_is; gives = e.gives ∙ sym (block_of_shelf size i b xs h there within) }
flat_effect size i (Put b) bytes true xs new h there e =
    let within : b < size = omega (arith, e.there, h i [] there) in
    record { there = in_flat size i b xs h there within; new_is = same_shelf i xs new e.new_is; gives = tt }
flat_effect size i (Put b) bytes false xs new h there e =
    let within : b < size = omega (arith, e.there, h i [] there) in
    record {
      there = in_flat size i b xs h there within;
      new_is = ap (λ (s : Blocks). all_blocks (set xs i s)) e.new_is ∙ sym (set_in_shelf size i b xs bytes h there within);
      gives = tt;
    }
flat_effect size i (Mark n) bytes failed xs new h there e = record { there = tt; new_is = same_shelf i xs new e.new_is; gives = tt }

-- what is told of its shelf is told of all

abbrev FlatEffect : ℕ → Blocks → At → Blocks → Type 0
FlatEffect size x a y = Effect x (flat_call size a) y

untold : (c : Call) (old new : Option Blocks) → StayTold (λ x y. Effect x c y) old new → old ≡ None → new ≡ None
untold c None None e is = refl
untold c None (Some new) e is = absurd e
untold c (Some old) new e is = absurd (subst is_some is tt)

flat_told : (size : ℕ) (a : At) (xs : List Blocks) (new : Option Blocks) → AreShelves size xs → a.shelf < length xs → StayTold (λ x y. Effect x a.call y) (Some (shelf_at xs a.shelf)) new →
    StayTold (λ x y. FlatEffect size x a y) (Some (all_blocks xs)) (joined (set (told xs) a.shelf new))
flat_told size a xs None h there e = absurd e
flat_told size a xs (Some new) h there e =
    subst (λ o. StayTold (λ x y. FlatEffect size x a y) (Some (all_blocks xs)) o) (sym (joined_set xs a.shelf new))
    (flat_effect size a.shelf a.call.step a.call.bytes a.call.failed xs new h there e)

flat_cases : (size : ℕ) (a : At) (shelves : List (Option Blocks)) (new : Option Blocks) → AreSized size shelves → a.shelf < length shelves →
    StayTold (λ x y. Effect x a.call y) (get_or shelves a.shelf None) new → ((xs : List Blocks) × (shelves ≡ told xs)) ⊎ (joined shelves ≡ None) →
    StayTold (λ x y. FlatEffect size x a y) (joined shelves) (joined (set shelves a.shelf new))
flat_cases size a shelves new h there e (inr none) =
    let stays : joined (set shelves a.shelf new) ≡ None = untold_stays a.shelf shelves new none (untold a.call (get_or shelves a.shelf None) new e) in
    subst (λ o. StayTold (λ x y. FlatEffect size x a y) o (joined (set shelves a.shelf new))) (sym none)
    (subst (λ o. StayTold (λ x y. FlatEffect size x a y) None o) (sym stays) tt)
flat_cases size a shelves new h there e (inl found) =
    let xs : List Blocks = found.0 in
    let is : shelves ≡ told xs = found.1 in
    let within : a.shelf < length xs = omega (arith, there, ap length is, length-map xs (λ (shelf : Blocks). Some shelf)) in
    let local : StayTold (λ x y. Effect x a.call y) (Some (shelf_at xs a.shelf)) new =
    subst (λ o. StayTold (λ x y. Effect x a.call y) o new) (ap (λ (l : List (Option Blocks)). get_or l a.shelf None) is ∙ told_at xs a.shelf within) e in
    subst (λ (l : List (Option Blocks)). StayTold (λ x y. FlatEffect size x a y) (joined l) (joined (set l a.shelf new))) (sym is)
    (subst (λ o. StayTold (λ x y. FlatEffect size x a y) o (joined (set (told xs) a.shelf new))) (sym (joined_told xs))
    (flat_told size a xs new (shelves_sized size xs (subst (AreSized size) is h)) within local))

-- One call of one of the media.

-- what the media have, after it
after_at : {M I Y : Type 0} {state : M → MediumState I} {moves : I → Step → Bool → I → Type 0} {old : List M} {a : At} {new : List M} (f : M → Y) (d : M) → IsAt state moves old a new →
    map f new ≡ set (map f old) a.shelf (f (get_or new a.shelf d))
after_at {old = old} {a} {new} f d r = ap (map f) (r.others d) ∙ map-set f old a.shelf (get_or new a.shelf d)

length_after : (c : Call) (size : ℕ) (old new : Option Blocks) → StayTold (λ x y. Effect x c y) old new → IfSome old (λ (blocks : Blocks). length blocks ≡ size) → IfSome new (λ (blocks : Blocks). length blocks ≡ size)
length_after c size None None e h = tt
length_after c size None (Some new) e h = absurd e
length_after c size (Some old) None e h = absurd e
length_after c size (Some old) (Some new) e h = ap length e.new_is ∙ same c.step c.failed ∙ h
  where
    same : (step : Step) (failed : Bool) → length (blocks_with step failed c.bytes old) ≡ length old
    same (Put b) false = length-set old b c.bytes
    same (Put b) true = refl
    same (Get b) failed = refl
    same (Mark n) failed = refl

-- a medium keeps its size
pub call_size : {I : Type 0} {moves : I → Step → Bool → I → Type 0} {old new : MediumState I} {c : Call} (size : ℕ) → IsCall moves old c new → HasSize size old → HasSize size new
call_size {I} {moves} {old} {new} {c} size r h = record { size_is = r.size ∙ h.size_is; told = length_after c size old.blocks new.blocks r.blocks h.told }

at_size : {M I : Type 0} (state : M → MediumState I) (moves : I → Step → Bool → I → Type 0) (size : ℕ) (d : M) (old : List M) (a : At) (new : List M) → IsAt state moves old a new → HaveSize state size old → HaveSize state size new
at_size {M} state moves size d old a new r h =
    subst (HaveSize state size) (sym (r.others d)) (All-set (λ (m : M). HasSize size (state m)) old a.shelf (get_or new a.shelf d) (call_size size (r.call d) (h a.shelf d r.there)) h)

at_told : {M I : Type 0} (state : M → MediumState I) (moves : I → Step → Bool → I → Type 0) (size : ℕ) (d : M) (old : List M) (a : At) (new : List M) → IsAt state moves old a new → HaveSize state size old →
    StayTold (λ x y. FlatEffect size x a y) (joined (told_in state old)) (joined (told_in state new))
at_told {M} state moves size d old a new r h =
    let blocks : M → Option Blocks = λ m. (state m).blocks in
    let sized : AreSized size (map blocks old) = All-map (λ (o : Option Blocks). IfSome o (λ (bs : Blocks). length bs ≡ size)) blocks old (λ k e l. (h k e l).told) in
    let there : a.shelf < length (map blocks old) = omega (arith, r.there, length-map old blocks) in
    let is : get_or (map blocks old) a.shelf None ≡ blocks (get_or old a.shelf d) = get_or-map blocks old a.shelf d None r.there in
    subst (λ l. StayTold (λ x y. FlatEffect size x a y) (joined (map blocks old)) (joined l)) (sym (after_at blocks d r))
    (flat_cases size a (map blocks old) (blocks (get_or new a.shelf d)) sized there
    (subst (λ o. StayTold (λ x y. Effect x a.call y) o (blocks (get_or new a.shelf d))) (sym is) (r.call d).blocks) (all_told (map blocks old)))

at_both : {M I : Type 0} (state : M → MediumState I) (moves : I → Step → Bool → I → Type 0) (size : ℕ) (old : List M) (a : At) (new : List M) → IsAt state moves old a new → HaveSize state size old →
    StayTold (λ x y. FlatEffect size x a y) (joined (told_in state old)) (joined (told_in state new)) × HaveSize state size new
at_both state moves size [] a new r h = absurd (omega (arith, r.there))
at_both state moves size (m ∷ old) a new r h = (at_told state moves size m (m ∷ old) a new r h, at_size state moves size m (m ∷ old) a new r h)

-- calls of the media are calls of all their blocks
pub flat_calls : {M I : Type 0} (state : M → MediumState I) (moves : I → Step → Bool → I → Type 0) (size : ℕ) (old : List M) (calls : List At) (new : List M) → Chain (IsAt state moves) old calls new → HaveSize state size old →
    StayTold (λ x y. Chain (FlatEffect size) x calls y) (joined (told_in state old)) (joined (told_in state new))
flat_calls {M} state moves size old calls new =
    told_chain (IsAt state moves) (FlatEffect size) (λ (media : List M). joined (told_in state media)) (HaveSize state size) (at_both state moves size) old calls new

pub told_map : {B : Type 0} (R Q : B → B → Type 0) (old new : Option B) → ((x y : B) → R x y → Q x y) → StayTold R old new → StayTold Q old new
told_map R Q None None f h = tt
told_map R Q None (Some y) f h = absurd h
told_map R Q (Some x) None f h = absurd h
told_map R Q (Some x) (Some y) f h = f x y h

-- Calls of one medium, as calls of the media among which it stands.

abbrev call_at : ℕ → Call → At
call_at i c = record { shelf = i; call = c }

set_at : {M I : Type 0} (state : M → MediumState I) (moves : I → Step → Bool → I → Type 0) (media : List M) (i : ℕ) → i < length media → (x : M) (c : Call) (y : M) → IsMade state moves x c y →
    IsAt state moves (set media i x) (call_at i c) (set media i y)
set_at {M} state moves media i there x c y r = record {
  there = omega (arith, there, length-set media i x);
  call = λ d. subst (λ (m : M). IsMade state moves m c (get_or (set media i y) i d)) (sym (get_or-set_same media i x d there))
      (subst (λ (m : M). IsMade state moves x c m) (sym (get_or-set_same media i y d there)) r);
  others = λ d. sym (set-set media i x y) ∙ ap (set (set media i x) i) (sym (get_or-set_same media i y d there));
}

pub made_at : {M I : Type 0} (state : M → MediumState I) (moves : I → Step → Bool → I → Type 0) (media : List M) (i : ℕ) (old new : M) (calls : List Call) → i < length media → old ≡ get_or media i old →
    Chain (IsMade state moves) old calls new → Chain (IsAt state moves) media (all_at i calls) (set media i new)
made_at {M} state moves media i old new calls there is c =
    subst (λ (l : List M). Chain (IsAt state moves) l (all_at i calls) (set media i new)) (ap (set media i) is ∙ set-get_or media i old)
    (chain_map (IsMade state moves) (IsAt state moves) (set media i) (call_at i) (set_at state moves media i there) old calls new c)

-- Counts of failed calls.

at_counts : {M I : Type 0} (state : M → MediumState I) (moves : I → Step → Bool → I → Type 0) (d : M) (old : List M) (a : At) (new : List M) → IsAt state moves old a new →
    NeverFall (faults_in state old) (faults_in state new) × RiseBy (cond a.call.failed 1 0) (faults_in state old) (faults_in state new)
at_counts {M} state moves d old a new r =
    let faults : M → ℕ = λ m. (state m).faults in
    let there : a.shelf < length (map faults old) = omega (arith, r.there, length-map old faults) in
    let is : get_or (map faults old) a.shelf 0 ≡ faults (get_or old a.shelf d) = get_or-map faults old a.shelf d 0 r.there in
    let one = r.call d in
    let n : ℕ = cond a.call.failed 1 0 in
    subst (λ (l : List ℕ). NeverFall (map faults old) l × RiseBy n (map faults old) l) (sym (after_at faults d r)) (
      never_set (map faults old) a.shelf (faults (get_or new a.shelf d)) (subst (λ (k : ℕ). k ≤ faults (get_or new a.shelf d)) (sym is) one.later),
      rise_set n (map faults old) a.shelf (faults (get_or new a.shelf d)) there (subst (λ (k : ℕ). RisesBy n k (faults (get_or new a.shelf d))) (sym is) one.rose),
    )

-- the counts of media rise by the calls that failed, and never fall
pub counts_rise : {M I : Type 0} (state : M → MediumState I) (moves : I → Step → Bool → I → Type 0) (old : List M) (i : ℕ) (calls : List Call) (new : List M) → Chain (IsAt state moves) old (all_at i calls) new →
    NeverFall (faults_in state old) (faults_in state new) × RiseBy (failures_in calls) (faults_in state old) (faults_in state new)
counts_rise {M} state moves old i [] new c =
    let faults : M → ℕ = λ m. (state m).faults in
    let same : NeverFall (map faults old) (map faults new) = subst (λ (l : List M). NeverFall (map faults old) (map faults l)) (sym c) (never_stay (map faults old)) in
    (same, rise_none (map faults old) (map faults new) same)
counts_rise {M} state moves [] i (x ∷ calls) new c = absurd (omega (arith, c.1.there))
counts_rise {M} state moves (m ∷ old) i (x ∷ calls) new c =
    let faults : M → ℕ = λ k. (state k).faults in
    let one = at_counts state moves m (m ∷ old) (call_at i x) c.0 c.1 in
    let rest = counts_rise state moves c.0 i calls new c.2 in (
      never_more (map faults (m ∷ old)) (map faults c.0) (map faults new) one.0 rest.0,
      rise_more (cond x.failed 1 0) (failures_in calls) (map faults (m ∷ old)) (map faults c.0) (map faults new) one.1 rest.0 rest.1,
    )

-- A piece.

failures_more : (xs ys : List Call) → failures_in (xs ++ ys) ≡ failures_in xs + failures_in ys
failures_more [] ys = omega arith
failures_more (x ∷ xs) ys = omega (arith, failures_more xs ys)

none_failed : (step : ℕ → Step) (first : ℕ) (moved : Blocks) → failures_in (good_calls step first moved) ≡ 0
none_failed step first [] = refl
none_failed step first (b ∷ moved) = omega (arith, none_failed step (first + 1) moved)

-- a piece's calls failed once where it ended with a fault, and else never
pub failures_of : (piece : Piece) (first : ℕ) (memory moved : Blocks) (outcome : Outcome) → failures_in (piece_calls piece first memory moved outcome) ≡ cond (is_faulted outcome) 1 0
failures_of piece first memory moved Done = failures_more (good_calls (step_of piece.op) first moved) [] ∙ omega (arith, none_failed (step_of piece.op) first moved)
failures_of piece first memory moved (Differs at) = failures_more (good_calls (step_of piece.op) first moved) [] ∙ omega (arith, none_failed (step_of piece.op) first moved)
failures_of piece first memory moved (Faulted at) = failures_more (good_calls (step_of piece.op) first moved) _ ∙ omega (arith, none_failed (step_of piece.op) first moved)

flat_step_of : (op : Op) (size i b : ℕ) → flat_step size i (step_of op b) ≡ step_of op (i * size + b)
flat_step_of Write size i b = refl
flat_step_of WriteZeroes size i b = refl
flat_step_of Read size i b = refl
flat_step_of Compare size i b = refl
flat_step_of Verify size i b = refl
flat_step_of Flush size i b = refl

abbrev flat : ℕ → ℕ → List Call → List Call
flat size i calls = map (flat_call size) (all_at i calls)

sum_place : (a f n : ℕ) → a + (f + n) ≡ a + f + n
sum_place a f n = omega arith

flat_good : (op : Op) (size i first : ℕ) (moved : Blocks) → flat size i (good_calls (step_of op) first moved) ≡ good_calls (step_of op) (i * size + first) moved
flat_good op size i first [] = refl
flat_good op size i first (b ∷ moved) =
    ap (λ (step : Step). the_call step b false ∷ flat size i (good_calls (step_of op) (first + 1) moved)) (flat_step_of op size i first)
    ∙ ap (λ (calls : List Call). the_call (step_of op (i * size + first)) b false ∷ calls)
    (flat_good op size i (first + 1) moved ∙ ap (λ (k : ℕ). good_calls (step_of op) k moved) (sum_place (i * size) first 1))

flat_more : (size i : ℕ) (xs ys : List Call) → flat size i (xs ++ ys) ≡ flat size i xs ++ flat size i ys
flat_more size i xs ys = ap (map (flat_call size)) (map-append (call_at i) xs ys) ∙ map-append (flat_call size) (all_at i xs) (all_at i ys)

-- a piece's calls in its shelf are its calls in the namespace
flat_piece : (piece : Piece) (size i first : ℕ) (memory moved : Blocks) (outcome : Outcome) → flat size i (piece_calls piece first memory moved outcome) ≡ piece_calls piece (i * size + first) memory moved outcome
flat_piece piece size i first memory moved Done =
    flat_more size i (good_calls (step_of piece.op) first moved) [] ∙ ap (λ (calls : List Call). calls ++ []) (flat_good piece.op size i first moved)
flat_piece piece size i first memory moved (Differs at) =
    flat_more size i (good_calls (step_of piece.op) first moved) [] ∙ ap (λ (calls : List Call). calls ++ []) (flat_good piece.op size i first moved)
flat_piece piece size i first memory moved (Faulted at) =
    flat_more size i (good_calls (step_of piece.op) first moved) _
    ∙ ap (λ (calls : List Call). calls ++ flat size i (last (first + at))) (flat_good piece.op size i first moved)
    ∙ ap (λ (step : Step). good_calls (step_of piece.op) (i * size + first) moved ++ the_call step (data_sent piece.op piece.pages memory (piece.at + at)) true ∷ [])
    (flat_step_of piece.op size i (first + at) ∙ ap (step_of piece.op) (sum_place (i * size) first at))
  where
    last : ℕ → List Call
    last b = the_call (step_of piece.op b) (data_sent piece.op piece.pages memory (piece.at + at)) true ∷ []

-- where a piece's calls were made in one shelf, it had its effect on the blocks of all
pub piece_told : {M I : Type 0} (state : M → MediumState I) (moves : I → Step → Bool → I → Type 0) (size i first : ℕ) (piece : Piece) (moved : Blocks) (result : PieceResult) (old : List M) (memory : Blocks) (new : List M) (new_memory : Blocks) →
    IsPieceDone piece moved result memory new_memory → Chain (IsAt state moves) old (all_at i (piece_calls piece first memory moved result.outcome)) new → HaveSize state size old →
    StayTold (λ x y. HasEffect piece (i * size + first) result x memory y new_memory) (joined (told_in state old)) (joined (told_in state new))
piece_told {M} state moves size i first piece moved result old memory new new_memory done calls h =
    let all = all_at i (piece_calls piece first memory moved result.outcome) in
    told_map (λ x y. Chain (FlatEffect size) x all y) (λ x y. HasEffect piece (i * size + first) result x memory y new_memory) _ _
    (λ x y c. piece_law piece (i * size + first) moved result memory new_memory x y done
    (subst (λ (cs : List Call). Chain Effect x cs y) (flat_piece piece size i first memory moved result.outcome)
    (chain_map (FlatEffect size) Effect (λ (b : Blocks). b) (flat_call size) (λ s a t e. e) x all y c)))
    (flat_calls state moves size old all new calls h)
