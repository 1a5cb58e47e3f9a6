use Rattle.std.specs.Option.{IfSome}
use Rattle.std.proofs.Common.{◌≡◌, ℕ, zero, suc, ◌+◌, ◌-◌, ◌*◌, ◌/◌, ◌%◌, ◌<◌, ◌≤◌, Bool, List, [], ◌∷◌, ◌++◌, Option, length, map, get_or, set, refl, sym, ap, subst, ◌∙◌, arith}
use Rattle.std.proofs.lemmas.Nat.{div-add-mod', div_below, mod_below}
use Rattle.std.proofs.lemmas.List.{length-map, length-set, get_or-map, map-set, set-get_or}
use Rattle.std.proofs.lemmas.List.Elements.{All-map}
use Rattle.std.proofs.lemmas.List.FromFn.{map-range_with_len_more}
use Rattle.mig_base.specs.declared.span.Span.{Span}
use Rattle.nvm_model.specs.declared.piece.Piece.{Piece}
use Rattle.nvm_model.specs.declared.piece.PieceResult.{PieceResult}
use Rattle.nvm_model.specs.declared.piece.ShelfEntry.{ShelfEntry}
use Rattle.nvm_model.specs.declared.trace.Step.{Step}
use Rattle.nvm_model.specs.Chain.{Chain}
use Rattle.nvm_model.specs.Medium.{At, HasSize, HaveSize, IsAt, IsMade, MediumState, all_at, marked, marks_at}
use Rattle.nvm_model.specs.declared.trace.Call.{Call}
use Rattle.nvm_model.specs.Shelf.{LiesIn, joined}
use Rattle.nvm_model.specs.Trace.{piece_calls}
use Rattle.nvm_model.proofs.ChainLemmas.{chain_keeps, chain_more}
use Rattle.nvm_model.proofs.MediaLemmas.{AreSized, call_size, length_joined, made_at}
use Rattle.nvm_blocks.specs.ShelfState.{ShelfState}
use Rattle.nvm_blocks.specs.Namespace.{HasAppliedIn, HasCalled, IsClearedAt, IsForNamespace, IsNamespace, IsShelf, with_entry}
use Rattle.nvm_blocks.specs.Shelves.{AreMarked, cleared}
use Rattle.nvm_blocks.specs.Work.{HasApplied, IsForShelf, IsSized}

-- what is said of each element by its place stays where one is replaced
all_at_set : {X : Type 0} (P : ℕ → X → Type 0) (xs : List X) (i : ℕ) (x : X) → P i x → ((k : ℕ) (d : X) → k < length xs → P k (get_or xs k d)) →
    (k : ℕ) (d : X) → k < length xs → P k (get_or (set xs i x) k d)
all_at_set {X} P [] i x p h k d l = absurd (omega (arith, l))
all_at_set {X} P (y ∷ ys) zero x p h zero d l = p
all_at_set {X} P (y ∷ ys) zero x p h (suc k) d l = h (suc k) d l
all_at_set {X} P (y ∷ ys) (suc i) x p h zero d l = h zero d l
all_at_set {X} P (y ∷ ys) (suc i) x p h (suc k) d l =
    all_at_set (λ (n : ℕ). P (suc n)) ys i x p (λ n e m. h (suc n) e (omega (arith, m))) k d (omega (arith, l))

-- a list of what elements have stays where the new element has the same
same_map : {X Y : Type 0} (f : X → Y) (xs : List X) (i : ℕ) (x new : X) → i < length xs → x ≡ get_or xs i x → f new ≡ f x → map f (set xs i new) ≡ map f xs
same_map f xs i x new there is same =
    map-set f xs i new ∙ ap (set (map f xs) i) (same ∙ ap f is ∙ sym (get_or-map f xs i x (f x) there)) ∙ set-get_or (map f xs) i (f x)

-- One shelf of a namespace was called: shelf i was x, and is `new`.

pub shelf_here : {M I : Type 0} (state : M → MediumState I) (shelf : ℕ) (shelves : List (ShelfState M)) (i : ℕ) (x : ShelfState M) →
    IsNamespace state shelf shelves → i < length shelves → x ≡ get_or shelves i x → IsShelf state shelf i x
shelf_here state shelf shelves i x h there is = subst (IsShelf state shelf i) (sym is) (h.each i x there)

-- what was called of a shelf, and what of it may have changed
record IsCalled {M I : Type 0} (state : M → MediumState I) (moves : I → Step → Bool → I → Type 0) (calls : List Call) (x new : ShelfState M) : Type 0 where
  pub first : new.first ≡ x.first
  pub room : new.room ≡ x.room
  pub made : Chain (IsMade state moves) x.medium calls new.medium

-- it stays a namespace
stays_namespace : {M I : Type 0} (state : M → MediumState I) (moves : I → Step → Bool → I → Type 0) (shelf : ℕ) (shelves : List (ShelfState M)) (i : ℕ) (calls : List Call) (x new : ShelfState M) →
    IsNamespace state shelf shelves → i < length shelves → x ≡ get_or shelves i x → IsCalled state moves calls x new → IsNamespace state shelf (set shelves i new)
stays_namespace {M} state moves shelf shelves i calls x new h there is called =
    let before : IsShelf state shelf i x = shelf_here state shelf shelves i x h there is in
    let sized : HasSize shelf (state new.medium) =
    chain_keeps (IsMade state moves) (λ (m : M). HasSize shelf (state m)) (λ m c n r. call_size shelf r) x.medium calls new.medium called.made before.size in
    record {
      large = h.large;
      some = omega (arith, h.some, length-set shelves i new);
      few = subst (λ (n : ℕ). n * shelf ≤ 131072) (sym (length-set shelves i new)) h.few;
      each = λ k d l. all_at_set (IsShelf state shelf) shelves i new (record { first = called.first ∙ before.first; size = sized }) h.each k d (omega (arith, l, length-set shelves i new));
    }

pub have_sizes : {M I : Type 0} (state : M → MediumState I) (shelf : ℕ) (shelves : List (ShelfState M)) → IsNamespace state shelf shelves → HaveSize state shelf (map (λ (s : ShelfState M). s.medium) shelves)
have_sizes {M} state shelf shelves h = All-map (λ (m : M). HasSize shelf (state m)) (λ (s : ShelfState M). s.medium) shelves (λ k d l. (h.each k d l).size)

-- and its media got these calls and no other
shelf_called : {M I : Type 0} (state : M → MediumState I) (moves : I → Step → Bool → I → Type 0) (shelf : ℕ) (shelves : List (ShelfState M)) (i : ℕ) (calls : List Call) (x new : ShelfState M) →
    IsNamespace state shelf shelves → i < length shelves → x ≡ get_or shelves i x → IsCalled state moves calls x new →
    HasCalled state moves (record { shelves = shelves; shelf = shelf }) (all_at i calls) (record { shelves = set shelves i new; shelf = shelf })
shelf_called {M} state moves shelf shelves i calls x new h there is called =
    let medium : ShelfState M → M = λ s. s.medium in
    let media : List M = map medium shelves in
    let there_too : i < length media = omega (arith, there, length-map shelves medium) in
    let at : x.medium ≡ get_or media i x.medium = ap medium is ∙ sym (get_or-map medium shelves i x x.medium there) in
    record {
      sizes = have_sizes state shelf shelves h;
      made = subst (λ (l : List M). Chain (IsAt state moves) media (all_at i calls) l) (sym (map-set medium shelves i new)) (made_at state moves media i x.medium new.medium calls there_too at called.made);
      shelf = refl;
      rooms = same_map (λ (s : ShelfState M). s.room) shelves i x new there is called.room;
    }

entry_more : {M : Type 0} (shelves : List (ShelfState M)) (i : ℕ) (x new : ShelfState M) (entry : ShelfEntry) → i < length shelves → x ≡ get_or shelves i x →
    new.entries ≡ x.entries ++ entry ∷ [] → map (λ (s : ShelfState M). s.entries) (set shelves i new) ≡ with_entry i entry (map (λ (s : ShelfState M). s.entries) shelves)
entry_more {M} shelves i x new entry there is more =
    map-set (λ (s : ShelfState M). s.entries) shelves i new
    ∙ ap (set (map (λ (s : ShelfState M). s.entries) shelves) i)
    (more ∙ ap (λ (l : List ShelfEntry). l ++ entry ∷ []) (ap (λ (s : ShelfState M). s.entries) is ∙ sym (get_or-map (λ (s : ShelfState M). s.entries) shelves i x [] there)))

-- all shelves tell as many blocks as the namespace has
pub told_length : {M I : Type 0} (state : M → MediumState I) (shelf count : ℕ) (shelves : List (ShelfState M)) → IsNamespace state shelf shelves → count ≡ length shelves →
    IfSome (joined (map (λ (m : M). (state m).blocks) (map (λ (s : ShelfState M). s.medium) shelves))) (λ (bs : List (List ℕ)). length bs ≡ count * shelf)
told_length {M} state shelf count shelves h is =
    let blocks : M → Option (List (List ℕ)) = λ m. (state m).blocks in
    let media : List M = map (λ (s : ShelfState M). s.medium) shelves in
    let sized : AreSized shelf (map blocks media) = All-map (λ (o : Option (List (List ℕ))). IsSized o shelf) blocks media (λ k d l. (have_sizes state shelf shelves h k d l).told) in
    subst (λ (n : ℕ). IfSome (joined (map blocks media)) (λ (bs : List (List ℕ)). length bs ≡ n * shelf))
    (length-map media blocks ∙ length-map shelves (λ (s : ShelfState M). s.medium) ∙ sym is) (length_joined shelf (map blocks media) sized)

-- Places.

within_shelf : (base first count size r s : ℕ) → base + r ≡ first → base + s ≡ first + count - 1 → s < size → 1 ≤ count → (base ≤ first) × (first + count ≤ base + size)
within_shelf base first count size r s begins ends small some = (omega arith, omega arith)

-- a range whose first and last block are in one shelf lies in it
pub lies_in_one : (span : Span) (size : ℕ) → 1 ≤ size → 1 ≤ span.count → span.first / size ≡ (span.first + span.count - 1) / size → LiesIn (span.first / size * size) size span
lies_in_one span size large some same =
    within_shelf (span.first / size * size) span.first span.count size (span.first % size) ((span.first + span.count - 1) % size)
    (div-add-mod' span.first size)
    (ap (λ (k : ℕ). k * size + (span.first + span.count - 1) % size) same ∙ div-add-mod' (span.first + span.count - 1) size)
    (mod_below (span.first + span.count - 1) size (omega arith)) some

-- and that shelf is there
pub shelf_there : (first count size shelves : ℕ) → 1 ≤ size → 1 ≤ count → first + count ≤ shelves * size → first / size < shelves
shelf_there first count size shelves large some within = div_below first size shelves (omega arith) (omega arith)

-- a block's place in its shelf
pub place_in_shelf : (b size : ℕ) → 1 ≤ size → (b % size < size) × (b - b / size * size ≡ b % size)
place_in_shelf b size large = (mod_below b size (omega arith), omega (arith, div-add-mod' b size))

-- What a call of a namespace did, by what it did to the shelf: it is a namespace still, and its media and entries are as
-- the call says.

pub block_called : {M I : Type 0} (state : M → MediumState I) (moves : I → Step → Bool → I → Type 0) (shelf : ℕ) (shelves : List (ShelfState M)) (b : ℕ) (call : ℕ → Call) (x new : ShelfState M) →
    IsNamespace state shelf shelves → b < length shelves * shelf → x ≡ get_or shelves (b / shelf) x → IsMade state moves x.medium (call (b - x.first)) new.medium → new ≡ record x { medium = new.medium } →
    IsNamespace state shelf (set shelves (b / shelf) new)
    × HasCalled state moves (record { shelves = shelves; shelf = shelf }) (record { shelf = b / shelf; call = call (b % shelf) } ∷ []) (record { shelves = set shelves (b / shelf) new; shelf = shelf })
    × (map (λ (s : ShelfState M). s.entries) (set shelves (b / shelf) new) ≡ map (λ (s : ShelfState M). s.entries) shelves)
block_called {M} state moves shelf shelves b call x new h within is made rest =
    let there = div_below b shelf (length shelves) (omega (arith, h.large)) within in
    let place : b - x.first ≡ b % shelf = ap (λ (k : ℕ). b - k) (shelf_here state shelf shelves (b / shelf) x h there is).first ∙ (place_in_shelf b shelf h.large).1 in
    let called : IsCalled state moves (call (b % shelf) ∷ []) x new = record {
      first = ap (λ (s : ShelfState M). s.first) rest;
      room = ap (λ (s : ShelfState M). s.room) rest;
      made = (new.medium, subst (λ (k : ℕ). IsMade state moves x.medium (call k) new.medium) place made, refl);
    } in (
      stays_namespace state moves shelf shelves (b / shelf) (call (b % shelf) ∷ []) x new h there is called,
      shelf_called state moves shelf shelves (b / shelf) (call (b % shelf) ∷ []) x new h there is called,
      same_map (λ (s : ShelfState M). s.entries) shelves (b / shelf) x new there is (ap (λ (s : ShelfState M). s.entries) rest),
    )

pub piece_called : {M I : Type 0} (state : M → MediumState I) (moves : I → Step → Bool → I → Type 0) (shelf : ℕ) (shelves : List (ShelfState M)) (piece : Piece) (result : PieceResult) (entry : ShelfEntry) (x new : ShelfState M) (memory new_memory : List (List ℕ)) (pages : ℕ) →
    IsNamespace state shelf shelves → IsForNamespace (record { shelves = shelves; shelf = shelf }) pages piece → x ≡ get_or shelves (piece.span.first / shelf) x →
    HasApplied state moves piece (piece.span.first - x.first) result x.medium memory new.medium new_memory → new ≡ record x { medium = new.medium; entries = x.entries ++ entry ∷ [] } →
    IsNamespace state shelf (set shelves (piece.span.first / shelf) new)
    × HasAppliedIn state moves piece result (record { shelves = shelves; shelf = shelf }) memory (record { shelves = set shelves (piece.span.first / shelf) new; shelf = shelf }) new_memory
    × (map (λ (s : ShelfState M). s.entries) (set shelves (piece.span.first / shelf) new) ≡ with_entry (piece.span.first / shelf) entry (map (λ (s : ShelfState M). s.entries) shelves))
piece_called {M} state moves shelf shelves piece result entry x new memory new_memory pages h is_for is applied rest =
    let first : ℕ = piece.span.first in
    let i : ℕ = first / shelf in
    let there = shelf_there first piece.span.count shelf (length shelves) h.large is_for.some is_for.within in
    let place : first - x.first ≡ first % shelf = ap (λ (k : ℕ). first - k) (shelf_here state shelf shelves i x h there is).first ∙ (place_in_shelf first shelf h.large).1 in
    let calls = piece_calls piece (first % shelf) memory applied.moved result.outcome in
    let called : IsCalled state moves calls x new = record {
      first = ap (λ (s : ShelfState M). s.first) rest;
      room = ap (λ (s : ShelfState M). s.room) rest;
      made = subst (λ (k : ℕ). Chain (IsMade state moves) x.medium (piece_calls piece k memory applied.moved result.outcome) new.medium) place applied.calls;
    } in (
      stays_namespace state moves shelf shelves i calls x new h there is called,
      record { moved = applied.moved; done = applied.done; called = shelf_called state moves shelf shelves i calls x new h there is called },
      entry_more shelves i x new entry there is (ap (λ (s : ShelfState M). s.entries) rest),
    )

-- a piece for a namespace is one for its shelf
pub for_shelf : {M I : Type 0} (state : M → MediumState I) (shelf : ℕ) (shelves : List (ShelfState M)) (piece : Piece) (x : ShelfState M) (pages : ℕ) → IsNamespace state shelf shelves →
    IsForNamespace (record { shelves = shelves; shelf = shelf }) pages piece → x ≡ get_or shelves (piece.span.first / shelf) x → IsForShelf x.first (state x.medium).size pages piece
for_shelf state shelf shelves piece x pages h is_for is =
    let first : ℕ = piece.span.first in
    let there = shelf_there first piece.span.count shelf (length shelves) h.large is_for.some is_for.within in
    let here = shelf_here state shelf shelves (first / shelf) x h there is in
    let lies = lies_in_one piece.span shelf h.large is_for.some is_for.one_shelf in
    record {
      op = is_for.op;
      some = is_for.some;
      few = is_for.few;
      within = (omega (arith, here.first, lies.0), omega (arith, here.first, here.size.size_is, lies.1));
      has_pages = is_for.has_pages;
    }

-- Marks, shelf after shelf.

pub marked_none : {M I : Type 0} (state : M → MediumState I) (moves : I → Step → Bool → I → Type 0) (shelf n : ℕ) (shelves : List (ShelfState M)) → IsNamespace state shelf shelves → AreMarked state moves shelf n 0 shelves shelves
marked_none state moves shelf n shelves h = record {
  namespace = h;
  count_is = refl;
  called = record { sizes = have_sizes state shelf shelves h; made = refl; shelf = refl; rooms = refl };
  entries = refl;
}

pub marked_more : {M I : Type 0} (state : M → MediumState I) (moves : I → Step → Bool → I → Type 0) (shelf n count : ℕ) (old shelves : List (ShelfState M)) (x new : ShelfState M) → AreMarked state moves shelf n count old shelves → count < length shelves → x ≡ get_or shelves count x →
    IsMade state moves x.medium (marked n) new.medium → new ≡ record x { medium = new.medium } → AreMarked state moves shelf n (count + 1) old (set shelves count new)
marked_more {M} state moves shelf n count old shelves x new h there is made rest =
    let medium : ShelfState M → M = λ s. s.medium in
    let called : IsCalled state moves (marked n ∷ []) x new = record { first = ap (λ (s : ShelfState M). s.first) rest; room = ap (λ (s : ShelfState M). s.room) rest; made = (new.medium, made, refl) } in
    let one = shelf_called state moves shelf shelves count (marked n ∷ []) x new h.namespace there is called in
    let after = map medium (set shelves count new) in
    let all = chain_more (IsAt state moves) (map medium old) (marks_at count n) (map medium shelves) (all_at count (marked n ∷ [])) after h.called.made one.made in
    record {
      namespace = stays_namespace state moves shelf shelves count (marked n ∷ []) x new h.namespace there is called;
      count_is = length-set shelves count new ∙ h.count_is;
      called = record {
        sizes = h.called.sizes;
        made = subst (λ (calls : List At). Chain (IsAt state moves) (map medium old) calls after) (sym (map-range_with_len_more (λ (i : ℕ). record { shelf = i; call = marked n }) 0 count count (omega arith))) all;
        shelf = refl;
        rooms = one.rooms ∙ h.called.rooms;
      };
      entries = same_map (λ (s : ShelfState M). s.entries) shelves count x new there is (ap (λ (s : ShelfState M). s.entries) rest) ∙ h.entries;
    }

-- Its entries were dropped.

pub cleared_at : {M I : Type 0} (state : M → MediumState I) (moves : I → Step → Bool → I → Type 0) (shelf : ℕ) (shelves : List (ShelfState M)) (b : ℕ) (x : ShelfState M) → IsNamespace state shelf shelves → b < length shelves * shelf → x ≡ get_or shelves (b / shelf) x →
    IsNamespace state shelf (set shelves (b / shelf) (cleared x)) × IsClearedAt b (record { shelves = shelves; shelf = shelf }) (record { shelves = set shelves (b / shelf) (cleared x); shelf = shelf })
cleared_at {M} state moves shelf shelves b x h within is =
    let i = b / shelf in
    let there : i < length shelves = div_below b shelf (length shelves) (omega (arith, h.large)) within in (
      stays_namespace state moves shelf shelves i [] x (cleared x) h there is (record { first = refl; room = refl; made = refl }),
      record {
        media = same_map (λ (s : ShelfState M). s.medium) shelves i x (cleared x) there is refl;
        shelf = refl;
        rooms = same_map (λ (s : ShelfState M). s.room) shelves i x (cleared x) there is refl;
        entries = map-set (λ (s : ShelfState M). s.entries) shelves i (cleared x);
      },
    )
