use Rattle.std.specs.Prelude.{IfSome, OnErr, OnOk, is_err}
use Rattle.std.proofs.Common.{◌≡◌, ℕ, ◌+◌, ◌/◌, ◌%◌, Bool, cond, List, [], ◌∷◌, Option, Some, None, Result, Ok, Err, length, map, set, refl, sym, ap, subst, ◌∙◌, ◌<◌, ◌++◌, get_or, get_or-set_same, length-set, arith, ◌==◌, ◌-◌, ◌*◌, ⊎_elim, eq-eqb, ne_eqb}
use Rattle.std.proofs.lemmas.Nat.{div-add-mod'}
use Rattle.std.specs.List.{range_with_len}
use Rattle.std.proofs.lemmas.List.{get_or-map, length-map, map-set, set-get_or, get_or-set_other, get_or_past, get_or_push, length_push}
use Rattle.mig_base.specs.Count.{HaveCause, RiseBy}
use Rattle.std.proofs.lemmas.Bool.{cases_eq, cases_lt}
use Rattle.nvm_model.specs.declared.piece.Piece.{Piece}
use Rattle.nvm_model.specs.declared.piece.PieceResult.{PieceResult}
use Rattle.nvm_model.specs.declared.piece.ShelfEntry.{ShelfEntry}
use Rattle.nvm_model.specs.declared.trace.Step.{Step}
use Rattle.nvm_model.specs.Chain.{Chain}
use Rattle.nvm_model.specs.Medium.{At, Effect, IsAt, MediumState, StayTold, faults_in, flat_call, got, marked, marks_at, sent}
use Rattle.nvm_model.specs.Piece.{block_at}
use Rattle.nvm_model.proofs.MediaLemmas.{counts_rise, flat_calls, told_map}
use Rattle.nvm_blocks.specs.Namespace.{HasCalled, HasRoom, IsClearedAt, NamespaceState, block_count, entries_of, faults_of, media_of, rooms_of, told_of, with_entry, Enters, HasAppliedIn, IsSameButEntries, SameShelves, entries_at}
use Rattle.nvm_blocks.specs.ShelfState.{ShelfState}

-- What the calls of a namespace's media come to, for its told blocks and for its counts of failed calls.

-- it has as many shelves as before
pub as_many_shelves : {M I : Type 0} {state : M → MediumState I} {moves : I → Step → Bool → I → Type 0} {n new : NamespaceState M} {calls : List At} → HasCalled state moves n calls new → length new.shelves ≡ length n.shelves
as_many_shelves {M} {n = n} {new} h =
    sym (length-map new.shelves (λ (s : ShelfState M). s.room)) ∙ ap (λ (l : List ℕ). length l) h.rooms ∙ length-map n.shelves (λ (s : ShelfState M). s.room)

-- One call.

call_told : {M I : Type 0} {state : M → MediumState I} {moves : I → Step → Bool → I → Type 0} {n new : NamespaceState M} {a : At} → HasCalled state moves n (a ∷ []) new →
    StayTold (λ x y. Effect x (flat_call n.shelf a) y) (told_of state n) (told_of state new)
call_told {state = state} {moves} {n} {new} {a} h =
    told_map _ (λ x y. Effect x (flat_call n.shelf a) y) (told_of state n) (told_of state new) (λ x y c. subst (λ z. Effect x (flat_call n.shelf a) z) (sym c.2) c.1)
    (flat_calls state moves n.shelf (media_of n) (a ∷ []) (media_of new) h.made h.sizes)

call_counts : {M I T E : Type 0} {state : M → MediumState I} {moves : I → Step → Bool → I → Type 0} {n new : NamespaceState M} {a : At} (result : Result T E) → a.call.failed ≡ is_err result → HasCalled state moves n (a ∷ []) new →
    HaveCause (faults_of state n) (faults_of state new) result
call_counts {state = state} {moves} {n} {new} {a} result failed h =
    let counts = counts_rise state moves (media_of n) a.shelf (a.call ∷ []) (media_of new) h.made in
    record {
      later = counts.0;
      failed = λ err. subst (λ (b : Bool). RiseBy (cond b 1 0 + 0) (faults_of state n) (faults_of state new)) (failed ∙ err) counts.1;
    }

same_told : (R : List (List ℕ) → List (List ℕ) → Type 0) (old new : Option (List (List ℕ))) → ((x y : List (List ℕ)) → R x y → y ≡ x) → StayTold R old new → new ≡ old
same_told R None None f h = refl
same_told R None (Some y) f h = absurd h
same_told R (Some x) None f h = absurd h
same_told R (Some x) (Some y) f h = ap (λ (z : List (List ℕ)). Some z) (f x y h)

if_told : (R : List (List ℕ) → List (List ℕ) → Type 0) (P : List (List ℕ) → Type 0) (old new : Option (List (List ℕ))) → ((x y : List (List ℕ)) → R x y → P x) → StayTold R old new → IfSome old P
if_told R P None new f h = tt
if_told R P (Some x) None f h = absurd h
if_told R P (Some x) (Some y) f h = f x y h

-- a block of the namespace that was read: no block changed, and it is the one that is there
pub record WasRead {M I T E : Type 0} (state : M → MediumState I) (n : NamespaceState M) (b : ℕ) (out : List ℕ) (result : Result T E) (new : NamespaceState M) : Type 0 where
  pub blocks : told_of state new ≡ told_of state n
  pub gives : OnOk result (IfSome (told_of state n) (λ blocks. out ≡ block_at blocks b))
  pub cause : HaveCause (faults_of state n) (faults_of state new) result

pub was_read : {M I T E : Type 0} {state : M → MediumState I} {moves : I → Step → Bool → I → Type 0} {n new : NamespaceState M} (b : ℕ) (out : List ℕ) (result : Result T E) →
    HasCalled state moves n (record { shelf = b / n.shelf; call = got (b % n.shelf) out result } ∷ []) new → WasRead state n b out result new
was_read {state = state} {n = n} {new} b out (Ok x) h = record {
  blocks = same_told _ (told_of state n) (told_of state new) (λ x y e. e.new_is) (call_told h);
  gives = if_told _ (λ blocks. out ≡ block_at blocks b) (told_of state n) (told_of state new) (λ x y e. e.gives ∙ ap (block_at x) (div-add-mod' b n.shelf)) (call_told h);
  cause = call_counts (Ok x) refl h;
}
was_read {state = state} {n = n} {new} b out (Err x) h = record {
  blocks = same_told _ (told_of state n) (told_of state new) (λ x y e. e.new_is) (call_told h);
  gives = tt;
  cause = call_counts (Err x) refl h;
}

-- a block of the namespace that was written: it alone changed, and none did where the call failed
pub record WasPut {M I T E : Type 0} (state : M → MediumState I) (n : NamespaceState M) (b : ℕ) (bytes : List ℕ) (result : Result T E) (new : NamespaceState M) : Type 0 where
  pub put : OnOk result (StayTold (λ x y. y ≡ set x b bytes) (told_of state n) (told_of state new))
  pub kept : OnErr result (told_of state new ≡ told_of state n)
  pub cause : HaveCause (faults_of state n) (faults_of state new) result

pub was_put : {M I T E : Type 0} {state : M → MediumState I} {moves : I → Step → Bool → I → Type 0} {n new : NamespaceState M} (b : ℕ) (bytes : List ℕ) (result : Result T E) →
    HasCalled state moves n (record { shelf = b / n.shelf; call = sent (b % n.shelf) bytes (is_err result) } ∷ []) new → WasPut state n b bytes result new
was_put {state = state} {n = n} {new} b bytes (Ok x) h = record {
  put = told_map _ (λ x y. y ≡ set x b bytes) (told_of state n) (told_of state new) (λ x y e. e.new_is ∙ ap (λ (k : ℕ). set x k bytes) (div-add-mod' b n.shelf)) (call_told h);
  kept = tt;
  cause = call_counts (Ok x) refl h;
}
was_put {state = state} {n = n} {new} b bytes (Err x) h = record {
  put = tt;
  kept = same_told _ (told_of state n) (told_of state new) (λ x y e. e.new_is) (call_told h);
  cause = call_counts (Err x) refl h;
}

-- A mark of all media.

mark_counts : {M I : Type 0} (state : M → MediumState I) (moves : I → Step → Bool → I → Type 0) (n i : ℕ) (d : M) (old new : List M) → IsAt state moves old (record { shelf = i; call = marked n }) new → faults_in state new ≡ faults_in state old
mark_counts {M} state moves n i d old new r =
    let faults : M → ℕ = λ m. (state m).faults in
    let one : faults (get_or new i d) ≡ get_or (map faults old) i 0 = (r.call d).uncounted ∙ sym (get_or-map faults old i d 0 r.there) in
    ap (map faults) (r.others d) ∙ map-set faults old i (get_or new i d) ∙ ap (set (map faults old) i) one ∙ set-get_or (map faults old) i 0

marks_count : {M I : Type 0} (state : M → MediumState I) (moves : I → Step → Bool → I → Type 0) (n : ℕ) (shelves : List ℕ) (old new : List M) → Chain (IsAt state moves) old (map (λ (i : ℕ). record { shelf = i; call = marked n }) shelves) new →
    faults_in state new ≡ faults_in state old
marks_count state moves n [] old new c = ap (faults_in state) c
marks_count state moves n (i ∷ shelves) [] new c = absurd (omega (arith, c.1.there))
marks_count state moves n (i ∷ shelves) (m ∷ old) new c = marks_count state moves n shelves c.0 new c.2 ∙ mark_counts state moves n i m (m ∷ old) c.0 c.1

marks_stay : (size n : ℕ) (shelves : List ℕ) (x y : List (List ℕ)) → Chain (λ a (c : At) b. Effect a (flat_call size c) b) x (map (λ (i : ℕ). record { shelf = i; call = marked n }) shelves) y → y ≡ x
marks_stay size n [] x y c = c
marks_stay size n (i ∷ shelves) x y c = marks_stay size n shelves c.0 y c.2 ∙ c.1.new_is

-- no block changed, and no count
pub was_marked : {M I : Type 0} {state : M → MediumState I} {moves : I → Step → Bool → I → Type 0} {n new : NamespaceState M} (mark : ℕ) →
    HasCalled state moves n (marks_at (length n.shelves) mark) new → (told_of state new ≡ told_of state n) × (faults_of state new ≡ faults_of state n)
was_marked {state = state} {moves} {n} {new} mark h =
    let shelves = range_with_len 0 (length n.shelves) in (
      same_told _ (told_of state n) (told_of state new) (λ x y c. marks_stay n.shelf mark shelves x y c) (flat_calls state moves n.shelf (media_of n) (marks_at (length n.shelves) mark) (media_of new) h.made h.sizes),
      marks_count state moves mark shelves (media_of n) (media_of new) h.made,
    )

-- Namespaces of the same shelves.

pub same_stay : {M : Type 0} (n : NamespaceState M) → SameShelves n n
same_stay n = record { shelf = refl; count = refl; rooms = refl }

pub same_more : {M : Type 0} {a b c : NamespaceState M} → SameShelves a b → SameShelves b c → SameShelves a c
same_more x y = record { shelf = y.shelf ∙ x.shelf; count = y.count ∙ x.count; rooms = y.rooms ∙ x.rooms }

-- calls of its media leave a namespace's shelves
pub called_same : {M I : Type 0} {state : M → MediumState I} {moves : I → Step → Bool → I → Type 0} {n new : NamespaceState M} {calls : List At} → HasCalled state moves n calls new → SameShelves n new
called_same called = record { shelf = called.shelf; count = as_many_shelves called; rooms = called.rooms }

-- and so does dropping the entries of one
cleared_shelves : {M : Type 0} {b : ℕ} {n new : NamespaceState M} → IsClearedAt b n new → SameShelves n new
cleared_shelves {M} {n = n} {new} is = record {
  shelf = is.shelf;
  count = sym (length-map new.shelves (λ (s : ShelfState M). s.room)) ∙ ap length is.rooms ∙ length-map n.shelves (λ (s : ShelfState M). s.room);
  rooms = is.rooms;
}

-- as many blocks
pub same_count : {M : Type 0} {n new : NamespaceState M} → SameShelves n new → block_count new ≡ block_count n
same_count {n = n} {new} same = ap (λ (k : ℕ). k * new.shelf) same.count ∙ ap (λ (k : ℕ). length n.shelves * k) same.shelf

-- Its shelves' entries.

-- a shelf that has room for an entry is there
there_of : {M : Type 0} (n : NamespaceState M) (i : ℕ) → HasRoom n i → i < length (entries_of n)
there_of {M} n i room =
    let rooms : length (rooms_of n) ≡ length n.shelves = length-map n.shelves (λ (s : ShelfState M). s.room) in
    let entries : length (entries_of n) ≡ length n.shelves = length-map n.shelves (λ (s : ShelfState M). s.entries) in
    ⊎_elim (λ (low : i < length (rooms_of n)). omega (arith, low, rooms, entries)) (λ past. absurd (omega (arith, room, get_or_past (rooms_of n) i 0 past))) (cases_lt i (length (rooms_of n)))

-- an entry more stands behind those that were there
entered_at : {M : Type 0} {n new : NamespaceState M} {b : ℕ} {entry : ShelfEntry} → Enters b entry n new → HasRoom n (b / n.shelf) → entries_at new b ≡ entries_at n b ++ entry ∷ []
entered_at {n = n} {new} {b} is room =
    ap (λ (k : ℕ). get_or (entries_of new) (b / k) []) is.shelf ∙ ap (λ (es : List (List ShelfEntry)). get_or es (b / n.shelf) []) is.entries ∙ get_or-set_same (entries_of n) (b / n.shelf) _ [] (there_of n (b / n.shelf) room)

-- a piece that was done leaves one
pub applied_enters : {M I : Type 0} {state : M → MediumState I} {moves : I → Step → Bool → I → Type 0} {piece : Piece} {result : PieceResult} {n new : NamespaceState M} {memory new_memory : List (List ℕ)} {entry : ShelfEntry} →
    HasAppliedIn state moves piece result n memory new new_memory → entries_of new ≡ with_entry (piece.span.first / n.shelf) entry (entries_of n) → Enters piece.span.first entry n new
applied_enters applied entries = record { shelf = applied.called.shelf; entries = entries }

-- so there is one, and it is the last
pub entered_some : {M : Type 0} {n new : NamespaceState M} {b : ℕ} {entry : ShelfEntry} → Enters b entry n new → HasRoom n (b / n.shelf) → entries_at new b ≡ [] → ⊥
entered_some {n = n} {b = b} {entry} is room none = omega (arith, ap length (sym (entered_at is room) ∙ none), length_push (entries_at n b) entry)

pub entered_last : {M : Type 0} {n new : NamespaceState M} {b : ℕ} {entry : ShelfEntry} (d : ShelfEntry) → Enters b entry n new → HasRoom n (b / n.shelf) → d ≡ get_or (entries_at new b) (length (entries_at new b) - 1) d → d ≡ entry
entered_last {n = n} {new} {b} {entry} d is room last =
    let now = entered_at is room in
    let before : length (entries_at n b) ≡ length (entries_at new b) - 1 = omega (arith, ap length now, length_push (entries_at n b) entry) in
    last ∙ ap (λ (es : List ShelfEntry). get_or es (length (entries_at new b) - 1) d) now ∙ get_or_push (entries_at n b) entry d (length (entries_at new b) - 1) before

-- how many there are in each shelf
pub entered_count : {M : Type 0} {n new : NamespaceState M} {b : ℕ} {entry : ShelfEntry} (i : ℕ) → Enters b entry n new → HasRoom n (b / n.shelf) → length (get_or (entries_of new) i []) ≡ length (get_or (entries_of n) i []) + cond (b / n.shelf == i) 1 0
entered_count {n = n} {b = b} {entry} i is room =
    let at = b / n.shelf in
    let one : Bool → ℕ = λ y. cond y 1 0 in
    let now = ap (λ (es : List (List ShelfEntry)). length (get_or es i [])) is.entries in
    ⊎_elim (λ (here : at ≡ i).
    let own : get_or (with_entry at entry (entries_of n)) i [] ≡ get_or (entries_of n) i [] ++ entry ∷ [] =
    ap (λ (j : ℕ). get_or (with_entry at entry (entries_of n)) j []) (sym here) ∙ get_or-set_same (entries_of n) at _ [] (there_of n at room) ∙ ap (λ (j : ℕ). get_or (entries_of n) j [] ++ entry ∷ []) here in
    omega (arith, now, ap length own, length_push (get_or (entries_of n) i []) entry, ap one (eq-eqb at i here)))
    (λ (other : at ≡ i → ⊥).
    let own : get_or (with_entry at entry (entries_of n)) i [] ≡ get_or (entries_of n) i [] = get_or-set_other (entries_of n) at i _ [] (λ is_here. other (sym is_here)) in
    omega (arith, now, ap length own, ap one (ne_eqb at i other)))
    (cases_eq at i)

-- what was dropped isn't there, and nothing came
cleared_here : {M : Type 0} {n new : NamespaceState M} (b : ℕ) → IsClearedAt b n new → get_or (entries_of new) (b / n.shelf) [] ≡ []
cleared_here {n = n} b is =
    let at = b / n.shelf in
    ap (λ (es : List (List ShelfEntry)). get_or es at []) is.entries
    ∙ ⊎_elim (λ low. get_or-set_same (entries_of n) at [] [] low) (λ past. get_or_past (set (entries_of n) at []) at [] (omega (arith, past, length-set (entries_of n) at []))) (cases_lt at (length (entries_of n)))

pub cleared_at : {M : Type 0} {n new : NamespaceState M} (b : ℕ) → IsClearedAt b n new → entries_at new b ≡ []
cleared_at {n = n} {new} b is = ap (λ (k : ℕ). get_or (entries_of new) (b / k) []) is.shelf ∙ cleared_here b is

cleared_stays : {M : Type 0} {n new : NamespaceState M} (b i : ℕ) → IsClearedAt b n new → get_or (entries_of n) i [] ≡ [] → get_or (entries_of new) i [] ≡ []
cleared_stays {n = n} {new} b i is none = ⊎_elim
    (λ (here : i ≡ b / n.shelf). subst (λ (j : ℕ). get_or (entries_of new) j [] ≡ []) (sym here) (cleared_here b is))
    (λ (other : i ≡ b / n.shelf → ⊥). ap (λ (es : List (List ShelfEntry)). get_or es i []) is.entries ∙ get_or-set_other (entries_of n) (b / n.shelf) i [] [] other ∙ none)
    (cases_eq i (b / n.shelf))

pub entries_same : {M : Type 0} (n : NamespaceState M) → IsSameButEntries n n
entries_same n = record { media = refl; shelves = same_stay n; none = λ i none. none }

pub entries_more : {M : Type 0} {a b c : NamespaceState M} → IsSameButEntries a b → IsSameButEntries b c → IsSameButEntries a c
entries_more x y = record { media = y.media ∙ x.media; shelves = same_more x.shelves y.shelves; none = λ i none. y.none i (x.none i none) }

pub entries_cleared : {M : Type 0} {n new : NamespaceState M} (b : ℕ) → IsClearedAt b n new → IsSameButEntries n new
entries_cleared b is = record { media = is.media; shelves = cleared_shelves is; none = λ i none. cleared_stays b i is none }

-- a shelf that has none has none later on
pub none_at : {M : Type 0} {n new : NamespaceState M} (b : ℕ) → IsSameButEntries n new → entries_at n b ≡ [] → entries_at new b ≡ []
none_at {n = n} {new} b is none = ap (λ (k : ℕ). get_or (entries_of new) (b / k) []) is.shelves.shelf ∙ is.none (b / n.shelf) none
