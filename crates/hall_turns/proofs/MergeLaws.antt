use Rattle.std.proofs.Common.{◌≡◌, ◌≢◌, ℕ, ◌+◌, ◌<◌, ◌≤◌, ⊎_elim, Bool, cond, eq-eqb, ne_eqb, List, [], ◌∷◌, length, get_or, set, refl, sym, ap, subst, ◌∙◌, arith}
use Rattle.std.specs.List.{AllByRecursion}
use Rattle.std.proofs.lemmas.Bool.{cases_eq}
use Rattle.std.proofs.lemmas.List.{ext_get_or, get_or_default, get_or-set_same, get_or-set_other, length-set}
use Rattle.mig_base.proofs.ListLemmas.{element_at}
use Rattle.nvm_model.specs.declared.script.Script.{Script}
use Rattle.nvm_model.specs.declared.trace.Step.{Step}
use Rattle.nvm_model.specs.Chain.{Chain}
use Rattle.nvm_model.specs.Medium.{At, IsAt, MediumState, all_at}
use Rattle.nvm_model.specs.Run.{Here, IsItem, Item, PieceCalled, copies_of, here_of, pieces_of}
use Rattle.nvm_model.specs.Run.Item.{Served, Crossed}
use Rattle.nvm_model.specs.World.{Lane, new_lane}
use Rattle.nvm_model.proofs.MediaLemmas.{made_at}
use Rattle.hall_turns.specs.Closed.{Across, GetsCalls, GoesAcross, OnLane, Parts, by_threads, place_of, shelf_of}
use Rattle.hall_turns.specs.Merge.{AtKey, Each, at_key}

-- What goes on by its own labels, each by itself, goes on by all of them in their order.

-- those of one key are those of one list
pub here : {A : Type 0} (key : A → ℕ) (a : A) (labels : List A) → at_key key (key a) (a ∷ labels) ≡ a ∷ at_key key (key a) labels
here key a labels = ap (λ b. cond b (a ∷ at_key key (key a) labels) (at_key key (key a) labels)) (eq-eqb (key a) (key a) refl)

pub elsewhere : {A : Type 0} (key : A → ℕ) (i : ℕ) (a : A) (labels : List A) → key a ≢ i → at_key key i (a ∷ labels) ≡ at_key key i labels
elsewhere key i a labels other = ap (λ b. cond b (a ∷ at_key key i labels) (at_key key i labels)) (ne_eqb (key a) i other)

-- lists that are the same at each place
same : {S : Type 0} (xs ys : List S) → length ys ≡ length xs → ((i : ℕ) (d : S) → i < length xs → get_or ys i d ≡ get_or xs i d) → ys ≡ xs
same [] [] count each = refl
same [] (y ∷ ys) count each = absurd (omega (arith, count))
same (x ∷ xs) ys count each = ext_get_or x ys (x ∷ xs) count (λ i low. each i x (omega (arith, low, count)))

-- Each by its own labels, all of them by all labels in their order.
pub merged : {S A : Type 0} (R : S → A → S → Type 0) (key : A → ℕ) (xs : List S) (labels : List A) (ys : List S) → Each R key xs labels ys → Chain (AtKey R key) xs labels ys
merged R key xs [] ys e = same xs ys e.count (λ i d low. e.each i d low)
merged {S} {A} R key xs (a ∷ labels) ys e =
    let i = key a in
    let there : i < length xs = e.there.0 in
    let d = element_at xs i there in
    let c : Chain R (get_or xs i d) (a ∷ at_key key i labels) (get_or ys i d) = subst (λ (l : List A). Chain R (get_or xs i d) l (get_or ys i d)) (here key a labels) (e.each i d there) in
    let mid = set xs i c.0 in
    let size : length mid ≡ length xs = length-set xs i c.0 in
    let at : (b : S) → get_or mid i b ≡ c.0 = λ b. get_or-set_same xs i c.0 b there in (
      mid,
      record {
        there = there;
        does = λ b. subst (λ x. R x a (get_or mid i b)) (get_or_default xs i d b there) (subst (R (get_or xs i d) a) (sym (at b)) c.1);
        others = λ b. ap (set xs i) (sym (at b));
      },
      merged R key mid labels ys (record {
        count = e.count ∙ sym size;
        there = subst (λ (n : ℕ). AllByRecursion (λ (b : A). key b < n) labels) (sym size) e.there.1;
        each = λ j b low.
            ⊎_elim
            (λ (is : j ≡ i). subst (λ (k : ℕ). Chain R (get_or mid k b) (at_key key k labels) (get_or ys k b)) (sym is)
            (subst (λ x. Chain R x (at_key key i labels) (get_or ys i b)) (sym (at b))
            (subst (λ y. Chain R c.0 (at_key key i labels) y) (get_or_default ys i d b (omega (arith, there, e.count))) c.2)))
            (λ (other : j ≢ i). subst (λ x. Chain R x (at_key key j labels) (get_or ys j b)) (sym (get_or-set_other xs i j c.0 b other))
            (subst (λ (l : List A). Chain R (get_or xs j b) l (get_or ys j b)) (elsewhere key j a labels (λ q. other (sym q))) (e.each j b (omega (arith, low, size)))))
            (cases_eq j i);
      }),
    )

-- The items of a turn, by chains of what is their own.

-- the media of the side on which the guests stand got an item's calls
called : {M I : Type 0} (state : M → MediumState I) (moves : I → Step → Bool → I → Type 0) (size : ℕ) (media : List M) (x : Item) (new : List M) → AtKey (GetsCalls state moves size) (shelf_of size) media x new → Chain (IsAt state moves) media (here_of size x) new
called {M} state moves size media x new at =
    let i = shelf_of size x in
    let d = element_at media i at.there in
    let got = at.does d in
    subst (λ (calls : List At). Chain (IsAt state moves) media calls new) (sym got.calls_are)
    (subst (λ (ms : List M). Chain (IsAt state moves) media (all_at i got.calls) ms) (sym (at.others d))
    (made_at state moves media i (get_or media i d) (get_or new i d) got.calls at.there (get_or_default media i d (get_or media i d) at.there) got.made))

beside : {M I : Type 0} (state : M → MediumState I) (moves : I → Step → Bool → I → Type 0) (s : Script) (lanes : List Lane) (media : List M) (across : Across M) (drawn : ℕ) (items : List Item) (new_lanes : List Lane) (new_media : List M) (new_across : Across M) →
    AllByRecursion (λ (p : PieceCalled). 1 ≤ p.lane) (pieces_of items) → Chain (AtKey (OnLane s) place_of) lanes (pieces_of items) new_lanes → Chain (AtKey (GetsCalls state moves s.head.shelf) (shelf_of s.head.shelf)) media items new_media →
    Chain (GoesAcross state moves s.head.shelf) across (copies_of items) new_across →
    Chain (IsItem state moves (by_threads s)) (record { lanes = lanes; media = media; other = across.media; drawn = drawn; due = across.due }) items
    (record { lanes = new_lanes; media = new_media; other = new_across.media; drawn = drawn + length items; due = new_across.due })
beside {M} state moves s lanes media across drawn [] new_lanes new_media new_across n l m c =
    let none : drawn + 0 ≡ drawn = omega arith in
    let x : Here M = record { lanes = new_lanes; media = new_media; other = new_across.media; drawn = drawn + 0; due = new_across.due } in
    let y : Here M = record { lanes = lanes; media = media; other = across.media; drawn = drawn; due = across.due } in
    let e : x ≡ y = cc in e
beside {M} state moves s lanes media across drawn (Served p ∷ items) new_lanes new_media new_across n l m c =
    let mid : Here M = record { lanes = l.0; media = m.0; other = across.media; drawn = drawn + 1; due = across.due } in
    let rest = beside state moves s l.0 m.0 across (drawn + 1) items new_lanes new_media new_across n.1 l.2 m.2 c in
    let count : drawn + 1 + length items ≡ drawn + length (Served p ∷ items) = omega arith in (
      mid,
      record {
        there = (n.0, omega (arith, n.0, l.1.there));
        next = tt;
        lane = get_or l.0 (place_of p) (new_lane 0);
        does = l.1.does (new_lane 0);
        called = called state moves s.head.shelf media (Served p) m.0 m.1;
        after = ap (λ (ls : List Lane). record mid { lanes = ls }) (l.1.others (new_lane 0));
      },
      subst (λ (k : ℕ). Chain (IsItem state moves (by_threads s)) mid items (record { lanes = new_lanes; media = new_media; other = new_across.media; drawn = k; due = new_across.due })) count rest,
    )
beside {M} state moves s lanes media across drawn (Crossed k ∷ items) new_lanes new_media new_across n l m c =
    let mid : Here M = record { lanes = lanes; media = m.0; other = c.0.media; drawn = drawn + 1; due = c.0.due } in
    let rest = beside state moves s lanes m.0 c.0 (drawn + 1) items new_lanes new_media new_across n l m.2 c.2 in
    let count : drawn + 1 + length items ≡ drawn + length (Crossed k ∷ items) = omega arith in (
      mid,
      record {
        next = tt;
        front = c.1.front;
        others = c.1.others;
        due = c.1.due;
        first = tt;
        gets = called state moves s.head.shelf media (Crossed k) m.0 m.1;
        puts = c.1.puts;
        after = ap (λ (ds : List ℕ). record mid { due = ds }) c.1.left;
      },
      subst (λ (j : ℕ). Chain (IsItem state moves (by_threads s)) mid items (record { lanes = new_lanes; media = new_media; other = new_across.media; drawn = j; due = new_across.due })) count rest,
    )

-- The law: lanes, media and the other side that went on by their own items, went on by all of these in their order.
pub turn_of_parts : {M I : Type 0} (state : M → MediumState I) (moves : I → Step → Bool → I → Type 0) (s : Script) (lanes : List Lane) (media : List M) (across : Across M) (drawn : ℕ) (items : List Item) (new_lanes : List Lane) (new_media : List M) (new_across : Across M) →
    Parts state moves s lanes media across items new_lanes new_media new_across →
    Chain (IsItem state moves (by_threads s)) (record { lanes = lanes; media = media; other = across.media; drawn = drawn; due = across.due }) items
    (record { lanes = new_lanes; media = new_media; other = new_across.media; drawn = drawn + length items; due = new_across.due })
turn_of_parts state moves s lanes media across drawn items new_lanes new_media new_across parts =
    beside state moves s lanes media across drawn items new_lanes new_media new_across parts.numbers (merged (OnLane s) place_of lanes (pieces_of items) new_lanes parts.lanes_go)
    (merged (GetsCalls state moves s.head.shelf) (shelf_of s.head.shelf) media items new_media parts.media_go) parts.copies_go
