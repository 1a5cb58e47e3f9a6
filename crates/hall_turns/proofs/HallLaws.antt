use Rattle.std.proofs.Common.{◌≡◌, ◌≢◌, ℕ, ◌+◌, ◌<◌, ◌≤◌, ⊎_elim, Bool, true, false, cond, eqb, eq-eqb, ne_eqb, List, [], ◌∷◌, length, map, get_or, refl, sym, ap, subst, ◌∙◌, arith}
use Rattle.std.specs.List.{AllByRecursion}
use Rattle.std.proofs.lemmas.Bool.{cases_eq}
use Rattle.nvm_model.specs.declared.script.Script.{Script}
use Rattle.nvm_model.specs.declared.trace.Step.{Step}
use Rattle.nvm_model.specs.Chain.{Chain}
use Rattle.nvm_model.specs.Medium.{IsMade, MediumState, all_at}
use Rattle.nvm_model.specs.Run.{Copy, IsItem, Item, PieceCalled, copies_of, here_of, pieces_of}
use Rattle.nvm_model.specs.Run.Item.{Served, Crossed}
use Rattle.nvm_model.specs.World.{Lane}
use Rattle.hall_rule.specs.declared.item.Item.{Item as Done}
use Rattle.hall_rule.specs.Items.{by, in_shelf}
use Rattle.hall_turns.specs.Closed.{Across, GetsCalls, GoesAcross, IsClosed, IsTold, OnLane, by_threads, place_of, shelf_of}
use Rattle.hall_turns.specs.Merge.{at_key}
use Rattle.hall_turns.proofs.MergeLaws.{turn_of_parts}

-- What a closed hall leaves is what a turn does.

-- One thing more in front, where it is one of those that are kept.

kept : {A B : Type 0} (f : A → B) (b : Bool) (x : A) (xs : List A) → map f (cond b (x ∷ xs) xs) ≡ cond b (f x ∷ map f xs) (map f xs)
kept f true x xs = refl
kept f false x xs = refl

if_yes : {B : Type 0} (n m : ℕ) (x y : B) → n ≡ m → cond (eqb n m) x y ≡ x
if_yes n m x y is = ap (λ (b : Bool). cond b x y) (eq-eqb n m is)

if_no : {B : Type 0} (n m : ℕ) (x y : B) → n ≢ m → cond (eqb n m) x y ≡ y
if_no n m x y other = ap (λ (b : Bool). cond b x y) (ne_eqb n m other)

-- what is so of all is so of those of a shelf
own_items : (i : ℕ) (P : Done → Type 0) (xs : List Done) → AllByRecursion P xs → AllByRecursion P (in_shelf i xs)
own_items i P [] all = tt
own_items i P (x ∷ xs) all = one (eqb x.shelf i) (in_shelf i xs) (own_items i P xs all.1)
  where
    one : (b : Bool) (own : List Done) → AllByRecursion P own → AllByRecursion P (cond b (x ∷ own) own)
    one true own rest = (all.0, rest)
    one false own rest = rest

module _ (size lanes : ℕ) (few : lanes ≤ 8) where
  -- the pieces of a lane
  lane_one : (i : ℕ) → i < 8 → (x : Done) (it : Item) → IsTold size lanes x it → (all own : List Item) → at_key place_of i (pieces_of all) ≡ pieces_of own →
      at_key place_of i (pieces_of (it ∷ all)) ≡ pieces_of (cond (eqb x.holder (i + 1)) (it ∷ own) own)
  lane_one i low x (Served p) is all own same =
      ⊎_elim
      (λ (here : x.holder ≡ i + 1). if_yes (place_of p) i (p ∷ at_key place_of i (pieces_of all)) (at_key place_of i (pieces_of all)) (omega (arith, is.2, here))
      ∙ ap (λ (ps : List PieceCalled). p ∷ ps) same ∙ ap pieces_of (sym (if_yes x.holder (i + 1) (Served p ∷ own) own here)))
      (λ (other : x.holder ≢ i + 1). if_no (place_of p) i (p ∷ at_key place_of i (pieces_of all)) (at_key place_of i (pieces_of all)) (λ at. other (omega (arith, at, is.2, is.0)))
      ∙ same ∙ ap pieces_of (sym (if_no x.holder (i + 1) (Served p ∷ own) own other)))
      (cases_eq x.holder (i + 1))
  lane_one i low x (Crossed c) is all own same = same ∙ ap pieces_of (sym (if_no x.holder (i + 1) (Crossed c ∷ own) own (λ at. omega (arith, at, is.0, low))))

  lane_pieces : (told : Done → Item) (i : ℕ) → i < 8 → (xs : List Done) → AllByRecursion (λ (x : Done). IsTold size lanes x (told x)) xs → at_key place_of i (pieces_of (map told xs)) ≡ pieces_of (map told (by (i + 1) xs))
  lane_pieces told i low [] all = refl
  lane_pieces told i low (x ∷ xs) all =
      lane_one i low x (told x) all.0 (map told xs) (map told (by (i + 1) xs)) (lane_pieces told i low xs all.1) ∙ ap pieces_of (sym (kept told (eqb x.holder (i + 1)) x (by (i + 1) xs)))

  -- the manager's copies
  copy_one : (x : Done) (it : Item) → IsTold size lanes x it → (all own : List Item) → copies_of all ≡ copies_of own → copies_of (it ∷ all) ≡ copies_of (cond (eqb x.holder 9) (it ∷ own) own)
  copy_one x (Served p) is all own same = same ∙ ap copies_of (sym (if_no x.holder 9 (Served p ∷ own) own (λ at. omega (arith, at, is.1, few))))
  copy_one x (Crossed c) is all own same = ap (λ (cs : List Copy). c ∷ cs) same ∙ ap copies_of (sym (if_yes x.holder 9 (Crossed c ∷ own) own is.0))

  all_copies : (told : Done → Item) (xs : List Done) → AllByRecursion (λ (x : Done). IsTold size lanes x (told x)) xs → copies_of (map told xs) ≡ copies_of (map told (by 9 xs))
  all_copies told [] all = refl
  all_copies told (x ∷ xs) all = copy_one x (told x) all.0 (map told xs) (map told (by 9 xs)) (all_copies told xs all.1) ∙ ap copies_of (sym (kept told (eqb x.holder 9) x (by 9 xs)))

  -- the items of a shelf
  told_shelf : (x : Done) (it : Item) → IsTold size lanes x it → shelf_of size it ≡ x.shelf
  told_shelf x (Served p) is = is.3
  told_shelf x (Crossed c) is = is.1

  told_calls : (x : Done) (it : Item) → IsTold size lanes x it → here_of size it ≡ all_at (shelf_of size it) x.calls
  told_calls x (Served p) is = is.4 ∙ ap (λ (i : ℕ). all_at i x.calls) (sym is.3)
  told_calls x (Crossed c) is = is.2 ∙ ap (λ (i : ℕ). all_at i x.calls) (sym is.1)

  shelf_items : (told : Done → Item) (i : ℕ) (xs : List Done) → AllByRecursion (λ (x : Done). IsTold size lanes x (told x)) xs → at_key (shelf_of size) i (map told xs) ≡ map told (in_shelf i xs)
  shelf_items told i [] all = refl
  shelf_items told i (x ∷ xs) all =
      let same = told_shelf x (told x) all.0 in
      let rest = shelf_items told i xs all.1 in
      ap (λ (k : ℕ). cond (eqb k i) (told x ∷ at_key (shelf_of size) i (map told xs)) (at_key (shelf_of size) i (map told xs))) same
      ∙ ap (λ (its : List Item). cond (eqb x.shelf i) (told x ∷ its) its) rest ∙ sym (kept told (eqb x.shelf i) x (in_shelf i xs))

  shelf_goes : {M I : Type 0} (state : M → MediumState I) (moves : I → Step → Bool → I → Type 0) (told : Done → Item) (xs : List Done) (old new : M) → AllByRecursion (λ (x : Done). IsTold size lanes x (told x)) xs →
      Chain (λ (a : M) (x : Done) (b : M). Chain (IsMade state moves) a x.calls b) old xs new → Chain (GetsCalls state moves size) old (map told xs) new
  shelf_goes state moves told [] old new all c = c
  shelf_goes state moves told (x ∷ xs) old new all c = (c.0, record { calls = x.calls; calls_are = told_calls x (told x) all.0; made = c.1 }, shelf_goes state moves told xs c.0 new all.1 c.2)

-- numbers of lanes and shelves
pieces_are : (size lanes : ℕ) (P : PieceCalled → Type 0) (told : Done → Item) → ((x : Done) (p : PieceCalled) → IsTold size lanes x (Served p) → P p) → (xs : List Done) → AllByRecursion (λ (x : Done). IsTold size lanes x (told x)) xs → AllByRecursion P (pieces_of (map told xs))
pieces_are size lanes P told each [] all = tt
pieces_are size lanes P told each (x ∷ xs) all = one (told x) all.0 (pieces_of (map told xs)) (map told xs) refl (pieces_are size lanes P told each xs all.1)
  where
    one : (it : Item) → IsTold size lanes x it → (ps : List PieceCalled) (its : List Item) → ps ≡ pieces_of its → AllByRecursion P ps → AllByRecursion P (pieces_of (it ∷ its))
    one (Served p) is ps its same rest = (each x p is, subst (AllByRecursion P) same rest)
    one (Crossed c) is ps its same rest = subst (AllByRecursion P) same rest

shelves_are : (size lanes media : ℕ) (told : Done → Item) (xs : List Done) → AllByRecursion (λ (x : Done). IsTold size lanes x (told x)) xs → AllByRecursion (λ (x : Done). x.shelf < media) xs → AllByRecursion (λ (it : Item). shelf_of size it < media) (map told xs)
shelves_are size lanes media told [] all low = tt
shelves_are size lanes media told (x ∷ xs) all low = (subst (λ (i : ℕ). i < media) (sym (shelf_is (told x) all.0)) low.0, shelves_are size lanes media told xs all.1 low.1)
  where
    shelf_is : (it : Item) → IsTold size lanes x it → shelf_of size it ≡ x.shelf
    shelf_is (Served p) is = is.3
    shelf_is (Crossed c) is = is.1

-- The law: what a closed hall leaves is what a turn does, in the order of the tickets.
pub turn_of_hall : {M I : Type 0} (state : M → MediumState I) (moves : I → Step → Bool → I → Type 0) (s : Script) (told : Done → Item) (lanes : List Lane) (media : List M) (across : Across M) (drawn : ℕ) (turn : List Done) (new_lanes : List Lane) (new_media : List M) (new_across : Across M) →
    IsClosed state moves s told lanes media across turn new_lanes new_media new_across →
    Chain (IsItem state moves (by_threads s)) (record { lanes = lanes; media = media; other = across.media; drawn = drawn; due = across.due }) (map told turn)
    (record { lanes = new_lanes; media = new_media; other = new_across.media; drawn = drawn + length (map told turn); due = new_across.due })
turn_of_hall {M} state moves s told lanes media across drawn turn new_lanes new_media new_across closed =
    let size = s.head.shelf in
    let many = length lanes in
    let all = closed.are_told in
    turn_of_parts state moves s lanes media across drawn (map told turn) new_lanes new_media new_across (record {
      numbers = pieces_are size many (λ (p : PieceCalled). 1 ≤ p.lane) told (λ x p is. omega (arith, is.0, is.2)) turn all;
      lanes_go = record {
        count = closed.lanes_count;
        there = pieces_are size many (λ (p : PieceCalled). place_of p < many) told (λ x p is. omega (arith, is.0, is.1, is.2)) turn all;
        each = λ i d low. subst (λ (ps : List PieceCalled). Chain (OnLane s) (get_or lanes i d) ps (get_or new_lanes i d)) (sym (lane_pieces size many closed.few told i (omega (arith, low, closed.few)) turn all)) (closed.pieces i d low);
      };
      media_go = record {
        count = closed.media_count;
        there = shelves_are size many (length media) told turn all closed.inside;
        each = λ i d low. subst (λ (its : List Item). Chain (GetsCalls state moves size) (get_or media i d) its (get_or new_media i d)) (sym (shelf_items size many closed.few told i turn all))
            (shelf_goes size many closed.few state moves told (in_shelf i turn) (get_or media i d) (get_or new_media i d) (own_items i (λ (x : Done). IsTold size many x (told x)) turn all) (closed.shelves i d low));
      };
      copies_go = subst (λ (cs : List Copy). Chain (GoesAcross state moves size) across cs new_across) (sym (all_copies size many closed.few told turn all)) closed.copies;
    })
