-- A position is drawn, and given up.
use Rattle.std.proofs.Common.{◌≡◌, ◌≢◌, ℕ, zero, suc, ◌+◌, ◌-◌, ◌%◌, ◌^◌, ◌<◌, ◌≤◌, List, [], ◌∷◌, ap, ◌∙◌, arith, get_or, get_or-set_other, get_or-set_same, inl, length-append, length-set, lt_of_not-le, refl, set, subst, sym}
use mathlib.Core.Logic.{dite}
use mathlib.Core.Option.{none, some}
use native.Mathlib.Decide.{dec_le}
use lib.ListN.{get_elem?}
use Rattle.atomic_table.specs.Table.{Allows, Me, State, keeps, step}
use Rattle.atomic_table.proofs.Lists.{set_here, set_else}
use Rattle.log_rule.specs.declared.view.Desk.{Desk}
use Rattle.log_rule.specs.declared.view.Lost.{Lost}
use Rattle.log_rule.specs.declared.view.View.{View}
use Rattle.log_rule.specs.Places.{Place, Free, Pending, GivenUp, Published, IsPublished, entry_by, posted_by, word_or}
use Rattle.log_rule.specs.Plays.{drawn, drawing, losing, lost}
use Rattle.log_rule.specs.Rule.{AreLost, IsTold, Leads, TellsLost, losses, mark_for, purse, total}
use Rattle.log_rule.proofs.Lists.{one_value, put, put-all, put-other, put-same, some_length, term_le, total-set}
use Rattle.log_rule.proofs.Looks.{Ruled, first_is, stands}
use Rattle.log_rule.proofs.PlaceLemmas.{content_kept, is_published, kind, lost_kept, lost_more, no_entry, no_published, owner, posted_none, posted_same, tells_left, tells_right, told_set, words_same}

-- a place with no word instead of another leaves what each seat posted
pub posted_put : (P : ℕ → Place) (p : ℕ) (x : Place) (j a k : ℕ) → kind (P p) < 3 → kind x < 3 → posted_by (put P p x) j a k ≡ posted_by P j a k
posted_put P p x j a k was is = posted_same (put P p x) P j a k (λ q le lt. put-all (λ (i : ℕ) (z : Place). entry_by j i z ≡ entry_by j i (P i)) P p x q (no_entry j p x is ∙ sym (no_entry j p (P p) was)) (λ _. refl))

pub kind_free : (x : Place) → x ≡ Free → kind x < 3
kind_free x e = omega (arith, ap kind e)

pub kind_pending : (x : Place) (j : ℕ) → x ≡ Pending j → kind x < 3
kind_pending x j e = omega (arith, ap kind e)

-- what the first seat knows where a place behind the head changes that had no word
pub lead_put : (h front q : ℕ) (Q P : ℕ → Place) (desks : List Desk) (f w : View) → h ≤ front → front ≤ q → kind (Q q) < 3 → ((p : ℕ) → p ≢ q → P p ≡ Q p)
    → w.live ≡ f.live → w.desks ≡ f.desks → w.seats ≡ f.seats → w.taken ≡ f.taken → w.seen ≡ f.seen → ((k : ℕ) → w.head ≡ k + 1 → k ≡ front)
    → Leads h front Q desks f → Leads h front P desks w
lead_put h front q Q P desks f w le ahead few other live desk seats taken seen head lead = record {
  live = live ∙ lead.live;
  desks_are = desk ∙ lead.desks_are;
  few = omega (arith, seats, lead.few);
  head = head;
  seen = λ x e.
      let was = lead.seen x (sym seen ∙ e) in
      let same : P front ≡ Q front = other front (λ z. no_published (Q front) was.0 (subst (λ (k : ℕ). kind (Q k) < 3) (sym z) few)) in
      (subst IsPublished (sym same) was.0, ap (λ (z : Place). word_or z 0) same ∙ was.1);
  taken = taken ∙ (lead.taken ∙ sym (words_same P Q h (front - h) (λ p from below. other p (λ z. omega (arith, z, below, le, ahead)))));
}

module _ {S : Type 0} (n h t : ℕ) (start : ℕ → ℕ) (good : ℕ → Type 0) where
  -- what holds of the seat whose position is pending
  pub record At (s : State S View) (o : Ruled n h t start good s) (j p : ℕ) : Type 0 where
    pub late : t ≤ p
    pub ahead : get_or s.words 1 0 ≤ p
    pub drawn : p < get_or s.words 0 0
    pub few : kind (o.places p) < 3

  pub at_pending : (s : State S View) (o : Ruled n h t start good s) (j p : ℕ) → o.places p ≡ Pending j → At s o j p
  at_pending s o j p is =
      let few = kind_pending (o.places p) j is in
      let le : (a b : ℕ) → (a < b → ⊥) → b ≤ a = λ a b apart. dite (dec_le b a) (λ d. d) (λ far. absurd (apart (lt_of_not-le far))) in
      record {
        late = le p t (λ lt. no_published (o.places p) (is_published (o.places p) 0 (start (p % n)) (o.holds.before p lt)) few);
        ahead = le p (get_or s.words 1 0) (λ lt. no_published (o.places p) (o.holds.below p lt) few);
        drawn = dite (dec_le (get_or s.words 0 0) p) (λ d. absurd (omega (arith, ap kind (sym is ∙ o.holds.beyond p d)))) (λ far. lt_of_not-le far);
        few = few;
      }

  pub draws : (slots id : ℕ) (m : Me S View) (k : ℕ) → k ≡ 1 → m.0.live ≡ 1 → m.0.pending ≡ 0 → 0 < m.0.budget → t < 4294967296 → 0 < n → Allows (Ruled n h t start good) slots id m 0 (λ y. (y + k) % 2 ^ 64) (drawn (step slots 0 k 0 none) m)
  draws slots id m k one live idle has small cells s o wide me low =
      let v : View = m.0 in
      let r : ℕ = get_or s.words 0 0 in
      let new : ℕ = (r + k) % 2 ^ 64 in
      let w : View = drawing v r in
      let ws : List ℕ = set s.words 0 new in
      let P : ℕ → Place = put o.places r (Pending id) in
      let rest = o.holds in
      let knew = o.knows id v me in
      let purses : r + v.budget ≤ t + 10376293541461622784 = omega (arith, o.bound, term_le purse s.views id v me) in
      let is : new ≡ r + 1 = omega (arith, purses) in
      let here : get_or ws 0 0 ≡ new = get_or-set_same s.words 0 new 0 (omega (arith, rest.wide)) in
      let there : (i : ℕ) → 0 < i → get_or ws i 0 ≡ get_or s.words i 0 = λ i pos. get_or-set_other s.words 0 i new 0 (λ e. omega (arith, e, pos)) in
      let front : get_or ws 1 0 ≡ get_or s.words 1 0 = there 1 (omega arith) in
      let back : get_or ws 0 0 ≡ r + 1 = here ∙ is in
      let was : o.places r ≡ Free = rest.beyond r (omega arith) in
      let few = kind_free (o.places r) was in
      let other : (p : ℕ) → p ≢ r → P p ≡ o.places p = λ p ne. put-other o.places r p (Pending id) ne in
      let wrote : (p j x : ℕ) → P p ≡ Published j x → o.places p ≡ Published j x = λ p j x. put-all (λ (q : ℕ) (z : Place). z ≡ Published j x → o.places q ≡ Published j x) o.places r (Pending id) p (λ e. absurd (omega (arith, ap kind e))) (λ _ e. e) in
      let gave : (p : ℕ) → P p ≡ GivenUp → o.places p ≡ GivenUp = λ p. put-all (λ (q : ℕ) (z : Place). z ≡ GivenUp → o.places q ≡ GivenUp) o.places r (Pending id) p (λ e. absurd (omega (arith, ap kind e))) (λ _ e. e) in
      let gives : (p : ℕ) → o.places p ≡ GivenUp → P p ≡ GivenUp = λ p e. other p (λ q. absurd (omega (arith, ap kind (sym e ∙ (ap o.places q ∙ was))))) ∙ e in
      let longer : (j : ℕ) → posted_by P j t (get_or ws 0 0 - t) ≡ posted_by o.places j t (r - t) = λ j.
      let size : get_or ws 0 0 - t ≡ (r - t) + 1 = omega (arith, back, rest.tail) in
      ap (posted_by P j t) size ∙ (posted_none P j t (r - t) 1 (λ q le lt. ap (entry_by j q) (ap P (the (q ≡ r) (omega (arith, le, lt, rest.tail))) ∙ put-same o.places r (Pending id))) ∙ posted_put o.places r (Pending id) j t (r - t) few (omega arith)) in
      let moved = stands n h t start good s o id v w ws P me
      (record {
        wide = length-set s.words 0 new ∙ rest.wide;
        head = omega (arith, front, back, rest.head);
        tail = omega (arith, back, rest.tail);
        before = λ p lt. other p (λ e. omega (arith, e, lt, rest.tail)) ∙ rest.before p lt;
        beyond = λ p le. other p (λ e. omega (arith, e, le, back)) ∙ rest.beyond p (omega (arith, le, back));
        drawn = λ p le lt. put-all (λ (q : ℕ) (z : Place). q < r + 1 → t ≤ q → z ≢ Free) o.places r (Pending id) p (λ _ _ e. omega (arith, ap kind e)) (λ ne below from. rest.drawn p from (omega (arith, ne, below))) (omega (arith, lt, back)) le;
        below = λ p lt. subst IsPublished (sym (other p (λ e. omega (arith, e, lt, front, rest.head)))) (rest.below p (omega (arith, lt, front)));
        near = λ p j x e. omega (arith, rest.near p j x (wrote p j x e), front);
        cells = λ p le lt. there (p % n + 3) (omega arith) ∙ (rest.cells p (omega (arith, le, front)) (omega (arith, lt, front)) ∙ sym (content_kept n o.places r (Pending id) p few (omega arith)));
        phases = λ p j x e late. rest.phases p j x (wrote p j x e) late;
        sound = λ p j x e late. rest.sound p j x (wrote p j x e) late;
        given = λ p e. let g = rest.given p (gave p e) in (g.0, told_set s.views id p v w me (λ x. x) g.1);
        pending = λ p i. put-all (λ (q : ℕ) (z : Place). z ≡ Pending i → (u : View) × (get_elem? (set s.views id w) i ≡ some u) × (u.pending ≡ q + 1)) o.places r (Pending id) p
            (λ e. (w, ap (get_elem? (set s.views id w)) (sym (ap owner e)) ∙ set_here s.views id w (some_length s.views id v me), refl))
            (λ ne e. let g = rest.pending p i e in (g.0, set_else s.views id i w (λ q. omega (arith, g.2, idle, ap (λ (z : View). z.pending) (one_value s.views id v g.0 me (ap (get_elem? s.views) (sym q) ∙ g.1)))) ∙ g.1, g.2));
      })
      (record {
        number = knew.number;
        cells = knew.cells;
        from = λ l. absurd (omega (arith, l));
        posted = λ l. knew.posted l ∙ sym (longer id);
        out = knew.out;
        gone = λ l. absurd (l live);
        pending = λ p e. let at : p ≡ r = omega (arith, e) in (ap P at ∙ put-same o.places r (Pending id), λ q x lt e. omega (arith, ap kind (sym (wrote q id x e) ∙ rest.beyond q (omega (arith, lt, at)))));
        head = omega arith;
        lost = lost_kept n o.places P v.lost gives knew.lost;
      })
      (λ j u ne at. let k = o.knows j u at in record {
        number = k.number;
        cells = k.cells;
        from = k.from;
        posted = λ l. k.posted l ∙ sym (longer j);
        out = k.out;
        gone = k.gone;
        pending = λ p e. let g = k.pending p e in (other p (λ q. omega (arith, ap kind (sym g.0 ∙ (ap o.places q ∙ was)))) ∙ g.0, λ q x lt e. g.1 q x lt (wrote q j x e));
        head = omega (arith, k.head, front);
        lost = lost_kept n o.places P u.lost gives k.lost;
      })
      (λ e. subst (λ (k : ℕ). Leads h k P o.desks w) (sym front)
      (lead_put h (get_or s.words 1 0) r o.places P o.desks v w rest.head.0 rest.head.1 few other refl refl refl refl refl (λ k q. absurd (omega (arith, q))) (first_is n h t start good s o v (ap (get_elem? s.views) (sym e) ∙ me))))
      (λ f ne at. let lead = first_is n h t start good s o f at in subst (λ (k : ℕ). Leads h k P o.desks f) (sym front)
      (lead_put h (get_or s.words 1 0) r o.places P o.desks f f rest.head.0 rest.head.1 few other refl refl refl refl refl lead.head lead))
      (λ j ne. longer (j + 1)) (λ pos. live)
      (there 2 (omega arith) ∙ (o.marked ∙ ap mark_for (omega (arith, total-set losses s.views id v w me))))
      (omega (arith, back, has)) in
      (w, keeps, tt, moved, (refl, omega (arith, purses, small)))
    where
      the : (A : Type 0) → A → A
      the A a = a

  -- the drawn position is given up, since the head that was loaded leaves no cell for it
  pub loses : (slots id : ℕ) (m : Me S View) (p head : ℕ) → m.0.live ≡ 1 → m.0.pending ≡ p + 1 → m.0.head ≡ head + 1 → head + n ≤ p → Allows (Ruled n h t start good) slots id m 2 (λ _. 1) (lost (step slots 2 1 0 none) m)
  loses slots id m p head live pends seen full s o wide me low =
      let v : View = m.0 in
      let w : View = losing v in
      let note : List Lost = record { at = v.pending - 1; head = v.head - 1 } ∷ [] in
      let ws : List ℕ = set s.words 2 1 in
      let P : ℕ → Place = put o.places p GivenUp in
      let rest = o.holds in
      let knew = o.knows id v me in
      let own = knew.pending p pends in
      let at = at_pending s o id p own.0 in
      let there : (i : ℕ) → i ≢ 2 → get_or ws i 0 ≡ get_or s.words i 0 = λ i ne. get_or-set_other s.words 2 i 1 0 ne in
      let front : get_or ws 1 0 ≡ get_or s.words 1 0 = there 1 (λ e. omega (arith, e)) in
      let back : get_or ws 0 0 ≡ get_or s.words 0 0 = there 0 (λ e. omega (arith, e)) in
      let other : (q : ℕ) → q ≢ p → P q ≡ o.places q = λ q ne. put-other o.places p q GivenUp ne in
      let wrote : (q j x : ℕ) → P q ≡ Published j x → o.places q ≡ Published j x = λ q j x. put-all (λ (i : ℕ) (z : Place). z ≡ Published j x → o.places i ≡ Published j x) o.places p GivenUp q (λ e. absurd (omega (arith, ap kind e))) (λ _ e. e) in
      let waits : (q j : ℕ) → P q ≡ Pending j → (q ≢ p) × (o.places q ≡ Pending j) = λ q j. put-all (λ (i : ℕ) (z : Place). z ≡ Pending j → (i ≢ p) × (o.places i ≡ Pending j)) o.places p GivenUp q (λ e. absurd (omega (arith, ap kind e))) (λ ne e. (ne, e)) in
      let gives : (q : ℕ) → o.places q ≡ GivenUp → P q ≡ GivenUp = λ q e. other q (λ z. omega (arith, ap kind (sym e ∙ (ap o.places z ∙ own.0)))) ∙ e in
      let posts : (j : ℕ) → posted_by P j t (get_or ws 0 0 - t) ≡ posted_by o.places j t (get_or s.words 0 0 - t) = λ j. ap (λ (k : ℕ). posted_by P j t (k - t)) back ∙ posted_put o.places p GivenUp j t (get_or s.words 0 0 - t) at.few (omega arith) in
      let place : v.pending - 1 ≡ p = omega (arith, pends) in
      let noted : (places : ℕ → Place) → AreLost n places v.lost → places p ≡ GivenUp → AreLost n places w.lost = λ places are given. lost_more n places v.lost _ are (ap places place ∙ given, omega (arith, pends, seen, full), tt) in
      let lasts : TellsLost p w.lost = tells_right p v.lost _ (inl place) in
      let moved = stands n h t start good s o id v w ws P me
      (record {
        wide = length-set s.words 2 1 ∙ rest.wide;
        head = omega (arith, front, back, rest.head);
        tail = omega (arith, back, rest.tail);
        before = λ q lt. other q (λ e. omega (arith, e, lt, at.late)) ∙ rest.before q lt;
        beyond = λ q le. other q (λ e. omega (arith, e, le, back, at.drawn)) ∙ rest.beyond q (omega (arith, le, back));
        drawn = λ q le lt. put-all (λ (i : ℕ) (z : Place). i < get_or s.words 0 0 → t ≤ i → z ≢ Free) o.places p GivenUp q (λ _ _ e. omega (arith, ap kind e)) (λ ne below from. rest.drawn q from below) (omega (arith, lt, back)) le;
        below = λ q lt. subst IsPublished (sym (other q (λ e. omega (arith, e, lt, front, at.ahead)))) (rest.below q (omega (arith, lt, front)));
        near = λ q j x e. omega (arith, rest.near q j x (wrote q j x e), front);
        cells = λ q le lt. there (q % n + 3) (λ e. omega (arith, e)) ∙ (rest.cells q (omega (arith, le, front)) (omega (arith, lt, front)) ∙ sym (content_kept n o.places p GivenUp q at.few (omega arith)));
        phases = λ q j x e from. rest.phases q j x (wrote q j x e) from;
        sound = λ q j x e from. rest.sound q j x (wrote q j x e) from;
        given = λ q. put-all (λ (i : ℕ) (z : Place). z ≡ GivenUp → (h + n ≤ i) × IsTold (set s.views id w) i) o.places p GivenUp q
            (λ _. (omega (arith, full, knew.from (omega (arith, seen)), seen), (id, w, set_here s.views id w (some_length s.views id v me), lasts)))
            (λ ne e. let g = rest.given q e in (g.0, told_set s.views id q v w me (tells_left q v.lost _) g.1));
        pending = λ q i e. let is = waits q i e in let g = rest.pending q i is.1 in (
          g.0,
          set_else s.views id i w (λ z. is.0 (omega (arith, g.2, pends, ap (λ (z : View). z.pending) (one_value s.views id v g.0 me (ap (get_elem? s.views) (sym z) ∙ g.1))))) ∙ g.1,
          g.2,
        );
      })
      (record {
        number = knew.number;
        cells = knew.cells;
        from = λ l. absurd (omega (arith, l));
        posted = λ l. knew.posted l ∙ sym (posts id);
        out = knew.out;
        gone = λ l. absurd (l live);
        pending = λ q e. absurd (omega (arith, e));
        head = omega arith;
        lost = noted P (lost_kept n o.places P v.lost gives knew.lost) (put-same o.places p GivenUp);
      })
      (λ j u ne there. let k = o.knows j u there in record {
        number = k.number;
        cells = k.cells;
        from = k.from;
        posted = λ l. k.posted l ∙ sym (posts j);
        out = k.out;
        gone = k.gone;
        pending = λ q e. let g = k.pending q e in (other q (λ z. ne (ap owner (sym g.0 ∙ (ap o.places z ∙ own.0)))) ∙ g.0, λ i x lt e. g.1 i x lt (wrote i j x e));
        head = omega (arith, k.head, front);
        lost = lost_kept n o.places P u.lost gives k.lost;
      })
      (λ e. subst (λ (k : ℕ). Leads h k P o.desks w) (sym front)
      (lead_put h (get_or s.words 1 0) p o.places P o.desks v w rest.head.0 at.ahead at.few other refl refl refl refl refl (λ k q. absurd (omega (arith, q))) (first_is n h t start good s o v (ap (get_elem? s.views) (sym e) ∙ me))))
      (λ f ne there. let lead = first_is n h t start good s o f there in subst (λ (k : ℕ). Leads h k P o.desks f) (sym front)
      (lead_put h (get_or s.words 1 0) p o.places P o.desks f f rest.head.0 at.ahead at.few other refl refl refl refl refl lead.head lead))
      (λ j ne. posts (j + 1)) (λ pos. live)
      (get_or-set_same s.words 2 1 0 (omega (arith, rest.wide)) ∙ sym (marks (total losses (set s.views id w)) (omega (arith, total-set losses s.views id v w me, term_le losses s.views id v me, length-append v.lost note))))
      (omega (arith, back)) in
      (w, keeps, tt, moved, refl)
    where
      marks : (k : ℕ) → 0 < k → mark_for k ≡ 1
      marks zero pos = absurd (omega arith)
      marks (suc k) pos = refl
