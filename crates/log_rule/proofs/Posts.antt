-- A position is filled, and the first seat takes the entry at the head.
use Rattle.std.proofs.Common.{◌≡◌, ◌≢◌, ℕ, suc, ◌+◌, ◌-◌, ◌%◌, ◌^◌, ◌<◌, ◌≤◌, List, [], ◌∷◌, ◌++◌, ap, ◌∙◌, arith, get_or, get_or-set_other, get_or-set_same, length, length-set, lt_of_not-le, refl, set, subst, sym}
use Rattle.std.proofs.Math.Nat.{add-mod_right, mod-lt}
use mathlib.Core.Logic.{dite}
use mathlib.Core.Option.{none}
use native.Mathlib.Decide.{ℕ_discrete, dec_le}
use lib.ListN.{get_elem?}
use Rattle.atomic_table.specs.Table.{Allows, Me, keeps, step}
use Rattle.atomic_table.proofs.Lists.{one_turn, set_here, set_else}
use Rattle.nvm_model.specs.Event.{phase_of}
use Rattle.log_rule.specs.declared.view.Entry.{Entry}
use Rattle.log_rule.specs.declared.view.View.{View}
use Rattle.log_rule.specs.Places.{Place, Free, Pending, GivenUp, Published, IsPublished, entry, entry_by, posted_by, tag, word_or, words_from}
use Rattle.log_rule.specs.Plays.{posting, posted, taking, took}
use Rattle.log_rule.specs.Rule.{Leads, losses, mark_for}
use Rattle.log_rule.proofs.Lists.{one_value, put, put-all, put-other, put-same, some_length, total-set}
use Rattle.log_rule.proofs.Draws.{at_pending, lead_put}
use Rattle.log_rule.proofs.Looks.{Ruled, first_is, stands}
use Rattle.log_rule.proofs.PlaceLemmas.{few_kinds, hollow, is_filled, is_published, kind, lost_kept, entry_else, no_entry, no_published, owner, posted_last, posted_same, published_is, told_set, word_is, words_same}

-- of two positions in one turn of the cells, one cell is one position
apart : (p q a n : ℕ) → a ≤ p → p < a + n → a ≤ q → q < a + n → p % n ≡ q % n → p ≡ q
apart p q a n l1 r1 l2 r2 e = dite (dec_le p q) (λ le. one_turn p q n le (omega (arith, r2, l1)) e) (λ gt. sym (one_turn q p n (omega (arith, lt_of_not-le gt)) (omega (arith, r1, l2)) (sym e)))

module _ {S : Type 0} (n h t : ℕ) (start : ℕ → ℕ) (good : ℕ → Type 0) where
  pub posts : (slots id : ℕ) (m : Me S View) (p head x i : ℕ) → m.0.live ≡ 1 → m.0.pending ≡ p + 1 → m.0.head ≡ head + 1 → p < head + n → good x → tag x ≡ phase_of n p → 0 < n → n ≤ h → i ≡ p % n + 3
      → Allows (Ruled n h t start good) slots id m i (λ _. x) (posted (step slots i x 0 none) m)
  posts slots id m p head x i live pends seen room fine phase cells far cell s o wide me low =
      let v : View = m.0 in
      let w : View = posting v x in
      let ws : List ℕ = set s.words i x in
      let mine : Place = Published id x in
      let P : ℕ → Place = put o.places p mine in
      let rest = o.holds in
      let knew = o.knows id v me in
      let own = knew.pending p pends in
      let at = at_pending n h t start good s o id p own.0 in
      let near : p < get_or s.words 1 0 + n = omega (arith, room, knew.head, seen) in
      let there : (k : ℕ) → k ≢ i → get_or ws k 0 ≡ get_or s.words k 0 = λ k ne. get_or-set_other s.words i k x 0 ne in
      let front : get_or ws 1 0 ≡ get_or s.words 1 0 = there 1 (λ e. omega (arith, e, cell)) in
      let back : get_or ws 0 0 ≡ get_or s.words 0 0 = there 0 (λ e. omega (arith, e, cell)) in
      let inside : i < length s.words = omega (arith, cell, rest.wide, mod-lt p cells) in
      let here : get_or ws i 0 ≡ x = get_or-set_same s.words i x 0 inside in
      let other : (q : ℕ) → q ≢ p → P q ≡ o.places q = λ q ne. put-other o.places p q mine ne in
      let same : P p ≡ mine = put-same o.places p mine in
      let waits : (q j : ℕ) → P q ≡ Pending j → (q ≢ p) × (o.places q ≡ Pending j) = λ q j. put-all (λ (k : ℕ) (z : Place). z ≡ Pending j → (k ≢ p) × (o.places k ≡ Pending j)) o.places p mine q (λ e. absurd (omega (arith, ap kind e))) (λ ne e. (ne, e)) in
      let gave : (q : ℕ) → P q ≡ GivenUp → o.places q ≡ GivenUp = λ q. put-all (λ (k : ℕ) (z : Place). z ≡ GivenUp → o.places k ≡ GivenUp) o.places p mine q (λ e. absurd (omega (arith, ap kind e))) (λ _ e. e) in
      let gives : (q : ℕ) → o.places q ≡ GivenUp → P q ≡ GivenUp = λ q e. other q (λ z. omega (arith, ap kind (sym e ∙ (ap o.places z ∙ own.0)))) ∙ e in
      let else : (j : ℕ) → j ≢ id → (k : ℕ) → posted_by P j t k ≡ posted_by o.places j t k = λ j ne k. posted_same P o.places j t k (λ q le lt.
      put-all (λ (a : ℕ) (z : Place). entry_by j a z ≡ entry_by j a (o.places a)) o.places p mine q (entry_else j p mine (λ y e. ne (sym (ap owner e))) ∙ sym (no_entry j p (o.places p) at.few)) (λ _. refl)) in
      let elses : (j : ℕ) → j ≢ id → posted_by P j t (get_or ws 0 0 - t) ≡ posted_by o.places j t (get_or s.words 0 0 - t) = λ j ne. ap (λ (k : ℕ). posted_by P j t (k - t)) back ∙ else j ne (get_or s.words 0 0 - t) in
      let more : ℕ = get_or s.words 0 0 - (p + 1) in
      let size : get_or ws 0 0 - t ≡ suc (p - t) + more = omega (arith, back, at.late, at.drawn) in
      let size' : get_or s.words 0 0 - t ≡ (p - t) + suc more = omega (arith, at.late, at.drawn) in
      let last : t + (p - t) ≡ p = omega (arith, at.late) in
      let none-later : (q : ℕ) → p < q → entry_by id q (P q) ≡ [] = λ q lt. entry_else id q (P q) (λ y e. own.1 q y lt (sym (other q (λ z. omega (arith, z, lt))) ∙ e)) in
      let first-none : (q : ℕ) → p ≤ q → entry_by id q (o.places q) ≡ [] = λ q le. dite (ℕ_discrete q p) (λ z. ap (entry_by id q) (ap o.places z ∙ own.0) ∙ refl) (λ ne. entry_else id q (o.places q) (λ y e. own.1 q y (omega (arith, ne, le)) e)) in
      let grown : v.live ≡ 1 → w.posted ≡ posted_by P id t (get_or ws 0 0 - t) = λ l.
      sym (ap (posted_by P id t) size ∙ (posted_last P id t (p - t) more x (ap P last ∙ same) (λ q lt _. none-later q (omega (arith, lt, last)))
      ∙ (ap (λ (a : List Entry). a ++ entry (t + (p - t)) x ∷ []) (posted_same P o.places id t (p - t) (λ q le lt. ap (entry_by id q) (other q (λ z. omega (arith, z, lt, at.late)))))
      ∙ (ap (λ (a : List Entry). a ++ entry (t + (p - t)) x ∷ []) (sym (Rattle.log_rule.proofs.PlaceLemmas.posted_none o.places id t (p - t) (suc more) (λ q le lt. first-none q (omega (arith, le, last)))) ∙ (ap (posted_by o.places id t) (sym size') ∙ sym (knew.posted l)))
      ∙ ap (λ (k : ℕ). v.posted ++ entry k x ∷ []) (the (t + (p - t) ≡ v.pending - 1) (omega (arith, last, pends))))))) in
      let moved = stands n h t start good s o id v w ws P me
      (record {
        wide = length-set s.words i x ∙ rest.wide;
        head = omega (arith, front, back, rest.head);
        tail = omega (arith, back, rest.tail);
        before = λ q lt. other q (λ e. omega (arith, e, lt, at.late)) ∙ rest.before q lt;
        beyond = λ q le. other q (λ e. omega (arith, e, le, back, at.drawn)) ∙ rest.beyond q (omega (arith, le, back));
        drawn = λ q le lt. put-all (λ (k : ℕ) (z : Place). k < get_or s.words 0 0 → t ≤ k → z ≢ Free) o.places p mine q (λ _ _ e. omega (arith, ap kind e)) (λ ne below from. rest.drawn q from below) (omega (arith, lt, back)) le;
        below = λ q lt. subst IsPublished (sym (other q (λ e. omega (arith, e, lt, front, at.ahead)))) (rest.below q (omega (arith, lt, front)));
        near = λ q j y. put-all (λ (k : ℕ) (z : Place). z ≡ Published j y → k < get_or ws 1 0 + n) o.places p mine q (λ _. omega (arith, near, front)) (λ ne e. omega (arith, rest.near q j y e, front));
        cells = λ q le lt. dite (ℕ_discrete q p)
            (λ e. ap (λ (k : ℕ). get_or ws (k % n + 3) 0) e ∙ (ap (λ (k : ℕ). get_or ws k 0) (sym cell) ∙ (here ∙ sym (ap (λ (z : Place). word_or z (word_or (P (q - n)) 0)) (ap P e ∙ same)))))
            (λ ne. there (q % n + 3) (λ e. ne (apart q p (get_or s.words 1 0) n (omega (arith, le, front)) (omega (arith, lt, front)) at.ahead near (omega (arith, e, cell))))
            ∙ (rest.cells q (omega (arith, le, front)) (omega (arith, lt, front))
            ∙ sym (ap (λ (z : Place). word_or z (word_or (P (q - n)) 0)) (other q ne) ∙ ap (λ (z : Place). word_or (o.places q) (word_or z 0)) (other (q - n) (λ e. omega (arith, e, le, lt, front, at.ahead, far, rest.head, cells))))));
        phases = λ q j y. put-all (λ (k : ℕ) (z : Place). z ≡ Published j y → t ≤ k + n → tag y ≡ phase_of n k) o.places p mine q (λ e from. ap tag (ap (λ z. word_or z 0) (sym e)) ∙ phase) (λ ne e from. rest.phases q j y e from);
        sound = λ q j y. put-all (λ (k : ℕ) (z : Place). z ≡ Published j y → h ≤ k → good y × (j ≤ length o.desks)) o.places p mine q
            (λ e from. (subst good (ap (λ z. word_or z 0) e) fine, omega (arith, ap owner e, some_length s.views id v me, o.count))) (λ ne e from. rest.sound q j y e from);
        given = λ q e. let g = rest.given q (gave q e) in (g.0, told_set s.views id q v w me (λ z. z) g.1);
        pending = λ q j e. let is = waits q j e in let g = rest.pending q j is.1 in (
          g.0,
          set_else s.views id j w (λ z. is.0 (omega (arith, g.2, pends, ap (λ (z : View). z.pending) (one_value s.views id v g.0 me (ap (get_elem? s.views) (sym z) ∙ g.1))))) ∙ g.1,
          g.2,
        );
      })
      (record {
        number = knew.number;
        cells = knew.cells;
        from = λ l. absurd (omega (arith, l));
        posted = grown;
        out = knew.out;
        gone = λ l. absurd (l live);
        pending = λ q e. absurd (omega (arith, e));
        head = omega arith;
        lost = lost_kept n o.places P v.lost gives knew.lost;
      })
      (λ j u ne is. let k = o.knows j u is in record {
        number = k.number;
        cells = k.cells;
        from = k.from;
        posted = λ l. k.posted l ∙ sym (elses j ne);
        out = k.out;
        gone = k.gone;
        pending = λ q e. let g = k.pending q e in (
          other q (λ z. ne (ap owner (sym g.0 ∙ (ap o.places z ∙ own.0)))) ∙ g.0,
          λ a y lt. put-all (λ (b : ℕ) (z : Place). q < b → z ≢ Published j y) o.places p mine a (λ _ f. ne (sym (ap owner f))) (λ _ from. g.1 a y from) lt,
        );
        head = omega (arith, k.head, front);
        lost = lost_kept n o.places P u.lost gives k.lost;
      })
      (λ e. subst (λ (k : ℕ). Leads h k P o.desks w) (sym front)
      (lead_put h (get_or s.words 1 0) p o.places P o.desks v w rest.head.0 at.ahead at.few other refl refl refl refl refl (λ k q. absurd (omega (arith, q))) (first_is n h t start good s o v (ap (get_elem? s.views) (sym e) ∙ me))))
      (λ f ne is. let lead = first_is n h t start good s o f is in subst (λ (k : ℕ). Leads h k P o.desks f) (sym front)
      (lead_put h (get_or s.words 1 0) p o.places P o.desks f f rest.head.0 at.ahead at.few other refl refl refl refl refl lead.head lead))
      (λ j ne. elses (j + 1) ne) (λ pos. live)
      (there 2 (λ e. omega (arith, e, cell)) ∙ (o.marked ∙ ap mark_for (omega (arith, total-set losses s.views id v w me))))
      (omega (arith, back)) in
      (w, keeps, tt, moved, refl)
    where
      the : (A : Type 0) → A → A
      the A a = a

  pub takes : (slots id : ℕ) (m : Me S View) (k x : ℕ) → k ≡ 1 → id ≡ 0 → m.0.live ≡ 1 → m.0.seen ≡ x + 1 → t < 4294967296 → 0 < n → n ≤ h → t ≤ h + n → Allows (Ruled n h t start good) slots id m 1 (λ y. (y + k) % 2 ^ 64) (took (step slots 1 k 0 none) m)
  takes slots id m k x one zeroth live seen small cells far close s o wide me low =
      let v : View = m.0 in
      let w : View = taking v in
      let front : ℕ = get_or s.words 1 0 in
      let new : ℕ = (front + k) % 2 ^ 64 in
      let ws : List ℕ = set s.words 1 new in
      let P : ℕ → Place = o.places in
      let rest = o.holds in
      let knew = o.knows id v me in
      let lead = first_is n h t start good s o v (ap (get_elem? s.views) (sym zeroth) ∙ me) in
      let found = lead.seen x seen in
      let is : new ≡ front + 1 = omega (arith, o.bound, rest.head) in
      let here : get_or ws 1 0 ≡ front + 1 = get_or-set_same s.words 1 new 0 (omega (arith, rest.wide)) ∙ is in
      let there : (i : ℕ) → i ≢ 1 → get_or ws i 0 ≡ get_or s.words i 0 = λ i ne. get_or-set_other s.words 1 i new 0 ne in
      let back : get_or ws 0 0 ≡ get_or s.words 0 0 = there 0 (λ e. omega (arith, e)) in
      let inside : front < get_or s.words 0 0 = dite (dec_le (get_or s.words 0 0) front) (λ d. absurd (no_published (P front) found.0 (omega (arith, ap kind (rest.beyond front d))))) (λ gt. lt_of_not-le gt) in
      let next : get_or ws 1 0 - h ≡ suc (front - h) = omega (arith, here, rest.head) in
      let posts' : (j : ℕ) → posted_by P j t (get_or ws 0 0 - t) ≡ posted_by P j t (get_or s.words 0 0 - t) = λ j. ap (λ (k : ℕ). posted_by P j t (k - t)) back in
      let moved = stands n h t start good s o id v w ws P me
      (record {
        wide = length-set s.words 1 new ∙ rest.wide;
        head = omega (arith, here, back, inside, rest.head);
        tail = omega (arith, back, rest.tail);
        before = rest.before;
        beyond = λ q le. rest.beyond q (omega (arith, le, back));
        drawn = λ q le lt. rest.drawn q le (omega (arith, lt, back));
        below = λ q lt. dite (ℕ_discrete q front) (λ e. subst (λ (k : ℕ). IsPublished (P k)) (sym e) found.0) (λ ne. rest.below q (omega (arith, lt, here, ne)));
        near = λ q j y e. omega (arith, rest.near q j y e, here);
        cells = λ q le lt. there (q % n + 3) (λ e. omega (arith, e)) ∙ dite (ℕ_discrete q (front + n))
            (λ e.
            let hollowed : kind (P q) < 3 = few_kinds (P q) (λ full. let there' = is_filled (P q) full in omega (arith, e, rest.near q (owner (P q)) (word_or (P q) 0) (published_is (P q) there'))) in
            let past : q - n ≡ front = omega (arith, e) in
            ap (λ (k : ℕ). get_or s.words (k + 3) 0) (ap (λ (k : ℕ). k % n) e ∙ add-mod_right front n)
            ∙ (rest.cells front (omega arith) (omega (arith, cells)) ∙ (word_is (P front) (word_or (P (front - n)) 0) 0 found.0 ∙ (ap (λ (k : ℕ). word_or (P k) 0) (sym past) ∙ sym (hollow (P q) (word_or (P (q - n)) 0) hollowed)))))
            (λ ne. rest.cells q (omega (arith, le, here)) (omega (arith, lt, here, ne)));
        phases = rest.phases;
        sound = rest.sound;
        given = λ q e. let g = rest.given q e in (g.0, told_set s.views id q v w me (λ z. z) g.1);
        pending = λ q j e. let g = rest.pending q j e in dite (ℕ_discrete j id)
            (λ z. (w, ap (get_elem? (set s.views id w)) z ∙ set_here s.views id w (some_length s.views id v me), ap (λ (z : View). z.pending) (one_value s.views id v g.0 me (ap (get_elem? s.views) (sym z) ∙ g.1)) ∙ g.2))
            (λ ne. (g.0, set_else s.views id j w ne ∙ g.1, g.2));
      })
      (record {
        number = knew.number;
        cells = knew.cells;
        from = λ l. absurd (omega (arith, l));
        posted = λ l. knew.posted l ∙ sym (posts' id);
        out = knew.out;
        gone = λ l. absurd (l live);
        pending = knew.pending;
        head = omega arith;
        lost = knew.lost;
      })
      (λ j u ne at. let k = o.knows j u at in record {
        number = k.number;
        cells = k.cells;
        from = k.from;
        posted = λ l. k.posted l ∙ sym (posts' j);
        out = k.out;
        gone = k.gone;
        pending = k.pending;
        head = omega (arith, k.head, here);
        lost = k.lost;
      })
      (λ e. record {
        live = lead.live;
        desks_are = lead.desks_are;
        few = lead.few;
        head = λ k q. absurd (omega (arith, q));
        seen = λ k q. absurd (omega (arith, q));
        taken = ap (λ (l : List ℕ). l ++ (v.seen - 1) ∷ []) lead.taken ∙ (ap (λ (y : ℕ). words_from P h (front - h) ++ y ∷ [])
            (the (v.seen - 1 ≡ word_or (P (h + (front - h))) 0) (omega (arith, seen, found.1, ap (λ (k : ℕ). word_or (P k) 0) (the (h + (front - h) ≡ front) (omega (arith, rest.head)))))) ∙ ap (words_from P h) (sym next));
      })
      (λ f ne at. absurd (ne zeroth))
      (λ j ne. posts' (j + 1)) (λ pos. live)
      (there 2 (λ e. omega (arith, e)) ∙ (o.marked ∙ ap mark_for (omega (arith, total-set losses s.views id v w me))))
      (omega (arith, back)) in
      (w, keeps, tt, moved, refl)
    where
      the : (A : Type 0) → A → A
      the A a = a
