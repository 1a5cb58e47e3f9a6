-- The log at its start and at its end.
use Rattle.std.proofs.Common.{◌≡◌, ◌≢◌, ◌⊎◌, ℕ, zero, suc, ◌+◌, ◌-◌, ◌%◌, ◌<◌, ◌≤◌, Bool, List, [], ◌∷◌, ap, ◌∙◌, arith, cond, eqb, eq-eqb, ne_eqb, get_or, inl, inr, length, lt_of_not-le, refl, subst, sym, ⊎_elim}
use Rattle.std.proofs.Math.Nat.{add-mod_right}
use mathlib.Core.Logic.{dite}
use mathlib.Core.Option.{some, some-injective, some-ne-none}
use native.Mathlib.Decide.{ℕ_discrete, dec_le}
use lib.ListN.{get_elem?}
use Rattle.atomic_table.specs.Table.{Final, Seen, State, opening}
use Rattle.nvm_model.specs.Event.{phase_of}
use Rattle.log_rule.specs.declared.view.Desk.{Desk}
use Rattle.log_rule.specs.declared.view.View.{View}
use Rattle.log_rule.specs.Places.{Place, Free, Pending, GivenUp, Published, IsPublished, content, posted_by, tag, word_or}
use Rattle.log_rule.specs.Plays.{opener}
use Rattle.log_rule.specs.Rule.{Holds, IsLogTable, IsTold, Knows, Leads, TellsLost, Whole, desk_of, losses, mark_for, no_desk, purse, total}
use Rattle.log_rule.proofs.Lists.{one_value, some_length}
use Rattle.log_rule.proofs.Looks.{Ruled, first_is}
use Rattle.log_rule.proofs.PlaceLemmas.{kind, owner}

-- the places at the start: those before the tail are filled
abbrev begun : ℕ → (ℕ → ℕ) → ℕ → ℕ → Place
begun n start t p = cond (eqb (suc p - t) 0) (Published 0 (start (p % n))) Free

begun-in : (n : ℕ) (start : ℕ → ℕ) (t p : ℕ) → p < t → begun n start t p ≡ Published 0 (start (p % n))
begun-in n start t p lt = ap (λ (b : Bool). cond b (Published 0 (start (p % n))) Free) (eq-eqb (suc p - t) 0 (omega arith))

begun-out : (n : ℕ) (start : ℕ → ℕ) (t p : ℕ) → t ≤ p → begun n start t p ≡ Free
begun-out n start t p le = ap (λ (b : Bool). cond b (Published 0 (start (p % n))) Free) (ne_eqb (suc p - t) 0 (λ e. omega (arith, e, le)))

only_one : (P : ℕ → View → Type 0) (v : View) → P 0 v → (j : ℕ) (u : View) → get_elem? (v ∷ []) j ≡ some u → P j u
only_one P v p zero u e = subst (P 0) (some-injective v u e) p
only_one P v p (suc j) u e = absurd (some-ne-none u (sym e))

-- all but the first tell nothing
total-none : (l : List View) → ((j : ℕ) (u : View) → get_elem? l j ≡ some u → u.lost ≡ []) → total losses l ≡ 0
total-none [] nothing = refl
total-none (x ∷ xs) nothing = omega (arith, ap length (nothing 0 x refl), total-none xs (λ j u e. nothing (suc j) u e))

total-first : (l : List View) (v : View) → get_elem? l 0 ≡ some v → ((j : ℕ) (u : View) → j ≢ 0 → get_elem? l j ≡ some u → u.lost ≡ []) → total losses l ≡ length v.lost
total-first [] v e nothing = absurd (some-ne-none v (sym e))
total-first (x ∷ xs) v e nothing = omega (arith, ap losses (some-injective x v e), total-none xs (λ j u is. nothing (suc j) u (λ z. omega (arith, z)) is))

kinds : (x : Place) → IsPublished x ⊎ ((x ≡ GivenUp) ⊎ ((x ≡ Free) ⊎ (x ≡ Pending (owner x))))
kinds Free = inr (inr (inl refl))
kinds (Pending j) = inr (inr (inr refl))
kinds GivenUp = inr (inl refl)
kinds (Published j w) = inl tt

module _ {S : Type 0} (n h t : ℕ) (start : ℕ → ℕ) (good : ℕ → Type 0) where
  pub opens : (ws : List ℕ) (xs : List S) → length ws ≡ n + 3 → get_or ws 0 0 ≡ t → get_or ws 1 0 ≡ h → get_or ws 2 0 ≡ 0 → ((c : ℕ) → get_or ws (c + 3) 0 ≡ start c)
      → 0 < n → n ≤ h → h ≤ t → t ≤ h + n → ((p : ℕ) → p < t → t ≤ p + n → tag (start (p % n)) ≡ phase_of n p) → ((p : ℕ) → h ≤ p → p < t → good (start (p % n)))
      → Ruled n h t start good (opening ws xs (opener n))
  opens ws xs wide tail head mark cells some-cells far order near phases sound =
      let P : ℕ → Place = begun n start t in
      let inside : (p j w : ℕ) → P p ≡ Published j w → p < t = λ p j w e. dite (dec_le t p) (λ le. absurd (omega (arith, ap kind (sym (begun-out n start t p le) ∙ e)))) (λ gt. lt_of_not-le gt) in
      let is : (p j w : ℕ) → P p ≡ Published j w → (j ≡ 0) × (w ≡ start (p % n)) = λ p j w e. let f = sym e ∙ begun-in n start t p (inside p j w e) in (ap owner f, ap (λ z. word_or z 0) f) in
      let never : (p k : ℕ) → 0 < k → k < 3 → kind (P p) ≡ k → ⊥ = λ p k pos less e. dite (dec_le t p) (λ le. omega (arith, e, pos, ap kind (begun-out n start t p le))) (λ gt. omega (arith, e, less, ap kind (begun-in n start t p (lt_of_not-le gt)))) in
      record {
        places = P;
        desks = [];
        holds = record {
          wide = wide;
          head = omega (arith, head, tail, order);
          tail = omega (arith, tail);
          before = λ p lt. begun-in n start t p lt;
          beyond = λ p le. begun-out n start t p (omega (arith, le, tail));
          drawn = λ p le lt. absurd (omega (arith, le, lt, tail));
          below = λ p lt. subst IsPublished (sym (begun-in n start t p (omega (arith, lt, head, order)))) tt;
          near = λ p j w e. omega (arith, inside p j w e, near, head);
          cells = λ p le lt. cells (p % n) ∙ dite (dec_le t p)
              (λ late. sym (ap (λ (z : Place). word_or z (word_or (P (p - n)) 0)) (begun-out n start t p late) ∙ (ap (λ (z : Place). word_or z 0) (begun-in n start t (p - n) (omega (arith, lt, head, order, le, far, some-cells)))
              ∙ ap start (sym (add-mod_right (p - n) n) ∙ ap (λ (k : ℕ). k % n) (the (p - n + n ≡ p) (omega (arith, le, head, far)))))))
              (λ gt. sym (ap (λ (z : Place). word_or z (word_or (P (p - n)) 0)) (begun-in n start t p (lt_of_not-le gt))));
          phases = λ p j w e late. ap tag (is p j w e).1 ∙ phases p (inside p j w e) late;
          sound = λ p j w e from. (subst good (sym (is p j w e).1) (sound p from (inside p j w e)), omega (arith, (is p j w e).0));
          given = λ p e. absurd (never p 2 (omega arith) (omega arith) (ap kind e));
          pending = λ p j e. absurd (never p 1 (omega arith) (omega arith) (ap kind e));
        };
        knows = only_one (λ j u. Knows n h t (get_or ws 0 0) (get_or ws 1 0) P [] j u) (opener n) (record {
          number = λ l. refl;
          cells = λ l. refl;
          from = λ l. absurd (omega (arith, l));
          posted = λ l. sym (ap (posted_by P 0 t) (the (get_or ws 0 0 - t ≡ 0) (omega (arith, tail))));
          out = λ l pos. absurd (omega (arith, pos));
          gone = λ l. (refl, refl);
          pending = λ p e. absurd (omega (arith, e));
          head = omega arith;
          lost = tt;
        });
        lead = (
          opener n,
          refl,
          record {
            live = refl;
            desks_are = refl;
            few = refl;
            head = λ k e. absurd (omega (arith, e));
            seen = λ w e. absurd (omega (arith, e));
            taken = sym (ap (Rattle.log_rule.specs.Places.words_from P h) (the (get_or ws 1 0 - h ≡ 0) (omega (arith, head))));
          },
        );
        count = refl;
        kept = λ j back. absurd (none-back j back);
        marked = mark;
        bound = omega (arith, tail);
      }
    where
      the : (A : Type 0) → A → A
      the A a = a

      none-back : (j : ℕ) → (get_or [] j no_desk).out ≡ 0 → ⊥
      none-back zero e = omega (arith, e)
      none-back (suc j) e = omega (arith, e)

  -- every seat was joined, and no position is pending
  pub ends : (v : View) (ws : List ℕ) (xs : List S) → v.pending ≡ 0 → ((j : ℕ) → 0 < j → j ≤ length v.desks → (desk_of v j).out ≡ 0) → Final (Seen (Ruled n h t start good) 0 v) ws xs → Whole n h t start good v ws
  ends v ws xs idle back f =
      let s : State S View = f.0 in
      let o = f.1.0 in
      let me = f.1.1 in
      let lead = first_is n h t start good s o v me in
      let rest = o.holds in
      let gone : (j : ℕ) (u : View) → j ≢ 0 → get_elem? s.views j ≡ some u → (u.pending ≡ 0) × (u.lost ≡ []) = λ j u ne at. let k = o.knows j u at in k.gone (λ live.
      omega (arith, k.out live (omega (arith, ne)), back j (omega (arith, ne)) (omega (arith, some_length s.views j u at, o.count, ap length lead.desks_are)), ap (λ (l : List Desk). (get_or l (j - 1) no_desk).out) lead.desks_are)) in
      let settled : (p j : ℕ) → o.places p ≡ Pending j → ⊥ = λ p j e. let g = rest.pending p j e in dite (ℕ_discrete j 0)
      (λ z. omega (arith, g.2, idle, ap (λ (u : View). u.pending) (one_value s.views 0 v g.0 me (ap (get_elem? s.views) (sym z) ∙ g.1)))) (λ ne. omega (arith, g.2, (gone j g.0 ne g.1).0)) in
      let whole : Whole n h t start good v s.words = record {
        places = o.places;
        holds = record {
          wide = rest.wide;
          head = rest.head;
          tail = rest.tail;
          before = rest.before;
          beyond = rest.beyond;
          drawn = rest.drawn;
          below = rest.below;
          near = rest.near;
          cells = rest.cells;
          phases = rest.phases;
          sound = λ p j w e from. let g = rest.sound p j w e from in (g.0, omega (arith, g.1, ap length lead.desks_are));
          given = λ p e. let g = rest.given p e in (
            g.0,
            (
              0,
              v,
              refl,
              dite (ℕ_discrete g.1.0 0)
                  (λ z. subst (λ (u : View). TellsLost p u.lost) (one_value s.views 0 g.1.1 v (ap (get_elem? s.views) (sym z) ∙ g.1.2) me) g.1.3)
                  (λ ne. absurd (subst (TellsLost p) (gone g.1.0 g.1.1 ne g.1.2).1 g.1.3)),
            ),
          );
          pending = λ p j e. absurd (settled p j e);
        };
        filled = λ p lt. ⊎_elim (λ (a : IsPublished (o.places p)). inl a) (λ other. ⊎_elim (λ (a : o.places p ≡ GivenUp). inr a) (λ more. ⊎_elim
            (λ (a : o.places p ≡ Free). dite (dec_le t p) (λ le. absurd (rest.drawn p le lt a)) (λ gt. absurd (omega (arith, ap kind (sym a ∙ rest.before p (lt_of_not-le gt))))))
            (λ (a : o.places p ≡ Pending (owner (o.places p))). absurd (settled p (owner (o.places p)) a)) more) other) (kinds (o.places p));
        posted = λ j le. posts s o me lead j le back;
        taken = lead.taken;
        lost = (o.knows 0 v me).lost;
        marked = o.marked ∙ ap mark_for (total-first s.views v me (λ j u ne at. (gone j u ne at).1));
      } in
      subst (λ (l : List ℕ). Whole n h t start good v l) f.2 whole
    where
      posts : {v : View} (s : State S View) (o : Ruled n h t start good s) → get_elem? s.views 0 ≡ some v → Leads h (get_or s.words 1 0) o.places o.desks v → (j : ℕ) → j ≤ length v.desks
          → ((j : ℕ) → 0 < j → j ≤ length v.desks → (desk_of v j).out ≡ 0) → Rattle.log_rule.specs.Rule.posted_of v j ≡ posted_by o.places j t (get_or s.words 0 0 - t)
      posts {v} s o me lead zero le back = (o.knows 0 v me).posted lead.live
      posts {v} s o me lead (suc j) le back = let e = lead.desks_are in let i : suc j - 1 ≡ j = omega arith in let up : j + 1 ≡ suc j = omega arith in
          ap (λ (k : ℕ). (get_or v.desks k no_desk).posted) i ∙ (ap (λ (l : List Desk). (get_or l j no_desk).posted) e
          ∙ (o.kept j (sym (ap (λ (l : List Desk). (get_or l j no_desk).out) e) ∙ (sym (ap (λ (k : ℕ). (get_or v.desks k no_desk).out) i) ∙ back (suc j) (omega arith) le)) ∙ ap (λ (k : ℕ). posted_by o.places k t (get_or s.words 0 0 - t)) up))
