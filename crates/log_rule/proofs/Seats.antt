-- Seats are split off and joined.
use Rattle.std.proofs.Common.{◌≡◌, ◌≢◌, ◌⊎◌, ℕ, zero, suc, ◌+◌, ◌-◌, ◌<◌, ◌≤◌, List, [], ◌∷◌, ◌++◌, ap, ◌∙◌, arith, get_or, get_or-set_other, get_or-set_same, inl, inr, length, length-append, length-set, refl, set, subst, sym, ⊎_elim}
use mathlib.Core.Logic.{dite}
use mathlib.Core.Option.{some, some-injective, some-ne-none}
use native.Mathlib.Decide.{ℕ_discrete}
use lib.ListN.{get_elem?}
use Rattle.atomic_table.specs.Table.{Joins, Splits}
use Rattle.atomic_table.proofs.Lists.{at_longer, set_here, set_else}
use Rattle.log_rule.specs.declared.view.Desk.{Desk}
use Rattle.log_rule.specs.declared.view.Entry.{Entry}
use Rattle.log_rule.specs.declared.view.View.{View}
use Rattle.log_rule.specs.Places.{Place, Published, entry_by, posted_by}
use Rattle.log_rule.specs.Plays.{joined, out_desk, spent, split_left, split_right}
use Rattle.log_rule.specs.Rule.{IsTold, Knows, TellsLost, losses, mark_for, no_desk, purse}
use Rattle.log_rule.proofs.Lists.{each_set, one_value, some_length, total-append, total-set}
use Rattle.log_rule.proofs.Looks.{Ruled, first_is, with_words}
use Rattle.log_rule.proofs.PlaceLemmas.{entry_else, lost_more, tells_left, tells_right}

at_end : {A : Type 0} (l : List A) (a b : A) (j : ℕ) → get_elem? (l ++ a ∷ []) j ≡ some b → (get_elem? l j ≡ some b) ⊎ ((j ≡ length l) × (a ≡ b))
at_end [] a b zero e = inr (refl, some-injective a b e)
at_end [] a b (suc j) e = absurd (some-ne-none b (sym e))
at_end (x ∷ xs) a b zero e = inl e
at_end (x ∷ xs) a b (suc j) e = ⊎_elim inl (λ (t : (j ≡ length xs) × (a ≡ b)). inr (ap suc t.0, t.1)) (at_end xs a b j e)

get_more : {A : Type 0} (l m : List A) (j : ℕ) (d : A) → j < length l → get_or (l ++ m) j d ≡ get_or l j d
get_more [] m j d lt = absurd (omega arith)
get_more (x ∷ xs) m zero d lt = refl
get_more (x ∷ xs) m (suc j) d lt = get_more xs m j d (omega arith)

-- a desk more, at which nothing is read yet
out_more : (l : List Desk) (j : ℕ) → (get_or (l ++ out_desk ∷ []) j no_desk).out ≡ (get_or l j no_desk).out
out_more [] zero = refl
out_more [] (suc j) = refl
out_more (x ∷ xs) zero = refl
out_more (x ∷ xs) (suc j) = out_more xs j

desk_more : (l : List Desk) (j : ℕ) → (get_or (l ++ out_desk ∷ []) j no_desk).posted ≡ (get_or l j no_desk).posted
desk_more [] zero = refl
desk_more [] (suc j) = refl
desk_more (x ∷ xs) zero = refl
desk_more (x ∷ xs) (suc j) = desk_more xs j

nothing_by : (P : ℕ → Place) (j a k : ℕ) → ((q w : ℕ) → a ≤ q → P q ≢ Published j w) → posted_by P j a k ≡ []
nothing_by P j a zero ne = refl
nothing_by P j a (suc k) ne = ap (λ (l : List Entry). l ++ entry_by j (a + k) (P (a + k))) (nothing_by P j a k ne) ∙ entry_else j (a + k) (P (a + k)) (λ w e. ne (a + k) w (omega arith) e)

told_more : (views : List View) (p : ℕ) (v w x : View) → get_elem? views 0 ≡ some v → w.lost ≡ v.lost → IsTold views p → IsTold (set views 0 w ++ x ∷ []) p
told_more views p v w x me same (i, u, at, tells) = dite (ℕ_discrete i 0)
    (λ e. (0, w, at_longer (set views 0 w) (x ∷ []) 0 w (set_here views 0 w (some_length views 0 v me)), subst (TellsLost p) (sym same) (subst (λ (z : View). TellsLost p z.lost) (some-injective u v (sym at ∙ (ap (get_elem? views) e ∙ me))) tells)))
    (λ ne. (i, u, at_longer (set views 0 w) (x ∷ []) i u (set_else views 0 i w ne ∙ at), tells))

told_join : (views vs : List View) (other : ℕ) (v w : View) (p : ℕ) → IsTold views p → get_elem? views 0 ≡ some v → get_elem? views other ≡ some w → get_elem? vs 0 ≡ some (joined v w)
    → ((j : ℕ) (u : View) → j ≢ 0 → j ≢ other → get_elem? views j ≡ some u → get_elem? vs j ≡ some u) → IsTold vs p
told_join views vs other v w p (j, u, is, said) me at here stays = dite (ℕ_discrete j 0)
    (λ e. (0, joined v w, here, tells_left p v.lost w.lost (subst (λ (z : View). TellsLost p z.lost) (some-injective u v (sym is ∙ (ap (get_elem? views) e ∙ me))) said)))
    (λ a. dite (ℕ_discrete j other)
    (λ e. (0, joined v w, here, tells_right p v.lost w.lost (subst (λ (z : View). TellsLost p z.lost) (some-injective u w (sym is ∙ (ap (get_elem? views) e ∙ at))) said)))
    (λ b. (j, u, stays j u a b is, said)))

module _ {S : Type 0} (n h t : ℕ) (start : ℕ → ℕ) (good : ℕ → Type 0) where
  pub splits : (id : ℕ) (v : View) → id ≡ 0 → 0 < v.seats → h ≤ t → Splits (Ruled {S = S} n h t start good) id v (split_left v) (split_right v)
  splits id v zeroth has order s o me' =
      let me : get_elem? s.views 0 ≡ some v = ap (get_elem? s.views) (sym zeroth) ∙ me' in
      let w : View = split_left v in
      let x : View = split_right v in
      let desks : List Desk = o.desks ++ out_desk ∷ [] in
      let vs : List View = set s.views 0 w ++ x ∷ [] in
      let lead = first_is n h t start good s o v me in
      let knew = o.knows 0 v me in
      let rest = o.holds in
      let size : length desks ≡ length o.desks + 1 = length-append o.desks (out_desk ∷ []) in
      let long : length (set s.views 0 w) ≡ length s.views = length-set s.views 0 w in
      let here : get_elem? vs 0 ≡ some w = at_longer (set s.views 0 w) (x ∷ []) 0 w (set_here s.views 0 w (some_length s.views 0 v me)) in
      let number : x.number ≡ length s.views = omega (arith, ap length lead.desks_are, o.count) in
      let unknown : (q y : ℕ) → t ≤ q → o.places q ≢ Published (length s.views) y = λ q y from e. omega (arith, (rest.sound q (length s.views) y e (omega (arith, from, order))).1, o.count) in
      let ruled : Ruled n h t start good (with_words n h t start good s s.words vs) = record {
        places = o.places;
        desks = desks;
        holds = record {
          wide = rest.wide;
          head = rest.head;
          tail = rest.tail;
          before = rest.before;
          beyond = rest.beyond;
          drawn = rest.drawn;
          below = rest.below;
          near = rest.near;
          cells = rest.cells;
          phases = rest.phases;
          sound = λ p j y e from. let g = rest.sound p j y e from in (g.0, omega (arith, g.1, size));
          given = λ p e. let g = rest.given p e in (g.0, told_more s.views p v w x me refl g.1);
          pending = λ p j e. let g = rest.pending p j e in dite (ℕ_discrete j 0)
              (λ z. (w, ap (get_elem? vs) z ∙ here, ap (λ (z : View). z.pending) (one_value s.views 0 v g.0 me (ap (get_elem? s.views) (sym z) ∙ g.1)) ∙ g.2))
              (λ ne. (g.0, at_longer (set s.views 0 w) (x ∷ []) j g.0 (set_else s.views 0 j w ne ∙ g.1), g.2));
        };
        knows = λ k u at. ⊎_elim
            (λ (old : get_elem? (set s.views 0 w) k ≡ some u). each_set (λ k u. Knows n h t (get_or s.words 0 0) (get_or s.words 1 0) o.places desks k u) s.views 0 w
            (record { number = knew.number; cells = knew.cells; from = knew.from; posted = knew.posted; out = λ l pos. absurd (omega (arith, pos)); gone = knew.gone; pending = knew.pending; head = knew.head; lost = knew.lost })
            (λ k u ne at. let g = o.knows k u at in record { number = g.number; cells = g.cells; from = g.from; posted = g.posted; out = λ l pos. out_more o.desks (k - 1) ∙ g.out l pos; gone = g.gone; pending = g.pending; head = g.head; lost = g.lost }) k u old)
            (λ (new : (k ≡ length (set s.views 0 w)) × (x ≡ u)). subst (λ (u : View). Knows n h t (get_or s.words 0 0) (get_or s.words 1 0) o.places desks k u) new.1 (record {
              number = λ l. omega (arith, number, new.0, long);
              cells = λ l. knew.cells lead.live;
              from = λ l. absurd (omega (arith, l));
              posted = λ l. sym (nothing_by o.places k t (get_or s.words 0 0 - t) (λ q y from e. unknown q y from (e ∙ ap (λ (i : ℕ). Published i y) (new.0 ∙ long))));
              out = λ l pos. out_more o.desks (k - 1) ∙ past o.desks (k - 1) (omega (arith, new.0, long, o.count));
              gone = λ l. absurd (l refl);
              pending = λ p e. absurd (omega (arith, e));
              head = omega arith;
              lost = tt;
            }))
            (at_end (set s.views 0 w) x u k at);
        lead = (
          w,
          here,
          record {
            live = lead.live;
            desks_are = ap (λ (l : List Desk). l ++ out_desk ∷ []) lead.desks_are;
            few = omega (arith, lead.few, size, has);
            head = lead.head;
            seen = lead.seen;
            taken = lead.taken;
          },
        );
        count = omega (arith, length-append (set s.views 0 w) (x ∷ []), long, o.count, size);
        kept = λ j back. desk_more o.desks j ∙ o.kept j (sym (out_more o.desks j) ∙ back);
        marked = o.marked ∙ ap mark_for (omega (arith, total-append losses (set s.views 0 w) (x ∷ []), total-set losses s.views 0 v w me));
        bound = omega (arith, o.bound, total-append purse (set s.views 0 w) (x ∷ []), total-set purse s.views 0 v w me, has);
      } in
      subst (λ (k : ℕ). Ruled n h t start good (with_words n h t start good s s.words (set s.views k w ++ x ∷ []))) (sym zeroth) ruled
    where
      past : (l : List Desk) (j : ℕ) → length l ≤ j → (get_or l j no_desk).out ≡ 1
      past [] zero le = refl
      past [] (suc j) le = refl
      past (x ∷ xs) zero le = absurd (omega arith)
      past (x ∷ xs) (suc j) le = past xs j (omega arith)

  pub joins : (id other : ℕ) (v w : View) → id ≡ 0 → w.live ≡ 1 → w.pending ≡ 0 → Joins (Ruled {S = S} n h t start good) id v other w (joined v w) spent
  joins id other v w zeroth live idle s o me' apart at' =
      let me : get_elem? s.views 0 ≡ some v = ap (get_elem? s.views) (sym zeroth) ∙ me' in
      let both : View = joined v w in
      let ne : other ≢ 0 = λ e. apart (e ∙ sym zeroth) in
      let at : get_elem? s.views other ≡ some w = sym (set_else s.views 0 other both ne) ∙ (ap (λ (k : ℕ). get_elem? (set s.views k both) other) (sym zeroth) ∙ at') in
      let lead = first_is n h t start good s o v me in
      let knew = o.knows 0 v me in
      let joins-it = o.knows other w at in
      let rest = o.holds in
      let k : ℕ = other - 1 in
      let desk : Desk = record { out = 0; posted = w.posted } in
      let desks : List Desk = set o.desks k desk in
      let vs : List View = set (set s.views 0 both) other spent in
      let number : w.number - 1 ≡ k = ap (λ (i : ℕ). i - 1) (joins-it.number live) in
      let inside : k < length o.desks = omega (arith, some_length s.views other w at, o.count, ne) in
      let first-in : 0 < length s.views = some_length s.views 0 v me in
      let here : get_elem? vs 0 ≡ some both = set_else (set s.views 0 both) other 0 spent (λ e. ne (sym e)) ∙ set_here s.views 0 both first-in in
      let stays : (j : ℕ) (u : View) → j ≢ 0 → j ≢ other → get_elem? s.views j ≡ some u → get_elem? vs j ≡ some u = λ j u a b is. set_else (set s.views 0 both) other j spent b ∙ (set_else s.views 0 j both a ∙ is) in
      let same : (j : ℕ) → j ≢ k → get_or desks j no_desk ≡ get_or o.desks j no_desk = λ j a. get_or-set_other o.desks k j desk no_desk a in
      let ruled : Ruled n h t start good (with_words n h t start good s s.words vs) = record {
        places = o.places;
        desks = desks;
        holds = record {
          wide = rest.wide;
          head = rest.head;
          tail = rest.tail;
          before = rest.before;
          beyond = rest.beyond;
          drawn = rest.drawn;
          below = rest.below;
          near = rest.near;
          cells = rest.cells;
          phases = rest.phases;
          sound = λ p j y e from. let g = rest.sound p j y e from in (g.0, omega (arith, g.1, length-set o.desks k desk));
          given = λ p e. let g = rest.given p e in (g.0, told_join s.views vs other v w p g.1 me at here stays);
          pending = λ p j e. let g = rest.pending p j e in dite (ℕ_discrete j 0)
              (λ z. (both, ap (get_elem? vs) z ∙ here, ap (λ (z : View). z.pending) (one_value s.views 0 v g.0 me (ap (get_elem? s.views) (sym z) ∙ g.1)) ∙ g.2))
              (λ a. (g.0, stays j g.0 a (λ z. omega (arith, g.2, idle, ap (λ (z : View). z.pending) (one_value s.views other w g.0 at (ap (get_elem? s.views) (sym z) ∙ g.1)))) g.1, g.2));
        };
        knows = each_set (λ j u. Knows n h t (get_or s.words 0 0) (get_or s.words 1 0) o.places desks j u) (set s.views 0 both) other spent
            (record { number = λ l. absurd (omega (arith, l)); cells = λ l. absurd (omega (arith, l)); from = λ l. absurd (omega (arith, l)); posted = λ l. absurd (omega (arith, l)); out = λ l. absurd (omega (arith, l)); gone = λ l. (refl, refl); pending = λ p e. absurd (omega (arith, e)); head = omega arith; lost = tt })
            (λ j u b is. each_set (λ j u. j ≢ other → Knows n h t (get_or s.words 0 0) (get_or s.words 1 0) o.places desks j u) s.views 0 both
            (λ _. record { number = knew.number; cells = knew.cells; from = knew.from; posted = knew.posted; out = λ l pos. absurd (omega (arith, pos)); gone = λ l. absurd (l lead.live); pending = knew.pending; head = knew.head; lost = lost_more n o.places v.lost w.lost knew.lost joins-it.lost })
            (λ j u a is b. let g = o.knows j u is in record { number = g.number; cells = g.cells; from = g.from; posted = g.posted; out = λ l pos. ap (λ (d : Desk). d.out) (same (j - 1) (λ e. b (omega (arith, e, pos, ne)))) ∙ g.out l pos; gone = g.gone; pending = g.pending; head = g.head; lost = g.lost })
            j u is b);
        lead = (
          both,
          here,
          record {
            live = lead.live;
            desks_are = ap (λ (i : ℕ). set v.desks i desk) number ∙ ap (λ (l : List Desk). set l k desk) lead.desks_are;
            few = omega (arith, lead.few, length-set o.desks k desk);
            head = lead.head;
            seen = lead.seen;
            taken = lead.taken;
          },
        );
        count = omega (arith, length-set (set s.views 0 both) other spent, length-set s.views 0 both, o.count, length-set o.desks k desk);
        kept = λ j back. dite (ℕ_discrete j k)
            (λ e. ap (λ (i : ℕ). (get_or desks i no_desk).posted) e ∙ (ap (λ (d : Desk). d.posted) (get_or-set_same o.desks k desk no_desk inside) ∙ (joins-it.posted live ∙ ap (λ (i : ℕ). posted_by o.places i t (get_or s.words 0 0 - t)) (the (other ≡ j + 1) (omega (arith, e, ne))))))
            (λ a. ap (λ (d : Desk). d.posted) (same j a) ∙ o.kept j (sym (ap (λ (d : Desk). d.out) (same j a)) ∙ back));
        marked = o.marked ∙ ap mark_for (omega (arith, total-set losses (set s.views 0 both) other w spent (set_else s.views 0 other both ne ∙ at), total-set losses s.views 0 v both me, length-append v.lost w.lost));
        bound = omega (arith, o.bound, total-set purse (set s.views 0 both) other w spent (set_else s.views 0 other both ne ∙ at), total-set purse s.views 0 v both me);
      } in
      subst (λ (i : ℕ). Ruled n h t start good (with_words n h t start good s s.words (set (set s.views i both) other spent))) (sym zeroth) ruled
    where
      the : (A : Type 0) → A → A
      the A a = a
