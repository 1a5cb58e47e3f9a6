-- The steps that change a view, and no place.
use Rattle.std.proofs.Common.{◌≡◌, ◌≢◌, ◌⊎◌, ℕ, ◌+◌, ◌-◌, ◌%◌, ◌<◌, ◌≤◌, List, ap, ◌∙◌, arith, get_or, inl, inr, length, length-set, lt_of_not-le, cond, Bool, true, false, not, refl, set, subst, sym, ⊎_elim}
use mathlib.Core.Logic.{dite}
use mathlib.Core.Option.{none, some}
use native.Mathlib.Decide.{ℕ_discrete, dec_le}
use lib.ListN.{get_elem?}
use lib.Seq.{set-get_or}
use Rattle.atomic_table.specs.Table.{Allows, Me, State, keeps, step}
use Rattle.atomic_table.proofs.Lists.{set_here, set_else}
use Rattle.nvm_model.specs.Event.{phase_of}
use Rattle.nvm_model.proofs.PlaceLemmas.{phase_of-add}
use Rattle.log_rule.specs.declared.view.View.{View}
use Rattle.log_rule.specs.Places.{Place, Published, IsPublished, content, posted_by, tag, word_or}
use Rattle.log_rule.specs.Plays.{finding, found, looked, looking, missing}
use Rattle.log_rule.specs.Rule.{Holds, IsLogTable, Knows, Leads, losses, mark_for, no_desk, purse, total}
use Rattle.log_rule.proofs.Lists.{each_set, one_value, some_length, total-set}
use Rattle.log_rule.proofs.PlaceLemmas.{few_kinds, hollow, is_filled, is_published, kind, no_published, owner, published_is, told_set, word_is}

-- a view keeps what the rule says of its places
pub record Same (v w : View) : Type 0 where
  pub number : w.number ≡ v.number
  pub cells : w.cells ≡ v.cells
  pub live : w.live ≡ v.live
  pub pending : w.pending ≡ v.pending
  pub budget : w.budget ≡ v.budget
  pub seats : w.seats ≡ v.seats
  pub posted : w.posted ≡ v.posted
  pub taken : w.taken ≡ v.taken
  pub lost : w.lost ≡ v.lost
  pub desks : w.desks ≡ v.desks

le_of_not_lt : (a b : ℕ) → (a < b → ⊥) → b ≤ a
le_of_not_lt a b apart = ⊎_elim (λ (lt : a < b). absurd (apart lt)) (λ (le : b ≤ a). le) (lt_or_le a b)
  where
    lt_or_le : (a b : ℕ) → (a < b) ⊎ (b ≤ a)
    lt_or_le a b = dite (dec_le b a) inr (λ far. inl (lt_of_not-le far))

not_own : (b : Bool) → b ≡ not b → ⊥
not_own true e = absurd (omega (arith, ap {B = ℕ} (λ c. cond c 0 1) e))
not_own false e = absurd (omega (arith, ap {B = ℕ} (λ c. cond c 0 1) e))

module _ (n h t : ℕ) (start : ℕ → ℕ) (good : ℕ → Type 0) where
  -- an entry stands at a position in the window, or its cell has the old phase
  pub at_place : {words : List ℕ} {views : List View} {seats : ℕ} {P : ℕ → Place} (rest : Holds n h t start good words views seats P) (p r : ℕ)
      → get_or words 1 0 ≤ p → p < get_or words 1 0 + n → r ≡ content n P p → 0 < n → n ≤ h → t ≤ h + n
      → (IsPublished (P p) × (word_or (P p) 0 ≡ r) × good r × (tag r ≡ phase_of n p)) ⊎ (tag r ≢ phase_of n p)
  at_place {words} {views} {seats} {P} rest p r ahead inside is cells back near =
      let x : Place = P p in
      let past : Place = P (p - n) in
      dite (ℕ_discrete (kind x) 3)
      (λ full.
      let there = is_filled x full in
      let word : word_or x 0 ≡ r = word_is x 0 (word_or past 0) there ∙ sym is in
      let at : x ≡ Published (owner x) r = published_is x there ∙ ap (Published (owner x)) word in
      inl (there, word, (rest.sound p (owner x) r at (omega (arith, rest.head, ahead))).0, rest.phases p (owner x) r at (omega (arith, near, rest.head, ahead))))
      (λ free.
      let few = few_kinds x free in
      let old = rest.below (p - n) (omega (arith, rest.head, back, inside, ahead)) in
      let word : word_or past 0 ≡ r = sym (is ∙ hollow x (word_or past 0) few) in
      let late : t ≤ p = le_of_not_lt p t (λ lt. no_published x (is_published x 0 (start (p % n)) (rest.before p lt)) few) in
      let was : tag r ≡ phase_of n (p - n) = rest.phases (p - n) (owner past) r (published_is past old ∙ ap (Published (owner past)) word) (omega (arith, late)) in
      let on : p ≡ p - n + n = omega (arith, rest.head, back, ahead) in
      let turned : phase_of n p ≡ not (phase_of n (p - n)) = ap (phase_of n) on ∙ phase_of-add n (p - n) cells in
      inr (λ e. not_own (phase_of n (p - n)) (sym was ∙ (e ∙ turned))))

module _ {S : Type 0} (n h t : ℕ) (start : ℕ → ℕ) (good : ℕ → Type 0) where
  abbrev pub Ruled : State S View → Type 0
  Ruled = IsLogTable n h t start good

  -- the tables as they are, with other words and views
  abbrev pub with_words : State S View → List ℕ → List View → State S View
  with_words s ws vs = record { words = ws; homes = s.homes; views = vs }

  pub first_is : (s : State S View) (o : Ruled s) (v : View) → get_elem? s.views 0 ≡ some v → Leads h (get_or s.words 1 0) o.places o.desks v
  first_is s o v me = subst (λ (f : View). Leads h (get_or s.words 1 0) o.places o.desks f) (one_value s.views 0 o.lead.0 v o.lead.1 me) o.lead.2

  -- a step of the seat j leaves a table that keeps the rule
  pub stands : (s : State S View) (o : Ruled s) (j : ℕ) (v w : View) (ws : List ℕ) (P : ℕ → Place) → get_elem? s.views j ≡ some v
      → Holds n h t start good ws (set s.views j w) (length o.desks) P → Knows n h t (get_or ws 0 0) (get_or ws 1 0) P o.desks j w
      → ((k : ℕ) (u : View) → k ≢ j → get_elem? s.views k ≡ some u → Knows n h t (get_or ws 0 0) (get_or ws 1 0) P o.desks k u)
      → (j ≡ 0 → Leads h (get_or ws 1 0) P o.desks w)
      → ((f : View) → j ≢ 0 → get_elem? s.views 0 ≡ some f → Leads h (get_or ws 1 0) P o.desks f)
      → ((k : ℕ) → k + 1 ≢ j → posted_by P (k + 1) t (get_or ws 0 0 - t) ≡ posted_by o.places (k + 1) t (get_or s.words 0 0 - t))
      → (0 < j → v.live ≡ 1) → get_or ws 2 0 ≡ mark_for (total losses (set s.views j w)) → get_or ws 0 0 + purse w ≤ get_or s.words 0 0 + purse v
      → Ruled (with_words s ws (set s.views j w))
  stands s o j v w ws P me rest mine others first other posts live marks pays =
      let here = set_here s.views j w (some_length s.views j v me) in
      record {
        places = P;
        desks = o.desks;
        holds = rest;
        knows = each_set (λ k u. Knows n h t (get_or ws 0 0) (get_or ws 1 0) P o.desks k u) s.views j w mine others;
        lead = dite (ℕ_discrete 0 j)
            (λ e. (w, ap (get_elem? (set s.views j w)) e ∙ here, first (sym e)))
            (λ ne. (o.lead.0, set_else s.views j 0 w ne ∙ o.lead.1, other o.lead.0 (λ e. ne (sym e)) o.lead.1));
        count = length-set s.views j w ∙ o.count;
        kept = λ k back. o.kept k back ∙ sym (posts k
            (λ e. let out = (o.knows j v me).out (live (omega (arith, e))) (omega (arith, e)) in omega (arith, out, back, ap (λ (i : ℕ). (get_or o.desks (i - 1) no_desk).out) e, ap (λ (i : ℕ). (get_or o.desks i no_desk).out) (the (k + 1 - 1 ≡ k) (omega arith)))));
        marked = marks;
        bound = omega (arith, o.bound, pays, total-set purse s.views j v w me);
      }
    where
      the : (A : Type 0) → A → A
      the A a = a

  pub viewed : (s : State S View) (o : Ruled s) (j : ℕ) (v w : View) → get_elem? s.views j ≡ some v → v.live ≡ 1 → Same v w
      → w.head ≤ get_or s.words 1 0 + 1 → (0 < w.head → h < w.head) → (j ≡ 0 → (k : ℕ) → w.head ≡ k + 1 → k ≡ get_or s.words 1 0)
      → (j ≡ 0 → (x : ℕ) → w.seen ≡ x + 1 → IsPublished (o.places (get_or s.words 1 0)) × (word_or (o.places (get_or s.words 1 0)) 0 ≡ x))
      → Ruled (with_words s s.words (set s.views j w))
  viewed s o j v w me live same head from first seen =
      let knew = o.knows j v me in
      let rest = o.holds in
      stands s o j v w s.words o.places me
      (record {
        wide = rest.wide;
        head = rest.head;
        tail = rest.tail;
        before = rest.before;
        beyond = rest.beyond;
        drawn = rest.drawn;
        below = rest.below;
        near = rest.near;
        cells = rest.cells;
        phases = rest.phases;
        sound = rest.sound;
        given = λ p e. let g = rest.given p e in (g.0, told_set s.views j p v w me (λ x. subst (λ l. Rattle.log_rule.specs.Rule.TellsLost p l) (sym same.lost) x) g.1);
        pending = λ p i e. let g = rest.pending p i e in dite (ℕ_discrete i j)
            (λ q. (w, ap (get_elem? (set s.views j w)) q ∙ set_here s.views j w (some_length s.views j v me), same.pending ∙ (ap (λ (z : View). z.pending) (one_value s.views j v g.0 me (ap (get_elem? s.views) (sym q) ∙ g.1)) ∙ g.2)))
            (λ ne. (g.0, set_else s.views j i w ne ∙ g.1, g.2));
      })
      (record {
        number = λ l. same.number ∙ knew.number live;
        cells = λ l. same.cells ∙ knew.cells live;
        from = from;
        posted = λ l. same.posted ∙ knew.posted live;
        out = λ l. knew.out live;
        gone = λ l. absurd (l (same.live ∙ live));
        pending = λ p e. knew.pending p (sym same.pending ∙ e);
        head = head;
        lost = subst (Rattle.log_rule.specs.Rule.AreLost n o.places) (sym same.lost) knew.lost;
      })
      (λ k u ne at. o.knows k u at)
      (λ e. let lead = first_is s o v (ap (get_elem? s.views) (sym e) ∙ me) in record {
        live = same.live ∙ live;
        desks_are = same.desks ∙ lead.desks_are;
        few = omega (arith, lead.few, same.seats);
        head = first e;
        seen = seen e;
        taken = same.taken ∙ lead.taken;
      })
      (λ f ne at. first_is s o f at)
      (λ k ne. refl) (λ pos. live)
      (o.marked ∙ ap mark_for (omega (arith, total-set losses s.views j v w me, ap length same.lost)))
      (omega (arith, same.budget, same.seats))

  -- the word that is looked at stays
  pub looks_on : (s : State S View) (i : ℕ) (vs : List View) → Ruled (with_words s s.words vs) → Ruled (with_words s (set s.words i (get_or s.words i 0)) vs)
  looks_on s i vs = subst (λ (ws : List ℕ). Ruled (with_words s ws vs)) (sym (set-get_or s.words i 0))

  pub looks : (slots id : ℕ) (m : Me S View) → m.0.live ≡ 1 → m.0.seen ≡ 0 → t < 4294967296 → Allows Ruled slots id m 1 (λ y. y) (looked (step slots 1 0 0 none) m)
  looks slots id m live blind small s o wide me low =
      let w : View = looking m.0 (get_or s.words 1 0) in (
        w,
        keeps,
        tt,
        looks_on s 1 (set s.views id w) (viewed s o id m.0 w me live
            (record { number = refl; cells = refl; live = refl; pending = refl; budget = refl; seats = refl; posted = refl; taken = refl; lost = refl; desks = refl })
            (omega arith) (λ _. omega (arith, o.holds.head)) (λ e k is. omega arith) (λ e x is. absurd (omega (arith, is, blind)))),
        (refl, omega (arith, o.bound, o.holds.head)),
      )

  pub finds : (slots id : ℕ) (m : Me S View) (head i : ℕ) → id ≡ 0 → m.0.live ≡ 1 → m.0.head ≡ head + 1 → m.0.seen ≡ 0 → 0 < n → n ≤ h → t ≤ h + n → i ≡ head % n + 3
      → Allows Ruled slots id m i (λ y. y) (found good (step slots i 0 0 none) m)
  finds slots id m head i zeroth live is blind cells back near at s o wide me low =
      let rest = o.holds in
      let r : ℕ = get_or s.words i 0 in
      let front : ℕ = get_or s.words 1 0 in
      let lead = first_is s o m.0 (ap (get_elem? s.views) (sym zeroth) ∙ me) in
      let here : head ≡ front = lead.head head is in
      let cell : r ≡ content n o.places front = ap (λ (k : ℕ). get_or s.words k 0) (at ∙ ap (λ (k : ℕ). k % n + 3) here) ∙ rest.cells front (omega arith) (omega (arith, cells)) in
      let read : m.0.head - 1 ≡ front = omega (arith, is, here) in
      let phase : phase_of m.0.cells (m.0.head - 1) ≡ phase_of n front = ap (λ (k : ℕ). phase_of k (m.0.head - 1)) ((o.knows id m.0 me).cells live) ∙ ap (phase_of n) read in
      let w : View = finding m.0 r in
      let u : View = missing m.0 r in
      ⊎_elim
      (λ (f : IsPublished (o.places front) × (word_or (o.places front) 0 ≡ r) × good r × (tag r ≡ phase_of n front)). (
        w,
        keeps,
        tt,
        looks_on s i (set s.views id w) (viewed s o id m.0 w me live
            (record { number = refl; cells = refl; live = refl; pending = refl; budget = refl; seats = refl; posted = refl; taken = refl; lost = refl; desks = refl })
            (omega (arith, is, here)) (o.knows id m.0 me).from (λ e k q. lead.head k q) (λ e x q. (f.0, f.1 ∙ omega (arith, q)))),
        ((λ e. (refl, f.2)), (λ ne. absurd (ne (f.3 ∙ sym phase)))),
      ))
      (λ (ne : tag r ≢ phase_of n front). (
        u,
        keeps,
        tt,
        looks_on s i (set s.views id u) (viewed s o id m.0 u me live
            (record { number = refl; cells = refl; live = refl; pending = refl; budget = refl; seats = refl; posted = refl; taken = refl; lost = refl; desks = refl })
            (omega arith) (λ l. absurd (omega (arith, l))) (λ e k q. absurd (omega (arith, q))) (λ e x q. absurd (omega (arith, q, blind)))),
        ((λ e. absurd (ne (e ∙ phase))), (λ _. refl)),
      ))
      (at_place n h t start good rest front r (omega arith) (omega (arith, cells)) cell cells back near)
