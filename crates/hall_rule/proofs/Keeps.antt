-- Each step keeps the rule.
use Rattle.std.proofs.Common.{◌≡◌, ℕ, zero, suc, ◌+◌, ◌-◌, ◌*◌, ◌/◌, ◌%◌, ◌^◌, ◌<◌, ◌≤◌, eqb, cond, ◌≢◌, List, [], ◌∷◌, ◌++◌, map, length, get_or, set, sym, refl, ap, ap₂, ◌∙◌, subst, ⊎_elim, arith, length-set, get_or-set_other, get_or-set_same, append-nil, append_assoc, length-append, eq-eqb, ne_eqb, Some, max}
use Rattle.std.specs.Prelude.{Option}
use Rattle.std.proofs.lemmas.List.{length-map}
use mathlib.Core.Logic.{dite}
use mathlib.Core.Option.{some, none, some-injective, some-ne-none}
use mathlib.Core.Option as maybe
use native.Mathlib.Decide.{ℕ_discrete}
use lib.ListN.{get_elem?}
use lib.Seq.{set-get_or}
use prog.Atomic.{either}
use Rattle.atomic_table.specs.Table.{State, Me, step, Act, keeps, takes, gives, Valid, carried_after, stepped, Allows, Splits, Joins, opening, Final, Seen}
use Rattle.atomic_table.proofs.Lists.{at_set, set_here, set_else, at_longer, at_map}
use Rattle.hall_rule.specs.Items.{AllFrom, entries_of, entry_for, entry_of, total, by, in_shelf, Below, Rises, times, shelves}
use Rattle.hall_rule.specs.Words.{pack, weight, word_for, count, counts}
use Rattle.hall_rule.specs.Rule.{Orderly, Holds, Named, AtHome, Away, desk, desk_at, desk_of, no_desk, word_of, Leads, Whole, purse, pending, opener, counted}
use Rattle.hall_rule.specs.Plays.{peeked, aimed, telling, raised, drawn, Took, locked, did_some, copied_some, locking, looking, noting, releasing, split_left, split_right, joined, spent, rest_of}
use Rattle.hall_rule.specs.declared.item.Work.{Work}
use Rattle.hall_rule.specs.declared.item.Work.TheVariants.{Served, Copied}
use Rattle.hall_rule.specs.declared.item.Item.{Item}
use Rattle.hall_rule.specs.declared.view.View.{View}
use Rattle.hall_rule.specs.declared.view.Desk.{Desk}
use Rattle.hall_rule.specs.declared.view.Lock.{Lock}
use Rattle.hall_rule.specs.declared.view.Note.{Note}
use Rattle.hall_rule.specs.Notes.{AllAre, Among, IsBusy, IsNote, NoneAbove, Noted, Outdated, Past, Why, digit}
use Rattle.hall_rule.proofs.Notes.{above_at, above_itself, after_busy, after_load, after_lock, after_release, after_split, all_map, busy, counts_at, counts_grow, digit_of, last_among, note_kept, noted_same, one_below, outdated_lock, outdated_release, outdated_same, small_counts}
use Rattle.hall_rule.proofs.Lists.{put, put-same, put-other, put-all, at_end, at_get, total-append, total-set, term_le, Below-more, Below-append, Rises-append, by-append, in_shelf-append, shelves-append, entries-grow, AllFrom-append}
use Rattle.hall_rule.specs.Turn.{Ordered, Known, insert}
use Rattle.hall_rule.proofs.Turns.{insert-ordered, ranks-apart, by-insert, by-insert-other, in-insert, in-insert-other, Known-insert}
use Rattle.hall_rule.proofs.Packs.{holder-none, word-below}

only_one : (P : View → Type 0) (v : View) → P v → (j : ℕ) (u : View) → get_elem? (v ∷ []) j ≡ some u → P u
only_one P v p zero u e = subst P (some-injective v u e) p
only_one P v p (suc j) u e = absurd (some-ne-none u (sym e))

ten_bare : (plan : ℕ → List ℕ) (h : ℕ) → ((desk_of (opener plan) h).items ≡ []) × ((desk_of (opener plan) h).told ≡ 0) × ((desk_of (opener plan) h).locks ≡ []) × ((desk_of (opener plan) h).notes ≡ [])
ten_bare plan zero = (refl, refl, refl, refl)
ten_bare plan (suc zero) = (refl, refl, refl, refl)
ten_bare plan (suc (suc zero)) = (refl, refl, refl, refl)
ten_bare plan (suc (suc (suc zero))) = (refl, refl, refl, refl)
ten_bare plan (suc (suc (suc (suc zero)))) = (refl, refl, refl, refl)
ten_bare plan (suc (suc (suc (suc (suc zero))))) = (refl, refl, refl, refl)
ten_bare plan (suc (suc (suc (suc (suc (suc zero)))))) = (refl, refl, refl, refl)
ten_bare plan (suc (suc (suc (suc (suc (suc (suc zero))))))) = (refl, refl, refl, refl)
ten_bare plan (suc (suc (suc (suc (suc (suc (suc (suc zero)))))))) = (refl, refl, refl, refl)
ten_bare plan (suc (suc (suc (suc (suc (suc (suc (suc (suc zero))))))))) = (refl, refl, refl, refl)
ten_bare plan (suc (suc (suc (suc (suc (suc (suc (suc (suc (suc h)))))))))) = (refl, refl, refl, refl)

ten_planned : (plan : ℕ → List ℕ) (h : ℕ) → 0 < h → h < 9 → (desk_of (opener plan) h).todo ≡ plan h
ten_planned plan zero p q = absurd (omega arith)
ten_planned plan (suc zero) p q = refl
ten_planned plan (suc (suc zero)) p q = refl
ten_planned plan (suc (suc (suc zero))) p q = refl
ten_planned plan (suc (suc (suc (suc zero)))) p q = refl
ten_planned plan (suc (suc (suc (suc (suc zero))))) p q = refl
ten_planned plan (suc (suc (suc (suc (suc (suc zero)))))) p q = refl
ten_planned plan (suc (suc (suc (suc (suc (suc (suc zero))))))) p q = refl
ten_planned plan (suc (suc (suc (suc (suc (suc (suc (suc zero)))))))) p q = refl
ten_planned plan (suc (suc (suc (suc (suc (suc (suc (suc (suc h))))))))) p q = absurd (omega arith)

module _ {S : Type 0} (fits : ℕ → List Item → S → Type 0) (cap : ℕ → ℕ) (plan : ℕ → List ℕ) (serves : ℕ → ℕ → Item → Type 0) where
  abbrev St : Type 0
  St = State (Option S) View

  abbrev hall : List ℕ → List (maybe.Option (Option S)) → List View → St
  hall ws hs vs = record { words = ws; homes = hs; views = vs }

  -- a view keeps what the rule says of its shelf and its items
  pub record Same (v w : View) : Type 0 where
    holder : w.holder ≡ v.holder
    at : w.at ≡ v.at
    word : w.word ≡ v.word
    log : w.log ≡ v.log
    items : w.items ≡ v.items
    todo : w.todo ≡ v.todo
    locks : w.locks ≡ v.locks
    desks : w.desks ≡ v.desks

  -- what holds of a changed view, and of the others as they were
  each : (P : ℕ → View → Type 0) (vs : List View) (j : ℕ) (w : View) → P j w → ((k : ℕ) (u : View) → k ≢ j → get_elem? vs k ≡ some u → P k u)
      → (k : ℕ) (u : View) → get_elem? (set vs j w) k ≡ some u → P k u
  each P vs j w here there k u e = ⊎_elim (λ (t : (k ≡ j) × (w ≡ u)). subst (P k) t.1 (subst (λ (x : ℕ). P x w) (sym t.0) here)) (λ (t : (k ≢ j) × (get_elem? vs k ≡ some u)). there k u t.0 t.1) (at_set vs j k w u e)

  some_length : (vs : List View) (j : ℕ) (v : View) → get_elem? vs j ≡ some v → j < length vs
  some_length [] j v e = absurd (some-ne-none v (sym e))
  some_length (x ∷ xs) zero v e = omega arith
  some_length (x ∷ xs) (suc j) v e = omega (arith, some_length xs j v e)

  leads : (vs : List View) (ds : List Desk) (j : ℕ) (v w : View) → get_elem? vs j ≡ some v → (v.holder ≡ 0 → v.at ≡ 0 → (w.holder ≡ 0) × (w.at ≡ 0) × (w.desks ≡ v.desks)) → Leads vs ds → Leads (set vs j w) ds
  leads vs ds j v w me h l = dite (ℕ_discrete 0 j)
      (λ e. let mine : l.0 ≡ v = some-injective l.0 v (sym l.1 ∙ (ap (λ (x : ℕ). get_elem? vs x) e ∙ me)) in
      let t = h (ap (λ (x : View). x.holder) (sym mine) ∙ l.2) (ap (λ (x : View). x.at) (sym mine) ∙ l.3) in
      (w, ap (λ (x : ℕ). get_elem? (set vs j w) x) e ∙ set_here vs j w (some_length vs j v me), t.0, t.1, t.2 ∙ (ap (λ (x : View). x.desks) (sym mine) ∙ l.4)))
      (λ n. (l.0, set_else vs j 0 w n ∙ l.1, l.2, l.3, l.4))

  -- what holds of who has left after a step of a seat with the view v, which then has the view w
  -- it keeps what was noted too
  record Still (v w : View) : Type 0 where
    told : w.told ≡ v.told
    notes : w.notes ≡ v.notes
    looked : w.looked ≡ v.looked
    seen : w.seen ≡ v.seen

  record Leaves (s : St) (o : Orderly fits cap plan serves s) (v w : View) (ws : List ℕ) : Type 0 where
    tolds : ℕ → ℕ
    notes : ℕ → List Note
    sights : ℕ → ℕ × ℕ
    others : (h : ℕ) → h ≢ v.holder → (tolds h ≡ o.tolds h) × (notes h ≡ o.notes h) × (sights h ≡ o.sights h)
    mine : 0 < v.holder → (w.told ≡ tolds v.holder) × (w.notes ≡ notes v.holder) × (sights v.holder ≡ (w.looked, w.seen))
    inside : (h : ℕ) → (desk_at o.desks h).out ≡ 0 → (tolds h ≡ o.tolds h) × (notes h ≡ o.notes h)
    noted : Noted (length s.homes) (word_of s.words) o.holders (λ i. counts i o.lanes) o.locks notes sights
    words : (h : ℕ) → 0 < h → h < 9 → get_or ws h 0 ≡ counted (tolds h) (length (o.lanes h))

  -- a step that changes no shelf's word
  shifted : (s : St) (o : Orderly fits cap plan serves s) (j : ℕ) (v w : View) (ws : List ℕ) → get_elem? s.views j ≡ some v → Same v w → Leaves s o v w ws
      → length ws ≡ length s.words → ((i : ℕ) → get_or ws (i + 9) 0 ≡ get_or s.words (i + 9) 0)
      → get_or s.words 0 0 ≤ get_or ws 0 0 → w.low ≤ get_or ws 0 0 → get_or ws 0 0 + w.budget ≤ get_or s.words 0 0 + v.budget
      → Orderly fits cap plan serves (hall ws s.homes (set s.views j w))
  shifted s o j v w ws me same gone long others up low pays =
      let n : ℕ = length s.homes in
      record {
        lanes = o.lanes;
        todos = o.todos;
        tolds = gone.tolds;
        locks = o.locks;
        notes = gone.notes;
        sights = gone.sights;
        noted = noted_same n (word_of s.words) (word_of ws) o.holders (λ i. counts i o.lanes) (λ i. counts i o.lanes) o.locks gone.notes gone.sights (λ i l. sym (others i)) (λ i l. refl) gone.noted;
        outdated = outdated_same n (word_of s.words) (word_of ws) o.holders o.locks (λ i l. sym (others i)) o.outdated;
        turn = o.turn;
        ordered = o.ordered;
        whose = o.whose;
        lies = o.lies;
        known = o.known;
        logs = o.logs;
        holders = o.holders;
        seats = o.seats;
        desks = o.desks;
        lead = leads s.views o.desks j v w me (λ a b. (same.holder ∙ a, same.at ∙ b, same.desks)) o.lead;
        ten = o.ten;
        wide = long ∙ o.wide;
        shown = λ i h. others i ∙ o.shown i h;
        free = o.free;
        taken = λ i h ne. let t = o.taken i h ne in (
          t.0,
          dite (ℕ_discrete (o.seats (o.holders i)) j)
              (λ e. let mine : t.1.0 ≡ v = some-injective t.1.0 v (sym t.1.1 ∙ (ap (λ (x : ℕ). get_elem? s.views x) e ∙ me)) in
              (w, ap (λ (x : ℕ). get_elem? (set s.views j w) x) e ∙ set_here s.views j w (some_length s.views j v me), same.at ∙ (ap (λ (x : View). x.at) (sym mine) ∙ t.1.2)))
              (λ ne'. (t.1.0, set_else s.views j (o.seats (o.holders i)) w ne' ∙ t.1.1, t.1.2)),
        );
        held = each (λ k u. (i : ℕ) → u.at ≡ i + 1 → Holds n ws o.holders o.logs u i) s.views j w
            (λ i e. let t = o.held j v me i (sym same.at ∙ e) in record { inside = t.inside; holder = t.holder ∙ sym same.holder; some_holder = subst (λ (x : ℕ). 0 < x) (sym same.holder) t.some_holder; word = same.word ∙ (t.word ∙ sym (others i)); log = same.log ∙ t.log })
            (λ k u ne at i e. let t = o.held k u at i e in record { inside = t.inside; holder = t.holder; some_holder = t.some_holder; word = t.word ∙ sym (others i); log = t.log });
        named = each (λ k u. 0 < u.holder → Named o.seats o.lanes o.todos gone.tolds o.locks gone.notes gone.sights o.desks k u) s.views j w
            (λ pos. let t = o.named j v me (subst (λ (x : ℕ). 0 < x) same.holder pos) in record {
              inside = subst (λ (x : ℕ). x < 10) (sym same.holder) t.inside;
              seat = ap o.seats same.holder ∙ t.seat;
              items = same.items ∙ (t.items ∙ ap o.lanes (sym same.holder));
              todo = same.todo ∙ (t.todo ∙ ap o.todos (sym same.holder));
              told = (gone.mine (subst (λ (x : ℕ). 0 < x) same.holder pos)).0 ∙ ap gone.tolds (sym same.holder);
              locks_are = same.locks ∙ (t.locks_are ∙ ap o.locks (sym same.holder));
              notes_are = (gone.mine (subst (λ (x : ℕ). 0 < x) same.holder pos)).1 ∙ ap gone.notes (sym same.holder);
              sight = ap gone.sights same.holder ∙ (gone.mine (subst (λ (x : ℕ). 0 < x) same.holder pos)).2;
              out = subst (λ (x : ℕ). (desk_at o.desks x).out ≡ 1) (sym same.holder) t.out;
            })
            (λ k u ne at pos. let t = o.named k u at pos in
            let apart : u.holder ≢ v.holder = λ z. ne (sym t.seat ∙ (ap o.seats z ∙ (o.named j v me (subst (λ (x : ℕ). 0 < x) z pos)).seat)) in
            record { inside = t.inside; seat = t.seat; items = t.items; todo = t.todo; told = t.told ∙ sym (gone.others u.holder apart).0; locks_are = t.locks_are; notes_are = t.notes_are ∙ sym (gone.others u.holder apart).1; sight = (gone.others u.holder apart).2 ∙ t.sight; out = t.out });
        kept = λ h out. let k = o.kept h out in (k.0, k.1, k.2 ∙ sym (gone.inside h out).0, k.3, k.4 ∙ sym (gone.inside h out).1);
        left = gone.words;
        bound = omega (arith, o.bound, total-set purse s.views j v w me, ap (λ (d : List Desk). total (λ (x : Desk). x.budget) d) same.desks);
        low = each (λ k u. u.low ≤ get_or ws 0 0) s.views j w low (λ k u ne at. omega (arith, o.low k u at));
        below = λ h. Below-more (get_or s.words 0 0) (get_or ws 0 0) (o.lanes h) up (o.below h);
        logged = λ i. Below-more (get_or s.words 0 0) (get_or ws 0 0) (o.logs i) up (o.logged i);
        rises = o.rises;
        parted = o.parted;
        few = o.few;
        room = λ i l. omega (arith, o.room i l, total-set (pending i) s.views j v w me, ap (times i) same.todo, ap (λ (d : List Desk). total (λ (x : Desk). times i x.todo) d) same.desks);
        planned = o.planned;
        served = o.served;
      }

  -- the same where no seat leaves
  moved : (s : St) (o : Orderly fits cap plan serves s) (j : ℕ) (v w : View) (ws : List ℕ) → get_elem? s.views j ≡ some v → Same v w → Still v w
      → length ws ≡ length s.words → ((k : ℕ) → 0 < k → get_or ws k 0 ≡ get_or s.words k 0)
      → get_or s.words 0 0 ≤ get_or ws 0 0 → w.low ≤ get_or ws 0 0 → get_or ws 0 0 + w.budget ≤ get_or s.words 0 0 + v.budget
      → Orderly fits cap plan serves (hall ws s.homes (set s.views j w))
  moved s o j v w ws me same still long others up low pays = shifted s o j v w ws me same
      (record { tolds = o.tolds; notes = o.notes; sights = o.sights; others = λ h ne. (refl, refl, refl); mine = λ pos. let t = o.named j v me pos in (still.told ∙ t.told, still.notes ∙ t.notes_are, t.sight ∙ sym (λ i. (still.looked i, still.seen i))); inside = λ h out. (refl, refl); noted = o.noted; words = λ h pos lane. others h pos ∙ o.left h pos lane })
      long (λ i. others (i + 9) (omega arith)) up low pays

  abbrev Goes : St → ℕ → ℕ → Me (Option S) View → (ℕ → Me (Option S) View → Type 0) → ℕ → Type 0
  Goes s i id m then k = (w : View) × (a : Act (Option S)) × Valid s.homes m.1 a × Orderly fits cap plan serves (stepped s i k id m.1 w a) × then (get_or s.words i 0) (w, carried_after m.1 a)

  exchanged : (n old new : ℕ) (F : ℕ → Type 0) → (n ≡ old → F new) → (n ≢ old → F n) → F (either (eqb n old) new n)
  exchanged n old new F hit miss = dite (ℕ_discrete n old) (λ e. subst (λ b. F (either b new n)) (sym (eq-eqb n old e)) (hit e)) (λ ne. subst (λ b. F (either b new n)) (sym (ne_eqb n old ne)) (miss ne))

  -- a step that leaves its word
  looked : (s : St) (o : Orderly fits cap plan serves s) (i j : ℕ) (v w : View) → get_elem? s.views j ≡ some v → Same v w → Still v w → w.low ≡ v.low → w.budget ≡ v.budget
      → Orderly fits cap plan serves (hall (set s.words i (get_or s.words i 0)) s.homes (set s.views j w))
  looked s o i j v w me same still low budget = let e = set-get_or s.words i 0 in let at : (x : ℕ) → get_or (set s.words i (get_or s.words i 0)) x 0 ≡ get_or s.words x 0 = λ x. ap (λ (ws : List ℕ). get_or ws x 0) e in
      moved s o j v w (set s.words i (get_or s.words i 0)) me same still (length-set s.words i (get_or s.words i 0)) (λ x pos. at x) (omega (arith, at 0)) (omega (arith, at 0, o.low j v me)) (omega (arith, at 0))

  pub aims : (n id : ℕ) (m : Me (Option S) View) (i : ℕ) → Allows (Orderly fits cap plan serves) n id m i (λ y. y) (aimed (step n i 0 0 none) m)
  aims n id m i s o wide me _ = let w : View = record m.0 { aim = i } in (w, keeps, tt, looked s o i id m.0 w me (record { holder = refl; at = refl; word = refl; log = refl; items = refl; todo = refl; locks = refl; desks = refl }) (record { told = refl; notes = refl; looked = refl; seen = refl }) refl refl, refl)

  -- a seat's notes and what it has seen change
  sighted : (s : St) (o : Orderly fits cap plan serves s) (i j : ℕ) (v w : View) (notes : List Note) → get_elem? s.views j ≡ some v → 0 < v.holder → Same v w → w.told ≡ v.told → w.low ≡ v.low → w.budget ≡ v.budget → w.notes ≡ notes
      → Noted (length s.homes) (word_of s.words) o.holders (λ i. counts i o.lanes) o.locks (put o.notes v.holder notes) (put o.sights v.holder (w.looked, w.seen))
      → Orderly fits cap plan serves (hall (set s.words i (get_or s.words i 0)) s.homes (set s.views j w))
  sighted s o i j v w notes me pos same told low budget noted noting =
      let h : ℕ = v.holder in
      let name = o.named j v me pos in
      let ws : List ℕ = set s.words i (get_or s.words i 0) in
      let at : (x : ℕ) → get_or ws x 0 ≡ get_or s.words x 0 = λ x. ap (λ (l : List ℕ). get_or l x 0) (set-get_or s.words i 0) in
      shifted s o j v w ws me same (record {
        tolds = o.tolds;
        notes = put o.notes h notes;
        sights = put o.sights h (w.looked, w.seen);
        others = λ x ne. (refl, put-other o.notes h x notes ne, put-other o.sights h x (w.looked, w.seen) ne);
        mine = λ _. (told ∙ name.told, noted ∙ sym (put-same o.notes h notes), put-same o.sights h (w.looked, w.seen));
        inside = λ x out. (refl, put-other o.notes h x notes (λ z. omega (arith, out, name.out, ap (λ (q : ℕ). (desk_at o.desks q).out) z)));
        noted = noting;
        words = λ x p q. at x ∙ o.left x p q;
      }) (length-set s.words i (get_or s.words i 0)) (λ x. at (x + 9)) (omega (arith, at 0)) (omega (arith, at 0, low, o.low j v me)) (omega (arith, at 0, budget))

  pub raises : (n id : ℕ) (m : Me (Option S) View) (i k : ℕ) → m.0.at ≡ i + 1 → ((t : ℕ) → Below t m.0.log → k ≤ t) → Allows (Orderly fits cap plan serves) n id m 0 (λ y. max y k) (raised (step n 0 k 0 none) m)
  raises n id m i k at top s o wide me _ = let w : View = record m.0 { low = k } in let t : ℕ = get_or s.words 0 0 in
      let has = o.held id m.0 me i at in let le : k ≤ t = top t (subst (Below t) (sym has.log) (o.logged i)) in
      let here = get_or-set_same s.words 0 (max t k) 0 (omega (arith, o.wide)) in (
        w,
        keeps,
        tt,
        moved s o id m.0 w (set s.words 0 (max t k)) me (record { holder = refl; at = refl; word = refl; log = refl; items = refl; todo = refl; locks = refl; desks = refl }) (record { told = refl; notes = refl; looked = refl; seen = refl }) (length-set s.words 0 (max t k))
            (λ x pos. get_or-set_other s.words 0 x (max t k) 0 (λ e. omega arith)) (omega arith) (omega arith) (omega arith),
        refl,
      )

  pub draws : (n id : ℕ) (m : Me (Option S) View) (k : ℕ) → k ≡ 1 → 0 < m.0.budget → Allows (Orderly fits cap plan serves) n id m 0 (λ y. (y + k) % 2 ^ 64) (drawn (step n 0 k 0 none) m)
  draws n id m k one has s o wide me _ = let t : ℕ = get_or s.words 0 0 in let new : ℕ = (t + k) % 2 ^ 64 in let w : View = record m.0 { low = t + 1; budget = m.0.budget - 1 } in
      let is : new ≡ t + 1 = omega (arith, o.bound, term_le purse s.views id m.0 me) in
      let here = get_or-set_same s.words 0 new 0 (omega (arith, o.wide)) in (
        w,
        keeps,
        tt,
        moved s o id m.0 w (set s.words 0 new) me (record { holder = refl; at = refl; word = refl; log = refl; items = refl; todo = refl; locks = refl; desks = refl }) (record { told = refl; notes = refl; looked = refl; seen = refl }) (length-set s.words 0 new)
            (λ x pos. get_or-set_other s.words 0 x new 0 (λ e. omega arith)) (omega arith) (omega arith) (omega arith),
        (refl, o.low id m.0 me, (λ pos. subst (Below t) (sym (o.named id m.0 me pos).items) (o.below m.0.holder)), λ i at. subst (Below t) (sym (o.held id m.0 me i at).log) (o.logged i)),
      )

  -- a lane's seat leaves, and tells how many pieces it did
  pub tells : (n id : ℕ) (m : Me (Option S) View) (h k : ℕ) → m.0.holder ≡ h → 0 < h → h < 9 → m.0.told ≡ 0 → k ≡ length m.0.items → k < 18446744073709551616
      → Allows (Orderly fits cap plan serves) n id m h (λ y. (y + k) % 2 ^ 64) (telling (step n h k 0 none) m)
  tells n id m h k mine pos lane stays done small s o wide me _ =
      let w : View = record m.0 { told = 1 } in
      let name = o.named id m.0 me (omega (arith, mine, pos)) in
      let y : ℕ = get_or s.words h 0 in
      let new : ℕ = (y + k) % 2 ^ 64 in
      let ws : List ℕ = set s.words h new in
      let is : o.tolds h ≡ 0 = ap o.tolds (sym mine) ∙ (sym name.told ∙ stays) in
      let none-yet : y ≡ 0 = o.left h pos lane ∙ ap (λ (z : ℕ). counted z (length (o.lanes h))) is in
      let all : new ≡ length (o.lanes h) = omega (arith, none-yet, done, ap length name.items, ap (λ (z : ℕ). length (o.lanes z)) mine) in
      let tolds : ℕ → ℕ = put o.tolds h 1 in
      let here : get_or ws h 0 ≡ new = get_or-set_same s.words h new 0 (omega (arith, o.wide)) in
      let ticket : get_or ws 0 0 ≡ get_or s.words 0 0 = get_or-set_other s.words h 0 new 0 (λ e. omega arith) in (
        w,
        keeps,
        tt,
        shifted s o id m.0 w ws me (record { holder = refl; at = refl; word = refl; log = refl; items = refl; todo = refl; locks = refl; desks = refl })
            (record {
              tolds = tolds;
              notes = o.notes;
              sights = o.sights;
              noted = o.noted;
              others = λ x ne. (put-other o.tolds h x 1 (λ z. ne (z ∙ sym mine)), refl, refl);
              mine = λ _. (sym (ap tolds mine ∙ put-same o.tolds h 1), name.notes_are, name.sight);
              inside = λ x out. (put-other o.tolds h x 1 (λ z. omega (arith, out, name.out, ap (λ (q : ℕ). (desk_at o.desks q).out) (z ∙ sym mine))), refl);
              words = λ x p q. put-all (λ (a : ℕ) (b : ℕ). a < 9 → 0 < a → get_or ws a 0 ≡ counted b (length (o.lanes a))) o.tolds h 1 x (λ _ _. here ∙ all) (λ ne lane pos. get_or-set_other s.words h x new 0 ne ∙ o.left x pos lane) q p;
            })
            (length-set s.words h new) (λ i. get_or-set_other s.words h (i + 9) new 0 (λ e. omega arith)) (omega (arith, ticket)) (omega (arith, ticket, o.low id m.0 me)) (omega (arith, ticket)),
        refl,
      )

  -- the holder of a shelf, if any, is a seat's
  holder_small : (s : St) (o : Orderly fits cap plan serves s) (i : ℕ) → i < length s.homes → o.holders i < 10
  holder_small s o i h = dite (ℕ_discrete (o.holders i) 0) (λ e. omega arith) (λ ne. let t = o.taken i h ne in let x = o.held (o.seats (o.holders i)) t.1.0 t.1.1 i t.1.2 in
      let y = o.named (o.seats (o.holders i)) t.1.0 t.1.1 x.some_holder in omega (arith, x.holder, y.inside))

  -- kind 3: the word of a shelf is loaded
  pub peeks : (n id : ℕ) (m : Me (Option S) View) (i k : ℕ) → k ≡ i + 9 → i < n → 0 < m.0.holder → Allows (Orderly fits cap plan serves) n id m k (λ y. y) (peeked (step n k 0 0 none) m)
  peeks n id m i k is inside has s o wide me _ =
      let w : View = looking m.0 (k - 9) (get_or s.words k 0) in
      let near : i < length s.homes = omega arith in
      let name = o.named id m.0 me has in
      let past : Past (word_of s.words i) (counts i o.lanes) = record { holder = o.holders i; before = counts i o.lanes; is = o.shown i near; small = omega (arith, holder_small s o i near); le = above_itself (counts i o.lanes); long = refl } in
      let at : k - 9 ≡ i = omega arith in
      let seen = after_load (length s.homes) (word_of s.words) o.holders (λ i. counts i o.lanes) o.locks o.notes o.sights o.noted m.0.holder i past in
      let same : put o.sights m.0.holder (i + 1, word_of s.words i) ≡ put o.sights m.0.holder (w.looked, w.seen) = ap₂ (λ (a b : ℕ). put o.sights m.0.holder (a + 1, get_or s.words b 0)) (sym at) (sym is) in
      let kept : o.notes ≡ put o.notes m.0.holder m.0.notes = λ j x. (put-all (λ (a : ℕ) (z : List Note). o.notes a ≡ z) o.notes m.0.holder m.0.notes x (sym name.notes_are) (λ _. refl)) j in (
        w,
        keeps,
        tt,
        sighted s o k id m.0 w m.0.notes me has (record { holder = refl; at = refl; word = refl; log = refl; items = refl; todo = refl; locks = refl; desks = refl }) refl refl refl refl
            (subst (λ (z : ℕ → ℕ × ℕ). Noted (length s.homes) (word_of s.words) o.holders (λ i. counts i o.lanes) o.locks (put o.notes m.0.holder m.0.notes) z) same
            (subst (λ (z : ℕ → List Note). Noted (length s.homes) (word_of s.words) o.holders (λ i. counts i o.lanes) o.locks z (put o.sights m.0.holder (i + 1, word_of s.words i))) kept seen)),
        refl,
      )

  -- the shelf's word isn't the one expected: a note
  noteworthy : (s : St) (o : Orderly fits cap plan serves s) (id : ℕ) (v : View) (i seen : ℕ) → i < length s.homes → get_elem? s.views id ≡ some v → 0 < v.holder → v.at ≡ 0
      → Past seen (counts i o.lanes) → word_of s.words i ≢ seen / 16 * 16
      → IsNote o.locks v.holder (record { shelf = i; seen = seen; read = word_of s.words i })
  noteworthy s o id v i seen near me pos out past miss = record { after = counts i o.lanes; holder = o.holders i; few = omega (arith, holder_small s o i near); small = small_counts i o.lanes (o.few i); read = o.shown i near; past = past; why = because (o.holders i) refl } where
    because : (b : ℕ) → o.holders i ≡ b → Why o.locks v.holder i (word_of s.words i) past.before (counts i o.lanes) b
    because zero e = one_below past.before (counts i o.lanes) past.long past.le (λ q. miss (omega (arith, o.shown i near, e, past.is, past.small, q)))
    because (suc b) e =
        let on : o.holders i ≢ 0 = λ z. omega (arith, e, z) in
        let t = o.taken i near on in
        let name = o.named id v me pos in
        ((λ z. let mine : t.1.0 ≡ v = some-injective t.1.0 v (sym t.1.1 ∙ (ap (λ (k : ℕ). get_elem? s.views (o.seats k)) (e ∙ z) ∙ (ap (λ (k : ℕ). get_elem? s.views k) name.seat ∙ me))) in omega (arith, ap (λ (u : View). u.at) mine, t.1.2, out)), subst (λ (k : ℕ). Among i (word_of s.words i) (o.locks k)) e (last_among i (word_of s.words i) (o.locks (o.holders i)) (o.noted.held i near on)))

  pub locks : (n id : ℕ) (m : Me (Option S) View) (i k old new : ℕ) (said : maybe.Option (Option S)) → k ≡ i + 9 → i < n → m.0.looked ≡ i + 1 → old ≡ m.0.seen / 16 * 16 → new ≡ old + m.0.holder → 0 < m.0.holder → m.0.at ≡ 0
      → Allows (Orderly fits cap plan serves) n id m k (λ y. either (eqb y old) new y) (locked fits cap (step n k old new said) m)
  locks n id m i k old new said is inside faced even next has out s o wide me _ =
      let then = locked fits cap (step n k old new said) m in
      exchanged (get_or s.words k 0) old new (Goes s k id m then) (λ hit.
      let near : i < length s.homes = omega arith in
      let h : ℕ = m.0.holder in
      let was : get_or s.words (i + 9) 0 ≡ old = ap (λ (x : ℕ). get_or s.words x 0) (sym is) ∙ hit in
      let mark = o.shown i near in
      let none-yet : o.holders i ≡ 0 = holder-none (o.holders i) (counts i o.lanes) (omega (arith, holder_small s o i near)) (omega arith) in
      let home = o.free i near none-yet in
      let x : S = home.0 in
      let w : View = locking m.0 i new (o.logs i) in
      let name = o.named id m.0 me has in
      let written : new ≡ word_for h (counts i o.lanes) = omega arith in
      let ws : List ℕ = set s.words (i + 9) new in
      let hs : List (maybe.Option (Option S)) = set s.homes i none in
      let vs : List View = set s.views id w in
      let long : length hs ≡ length s.homes = length-set s.homes i none in
      let holders : ℕ → ℕ = put o.holders i h in
      let ticket : get_or ws 0 0 ≡ get_or s.words 0 0 = get_or-set_other s.words (i + 9) 0 new 0 (λ e. omega arith) in
      let here : get_or ws (i + 9) 0 ≡ new = get_or-set_same s.words (i + 9) new 0 (omega (arith, o.wide)) in
      let there : (r : ℕ) → r ≢ i → get_or ws (r + 9) 0 ≡ get_or s.words (r + 9) 0 = λ r ne. get_or-set_other s.words (i + 9) (r + 9) new 0 (λ e. ne (omega arith)) in
      let fitted : (r : ℕ) → r < length hs → r < length s.homes = λ r l. subst (λ (y : ℕ). r < y) long l in
      let more : List Lock = o.locks h ++ record { shelf = i; word = new } ∷ [] in
      let idle-now : (r : ℕ) → r < length s.homes → o.holders r ≢ h = λ r l e. let t = o.taken r l (λ z. omega (arith, e, z, has)) in
      let mine : t.1.0 ≡ m.0 = some-injective t.1.0 m.0 (sym t.1.1 ∙ (ap (λ (y : ℕ). get_elem? s.views (o.seats y)) e ∙ (ap (λ (y : ℕ). get_elem? s.views y) name.seat ∙ me))) in omega (arith, ap (λ (y : View). y.at) mine, t.1.2, out) in
      let agrees : (r : ℕ) → r < length hs → put (word_of s.words) i new r ≡ get_or ws (r + 9) 0 = λ r _. put-all (λ (y z : ℕ). z ≡ get_or ws (y + 9) 0) (word_of s.words) i new r (sym here) (λ ne. sym (there r ne)) in
      let apart : (j : ℕ) (u : View) → j ≢ id → get_elem? s.views j ≡ some u → 0 < u.holder → u.holder ≢ h = λ j u ne at pos z. ne (sym (o.named j u at pos).seat ∙ (ap o.seats z ∙ name.seat)) in (
        w,
        takes i (Some x),
        home.1,
        subst (λ (y : ℕ). Orderly fits cap plan serves (hall (set s.words y new) hs vs)) (sym is) (record {
          lanes = o.lanes;
          todos = o.todos;
          tolds = o.tolds;
          turn = o.turn;
          ordered = o.ordered;
          whose = o.whose;
          lies = o.lies;
          known = o.known;
          logs = o.logs;
          locks = put o.locks h more;
          notes = o.notes;
          sights = put o.sights h (0, 0);
          noted = subst (λ (z : ℕ). Noted z (word_of ws) holders (λ i. counts i o.lanes) (put o.locks h more) o.notes (put o.sights h (0, 0))) (sym long)
              (noted_same (length s.homes) (put (word_of s.words) i new) (word_of ws) holders (λ i. counts i o.lanes) (λ i. counts i o.lanes) (put o.locks h more) o.notes (put o.sights h (0, 0)) (λ r l. agrees r (subst (λ (y : ℕ). r < y) (sym long) l)) (λ r l. refl)
              (after_lock (length s.homes) (word_of s.words) o.holders (λ i. counts i o.lanes) o.locks o.notes o.sights o.noted h i new idle-now));
          outdated = subst (λ (z : ℕ). Outdated z (word_of ws) holders (put o.locks h more)) (sym long)
              (outdated_same (length s.homes) (put (word_of s.words) i new) (word_of ws) holders (put o.locks h more) (λ r l. agrees r (subst (λ (y : ℕ). r < y) (sym long) l))
              (outdated_lock (length s.homes) (word_of s.words) o.holders o.locks o.outdated h i new none-yet (omega (arith, was, name.inside))));
          holders = holders;
          seats = o.seats;
          desks = o.desks;
          lead = leads s.views o.desks id m.0 w me (λ a b. absurd (omega arith)) o.lead;
          ten = o.ten;
          wide = length-set s.words (i + 9) new ∙ (o.wide ∙ ap (λ (y : ℕ). y + 9) (sym long));
          shown = λ r l. put-all (λ (y z : ℕ). get_or ws (y + 9) 0 ≡ word_for z (counts y o.lanes)) o.holders i h r (omega arith) (λ ne. there r ne ∙ o.shown r (fitted r l));
          free = λ r l. put-all (λ (y z : ℕ). z ≡ 0 → AtHome fits hs y (o.logs y)) o.holders i h r (λ e. absurd (omega arith))
              (λ ne e. let t = o.free r (fitted r l) e in (t.0, set_else s.homes i r none ne ∙ t.1, t.2));
          taken = λ r l. put-all (λ (y z : ℕ). z ≢ 0 → Away hs vs y (o.seats z)) o.holders i h r
              (λ _. (set_here s.homes i none near, (w, ap (λ (y : ℕ). get_elem? vs y) name.seat ∙ set_here s.views id w (some_length s.views id m.0 me), refl)))
              (λ ne on. let t = o.taken r (fitted r l) on in (
                set_else s.homes i r none ne ∙ t.0,
                (
                  t.1.0,
                  set_else s.views id (o.seats (o.holders r)) w
                      (λ e. let mine : t.1.0 ≡ m.0 = some-injective t.1.0 m.0 (sym t.1.1 ∙ (ap (λ (y : ℕ). get_elem? s.views y) e ∙ me)) in omega (arith, ap (λ (y : View). y.at) mine, t.1.2)) ∙ t.1.1,
                  t.1.2,
                ),
              ));
          held = each (λ j u. (r : ℕ) → u.at ≡ r + 1 → Holds (length hs) ws holders o.logs u r) s.views id w
              (λ r e. let same : i ≡ r = omega arith in subst (λ (y : ℕ). Holds (length hs) ws holders o.logs w y) same (record { inside = omega arith; holder = put-same o.holders i h; some_holder = has; word = sym here; log = refl }))
              (λ j u ne at r e. let t = o.held j u at r e in let apart : r ≢ i = λ z. omega (arith, t.holder, t.some_holder, ap o.holders z) in
              record { inside = omega (arith, t.inside); holder = put-other o.holders i r h apart ∙ t.holder; some_holder = t.some_holder; word = t.word ∙ sym (there r apart); log = t.log });
          named = each (λ j u. 0 < u.holder → Named o.seats o.lanes o.todos o.tolds (put o.locks h more) o.notes (put o.sights h (0, 0)) o.desks j u) s.views id w
              (λ _. record { inside = name.inside; seat = name.seat; items = name.items; todo = name.todo; told = name.told; locks_are = ap (λ (l : List Lock). l ++ record { shelf = i; word = new } ∷ []) name.locks_are ∙ sym (put-same o.locks h more); notes_are = name.notes_are; sight = put-same o.sights h (0, 0); out = name.out })
              (λ j u ne at pos. let t = o.named j u at pos in record { inside = t.inside; seat = t.seat; items = t.items; todo = t.todo; told = t.told; locks_are = t.locks_are ∙ sym (put-other o.locks h u.holder more (apart j u ne at pos)); notes_are = t.notes_are; sight = put-other o.sights h u.holder (0, 0) (apart j u ne at pos) ∙ t.sight; out = t.out });
          kept = λ y none-out. let t = o.kept y none-out in (t.0, t.1, t.2, t.3 ∙ sym (put-other o.locks h y more (λ z. omega (arith, name.out, none-out, ap (λ (q : ℕ). (desk_at o.desks q).out) z))), t.4);
          left = λ y pos lane. get_or-set_other s.words (i + 9) y new 0 (λ e. omega arith) ∙ o.left y pos lane;
          bound = omega (arith, o.bound, total-set purse s.views id m.0 w me);
          low = each (λ j u. u.low ≤ get_or ws 0 0) s.views id w (omega (arith, o.low id m.0 me)) (λ j u ne at. omega (arith, o.low j u at));
          below = λ y. subst (λ (z : ℕ). Below z (o.lanes y)) (sym ticket) (o.below y);
          logged = λ y. subst (λ (z : ℕ). Below z (o.logs y)) (sym ticket) (o.logged y);
          rises = o.rises;
          parted = o.parted;
          few = o.few;
          room = λ r l. omega (arith, o.room r (fitted r l), total-set (pending r) s.views id m.0 w me);
          planned = o.planned;
          served = o.served;
        }),
        (
          (λ _ r at. let same : i ≡ r = omega arith in subst (λ (y : ℕ). Took fits cap m y new (w, (i, Some x) ∷ m.1)) same
              (x, o.logs i, refl, home.2, o.rises i, Below-more (get_or s.words 0 0) 10376293541461622784 (o.logs i) (omega (arith, o.bound)) (o.logged i), o.parted i h ∙ ap (in_shelf i) (sym name.items), omega (arith, o.room i near, term_le (pending i) s.views id m.0 me), subst (λ (z : ℕ). z < 2305843009213693952) (sym written) (word-below h (counts i o.lanes) (omega (arith, name.inside)) refl (o.few i 1 (omega arith), (o.few i 2 (omega arith), (o.few i 3 (omega arith), (o.few i 4 (omega arith), (o.few i 5 (omega arith), (o.few i 6 (omega arith), (o.few i 7 (omega arith), (o.few i 8 (omega arith), tt))))))))))),
          λ miss. absurd (miss hit),
        ),
      ))
      (λ miss. let w : View = noting m.0 (get_or s.words k 0) in
      let near : i < length s.homes = omega arith in
      let name = o.named id m.0 me has in
      let seen = o.noted.saw m.0.holder i near (ap (λ (p : ℕ × ℕ). p.0) name.sight ∙ faced) in
      let read : word_of s.words i ≡ get_or s.words k 0 = ap (λ (x : ℕ). get_or s.words x 0) (sym is) in
      let note = noteworthy s o id m.0 i m.0.seen near me has out (subst (λ (z : ℕ × ℕ). Past z.1 (counts i o.lanes)) name.sight seen) (λ z. miss (sym read ∙ (z ∙ sym even))) in
      let x : Note = record { shelf = m.0.looked - 1; seen = m.0.seen; read = get_or s.words k 0 } in
      let shelf : i ≡ m.0.looked - 1 = omega arith in
      let told : IsNote o.locks m.0.holder x = subst (λ (z : Note). IsNote o.locks m.0.holder z) (λ j. record { shelf = shelf j; seen = m.0.seen; read = read j }) note in (
        w,
        keeps,
        tt,
        sighted s o k id m.0 w (m.0.notes ++ x ∷ []) me has (record { holder = refl; at = refl; word = refl; log = refl; items = refl; todo = refl; locks = refl; desks = refl }) refl refl refl refl
            (subst (λ (z : List Note). Noted (length s.homes) (word_of s.words) o.holders (λ i. counts i o.lanes) o.locks (put o.notes m.0.holder (z ++ x ∷ [])) (put o.sights m.0.holder (0, 0))) (sym name.notes_are)
            (after_busy (length s.homes) (word_of s.words) o.holders (λ i. counts i o.lanes) o.locks o.notes o.sights o.noted m.0.holder x told)),
        ((λ hit. absurd (miss hit)), λ _. refl),
      ))

  -- the same with one view more
  each_more : (P : ℕ → View → Type 0) (vs : List View) (j : ℕ) (w x : View) → P j w → P (length vs) x → ((k : ℕ) (u : View) → k ≢ j → get_elem? vs k ≡ some u → P k u)
      → (k : ℕ) (u : View) → get_elem? (set vs j w ++ x ∷ []) k ≡ some u → P k u
  each_more P vs j w x here last there k u e = ⊎_elim (λ (q : get_elem? (set vs j w) k ≡ some u). each P vs j w here there k u q)
      (λ (t : (k ≡ length (set vs j w)) × (x ≡ u)). subst (P k) t.1 (subst (λ (y : ℕ). P y x) (sym (t.0 ∙ length-set vs j w)) last)) (at_end (set vs j w) x u k e)

  -- the first seat's view is the rule's first
  leader : (s : St) (o : Orderly fits cap plan serves s) (id : ℕ) (v : View) → id ≡ 0 → get_elem? s.views id ≡ some v → (v.holder ≡ 0) × (v.at ≡ 0) × (v.desks ≡ o.desks)
  leader s o id v zeroth me = let l = o.lead in let mine : l.0 ≡ v = some-injective l.0 v (sym l.1 ∙ (ap (λ (x : ℕ). get_elem? s.views x) (sym zeroth) ∙ me)) in
      (ap (λ (x : View). x.holder) (sym mine) ∙ l.2, ap (λ (x : View). x.at) (sym mine) ∙ l.3, ap (λ (x : View). x.desks) (sym mine) ∙ l.4)

  desk_other : (ds : List Desk) (h x : ℕ) (d : Desk) → x ≢ h → desk_at (set ds h d) x ≡ desk_at ds x
  desk_other ds h x d ne = get_or-set_other ds h x d no_desk ne

  desk_here : (ds : List Desk) (h : ℕ) (d : Desk) → h < length ds → desk_at (set ds h d) h ≡ d
  desk_here ds h d l = get_or-set_same ds h d no_desk l

  pub splits : (id : ℕ) (v : View) → id ≡ 0 → 0 < v.aim → v.aim < 10 → (desk_of v v.aim).out ≡ 0 → Splits (Orderly fits cap plan serves) id v (split_left v) (split_right v)
  splits id v zeroth pos small free s o me =
      let h : ℕ = v.aim in
      let d : Desk = desk_of v h in
      let lead = leader s o id v zeroth me in
      let left : View = split_left v in
      let right : View = split_right v in
      let vs : List View = set s.views id left ++ right ∷ [] in
      let ds : List Desk = set v.desks h (desk 1 1 0 [] [] 0 [] []) in
      let ten : length v.desks ≡ 10 = ap length lead.2 ∙ o.ten in
      let there : (x : ℕ) → x ≢ h → desk_at ds x ≡ desk_at o.desks x = λ x ne. desk_other v.desks h x (desk 1 1 0 [] [] 0 [] []) ne ∙ ap (λ (l : List Desk). desk_at l x) lead.2 in
      let here : desk_at ds h ≡ desk 1 1 0 [] [] 0 [] [] = desk_here v.desks h (desk 1 1 0 [] [] 0 [] []) (omega arith) in
      let was = o.kept h (ap (λ (l : List Desk). (desk_at l h).out) (sym lead.2) ∙ free) in
      let seats : ℕ → ℕ = put o.seats h (length s.views) in
      let not-out : (x : ℕ) → (desk_at o.desks x).out ≡ 1 → x ≢ h = λ x q z. omega (arith, free, ap (λ (l : List Desk). (desk_at l h).out) lead.2, q, ap (λ (k : ℕ). (desk_at o.desks k).out) z) in
      record {
        lanes = o.lanes;
        todos = o.todos;
        tolds = o.tolds;
        turn = o.turn;
        ordered = o.ordered;
        whose = o.whose;
        lies = o.lies;
        known = o.known;
        logs = o.logs;
        holders = o.holders;
        seats = seats;
        locks = o.locks;
        notes = o.notes;
        sights = put o.sights h (0, 0);
        noted = after_split (length s.homes) (word_of s.words) o.holders (λ i. counts i o.lanes) o.locks o.notes o.sights o.noted h;
        outdated = o.outdated;
        desks = ds;
        lead = (left, at_longer (set s.views id left) (right ∷ []) 0 left (ap (λ (x : ℕ). get_elem? (set s.views id left) x) (sym zeroth) ∙ set_here s.views id left (some_length s.views id v me)), lead.0, lead.1, refl);
        ten = length-set v.desks h (desk 1 1 0 [] [] 0 [] []) ∙ ten;
        wide = o.wide;
        shown = o.shown;
        free = o.free;
        taken = λ i l on. let t = o.taken i l on in let q = o.held (o.seats (o.holders i)) t.1.0 t.1.1 i t.1.2 in let p = o.named (o.seats (o.holders i)) t.1.0 t.1.1 q.some_holder in
            let apart : o.holders i ≢ h = not-out (o.holders i) (subst (λ (k : ℕ). (desk_at o.desks k).out ≡ 1) (sym q.holder) p.out) in (
              t.0,
              (
                t.1.0,
                ap (λ (k : ℕ). get_elem? vs k) (put-other o.seats h (o.holders i) (length s.views) apart) ∙ at_longer (set s.views id left) (right ∷ []) (o.seats (o.holders i)) t.1.0
                    (set_else s.views id (o.seats (o.holders i)) left (λ e. let mine : t.1.0 ≡ v = some-injective t.1.0 v (sym t.1.1 ∙ (ap (λ (y : ℕ). get_elem? s.views y) e ∙ me)) in omega (arith, ap (λ (y : View). y.at) mine, t.1.2, lead.1)) ∙ t.1.1),
                t.1.2,
              ),
            );
        held = each_more (λ k u. (i : ℕ) → u.at ≡ i + 1 → Holds (length s.homes) s.words o.holders o.logs u i) s.views id left right (λ i e. absurd (omega arith)) (λ i e. absurd (omega arith)) (λ k u ne e. o.held k u e);
        named = each_more (λ k u. 0 < u.holder → Named seats o.lanes o.todos o.tolds o.locks o.notes (put o.sights h (0, 0)) ds k u) s.views id left right (λ on. absurd (omega arith))
            (λ _. record { inside = small; seat = put-same o.seats h (length s.views); items = ap (λ (l : List Desk). (desk_at l h).items) lead.2 ∙ was.0; todo = ap (λ (l : List Desk). (desk_at l h).todo) lead.2 ∙ was.1; told = ap (λ (l : List Desk). (desk_at l h).told) lead.2 ∙ was.2; locks_are = ap (λ (l : List Desk). (desk_at l h).locks) lead.2 ∙ was.3; notes_are = ap (λ (l : List Desk). (desk_at l h).notes) lead.2 ∙ was.4; sight = put-same o.sights h (0, 0); out = ap (λ (x : Desk). x.out) here })
            (λ k u ne e on. let p = o.named k u e on in let apart = not-out u.holder p.out in record { inside = p.inside; seat = put-other o.seats h u.holder (length s.views) apart ∙ p.seat; items = p.items; todo = p.todo; told = p.told; locks_are = p.locks_are; notes_are = p.notes_are; sight = put-other o.sights h u.holder (0, 0) apart ∙ p.sight; out = ap (λ (x : Desk). x.out) (there u.holder apart) ∙ p.out });
        kept = λ x none-out. dite (ℕ_discrete x h) (λ e. absurd (omega (arith, none-out, ap (λ (k : ℕ). (desk_at ds k).out) e, ap (λ (y : Desk). y.out) here)))
            (λ ne. let k = o.kept x (ap (λ (y : Desk). y.out) (sym (there x ne)) ∙ none-out) in (ap (λ (y : Desk). y.items) (there x ne) ∙ k.0, ap (λ (y : Desk). y.todo) (there x ne) ∙ k.1, ap (λ (y : Desk). y.told) (there x ne) ∙ k.2, ap (λ (y : Desk). y.locks) (there x ne) ∙ k.3, ap (λ (y : Desk). y.notes) (there x ne) ∙ k.4));
        left = o.left;
        bound = omega (arith, o.bound, total-append purse (set s.views id left) (right ∷ []), total-set purse s.views id v left me, total-set (λ (x : Desk). x.budget) v.desks h d (desk 1 1 0 [] [] 0 [] []) (at_get v.desks h no_desk (omega arith)));
        low = each_more (λ k u. u.low ≤ get_or s.words 0 0) s.views id left right (o.low id v me) (omega arith) (λ k u ne e. o.low k u e);
        below = o.below;
        logged = o.logged;
        rises = o.rises;
        parted = o.parted;
        few = o.few;
        room = λ i l. omega (arith, o.room i l, total-append (pending i) (set s.views id left) (right ∷ []), total-set (pending i) s.views id v left me, total-set (λ (x : Desk). times i x.todo) v.desks h d (desk 1 1 0 [] [] 0 [] []) (at_get v.desks h no_desk (omega arith)));
        planned = o.planned;
        served = o.served;
      }

  pub joins : (id other : ℕ) (v w : View) → id ≡ 0 → 0 < w.holder → w.at ≡ 0 → Joins (Orderly fits cap plan serves) id v other w (joined v w) spent
  joins id other v w zeroth pos out s o me apart at =
      let h : ℕ = w.holder in
      let lead = leader s o id v zeroth me in
      let left : View = joined v w in
      let at' : get_elem? s.views other ≡ some w = sym (set_else s.views id other left apart) ∙ at in
      let name = o.named other w at' pos in
      let vs : List View = set (set s.views id left) other spent in
      let now : Desk = desk 0 1 w.budget w.items w.todo w.told w.locks w.notes in
      let ds : List Desk = set v.desks h now in
      let ten : length v.desks ≡ 10 = ap length lead.2 ∙ o.ten in
      let small : h < 10 = name.inside in
      let there : (x : ℕ) → x ≢ h → desk_at ds x ≡ desk_at o.desks x = λ x ne. desk_other v.desks h x now ne ∙ ap (λ (l : List Desk). desk_at l x) lead.2 in
      let here : desk_at ds h ≡ now = desk_here v.desks h now (omega arith) in
      let both : (P : ℕ → View → Type 0) → P id left → P other spent → ((k : ℕ) (u : View) → k ≢ id → k ≢ other → get_elem? s.views k ≡ some u → P k u) → (k : ℕ) (u : View) → get_elem? vs k ≡ some u → P k u
      = λ P a b c. each P (set s.views id left) other spent b (λ k u ne e. each (λ y z. y ≢ other → P y z) s.views id left (λ _. a) (λ y z ne' e' ne2. c y z ne' ne2 e') k u e ne) in
      record {
        lanes = o.lanes;
        todos = o.todos;
        tolds = o.tolds;
        turn = o.turn;
        ordered = o.ordered;
        whose = o.whose;
        lies = o.lies;
        known = o.known;
        logs = o.logs;
        holders = o.holders;
        seats = o.seats;
        locks = o.locks;
        notes = o.notes;
        sights = o.sights;
        noted = o.noted;
        outdated = o.outdated;
        desks = ds;
        lead = (left, set_else (set s.views id left) other 0 spent (λ e. apart (sym e ∙ sym zeroth)) ∙ (ap (λ (x : ℕ). get_elem? (set s.views id left) x) (sym zeroth) ∙ set_here s.views id left (some_length s.views id v me)), lead.0, lead.1, refl);
        ten = length-set v.desks h now ∙ ten;
        wide = o.wide;
        shown = o.shown;
        free = o.free;
        taken = λ i l on. let t = o.taken i l on in let j : ℕ = o.seats (o.holders i) in (
          t.0,
          (
            t.1.0,
            set_else (set s.views id left) other j spent (λ e. let mine : t.1.0 ≡ w = some-injective t.1.0 w (sym t.1.1 ∙ (ap (λ (y : ℕ). get_elem? s.views y) e ∙ at')) in omega (arith, ap (λ (y : View). y.at) mine, t.1.2))
                ∙ (set_else s.views id j left (λ e. let mine : t.1.0 ≡ v = some-injective t.1.0 v (sym t.1.1 ∙ (ap (λ (y : ℕ). get_elem? s.views y) e ∙ me)) in omega (arith, ap (λ (y : View). y.at) mine, t.1.2, lead.1)) ∙ t.1.1),
            t.1.2,
          ),
        );
        held = both (λ k u. (i : ℕ) → u.at ≡ i + 1 → Holds (length s.homes) s.words o.holders o.logs u i) (λ i e. absurd (omega arith)) (λ i e. absurd (omega arith)) (λ k u _ _ e. o.held k u e);
        named = both (λ k u. 0 < u.holder → Named o.seats o.lanes o.todos o.tolds o.locks o.notes o.sights ds k u) (λ on. absurd (omega arith)) (λ on. absurd (omega arith))
            (λ k u _ ne e on. let p = o.named k u e on in record { inside = p.inside; seat = p.seat; items = p.items; todo = p.todo; told = p.told; locks_are = p.locks_are; notes_are = p.notes_are; sight = p.sight; out = ap (λ (x : Desk). x.out) (there u.holder (λ z. ne (sym p.seat ∙ (ap o.seats z ∙ name.seat)))) ∙ p.out });
        kept = λ x none-out. dite (ℕ_discrete x h) (λ e. subst (λ (k : ℕ). ((desk_at ds k).items ≡ o.lanes k) × ((desk_at ds k).todo ≡ o.todos k) × ((desk_at ds k).told ≡ o.tolds k) × ((desk_at ds k).locks ≡ o.locks k) × ((desk_at ds k).notes ≡ o.notes k)) (sym e) (ap (λ (y : Desk). y.items) here ∙ name.items, ap (λ (y : Desk). y.todo) here ∙ name.todo, ap (λ (y : Desk). y.told) here ∙ name.told, ap (λ (y : Desk). y.locks) here ∙ name.locks_are, ap (λ (y : Desk). y.notes) here ∙ name.notes_are))
            (λ ne. let k = o.kept x (ap (λ (y : Desk). y.out) (sym (there x ne)) ∙ none-out) in (ap (λ (y : Desk). y.items) (there x ne) ∙ k.0, ap (λ (y : Desk). y.todo) (there x ne) ∙ k.1, ap (λ (y : Desk). y.told) (there x ne) ∙ k.2, ap (λ (y : Desk). y.locks) (there x ne) ∙ k.3, ap (λ (y : Desk). y.notes) (there x ne) ∙ k.4));
        left = o.left;
        bound = omega (arith, o.bound, total-set purse (set s.views id left) other w spent at, total-set purse s.views id v left me, total-set (λ (x : Desk). x.budget) v.desks h (desk_of v h) now (at_get v.desks h no_desk (omega arith)));
        low = both (λ k u. u.low ≤ get_or s.words 0 0) (o.low id v me) (omega arith) (λ k u _ _ e. o.low k u e);
        below = o.below;
        logged = o.logged;
        rises = o.rises;
        parted = o.parted;
        few = o.few;
        room = λ i l. omega (arith, o.room i l, total-set (pending i) (set s.views id left) other w spent at, total-set (pending i) s.views id v left me, total-set (λ (x : Desk). times i x.todo) v.desks h (desk_of v h) now (at_get v.desks h no_desk (omega arith)));
        planned = o.planned;
        served = o.served;
      }

  counts_same : (i : ℕ) (f g : ℕ → List Item) → ((h : ℕ) → count i f h ≡ count i g h) → counts i f ≡ counts i g
  counts_same i f g e k = e 1 k ∷ e 2 k ∷ e 3 k ∷ e 4 k ∷ e 5 k ∷ e 6 k ∷ e 7 k ∷ e 8 k ∷ []

  -- a shelf comes back
  back : (s : St) (o : Orderly fits cap plan serves s) (id : ℕ) (v : View) (i new : ℕ) (x : S) (items log : List Item) (todo : List ℕ) → get_elem? s.views id ≡ some v → v.at ≡ i + 1
      → new ≡ word_for 0 (counts i (put o.lanes v.holder items)) → fits i log x
      → ((r : ℕ) → r ≢ i → in_shelf r items ≡ in_shelf r (o.lanes v.holder))
      → Below (get_or s.words 0 0) items → Below (get_or s.words 0 0) log → Rises log
      → ((h : ℕ) → by h log ≡ in_shelf i (put o.lanes v.holder items h)) → (v.holder < 9 → length (in_shelf i items) < 128)
      → length (entries_of log) + times i todo ≤ length (entries_of v.log) + times i v.todo → ((r : ℕ) → r ≢ i → times r todo ≤ times r v.todo) → (v.holder < 9 → shelves items ++ todo ≡ shelves v.items ++ v.todo) → (v.holder < 9 → counted v.told (length items) ≡ counted v.told (length v.items))
      → AllFrom (serves v.holder) 0 items → length (in_shelf i (o.lanes v.holder)) ≤ length (in_shelf i items) → (v.holder < 9 → length (in_shelf i (o.lanes v.holder)) < length (in_shelf i items)) → (turn : List Item) → Ordered turn → ((h : ℕ) → by h turn ≡ put o.lanes v.holder items h) → ((r : ℕ) → in_shelf r turn ≡ put o.logs i log r) → Known turn
      → Orderly fits cap plan serves (hall (set s.words (i + 9) new) (set s.homes i (some (Some x))) (set s.views id (releasing v items todo)))
  back s o id v i new x items log todo me at is fit others below₁ below₂ rise part few room₁ room₂ planned stays done grow one turn ordered whose lies known =
      let h : ℕ = v.holder in
      let has = o.held id v me i at in
      let near : i < length s.homes = has.inside in
      let w : View = releasing v items todo in
      let name = o.named id v me has.some_holder in
      let ws : List ℕ = set s.words (i + 9) new in
      let hs : List (maybe.Option (Option S)) = set s.homes i (some (Some x)) in
      let vs : List View = set s.views id w in
      let long : length hs ≡ length s.homes = length-set s.homes i (some (Some x)) in
      let holders : ℕ → ℕ = put o.holders i 0 in
      let lanes : ℕ → List Item = put o.lanes h items in
      let todos : ℕ → List ℕ = put o.todos h todo in
      let logs : ℕ → List Item = put o.logs i log in
      let ticket : get_or ws 0 0 ≡ get_or s.words 0 0 = get_or-set_other s.words (i + 9) 0 new 0 (λ e. omega arith) in
      let here : get_or ws (i + 9) 0 ≡ new = get_or-set_same s.words (i + 9) new 0 (omega (arith, o.wide)) in
      let there : (r : ℕ) → r ≢ i → get_or ws (r + 9) 0 ≡ get_or s.words (r + 9) 0 = λ r ne. get_or-set_other s.words (i + 9) (r + 9) new 0 (λ e. ne (omega arith)) in
      let fitted : (r : ℕ) → r < length hs → r < length s.homes = λ r l. subst (λ (y : ℕ). r < y) long l in
      let agrees : (r : ℕ) → put (word_of s.words) i new r ≡ get_or ws (r + 9) 0 = λ r. put-all (λ (y z : ℕ). z ≡ get_or ws (y + 9) 0) (word_of s.words) i new r (sym here) (λ ne. sym (there r ne)) in
      let same_in : (r : ℕ) → r ≢ i → (y : ℕ) → in_shelf r (lanes y) ≡ in_shelf r (o.lanes y) = λ r ne y. put-all (λ (k : ℕ) (z : List Item). in_shelf r z ≡ in_shelf r (o.lanes k)) o.lanes h items y (others r ne) (λ _. refl) in
      let grown : (y : ℕ) → count i o.lanes y ≤ count i lanes y = λ y. put-all (λ (k : ℕ) (z : List Item). count i o.lanes k ≤ length (in_shelf i z)) o.lanes h items y grow (λ _. omega arith) in
      let rising : NoneAbove (counts i o.lanes) (counts i lanes) = counts_grow i o.lanes lanes grown in
      let under : (y : ℕ) → y < 9 → count i lanes y < 128 = λ y. put-all (λ (k : ℕ) (z : List Item). k < 9 → length (in_shelf i z) < 128) o.lanes h items y few (λ _. o.few i y) in
      let before : (k : ℕ) → digit (word_of s.words i / 16) k ≡ get_or (counts i o.lanes) k 0 = λ k. ap (λ (z : ℕ). digit (z / 16) k) (o.shown i near) ∙ digit_of (o.holders i) k (counts i o.lanes) (omega (arith, holder_small s o i near)) (small_counts i o.lanes (o.few i)) in
      let after : (k : ℕ) → digit (new / 16) k ≡ get_or (counts i lanes) k 0 = λ k. ap (λ (z : ℕ). digit (z / 16) k) is ∙ digit_of 0 k (counts i lanes) (omega arith) (small_counts i lanes under) in
      let strict : o.holders i < 9 → digit (word_of s.words i / 16) (o.holders i - 1) < digit (new / 16) (o.holders i - 1) = λ lane. subst (λ (z : ℕ). digit (word_of s.words i / 16) (z - 1) < digit (new / 16) (z - 1)) (sym has.holder)
      (let l : h < 9 = omega (arith, has.holder) in omega (arith, before (h - 1), after (h - 1), counts_at i h o.lanes has.some_holder l, counts_at i h lanes has.some_holder l, one l, ap (λ (z : List Item). length (in_shelf i z)) (put-same o.lanes h items))) in
      -- no other seat has this shelf
      let alone : (j : ℕ) (u : View) → j ≢ id → get_elem? s.views j ≡ some u → (r : ℕ) → u.at ≡ r + 1 → r ≢ i = λ j u ne e r q z.
      let t = o.held j u e r q in let p = o.named j u e t.some_holder in ne (sym p.seat ∙ (ap o.seats (sym t.holder ∙ (ap o.holders z ∙ has.holder)) ∙ name.seat)) in
      record {
        lanes = lanes;
        todos = todos;
        tolds = o.tolds;
        turn = turn;
        ordered = ordered;
        whose = whose;
        lies = lies;
        known = known;
        logs = logs;
        holders = holders;
        seats = o.seats;
        locks = o.locks;
        notes = o.notes;
        sights = o.sights;
        noted = subst (λ (z : ℕ). Noted z (word_of ws) holders (λ i. counts i lanes) o.locks o.notes o.sights) (sym long)
            (noted_same (length s.homes) (put (word_of s.words) i new) (word_of ws) holders (put (λ i. counts i o.lanes) i (counts i lanes)) (λ i. counts i lanes) o.locks o.notes o.sights (λ r l. agrees r) (λ r l. put-all (λ (y : ℕ) (z : List ℕ). z ≡ counts y lanes) (λ i. counts i o.lanes) i (counts i lanes) r refl (λ ne. counts_same r o.lanes lanes (λ y. ap length (sym (same_in r ne y)))))
            (after_release (length s.homes) (word_of s.words) o.holders (λ i. counts i o.lanes) o.locks o.notes o.sights o.noted i new (counts i lanes) rising refl));
        outdated = subst (λ (z : ℕ). Outdated z (word_of ws) holders o.locks) (sym long)
            (outdated_same (length s.homes) (put (word_of s.words) i new) (word_of ws) holders o.locks (λ r l. agrees r)
            (outdated_release (length s.homes) (word_of s.words) o.holders o.locks o.outdated i new (λ k. omega (arith, before k, after k, above_at (counts i o.lanes) (counts i lanes) k rising)) strict));
        desks = o.desks;
        lead = leads s.views o.desks id v w me (λ a b. absurd (omega arith)) o.lead;
        ten = o.ten;
        wide = length-set s.words (i + 9) new ∙ (o.wide ∙ ap (λ (y : ℕ). y + 9) (sym long));
        shown = λ r l. put-all (λ (y z : ℕ). get_or ws (y + 9) 0 ≡ word_for z (counts y lanes)) o.holders i 0 r (here ∙ is)
            (λ ne. there r ne ∙ (o.shown r (fitted r l) ∙ ap (word_for (o.holders r)) (counts_same r o.lanes lanes (λ y. ap length (sym (same_in r ne y))))));
        free = λ r l. put-all (λ (y z : ℕ). z ≡ 0 → AtHome fits hs y (logs y)) o.holders i 0 r
            (λ _. (x, set_here s.homes i (some (Some x)) near, subst (λ (z : List Item). fits i z x) (sym (put-same o.logs i log)) fit))
            (λ ne e. let t = o.free r (fitted r l) e in (t.0, set_else s.homes i r (some (Some x)) ne ∙ t.1, subst (λ (z : List Item). fits r z t.0) (sym (put-other o.logs i r log ne)) t.2));
        taken = λ r l. put-all (λ (y z : ℕ). z ≢ 0 → Away hs vs y (o.seats z)) o.holders i 0 r (λ no. absurd (no refl))
            (λ ne on. let t = o.taken r (fitted r l) on in (
              set_else s.homes i r (some (Some x)) ne ∙ t.0,
              (
                t.1.0,
                set_else s.views id (o.seats (o.holders r)) w
                    (λ e. let mine : t.1.0 ≡ v = some-injective t.1.0 v (sym t.1.1 ∙ (ap (λ (y : ℕ). get_elem? s.views y) e ∙ me)) in ne (omega (arith, ap (λ (y : View). y.at) mine, t.1.2))) ∙ t.1.1,
                t.1.2,
              ),
            ));
        held = each (λ j u. (r : ℕ) → u.at ≡ r + 1 → Holds (length hs) ws holders logs u r) s.views id w (λ r e. absurd (omega arith))
            (λ j u ne e r q. let t = o.held j u e r q in let apart = alone j u ne e r q in
            record { inside = omega (arith, t.inside); holder = put-other o.holders i r 0 apart ∙ t.holder; some_holder = t.some_holder; word = t.word ∙ sym (there r apart); log = t.log ∙ sym (put-other o.logs i r log apart) });
        named = each (λ j u. 0 < u.holder → Named o.seats lanes todos o.tolds o.locks o.notes o.sights o.desks j u) s.views id w
            (λ _. record { inside = name.inside; seat = name.seat; items = sym (put-same o.lanes h items); todo = sym (put-same o.todos h todo); told = name.told; locks_are = name.locks_are; notes_are = name.notes_are; sight = name.sight; out = name.out })
            (λ j u ne e pos. let t = o.named j u e pos in record { inside = t.inside; seat = t.seat; items = t.items ∙ sym (put-other o.lanes h u.holder items (λ z. ne (sym t.seat ∙ (ap o.seats z ∙ name.seat)))); todo = t.todo ∙ sym (put-other o.todos h u.holder todo (λ z. ne (sym t.seat ∙ (ap o.seats z ∙ name.seat)))); told = t.told; locks_are = t.locks_are; notes_are = t.notes_are; sight = t.sight; out = t.out });
        kept = λ y none-out. let ne : y ≢ h = λ z. omega (arith, name.out, ap (λ (k : ℕ). (desk_at o.desks k).out) z) in let k = o.kept y none-out in (k.0 ∙ sym (put-other o.lanes h y items ne), k.1 ∙ sym (put-other o.todos h y todo ne), k.2, k.3, k.4);
        left = λ y pos lane. put-all (λ (k : ℕ) (z : List Item). k < 9 → 0 < k → get_or ws k 0 ≡ counted (o.tolds k) (length z)) o.lanes h items y
            (λ lane pos. get_or-set_other s.words (i + 9) h new 0 (λ e. omega arith) ∙ (o.left h pos lane ∙ (ap (λ (z : List Item). counted (o.tolds h) (length z)) (sym name.items) ∙ (ap (λ (k : ℕ). counted k (length v.items)) (sym name.told) ∙ (sym (stays lane) ∙ ap (λ (k : ℕ). counted k (length items)) name.told)))))
            (λ ne lane pos. get_or-set_other s.words (i + 9) y new 0 (λ e. omega arith) ∙ o.left y pos lane) lane pos;
        bound = omega (arith, o.bound, total-set purse s.views id v w me);
        low = each (λ j u. u.low ≤ get_or ws 0 0) s.views id w (omega (arith, o.low id v me)) (λ j u ne e. omega (arith, o.low j u e));
        below = λ y. subst (λ (z : ℕ). Below z (lanes y)) (sym ticket) (put-all (λ (k : ℕ) (z : List Item). Below (get_or s.words 0 0) z) o.lanes h items y below₁ (λ _. o.below y));
        logged = λ y. subst (λ (z : ℕ). Below z (logs y)) (sym ticket) (put-all (λ (k : ℕ) (z : List Item). Below (get_or s.words 0 0) z) o.logs i log y below₂ (λ _. o.logged y));
        rises = λ y. put-all (λ (k : ℕ) (z : List Item). Rises z) o.logs i log y rise (λ _. o.rises y);
        parted = λ r y. put-all (λ (k : ℕ) (z : List Item). by y z ≡ in_shelf k (lanes y)) o.logs i log r (part y) (λ ne. o.parted r y ∙ sym (same_in r ne y));
        few = λ r y. put-all (λ (k : ℕ) (z : List Item). k < 9 → length (in_shelf r z) < 128) o.lanes h items y
            (λ lane. dite (ℕ_discrete r i) (λ e. subst (λ (k : ℕ). length (in_shelf k items) < 128) (sym e) (few lane)) (λ ne. subst (λ (z : List Item). length z < 128) (sym (others r ne)) (o.few r h lane))) (λ _. o.few r y);
        room = λ r l. put-all (λ (k : ℕ) (z : List Item). length (entries_of z) + total (pending k) vs ≤ cap k) o.logs i log r
            (omega (arith, o.room i near, total-set (pending i) s.views id v w me, room₁, ap (λ (z : List Item). length (entries_of z)) has.log))
            (λ ne. omega (arith, o.room r (fitted r l), total-set (pending r) s.views id v w me, room₂ r ne));
        planned = λ y p q. dite (ℕ_discrete y h)
            (λ e. subst (λ (k : ℕ). shelves (lanes k) ++ todos k ≡ plan k) (sym e) (ap (λ (z : List Item). shelves z ++ todos h) (put-same o.lanes h items) ∙ (ap (λ (z : List ℕ). shelves items ++ z) (put-same o.todos h todo)
            ∙ (planned (subst (λ (k : ℕ). k < 9) e q) ∙ (ap (λ (z : List Item). shelves z ++ v.todo) name.items ∙ (ap (λ (z : List ℕ). shelves (o.lanes h) ++ z) name.todo ∙ o.planned h (subst (λ (k : ℕ). 0 < k) e p) (subst (λ (k : ℕ). k < 9) e q)))))))
            (λ ne. ap (λ (z : List Item). shelves z ++ todos y) (put-other o.lanes h y items ne) ∙ (ap (λ (z : List ℕ). shelves (o.lanes y) ++ z) (put-other o.todos h y todo ne) ∙ o.planned y p q));
        served = λ y. put-all (λ (k : ℕ) (z : List Item). AllFrom (serves k) 0 z) o.lanes h items y done (λ _. o.served y);
      }

  by-one : (h : ℕ) (x : Item) → x.holder ≡ h → by h (x ∷ []) ≡ x ∷ []
  by-one h x e = ap (λ b. cond b (x ∷ []) []) (eq-eqb x.holder h e)

  by-none : (h : ℕ) (x : Item) → x.holder ≢ h → by h (x ∷ []) ≡ []
  by-none h x ne = ap (λ b. cond b (x ∷ []) []) (ne_eqb x.holder h ne)

  in-one : (i : ℕ) (x : Item) → x.shelf ≡ i → in_shelf i (x ∷ []) ≡ x ∷ []
  in-one i x e = ap (λ b. cond b (x ∷ []) []) (eq-eqb x.shelf i e)

  in-none : (i : ℕ) (x : Item) → x.shelf ≢ i → in_shelf i (x ∷ []) ≡ []
  in-none i x ne = ap (λ b. cond b (x ∷ []) []) (ne_eqb x.shelf i ne)

  counts_more : (i h : ℕ) (f : ℕ → List Item) (items : List Item) → 0 < h → h < 9 → length (in_shelf i items) ≡ count i f h + 1 → pack (counts i (put f h items)) ≡ pack (counts i f) + weight (h - 1)
  counts_more i zero f items a b e = absurd (omega arith)
  counts_more i (suc zero) f items a b e = omega arith
  counts_more i (suc (suc zero)) f items a b e = omega arith
  counts_more i (suc (suc (suc zero))) f items a b e = omega arith
  counts_more i (suc (suc (suc (suc zero)))) f items a b e = omega arith
  counts_more i (suc (suc (suc (suc (suc zero))))) f items a b e = omega arith
  counts_more i (suc (suc (suc (suc (suc (suc zero)))))) f items a b e = omega arith
  counts_more i (suc (suc (suc (suc (suc (suc (suc zero))))))) f items a b e = omega arith
  counts_more i (suc (suc (suc (suc (suc (suc (suc (suc zero)))))))) f items a b e = omega arith
  counts_more i (suc (suc (suc (suc (suc (suc (suc (suc (suc k))))))))) f items a b e = absurd (omega arith)

  counts_manager : (i h : ℕ) (f : ℕ → List Item) (items : List Item) → h ≡ 9 → pack (counts i (put f h items)) ≡ pack (counts i f)
  counts_manager i h f items e = subst (λ (k : ℕ). pack (counts i (put f k items)) ≡ pack (counts i f)) (sym e) refl

  -- a shelf comes back with one item more
  adds : (s : St) (o : Orderly fits cap plan serves s) (id : ℕ) (v : View) (i new : ℕ) (y : S) (x : Item) (todo : List ℕ) → get_elem? s.views id ≡ some v → v.at ≡ i + 1
      → new ≡ word_for 0 (counts i (put o.lanes v.holder (v.items ++ x ∷ []))) → x.holder ≡ v.holder → x.shelf ≡ i → x.ticket < v.low → Below x.ticket v.log → Below x.ticket v.items → (v.holder < 9 → length (in_shelf i v.items) < 127)
      → length (entry_of x) + times i todo ≤ times i v.todo → ((r : ℕ) → r ≢ i → times r todo ≤ times r v.todo) → (v.holder < 9 → v.todo ≡ i ∷ todo) → (v.holder < 9 → v.told ≡ 0) → serves v.holder (length v.items) x → fits i (v.log ++ x ∷ []) y
      → Orderly fits cap plan serves (hall (set s.words (i + 9) new) (set s.homes i (some (Some y))) (set s.views id (releasing v (v.items ++ x ∷ []) todo)))
  adds s o id v i new y x todo me at is mine here low above own room less fewer next stays good fit =
      let h : ℕ = v.holder in
      let t : ℕ = get_or s.words 0 0 in
      let has = o.held id v me i at in
      let name = o.named id v me has.some_holder in
      let items : List Item = v.items ++ x ∷ [] in
      let log : List Item = v.log ++ x ∷ [] in
      let lanes : ℕ → List Item = put o.lanes h items in
      let ten : x.holder < 10 = omega (arith, name.inside) in
      let plus : length (in_shelf i items) ≡ length (in_shelf i (o.lanes h)) + 1 = omega (arith, ap length (in_shelf-append i v.items (x ∷ []) ∙ ap (λ (z : List Item). in_shelf i v.items ++ z) (in-one i x here)), length-append (in_shelf i v.items) (x ∷ []), ap (λ (z : List Item). length (in_shelf i z)) name.items) in
      let mine-below : Below x.ticket (by x.holder o.turn) = subst (Below x.ticket) (name.items ∙ (sym (o.whose h) ∙ ap (λ (y : ℕ). by y o.turn) (sym mine))) own in
      let here-below : Below x.ticket (in_shelf x.shelf o.turn) = subst (Below x.ticket) (has.log ∙ (sym (o.lies i) ∙ ap (λ (y : ℕ). in_shelf y o.turn) (sym here))) above in
      let under : x.ticket < t = omega (arith, o.low id v me) in
      let part : (k : ℕ) → by k log ≡ in_shelf i (lanes k) = λ k. put-all (λ (j : ℕ) (z : List Item). by j log ≡ in_shelf i z) o.lanes h items k
      (by-append h v.log (x ∷ []) ∙ (ap (λ (z : List Item). z ++ by h (x ∷ [])) (ap (by h) has.log ∙ (o.parted i h ∙ ap (in_shelf i) (sym name.items)))
      ∙ (ap (λ (z : List Item). in_shelf i v.items ++ z) (by-one h x mine ∙ sym (in-one i x here)) ∙ sym (in_shelf-append i v.items (x ∷ [])))))
      (λ ne. by-append k v.log (x ∷ []) ∙ (ap (λ (z : List Item). by k v.log ++ z) (by-none k x (λ e. ne (sym e ∙ mine))) ∙ (append-nil (by k v.log) ∙ (ap (by k) has.log ∙ o.parted i k)))) in
      back s o id v i new y items log todo me at is fit
      (λ r ne. in_shelf-append r v.items (x ∷ []) ∙ (ap (λ (z : List Item). in_shelf r v.items ++ z) (in-none r x (λ e. ne (sym e ∙ here))) ∙ (append-nil (in_shelf r v.items) ∙ ap (in_shelf r) name.items)))
      (Below-append t v.items x (subst (Below t) (sym name.items) (o.below h)) under) (Below-append t v.log x (subst (Below t) (sym has.log) (o.logged i)) under)
      (Rises-append v.log x (subst Rises (sym has.log) (o.rises i)) above) part
      (λ lane. omega (arith, room lane, ap length (in_shelf-append i v.items (x ∷ []) ∙ ap (λ (z : List Item). in_shelf i v.items ++ z) (in-one i x here)), length-append (in_shelf i v.items) (x ∷ [])))
      (omega (arith, less, entries-grow v.log x (length (entry_of x)) (omega arith)))
      fewer
      (λ lane. ap (λ (z : List ℕ). z ++ todo) (shelves-append v.items (x ∷ [])) ∙ (append_assoc (shelves v.items) (x.shelf ∷ []) todo ∙ ap (λ (z : List ℕ). shelves v.items ++ z) (ap (λ (k : ℕ). k ∷ todo) here ∙ sym (next lane))))
      (λ lane. ap (λ (k : ℕ). counted k (length items)) (stays lane) ∙ ap (λ (k : ℕ). counted k (length v.items)) (sym (stays lane)))
      (AllFrom-append (serves h) v.items x (subst (AllFrom (serves h) 0) (sym name.items) (o.served h)) good) (omega (arith, plus)) (λ _. omega (arith, plus))
      (insert x o.turn) (insert-ordered x o.turn o.ordered (ranks-apart x o.turn ten o.known mine-below))
      (λ k. put-all (λ (y : ℕ) (z : List Item). by y (insert x o.turn) ≡ z) o.lanes h items k
      (subst (λ (y : ℕ). by y (insert x o.turn) ≡ items) mine (by-insert x o.turn o.ordered o.known mine-below ∙ ap (λ (z : List Item). z ++ x ∷ []) (ap (λ (y : ℕ). by y o.turn) mine ∙ (o.whose h ∙ sym name.items))))
      (λ ne. by-insert-other k x o.turn (λ e. ne (sym e ∙ mine)) ∙ o.whose k))
      (λ k. put-all (λ (y : ℕ) (z : List Item). in_shelf y (insert x o.turn) ≡ z) o.logs i log k
      (subst (λ (y : ℕ). in_shelf y (insert x o.turn) ≡ log) here (in-insert x o.turn o.ordered o.known here-below ∙ ap (λ (z : List Item). z ++ x ∷ []) (ap (λ (y : ℕ). in_shelf y o.turn) here ∙ (o.lies i ∙ sym has.log))))
      (λ ne. in-insert-other k x o.turn (λ e. ne (sym e ∙ here)) ∙ o.lies k))
      (Known-insert x o.turn ten o.known)

  one-entry : (h t : ℕ) (w : Work) → length (entry_for h t w) ≤ 1
  one-entry h t (Served i r) = omega arith
  one-entry h t (Copied b) = omega arith

  no-entry : (x : Item) (b : ℕ) → x.what ≡ Copied b → length (entry_of x) ≡ 0
  no-entry x b e = ap (λ (w : Work). length (entry_for x.holder x.ticket w)) e

  -- the manager gives a shelf back with a copy more
  pub copies : (n id : ℕ) (v : View) (i k new : ℕ) (y : S) (tells : Item → Type 0) (b : ℕ) (x : Item) (more : List (ℕ × Option S)) → tells x → x.what ≡ Copied b → k ≡ i + 9 → v.at ≡ i + 1 → v.holder ≡ 9 → new + 9 ≡ v.word
      → x.holder ≡ 9 → x.shelf ≡ i → x.ticket < v.low → Below x.ticket v.log → Below x.ticket v.items → serves v.holder (length v.items) x → fits i (v.log ++ x ∷ []) y
      → Allows (Orderly fits cap plan serves) n id (v, (i, Some y) ∷ more) k (λ _. new) (copied_some tells (step n k new 0 none) (v, (i, Some y) ∷ more))
  copies n id v i k new y tells b x more told what is at manager pays mine here low above own good fit s o wide me _ =
      let h : ℕ = v.holder in
      let has = o.held id v me i at in
      let mark = o.shown i has.inside in
      let items : List Item = v.items ++ x ∷ [] in
      let w : View = releasing v items v.todo in
      let packed = counts_manager i h o.lanes items manager in (
        w,
        gives,
        tt,
        subst (λ (z : ℕ). Orderly fits cap plan serves (hall (set s.words z new) (set s.homes i (some (Some y))) (set s.views id w))) (sym is)
            (adds s o id v i new y x v.todo me at (omega (arith, has.word, has.holder, packed, mark, manager)) (mine ∙ sym manager) here low above own (λ lane. absurd (omega arith)) (omega (arith, no-entry x b what)) (λ r ne. omega arith) (λ lane. absurd (omega arith)) (λ lane. absurd (omega arith)) good fit),
        (x, told, refl),
      )

  -- a lane gives a shelf back with a piece more
  pub does : (n id : ℕ) (v : View) (i k new : ℕ) (y : S) (tells : Item → Type 0) (x : Item) (more : List (ℕ × Option S)) → tells x → k ≡ i + 9 → v.at ≡ i + 1 → v.holder < 9 → new + v.holder ≡ v.word + 16 * weight (v.holder - 1)
      → x.holder ≡ v.holder → x.shelf ≡ i → x.ticket < v.low → Below x.ticket v.log → Below x.ticket v.items → length (in_shelf i v.items) < 127 → v.todo ≡ i ∷ rest_of v.todo → v.told ≡ 0 → serves v.holder (length v.items) x → fits i (v.log ++ x ∷ []) y
      → Allows (Orderly fits cap plan serves) n id (v, (i, Some y) ∷ more) k (λ _. new) (did_some tells (step n k new 0 none) (v, (i, Some y) ∷ more))
  does n id v i k new y tells x more told is at lane pays mine here low above own room next stays good fit s o wide me _ =
      let h : ℕ = v.holder in
      let has = o.held id v me i at in
      let name = o.named id v me has.some_holder in
      let mark = o.shown i has.inside in
      let items : List Item = v.items ++ x ∷ [] in
      let w : View = releasing v items (rest_of v.todo) in
      let grown : length (in_shelf i items) ≡ count i o.lanes h + 1 = omega (arith, ap length (in_shelf-append i v.items (x ∷ []) ∙ ap (λ (z : List Item). in_shelf i v.items ++ z) (in-one i x here)), length-append (in_shelf i v.items) (x ∷ []), ap (λ (z : List Item). length (in_shelf i z)) name.items) in
      let packed = counts_more i h o.lanes items has.some_holder lane grown in (
        w,
        gives,
        tt,
        subst (λ (z : ℕ). Orderly fits cap plan serves (hall (set s.words z new) (set s.homes i (some (Some y))) (set s.views id w))) (sym is)
            (adds s o id v i new y x (rest_of v.todo) me at (omega (arith, has.word, has.holder)) mine here low above own (λ _. room) (omega (arith, one-entry x.holder x.ticket x.what, ap (times i) next, ap {B = ℕ} (λ b. cond b 1 0) (eq-eqb i i refl))) (λ r ne. omega (arith, ap (times r) next)) (λ _. next) (λ _. stays) good fit),
        (x, told, refl),
      )

  pub opens : (ws : List ℕ) (xs : List (Option S)) → length ws ≡ length xs + 9 → ((k : ℕ) → get_or ws k 0 ≡ 0) → ((i : ℕ) → i < length xs → (x : S) × (get_elem? xs i ≡ some (Some x)) × fits i [] x)
      → ((i : ℕ) → i < length xs → pending i (opener plan) ≤ cap i) → Orderly fits cap plan serves (opening ws xs (opener plan))
  opens ws xs long zero-words full capped =
      let hs : List (maybe.Option (Option S)) = map some xs in
      let same : length hs ≡ length xs = length-map xs (λ (z : Option S). some z) in
      let one : (P : View → Type 0) → P (opener plan) → (j : ℕ) (u : View) → get_elem? (opener plan ∷ []) j ≡ some u → P u = λ P p j u e. only_one P (opener plan) p j u e in
      record {
        lanes = λ _. [];
        todos = λ h. (desk_of (opener plan) h).todo;
        tolds = λ h. 0;
        left = λ h pos lane. zero-words h;
        turn = [];
        ordered = tt;
        whose = λ _. refl;
        lies = λ _. refl;
        known = tt;
        logs = λ _. [];
        holders = λ _. 0;
        seats = λ _. 0;
        locks = λ _. [];
        notes = λ _. [];
        sights = λ _. (0, 0);
        noted = record { held = λ i h on. absurd (on refl); saw = λ h i l e. absurd (omega (arith, e)); are = λ _. tt };
        outdated = record { lower = λ h i w p q l a. absurd a };
        desks = (opener plan).desks;
        lead = (opener plan, refl, refl, refl, refl);
        ten = refl;
        wide = omega (arith, long, same);
        shown = λ i h. zero-words (i + 9);
        free = λ i h _. let t = full i (omega arith) in (t.0, at_map some xs i (Some t.0) t.1, t.2);
        taken = λ i h no. absurd (no refl);
        held = λ j u e i q. absurd (omega (arith, one (λ z. z.at ≡ 0) refl j u e));
        named = λ j u e on. absurd (omega (arith, one (λ z. z.holder ≡ 0) refl j u e));
        kept = λ h _. let t = ten_bare plan h in (t.0, refl, t.1, t.2, t.3);
        bound = omega (arith, zero-words 0);
        low = λ j u e. omega (arith, one (λ z. z.low ≡ 0) refl j u e);
        below = λ _. tt;
        logged = λ _. tt;
        rises = λ _. tt;
        parted = λ i h. refl;
        few = λ i h _. omega arith;
        room = λ i l. omega (arith, capped i (omega (arith, same)));
        planned = λ h p q. ten_planned plan h p q;
        served = λ _. tt;
      }

  -- at the end, once the first seat has every seat back
  pub closes : (v : View) (ws : List ℕ) (xs : List (Option S)) → ((h : ℕ) → (desk_of v h).out ≡ 0) → Final (Seen (Orderly fits cap plan serves) 0 v) ws xs → Whole fits cap plan serves v.desks ws (get_or ws 0 0) xs
  closes v ws xs in-all f =
      let s : St = f.0 in
      let o = f.1.0 in
      let me = f.1.1 in
      let lead = leader s o 0 v refl me in
      let none-out : (h : ℕ) → (desk_at o.desks h).out ≡ 0 = λ h. ap (λ (l : List Desk). (desk_at l h).out) (sym lead.2) ∙ in-all h in
      let none-held : (i : ℕ) → i < length s.homes → o.holders i ≡ 0 = λ i h. dite (ℕ_discrete (o.holders i) 0) (λ e. e) (λ ne. let t = o.taken i h ne in let q = o.held (o.seats (o.holders i)) t.1.0 t.1.1 i t.1.2 in
      let p = o.named (o.seats (o.holders i)) t.1.0 t.1.1 q.some_holder in absurd (omega (arith, p.out, none-out t.1.0.holder))) in
      let locks-mine : (h : ℕ) → o.locks h ≡ (desk_of v h).locks = λ h. let k = o.kept h (none-out h) in sym k.3 ∙ ap (λ (l : List Desk). (desk_at l h).locks) (sym lead.2) in
      let notes-mine : (h : ℕ) → o.notes h ≡ (desk_of v h).notes = λ h. let k = o.kept h (none-out h) in sym k.4 ∙ ap (λ (l : List Desk). (desk_at l h).notes) (sym lead.2) in
      let mine : (h : ℕ) → o.lanes h ≡ (desk_of v h).items = λ h. let k = o.kept h (none-out h) in sym k.0 ∙ ap (λ (l : List Desk). (desk_at l h).items) (sym lead.2) in
      record {
        turn = o.turn;
        ordered = o.ordered;
        back = λ i h. let near : i < length s.homes = omega (arith, f.3) in let t = o.free i near (none-held i near) in (t.0, f.4 i (Some t.0) t.1, subst (λ (l : List Item). fits i l t.0) (sym (o.lies i)) t.2);
        whose = λ h. o.whose h ∙ mine h;
        below = λ h. subst (λ (z : List ℕ). Below (get_or z 0 0) (by h o.turn)) f.2 (subst (Below (get_or s.words 0 0)) (sym (o.whose h)) (o.below h));
        left = λ h p q. let k = o.kept h (none-out h) in ap (λ (z : List ℕ). get_or z h 0) (sym f.2) ∙ (o.left h p q ∙ (ap (λ (z : ℕ). counted z (length (o.lanes h))) (sym k.2) ∙ (ap (λ (z : List Item). counted (desk_at o.desks h).told (length z)) (sym k.0) ∙ ap (λ (l : List Desk). counted (desk_at l h).told (length (desk_at l h).items)) (sym lead.2))));
        planned = λ h p q. let k = o.kept h (none-out h) in ap (λ (l : List Desk). shelves (desk_at l h).items ++ (desk_at l h).todo) lead.2 ∙ (ap (λ (z : List Item). shelves z ++ (desk_at o.desks h).todo) k.0 ∙ (ap (λ (z : List ℕ). shelves (o.lanes h) ++ z) k.1 ∙ o.planned h p q));
        served = λ h. subst (AllFrom (serves h) 0) (mine h) (o.served h);
        noted = λ h. subst (λ (l : List Note). AllAre (IsBusy (λ k. (desk_of v k).locks) h) l) (notes-mine h) (all_map (IsNote o.locks h) (IsBusy (λ k. (desk_of v k).locks) h) (o.notes h) (λ x is. busy (λ k. (desk_of v k).locks) h x (note_kept o.locks (λ k. (desk_of v k).locks) h x (λ a i w m. subst (Among i w) (locks-mine a) m) is)) (o.noted.are h));
        few = omega (arith, o.bound, f.2, ap (λ (l : List ℕ). get_or l 0 0) f.2);
        outdated = λ h i w p q l a. let near : i < length s.homes = omega (arith, f.3, l) in ⊎_elim (λ (t : (w ≡ word_of s.words i) × (o.holders i ≡ h)). absurd (omega (arith, t.1, none-held i near, p)))
            (λ (t : digit (w / 16) (h - 1) < digit (word_of s.words i / 16) (h - 1)). omega (arith, t, ap (λ (z : ℕ). digit (z / 16) (h - 1)) (o.shown i near), digit_of (o.holders i) (h - 1) (counts i o.lanes) (omega (arith, none-held i near)) (small_counts i o.lanes (o.few i)), counts_at i h o.lanes p q, ap (λ (z : List Item). length (in_shelf i z)) (mine h)))
            (o.outdated.lower h i w p q near (subst (Among i w) (sym (locks-mine h)) a));
      }

  -- the same of the seat's own terms
  pub ends : (id : ℕ) (v w : View) (ws : List ℕ) (xs ys : List (Option S)) (next : ℕ) → id ≡ 0 → w ≡ v → next ≡ get_or ws 0 0 → ys ≡ xs → ((h : ℕ) → (desk_of w h).out ≡ 0) → Final (Seen (Orderly fits cap plan serves) id v) ws xs → Whole fits cap plan serves w.desks ws next ys
  ends id v w ws xs ys next zeroth same at all back f =
      let g : Final (Seen (Orderly fits cap plan serves) 0 w) ws xs = subst (λ (k : ℕ). Final (Seen (Orderly fits cap plan serves) k w) ws xs) zeroth (subst (λ (u : View). Final (Seen (Orderly fits cap plan serves) id u) ws xs) (sym same) f) in
      subst (λ (k : ℕ). Whole fits cap plan serves w.desks ws k ys) (sym at) (subst (λ (l : List (Option S)). Whole fits cap plan serves w.desks ws (get_or ws 0 0) l) (sym all) (closes w ws xs back g))
