-- The queue that is left of a log.
use Rattle.std.proofs.Common.{◌≡◌, ◌⊎◌, ℕ, zero, suc, ◌+◌, ◌-◌, ◌*◌, ◌%◌, ◌<◌, ◌≤◌, ◌==◌, Bool, true, false, cond, Some, List, [], ◌∷◌, ◌++◌, ap, ◌∙◌, arith, eqb, eq-eqb, get_or, inl, inr, length, length-append, lt_of_not-le, nat_lt, ne_eqb, refl, replicate, slice_get, slice_index_or, subst, sym, ⊎_elim}
use Rattle.std.proofs.Math.Nat.{mod-add-mod, mod-eq_of_lt, mod-lt}
use Rattle.std.proofs.lemmas.Bool.{lt-ltb}
use Rattle.std.proofs.lemmas.List.{get_or-append-add, get_or_append_left, length_push}
use Rattle.std.proofs.lemmas.Option.{get_or_from_slice_get, none-some, slice_get-get_or, slice_get_past, slice_get_within}
use mathlib.Core.Logic.{dite}
use mathlib.Core.Option.{some}
use native.Mathlib.Decide.{dec_le}
use lib.ListN.{get_elem?}
use Rattle.mig_base.proofs.ListLemmas.{empty_list, slice_get-push_cases}
use Rattle.atomic_table.specs.Table.{Final, Seen}
use Rattle.nvm_model.specs.Event.{phase_of}
use Rattle.nvm_model.proofs.PlaceLemmas.{mods-apart}
use Rattle.data_queue.specs.declared.change.Change.{Change}
use Rattle.data_queue.specs.declared.places.Places.{Places}
use Rattle.data_queue.specs.Change.{IsChange, change_bytes, change_of}
use Rattle.data_queue.specs.Log.{HasLog, IsLog, QueueState}
use Rattle.data_queue.specs.Places.{ArePlaces, queue_of}
use Rattle.log_rule.specs.declared.view.Lost.{Lost}
use Rattle.log_rule.specs.declared.view.View.{View}
use Rattle.log_rule.specs.Places.{Place, word_or, words_from}
use Rattle.log_rule.specs.Rule.{IsLogTable, Whole, mark_for}
use Rattle.log_rule.proofs.Ends.{ends}
use Rattle.log_rule.proofs.PlaceLemmas.{owner, published_is}
use Rattle.log_ring.specs.Seats.{AreJoined}
use Rattle.log_ring.specs.Words.{Fits, IsEntryWord, IsOpened, change_in}
use Rattle.log_ring.specs.Ends.{AreTaken, HasClosed, IsLast, IsLeft, WritesBack, changes_from, ended_places}
use Rattle.data_queue.proofs.LogLemmas.{change_back}
use Rattle.log_ring.proofs.Cells.{value_at}
use Rattle.log_ring.proofs.Positions.{Alike, alike_both, alike_more}
use Rattle.log_ring.proofs.Opens.{held, heads, tails, word_change}
use Rattle.log_ring.proofs.Lasts.{ended, filled, good_word, late, order, sound_there, whole, word_there}

-- Lists that stand one behind the other.

module _ {A : Type 0} where
  get_in : (xs : List A) (i : ℕ) (x : A) → i < length xs → get_or xs i x ≡ x → slice_get xs i ≡ Some x
  get_in xs i x lt e = slice_get-get_or xs i x lt ∙ ap (λ (y : A). Some y) e

  get_left : (xs ys : List A) (i : ℕ) (x : A) → slice_get xs i ≡ Some x → slice_get (xs ++ ys) i ≡ Some x
  get_left xs ys i x e =
      let lt = slice_get_within xs i x e in
      get_in (xs ++ ys) i x (omega (arith, lt, length-append xs ys)) (get_or_append_left xs ys x i lt ∙ get_or_from_slice_get xs i x x e)

  get_right : (xs ys : List A) (i j : ℕ) (x : A) → j ≡ length xs + i → slice_get ys i ≡ Some x → slice_get (xs ++ ys) j ≡ Some x
  get_right xs ys i j x at e =
      let lt = slice_get_within ys i x e in
      get_in (xs ++ ys) j x (omega (arith, lt, at, length-append xs ys)) (ap (λ (k : ℕ). get_or (xs ++ ys) k x) at ∙ (get_or-append-add xs ys i x ∙ get_or_from_slice_get ys i x x e))

  get_either : (xs ys : List A) (i : ℕ) (x : A) → slice_get (xs ++ ys) i ≡ Some x → (slice_get xs i ≡ Some x) ⊎ ((length xs ≤ i) × (slice_get ys (i - length xs) ≡ Some x))
  get_either xs ys i x e =
      let lt = slice_get_within (xs ++ ys) i x e in
      let here = get_or_from_slice_get (xs ++ ys) i x x e in
      dite (dec_le (length xs) i)
      (λ le. let at : i ≡ length xs + (i - length xs) = omega (arith, le) in
      inr (le, get_in ys (i - length xs) x (omega (arith, lt, le, length-append xs ys)) (sym (get_or-append-add xs ys (i - length xs) x) ∙ (ap (λ (k : ℕ). get_or (xs ++ ys) k x) (sym at) ∙ here))))
      (λ gt. inl (get_in xs i x (lt_of_not-le gt) (sym (get_or_append_left xs ys x i (lt_of_not-le gt)) ∙ here)))

  -- the list of a function's values
  abbrev pub listed : (ℕ → A) → ℕ → List A
  listed f zero = []
  listed f (suc k) = listed f k ++ f k ∷ []

  pub listed_length : (f : ℕ → A) (k : ℕ) → length (listed f k) ≡ k
  listed_length f zero = refl
  listed_length f (suc k) = length_push (listed f k) (f k) ∙ omega (arith, listed_length f k)

  pub listed_at : (f : ℕ → A) (k i : ℕ) (x : A) → slice_get (listed f k) i ≡ Some x → f i ≡ x
  listed_at f zero i x e = absurd (none-some x (sym (slice_get_past [] i (omega arith)) ∙ e))
  listed_at f (suc k) i x e = ⊎_elim (λ (old : slice_get (listed f k) i ≡ Some x). listed_at f k i x old)
      (λ (last : (i ≡ length (listed f k)) × (f k ≡ x)). ap f (last.0 ∙ listed_length f k) ∙ last.1) (slice_get-push_cases (listed f k) (f k) x i e)

  pub listed_there : (f : ℕ → A) (k i : ℕ) → i < k → slice_get (listed f k) i ≡ Some (f i)
  listed_there f k i lt =
      let x = get_or (listed f k) i (f i) in
      let there : slice_get (listed f k) i ≡ Some x = slice_get-get_or (listed f k) i (f i) (omega (arith, lt, listed_length f k)) in
      there ∙ ap (λ (y : A). Some y) (sym (listed_at f k i x there))

changes_are : (P : ℕ → Place) (a k : ℕ) → changes_from P a k ≡ listed (λ (i : ℕ). change_in (word_or (P (a + i)) 0)) k
changes_are P a zero = refl
changes_are P a (suc k) = ap (λ (l : List Change). l ++ change_in (word_or (P (a + k)) 0) ∷ []) (changes_are P a k)

words_are : (P : ℕ → Place) (a k : ℕ) → words_from P a k ≡ listed (λ (i : ℕ). word_or (P (a + i)) 0) k
words_are P a zero = refl
words_are P a (suc k) = ap (λ (l : List ℕ). l ++ word_or (P (a + k)) 0 ∷ []) (words_are P a k)

the : (A : Type 0) → A → A
the A a = a

-- where the mark is down, a queue that is left is whole
left_log : (n : ℕ) (q : QueueState) (list : List Change) (taken : ℕ) → length q.cells ≡ n → q.marked ≡ false → IsLeft n q list taken → IsLog q list taken
left_log n q list taken e down = subst (λ (k : ℕ). IsLeft k q list taken → IsLog q list taken) e (λ l. record {
  order = l.order;
  few = l.few;
  head = l.head;
  next = l.next;
  phase = l.phase;
  changes = l.changes;
  written = λ m c there late-on. l.written m c there late-on (λ up. absurd (true-false (sym up ∙ down)));
  unwritten = l.unwritten;
})
  where
    true-false : true ≡ false → ⊥
    true-false x = omega (arith, ap {B = ℕ} (λ b. cond b 1 0) x)

-- a list of which each cell has its entry
record Filled (n : ℕ) (q : QueueState) (list : List Change) (taken : ℕ) : Type 0 where
  pub order : q.waiting + taken ≡ length list
  pub few : q.waiting ≤ n
  pub head : q.head ≡ taken % n
  pub next : q.next ≡ length list % n
  pub phase : q.phase ≡ phase_of n (length list)
  pub changes : (m : ℕ) (c : Change) → slice_get list m ≡ Some c → IsChange c
  pub written : (m : ℕ) (c : Change) → slice_get list m ≡ Some c → length list ≤ m + n → slice_index_or q.cells (m % n) [] ≡ change_bytes c (phase_of n m)
  pub unwritten : (m : ℕ) → length list ≤ m → m < n → slice_index_or q.cells m [] ≡ replicate 32 0

left_has : (n : ℕ) (q : QueueState) (list : List Change) (taken : ℕ) → length q.cells ≡ n → Filled n q list taken → HasLog q
left_has n q list taken e = subst (λ (k : ℕ). Filled k q list taken → HasLog q) e (λ l. record {
  posted = list;
  taken = taken;
  is = record { order = l.order; few = l.few; head = l.head; next = l.next; phase = l.phase; changes = l.changes; written = l.written; unwritten = l.unwritten };
})

mark_is : (k m : ℕ) → m ≡ mark_for k → (m == 1) ≡ nat_lt 0 k
mark_is zero m e = ap (λ (x : ℕ). x == 1) e
mark_is (suc k) m e = ap (λ (x : ℕ). x == 1) e ∙ sym (lt-ltb 0 (suc k) (omega arith))

module _ (q : QueueState) (h t : ℕ) (start : ℕ → ℕ) (v : View) (ws : List ℕ) (o : IsOpened q (length q.cells) h t start) (f : Fits (length q.cells) h t) (w : Whole (length q.cells) h t start IsEntryWord v ws)
    (last : ℕ) (is : IsLast ws (length q.cells) (get_or ws 1 0) (get_or ws 0 0) last) (cells : List (List ℕ)) (long : length cells ≡ length q.cells) (back : WritesBack ws t last q.cells cells) where
  abbrev n : ℕ
  n = length q.cells

  abbrev P : ℕ → Place
  P = w.places

  abbrev posts : List Change
  posts = changes_from P t (last - t)

  posts_length : length posts ≡ last - t
  posts_length = ap length (changes_are P t (last - t)) ∙ listed_length (λ (i : ℕ). change_in (word_or (P (t + i)) 0)) (last - t)

  post_there : (i : ℕ) → i < last - t → slice_get posts i ≡ Some (change_in (word_or (P (t + i)) 0))
  post_there i lt = ap (λ (l : List Change). slice_get l i) (changes_are P t (last - t)) ∙ listed_there (λ (i : ℕ). change_in (word_or (P (t + i)) 0)) (last - t) i lt

  post_at : (i : ℕ) (c : Change) → slice_get posts i ≡ Some c → change_in (word_or (P (t + i)) 0) ≡ c
  post_at i c e = listed_at (λ (i : ℕ). change_in (word_or (P (t + i)) 0)) (last - t) i c (ap (λ (l : List Change). slice_get l i) (sym (changes_are P t (last - t))) ∙ e)

  from-order : t ≤ last
  from-order = order n h t start v ws f w last is

  taken_length : length v.taken ≡ get_or ws 1 0 - h
  taken_length = ap length (w.taken ∙ words_are P h (get_or ws 1 0 - h)) ∙ listed_length (λ (i : ℕ). word_or (P (h + i)) 0) (get_or ws 1 0 - h)

  module _ (list : List Change) (taken : ℕ) (log : IsLog q list taken) where
    abbrev all : List Change
    all = list ++ posts

    all_length : length all ≡ length list + (last - t)
    all_length = length-append list posts ∙ ap (λ (k : ℕ). length list + k) posts_length

    -- a position from t on, and its number in the list
    alike : (i : ℕ) → Alike n (t + i) (length list + i)
    alike i = alike_more n t (length list) i f.some (tails q h t start list taken o f log)

    lasts : Alike n last (length all)
    lasts = alike_both (omega (arith, from-order)) (sym all_length) (alike (last - t))

    fronts : Alike n (get_or ws 1 0) (taken + length v.taken)
    fronts = alike_both (omega (arith, w.holds.head.0)) (ap (λ (k : ℕ). taken + k) (sym taken_length)) (alike_more n h taken (get_or ws 1 0 - h) f.some (heads q h t start list taken o f log))

    -- the cell of an entry that was held is not written back
    kept_cell : (m : ℕ) → m < length list → length all ≤ m + n → get_or cells (m % n) [] ≡ get_or q.cells (m % n) []
    kept_cell m lt near = back.others (m % n) (λ p le less e.
        let i : ℕ = p - t in
        let at : t + i ≡ p = omega (arith, le) in
        let same : p % n ≡ (length list + i) % n = ap (λ (k : ℕ). k % n) (sym at) ∙ (alike i).place in
        mods-apart n m (length list + i) (omega (arith, lt)) (omega (arith, near, all_length, less, le)) (sym (sym same ∙ e)))

    written_old : (m : ℕ) (c : Change) → slice_get list m ≡ Some c → length all ≤ m + n → get_or cells (m % n) [] ≡ change_bytes c (phase_of n m)
    written_old m c there near = kept_cell m (slice_get_within list m c there) near ∙ log.written m c there (omega (arith, near, all_length))

    written_new : (i : ℕ) → i < last - t → last ≤ t + i + n → (get_or ws 1 0 ≤ t + i) ⊎ (last ≡ get_or ws 0 0)
        → get_or cells ((length list + i) % n) [] ≡ change_bytes (change_in (word_or (P (t + i)) 0)) (phase_of n (length list + i))
    written_new i lt near which =
        let p : ℕ = t + i in
        let less : p < last = omega (arith, lt) in
        let word = word_there n h t start v ws f w last is p less near which in
        ap (λ (k : ℕ). get_or cells k []) (sym (alike i).place)
        ∙ (back.written p (omega (arith, near)) less ∙ (ap (λ (k : ℕ). change_bytes (change_in k) (phase_of n p)) word ∙ ap (change_bytes (change_in (word_or (P p) 0))) (alike i).phase))

    -- which positions have their own words in their cells
    which_word : (marked : ℕ) → marked ≡ mark_for (length v.lost) → (m i : ℕ) → m ≡ length list + i → ((marked == 1) ≡ true → taken + length v.taken ≤ m) → (get_or ws 1 0 ≤ t + i) ⊎ (last ≡ get_or ws 0 0)
    which_word marked e m i at late-on = none v.lost refl
      where
        none : (lost : List Lost) → v.lost ≡ lost → (get_or ws 1 0 ≤ t + i) ⊎ (last ≡ get_or ws 0 0)
        none [] same = inr (whole n h t start v ws f w last is same)
        none (x ∷ xs) same =
            let up = late-on (ap (λ (k : ℕ). k == 1) (e ∙ ap (λ (l : List Lost). mark_for (length l)) same)) in
            inl (omega (arith, up, at, taken_length, log.order, o.head_is, w.holds.head.0))

    left : IsLeft n (queue_of (ended_places n (get_or ws 1 0) last (get_or ws 2 0)) cells) all (taken + length v.taken)
    left = record {
      order = omega (arith, all_length, taken_length, log.order, o.head_is, w.holds.head.0, from-order, is.from);
      few = omega (arith, is.near);
      head = fronts.place;
      next = lasts.place;
      phase = lasts.phase;
      changes = λ m c there. ⊎_elim (λ (old : slice_get list m ≡ Some c). log.changes m c old)
          (λ (new : (length list ≤ m) × (slice_get posts (m - length list) ≡ Some c)).
          let i : ℕ = m - length list in
          let lt : i < last - t = omega (arith, slice_get_within posts i c new.1, posts_length) in
          subst IsChange (post_at i c new.1) (good_word n h t start v ws f w last is (t + i) (omega (arith, f.order)) (omega (arith, lt))))
          (get_either list posts m c there);
      written = λ m c there near up. ⊎_elim (λ (old : slice_get list m ≡ Some c). written_old m c old near)
          (λ (new : (length list ≤ m) × (slice_get posts (m - length list) ≡ Some c)).
          let i : ℕ = m - length list in
          let at : m ≡ length list + i = omega (arith, new.0) in
          let lt : i < last - t = omega (arith, slice_get_within posts i c new.1, posts_length) in
          subst (λ (k : ℕ). get_or cells (k % n) [] ≡ change_bytes c (phase_of n k)) (sym at)
          (written_new i lt (omega (arith, near, all_length, new.0)) (which_word (get_or ws 2 0) w.marked m i at up) ∙ ap (λ (x : Change). change_bytes x (phase_of n (length list + i))) (post_at i c new.1)))
          (get_either list posts m c there);
      unwritten = λ m late-on within. back.others m (λ p le less e.
          let i : ℕ = p - t in
          let at : t + i ≡ p = omega (arith, le) in
          let place : p % n ≡ length list + i = ap (λ (k : ℕ). k % n) (sym at) ∙ ((alike i).place ∙ mod-eq_of_lt (omega (arith, late-on, all_length, within, less, le))) in
          omega (arith, place, e, late-on, all_length, less, le)) ∙ log.unwritten m (omega (arith, late-on, all_length)) within;
    }

    are_taken : AreTaken all taken v.taken
    are_taken i x e =
        let listed-there : slice_get (listed (λ (i : ℕ). word_or (P (h + i)) 0) (get_or ws 1 0 - h)) i ≡ Some x = ap (λ (l : List ℕ). slice_get l i) (sym (w.taken ∙ words_are P h (get_or ws 1 0 - h))) ∙ e in
        let lt : i < get_or ws 1 0 - h = omega (arith, slice_get_within v.taken i x e, taken_length) in
        let word : word_or (P (h + i)) 0 ≡ x = listed_at (λ (i : ℕ). word_or (P (h + i)) 0) (get_or ws 1 0 - h) i x listed-there in
        dite (dec_le t (h + i))
        (λ le. let j : ℕ = h + i - t in
        let at : t + j ≡ h + i = omega (arith, le) in
        get_right list posts j (taken + i) (change_in x) (omega (arith, at, log.order, o.head_is))
        (post_there j (omega (arith, at, lt, is.from)) ∙ ap (λ (y : Change). Some y) (ap (λ (k : ℕ). change_in (word_or (P k) 0)) at ∙ ap change_in word)))
        (λ gt.
        let less = lt_of_not-le gt in
        let g = held q h t start list taken o f log (h + i) (taken + i) less (omega (arith, f.near)) (omega (arith, log.order, o.head_is)) in
        let was : word_or (P (h + i)) 0 ≡ start ((h + i) % n) = ap (λ (z : Place). word_or z 0) (w.holds.before (h + i) less) in
        let change : g.change ≡ change_in x = sym (ap change_in (sym word ∙ (was ∙ g.word)) ∙ word_change g.change (phase_of n (h + i)) g.is) in
        get_left list posts (taken + i) (change_in x) (g.there ∙ ap (λ (y : Change). Some y) change))

  -- a cell has the entry of a position
  abbrev Cell : ℕ → Type 0
  Cell p = (c : Change) × IsChange c × (get_or cells (p % n) [] ≡ change_bytes c (phase_of n p))

  -- the changes that the cells have, at the positions of the last turn
  abbrev seen : ℕ → Change
  seen p = cond (eqb (last - n - p) 0) (change_of (get_or cells (p % n) [])) (record { span = record { first = 0; count = 1 } })

  seen_is : (p : ℕ) → last ≤ p + n → (e : Cell p) → seen p ≡ e.0
  seen_is p near e = ap (λ (b : Bool). cond b (change_of (get_or cells (p % n) [])) (record { span = record { first = 0; count = 1 } })) (eq-eqb (last - n - p) 0 (omega (arith, near)))
      ∙ (ap change_of e.2 ∙ change_back e.0 (phase_of n p) e.1)

  seen_sound : (p : ℕ) → (last ≤ p + n → Cell p) → IsChange (seen p)
  seen_sound p there = dite (dec_le last (p + n))
      (λ le. subst IsChange (sym (seen_is p le (there le))) (there le).1)
      (λ gt. subst IsChange (sym (ap (λ (b : Bool). cond b (change_of (get_or cells (p % n) [])) (record { span = record { first = 0; count = 1 } })) (ne_eqb (last - n - p) 0 (λ e. gt (omega (arith, e))))))
      (record { first = omega arith; some = omega arith; few = omega arith }))

  -- where a turn lies between the head at the start and the last position, each cell has an entry
  each_cell : HasLog q → h + n ≤ last → (p : ℕ) → p < last → last ≤ p + n → Cell p
  each_cell has far p lt near = dite (dec_le t p)
      (λ le. (change_in (get_or ws (p % n + 3) 0), sound_there n h t start v ws f w last is p (omega (arith, le, f.order)) lt near, back.written p (omega (arith, le, near)) lt))
      (λ gt.
      let m : ℕ = has.taken + (p - h) in
      let less = lt_of_not-le gt in
      let log = has.is in
      let g = held q h t start has.posted has.taken o f log p m less (omega (arith, far, near, f.near)) (omega (arith, far, near, log.order, o.head_is)) in
      let cell = written_old has.posted has.taken log m g.change g.there (omega (arith, all_length has.posted has.taken log, far, near, from-order, log.order, o.head_is)) in
      (g.change, g.is, ap (λ (k : ℕ). get_or cells k []) g.alike.place ∙ (cell ∙ ap (change_bytes g.change) (sym g.alike.phase))))

  abbrev result : QueueState
  result = queue_of (ended_places n (get_or ws 1 0) last (get_or ws 2 0)) cells

  plain : (list : List Change) (taken : ℕ) → IsLog q list taken → v.lost ≡ [] → IsLog result (list ++ posts) (taken + length v.taken)
  plain list taken log none = left_log n result (list ++ posts) (taken + length v.taken) long (ap (λ (k : ℕ). k == 1) (w.marked ∙ ap (λ (l : List Lost). mark_for (length l)) none)) (left list taken log)

  -- a queue whose mark is up stands for some list too
  marked_log : HasLog q → h + n ≤ last → HasLog result
  marked_log has far = left_has n result (listed seen last) (get_or ws 1 0) long (record {
    order = omega (arith, listed_length seen last, is.from);
    few = omega (arith, is.near);
    head = refl;
    next = ap (λ (k : ℕ). k % n) (sym (listed_length seen last));
    phase = ap (phase_of n) (sym (listed_length seen last));
    changes = λ m c there. let lt : m < last = omega (arith, slice_get_within (listed seen last) m c there, listed_length seen last) in subst IsChange (listed_at seen last m c there) (seen_sound m (each_cell has far m lt));
    written = λ m c there near.
        let lt : m < last = omega (arith, slice_get_within (listed seen last) m c there, listed_length seen last) in
        let late-on : last ≤ m + n = omega (arith, near, listed_length seen last) in
        let e = each_cell has far m lt late-on in
        e.2 ∙ ap (λ (x : Change). change_bytes x (phase_of n m)) (sym (seen_is m late-on e) ∙ listed_at seen last m c there);
    unwritten = λ m late-on within. absurd (omega (arith, late-on, within, far, listed_length seen last));
  })

  pub has_log : HasLog q → HasLog result
  has_log has = dite (dec_le 1 (length v.lost))
      (λ le. marked_log has (late n h t start v ws f w last is (ended n h t start v ws f w last is (omega (arith, le)))))
      (λ gt. record { posted = has.posted ++ posts; taken = has.taken + length v.taken; is = plain has.posted has.taken has.is (empty_list v.lost (omega (arith, lt_of_not-le gt))) })

  pub has_closed : HasClosed q h t v result
  has_closed = record {
    places = P;
    tail = get_or ws 0 0;
    last = last;
    order = (from-order, is.below);
    posted = w.posted;
    owned = λ p from lt. let x : Place = P p in let at = published_is x (filled n h t start v ws f w last is p lt) in (owner x, word_or x 0, at, (w.holds.sound p (owner x) (word_or x 0) at (omega (arith, from, f.order))).1);
    lost = w.lost;
    marked = mark_is (length v.lost) (get_or ws 2 0) w.marked;
    whole = whole n h t start v ws f w last is;
    ended = ended n h t start v ws f w last is;
    live = refl;
    size = long;
    log = λ list taken log. (left list taken log, are_taken list taken log);
    plain = plain;
  }

-- what a close answers, from what its steps found
pub closes : (q : QueueState) (n h t : ℕ) (start : ℕ → ℕ) (v : View) (ws : List ℕ) (places : Places) (size first head tail mark last : ℕ) (was cells : List (List ℕ))
    → IsOpened q n h t start → Fits n h t → Whole n h t start IsEntryWord v ws → queue_of places was ≡ q → size ≡ length was → first ≡ places.next + size * cond places.phase 2 3
    → get_elem? ws 0 ≡ some tail → get_elem? ws 1 ≡ some head → get_elem? ws 2 ≡ some mark → IsLast ws size head tail last → WritesBack ws first last was cells → length cells ≡ length was
    → (new : Places) → new ≡ ended_places size head last mark → (HasLog q → HasLog (queue_of new cells)) × HasClosed q h t v (queue_of new cells)
closes q n h t start v ws places size first head tail mark last was cells o f w whole-is size-is first-is tail-at head-at mark-at is back long new new-is =
    let was-is : was ≡ q.cells = ap (λ (x : QueueState). x.cells) whole-is in
    let size-q : size ≡ length q.cells = size-is ∙ ap length was-is in
    let e = o.cells_are in
    let tail-is : get_or ws 0 0 ≡ tail = value_at ws 0 tail tail-at in
    let head-is : get_or ws 1 0 ≡ head = value_at ws 1 head head-at in
    let mark-is : get_or ws 2 0 ≡ mark = value_at ws 2 mark mark-at in
    let first-q : first ≡ t = first-is ∙ (ap (λ (k : ℕ). places.next + k * cond places.phase 2 3) size-q ∙ (ap (λ (x : QueueState). x.next + length q.cells * cond x.phase 2 3) whole-is ∙ sym o.tail_is)) in
    let is-q : IsLast ws (length q.cells) (get_or ws 1 0) (get_or ws 0 0) last = subst (λ (k : ℕ). IsLast ws (length q.cells) k (get_or ws 0 0) last) (sym head-is)
    (subst (λ (k : ℕ). IsLast ws (length q.cells) head k last) (sym tail-is) (subst (λ (k : ℕ). IsLast ws k head tail last) size-q is)) in
    let back-q : WritesBack ws t last q.cells cells = subst (λ (l : List (List ℕ)). WritesBack ws t last l cells) was-is (subst (λ (k : ℕ). WritesBack ws k last was cells) first-q back) in
    let o-q : IsOpened q (length q.cells) h t start = subst (λ (k : ℕ). IsOpened q k h t start) e o in
    let f-q : Fits (length q.cells) h t = subst (λ (k : ℕ). Fits k h t) e f in
    let w-q : Whole (length q.cells) h t start IsEntryWord v ws = subst (λ (k : ℕ). Whole k h t start IsEntryWord v ws) e w in
    let long-q : length cells ≡ length q.cells = long ∙ ap length was-is in
    let new-q : ended_places (length q.cells) (get_or ws 1 0) last (get_or ws 2 0) ≡ new = ap (λ (k : ℕ). ended_places k (get_or ws 1 0) last (get_or ws 2 0)) (sym size-q)
    ∙ (ap (λ (k : ℕ). ended_places size k last (get_or ws 2 0)) head-is ∙ (ap (ended_places size head last) mark-is ∙ sym new-is)) in
    subst (λ (p : Places). (HasLog q → HasLog (queue_of p cells)) × HasClosed q h t v (queue_of p cells)) new-q
    (has_log q h t start v ws o-q f-q w-q last is-q cells long-q back-q, has_closed q h t start v ws o-q f-q w-q last is-q cells long-q back-q)

-- the places of what is left agree
pub ended_sound : (n cells head last mark : ℕ) (p : Places) → cells ≡ n → 2 ≤ n → n ≤ 65536 → head ≤ last → last ≤ head + cells → p ≡ ended_places cells head last mark → ArePlaces n p
ended_sound n cells head last mark p same some-cells few from near is = subst (λ (k : ℕ). ArePlaces k p) same (subst (ArePlaces cells) (sym is) (record {
  some = omega (arith, same, some-cells);
  few = omega (arith, same, few);
  head = mod-lt head (omega (arith, same, some-cells));
  next = mod-lt last (omega (arith, same, some-cells));
  waiting = omega (arith, near);
  agree = ap (λ (k : ℕ). k % cells) (the (last ≡ head + (last - head)) (omega (arith, from))) ∙ sym (mod-add-mod head cells (last - head));
}))

-- every seat was joined, by the first seat's view
pub ends_by : {S : Type 0} (n h t : ℕ) (start : ℕ → ℕ) (id : ℕ) (u v : View) (ws : List ℕ) (xs : List S) → id ≡ 0 → v ≡ u → v.pending ≡ 0 → AreJoined v
    → Final (Seen (IsLogTable n h t start IsEntryWord) id u) ws xs → Whole n h t start IsEntryWord v ws
ends_by n h t start id u v ws xs zeroth same idle joined f = ends n h t start IsEntryWord v ws xs idle joined
    (subst (λ (x : View). Final (Seen (IsLogTable n h t start IsEntryWord) 0 x) ws xs) (sym same) (subst (λ (k : ℕ). Final (Seen (IsLogTable n h t start IsEntryWord) k u) ws xs) zeroth f))
