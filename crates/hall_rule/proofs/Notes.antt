-- A busy shelf leaves a note.
use Rattle.std.proofs.Common.{◌≡◌, ◌≢◌, ℕ, zero, suc, ◌+◌, ◌/◌, ◌%◌, ◌-◌, ◌<◌, ◌≤◌, List, [], ◌∷◌, ◌++◌, length, get_or, refl, ap, sym, ◌∙◌, subst, arith, inl, inr, ⊎_elim, ◌⊎◌}
use mathlib.Core.Logic.{dite}
use native.Mathlib.Decide.{ℕ_discrete}
use Rattle.hall_rule.specs.Words.{Small, pack, word_for, count, counts}
use Rattle.hall_rule.specs.Notes.{NoneAbove, SomeBelow, Among, Past, Why, IsNote, IsBusy, BusyBy, Last, AllAre, Noted, Outdated, digit}
use Rattle.hall_rule.proofs.Packs.{digit-pack}
use Rattle.hall_rule.proofs.Lists.{put, put-same, put-other, put-all}
use Rattle.hall_rule.specs.declared.item.Item.{Item}
use Rattle.hall_rule.specs.declared.view.Lock.{Lock}
use Rattle.hall_rule.specs.declared.view.Note.{Note}

pub above_itself : (cs : List ℕ) → NoneAbove cs cs
above_itself [] = tt
above_itself (c ∷ cs) = (omega arith, above_itself cs)

pub above_more : (cs ds es : List ℕ) → NoneAbove cs ds → NoneAbove ds es → NoneAbove cs es
above_more [] ds es p q = tt
above_more (c ∷ cs) [] es p q = absurd p
above_more (c ∷ cs) (d ∷ ds) [] p q = absurd q
above_more (c ∷ cs) (d ∷ ds) (e ∷ es) p q = (omega (arith, p.0, q.0), above_more cs ds es p.1 q.1)

-- counts that are none above and not the same have one below
pub one_below : (cs ds : List ℕ) → length cs ≡ length ds → NoneAbove cs ds → pack cs ≢ pack ds → SomeBelow cs ds
one_below [] [] l p ne = absurd (ne refl)
one_below [] (d ∷ ds) l p ne = absurd (omega (arith, l))
one_below (c ∷ cs) [] l p ne = absurd p
one_below (c ∷ cs) (d ∷ ds) l p ne = dite (ℕ_discrete c d)
    (λ e. inr (one_below cs ds (omega (arith, l)) p.1 (λ q. ne (omega (arith, e, q)))))
    (λ n. inl (omega (arith, n, p.0)))

-- a word seen stays one of the past while counts grow
pub past_more : (w : ℕ) (now more : List ℕ) → Past w now → NoneAbove now more → length now ≡ length more → Past w more
past_more w now more p q l = record { holder = p.holder; before = p.before; is = p.is; small = p.small; le = above_more p.before now more p.le q; long = p.long ∙ l }

-- a note stays one while locks are added
pub note_kept : (locks more : ℕ → List Lock) (h : ℕ) (x : Note) → ((k i w : ℕ) → Among i w (locks k) → Among i w (more k)) → IsNote locks h x → IsNote more h x
note_kept locks more h x grows is = record { after = is.after; holder = is.holder; few = is.few; small = is.small; read = is.read; past = is.past; why = keep is.holder is.why } where
  keep : (b : ℕ) → Why locks h x.shelf x.read is.past.before is.after b → Why more h x.shelf x.read is.past.before is.after b
  keep zero w = w
  keep (suc b) w = (w.0, grows (suc b) x.shelf x.read w.1)

among_last : (i w : ℕ) (l : List Lock) → Among i w (l ++ record { shelf = i; word = w } ∷ [])
among_last i w [] = inl (refl, refl)
among_last i w (x ∷ xs) = inr (among_last i w xs)

pub last_among : (i w : ℕ) (l : List Lock) → Last i w l → Among i w l
last_among i w l t = subst (Among i w) (sym t.1) (among_last i w t.0)

among_more : (i w : ℕ) (l m : List Lock) → Among i w l → Among i w (l ++ m)
among_more i w [] m a = absurd a
among_more i w (x ∷ xs) m a = ⊎_elim (λ (t : (x.shelf ≡ i) × (x.word ≡ w)). inl t) (λ (t : Among i w xs). inr (among_more i w xs m t)) a

pub all_map : (P Q : Note → Type 0) (xs : List Note) → ((x : Note) → P x → Q x) → AllAre P xs → AllAre Q xs
all_map P Q [] f a = tt
all_map P Q (x ∷ xs) f a = (f x a.0, all_map P Q xs f a.1)

all_append : (P : Note → Type 0) (xs : List Note) (x : Note) → AllAre P xs → P x → AllAre P (xs ++ x ∷ [])
all_append P [] x a p = (p, tt)
all_append P (y ∷ ys) x a p = (a.0, all_append P ys x a.1 p)

-- What each kind of step does to locks and notes, over plain functions.
module _ (n : ℕ) (word holders : ℕ → ℕ) (counted : ℕ → List ℕ) (locks : ℕ → List Lock) (notes : ℕ → List Note) (sight : ℕ → ℕ × ℕ) (o : Noted n word holders counted locks notes sight) where
  unseen : (h : ℕ) → (k r : ℕ) → r < n → (put sight h (0, 0) k).0 ≡ r + 1 → Past (put sight h (0, 0) k).1 (counted r)
  unseen h k r l = put-all (λ (a : ℕ) (z : ℕ × ℕ). z.0 ≡ r + 1 → Past z.1 (counted r)) sight h (0, 0) k (λ e. absurd (omega (arith, e))) (λ _. o.saw k r l)

  -- kind 3
  pub after_load : (h i : ℕ) → Past (word i) (counted i) → Noted n word holders counted locks notes (put sight h (i + 1, word i))
  after_load h i past = record {
    held = o.held;
    saw = λ k r l. put-all (λ (a : ℕ) (z : ℕ × ℕ). z.0 ≡ r + 1 → Past z.1 (counted r)) sight h (i + 1, word i) k (λ e. let same : i ≡ r = omega (arith, e) in subst (λ (x : ℕ). Past (word i) (counted x)) same past) (λ _. o.saw k r l);
    are = o.are;
  }

  -- kind 4, where it locks the shelf i by the word w
  pub after_lock : (h i w : ℕ) → ((r : ℕ) → r < n → holders r ≢ h) → Noted n (put word i w) (put holders i h) counted (put locks h (locks h ++ record { shelf = i; word = w } ∷ [])) notes (put sight h (0, 0))
  after_lock h i w free =
      let l : List Lock = locks h ++ record { shelf = i; word = w } ∷ [] in
      record {
        held = λ r near. put-all (λ (k z : ℕ). z ≢ 0 → Last k (put word i w k) (put locks h l z)) holders i h r
            (λ _. (locks h, put-same locks h l ∙ ap (λ (z : ℕ). locks h ++ record { shelf = i; word = z } ∷ []) (sym (put-same word i w))))
            (λ ne on. let t = o.held r near on in (t.0, put-other locks h (holders r) l (free r near) ∙ (t.1 ∙ ap (λ (z : ℕ). t.0 ++ record { shelf = r; word = z } ∷ []) (sym (put-other word i r w ne)))));
        saw = unseen h;
        are = λ k. all_map (IsNote locks k) (IsNote (put locks h l) k) (notes k) (λ x is. note_kept locks (put locks h l) k x (λ a r v m. put-all (λ (b : ℕ) (z : List Lock). Among r v (locks b) → Among r v z) locks h l a (λ q. among_more r v (locks h) (record { shelf = i; word = w } ∷ []) q) (λ _ q. q) m) is) (o.are k);
      }

  -- kind 4, where it leaves a note
  pub after_busy : (h : ℕ) (x : Note) → IsNote locks h x → Noted n word holders counted locks (put notes h (notes h ++ x ∷ [])) (put sight h (0, 0))
  after_busy h x is = record {
    held = o.held;
    saw = unseen h;
    are = λ k. put-all (λ (a : ℕ) (z : List Note). AllAre (IsNote locks a) z) notes h (notes h ++ x ∷ []) k (all_append (IsNote locks h) (notes h) x (o.are h) is) (λ _. o.are k);
  }

  -- a seat that is new has seen nothing
  pub after_split : (h : ℕ) → Noted n word holders counted locks notes (put sight h (0, 0))
  after_split h = record { held = o.held; saw = unseen h; are = o.are }

  -- kinds 9 and 10: the shelf i comes back with counts that are no lower
  pub after_release : (i new : ℕ) (more : List ℕ) → NoneAbove (counted i) more → length (counted i) ≡ length more → Noted n (put word i new) (put holders i 0) (put counted i more) locks notes sight
  after_release i new more up long = record {
    held = λ r near. put-all (λ (k z : ℕ). z ≢ 0 → Last k (put word i new k) (locks z)) holders i 0 r (λ no. absurd (no refl))
        (λ ne on. let t = o.held r near on in (t.0, t.1 ∙ ap (λ (z : ℕ). t.0 ++ record { shelf = r; word = z } ∷ []) (sym (put-other word i r new ne))));
    saw = λ k r l e. put-all (λ (a : ℕ) (z : List ℕ). Past (sight k).1 (counted a) → Past (sight k).1 z) counted i more r (λ p. past_more (sight k).1 (counted i) more p up long) (λ _ p. p) (o.saw k r l e);
    are = o.are;
  }

-- the same of words, holders and counts that agree, as those of a table after a step do
pub noted_same : (n : ℕ) (word word' holders : ℕ → ℕ) (counted counted' : ℕ → List ℕ) (locks : ℕ → List Lock) (notes : ℕ → List Note) (sight : ℕ → ℕ × ℕ) → ((i : ℕ) → i < n → word i ≡ word' i) → ((i : ℕ) → i < n → counted i ≡ counted' i)
    → Noted n word holders counted locks notes sight → Noted n word' holders counted' locks notes sight
noted_same n word word' holders counted counted' locks notes sight a b o = record {
  held = λ i l on. subst (λ (w : ℕ). Last i w (locks (holders i))) (a i l) (o.held i l on);
  saw = λ h i l e. subst (Past (sight h).1) (b i l) (o.saw h i l e);
  are = o.are;
}

-- the same where the words agree
pub outdated_same : (n : ℕ) (word word' holders : ℕ → ℕ) (locks : ℕ → List Lock) → ((i : ℕ) → i < n → word i ≡ word' i) → Outdated n word holders locks → Outdated n word' holders locks
outdated_same n word word' holders locks a o = record { lower = λ h i w p q l m. subst (λ (z : ℕ). ((w ≡ z) × (holders i ≡ h)) ⊎ (digit (w / 16) (h - 1) < digit (z / 16) (h - 1))) (a i l) (o.lower h i w p q l m) }

-- the counts of a word at a lane's place
pub counts_at : (i h : ℕ) (f : ℕ → List Item) → 0 < h → h < 9 → get_or (counts i f) (h - 1) 0 ≡ count i f h
counts_at i zero f a b = absurd (omega arith)
counts_at i (suc zero) f a b = refl
counts_at i (suc (suc zero)) f a b = refl
counts_at i (suc (suc (suc zero))) f a b = refl
counts_at i (suc (suc (suc (suc zero)))) f a b = refl
counts_at i (suc (suc (suc (suc (suc zero))))) f a b = refl
counts_at i (suc (suc (suc (suc (suc (suc zero)))))) f a b = refl
counts_at i (suc (suc (suc (suc (suc (suc (suc zero))))))) f a b = refl
counts_at i (suc (suc (suc (suc (suc (suc (suc (suc zero)))))))) f a b = refl
counts_at i (suc (suc (suc (suc (suc (suc (suc (suc (suc k))))))))) f a b = absurd (omega arith)

pub small_counts : (i : ℕ) (f : ℕ → List Item) → ((h : ℕ) → h < 9 → count i f h < 128) → Small (counts i f)
small_counts i f e = (e 1 (omega arith), (e 2 (omega arith), (e 3 (omega arith), (e 4 (omega arith), (e 5 (omega arith), (e 6 (omega arith), (e 7 (omega arith), (e 8 (omega arith), tt))))))))

pub digit_of : (h k : ℕ) (cs : List ℕ) → h < 16 → Small cs → digit (word_for h cs / 16) k ≡ get_or cs k 0
digit_of h k cs l s = let e : word_for h cs / 16 ≡ pack cs = omega (arith, l) in ap (λ (w : ℕ). digit w k) e ∙ digit-pack cs k s

pub above_at : (cs ds : List ℕ) (k : ℕ) → NoneAbove cs ds → get_or cs k 0 ≤ get_or ds k 0
above_at [] ds k a = omega arith
above_at (c ∷ cs) [] k a = absurd a
above_at (c ∷ cs) (d ∷ ds) zero a = a.0
above_at (c ∷ cs) (d ∷ ds) (suc k) a = above_at cs ds k a.1

-- counts grow with each lane's items
pub counts_grow : (i : ℕ) (f g : ℕ → List Item) → ((h : ℕ) → count i f h ≤ count i g h) → NoneAbove (counts i f) (counts i g)
counts_grow i f g e = (e 1, (e 2, (e 3, (e 4, (e 5, (e 6, (e 7, (e 8, tt))))))))

among_one : (P : Type 0) (i w r v : ℕ) (l : List Lock) → Among r v (l ++ record { shelf = i; word = w } ∷ []) → (Among r v l → P) → (i ≡ r → w ≡ v → P) → P
among_one P i w r v [] a f g = ⊎_elim (λ (t : (i ≡ r) × (w ≡ v)). g t.0 t.1) (λ (t : ⊥). absurd t) a
among_one P i w r v (x ∷ xs) a f g = ⊎_elim (λ (t : (x.shelf ≡ r) × (x.word ≡ v)). f (inl t)) (λ (t : Among r v (xs ++ record { shelf = i; word = w } ∷ [])). among_one P i w r v xs t (λ q. f (inr q)) g) a

module _ (n : ℕ) (word holders : ℕ → ℕ) (locks : ℕ → List Lock) (o : Outdated n word holders locks) where
  abbrev Told : (ℕ → ℕ) → (ℕ → ℕ) → ℕ → ℕ → ℕ → Type 0
  Told words hs h i w = ((w ≡ words i) × (hs i ≡ h)) ⊎ (digit (w / 16) (h - 1) < digit (words i / 16) (h - 1))

  -- a shelf that is locked keeps its counts
  pub outdated_lock : (h i w : ℕ) → holders i ≡ 0 → w / 16 ≡ word i / 16 → Outdated n (put word i w) (put holders i h) (put locks h (locks h ++ record { shelf = i; word = w } ∷ []))
  outdated_lock h i w free same =
      let old : (k r v : ℕ) → 0 < k → k < 9 → r < n → Among r v (locks k) → Told (put word i w) (put holders i h) k r v = λ k r v p q l a. dite (ℕ_discrete r i)
      (λ e. subst (λ (x : ℕ). Told (put word i w) (put holders i h) k x v) (sym e) (⊎_elim (λ (t : (v ≡ word i) × (holders i ≡ k)). absurd (omega (arith, p, free, t.1)))
      (λ (t : digit (v / 16) (k - 1) < digit (word i / 16) (k - 1)). inr (subst (λ (z : ℕ). digit (v / 16) (k - 1) < digit z (k - 1)) (sym (ap (λ (z : ℕ). z / 16) (put-same word i w) ∙ same)) t)) (subst (λ (x : ℕ). Told word holders k x v) e (o.lower k r v p q l a))))
      (λ ne. subst (λ (z : ℕ). ((v ≡ z) × (put holders i h r ≡ k)) ⊎ (digit (v / 16) (k - 1) < digit (z / 16) (k - 1))) (sym (put-other word i r w ne)) (subst (λ (z : ℕ). ((v ≡ word r) × (z ≡ k)) ⊎ (digit (v / 16) (k - 1) < digit (word r / 16) (k - 1))) (sym (put-other holders i r h ne)) (o.lower k r v p q l a))) in
      record {
        lower = λ k r v p q l. put-all (λ (a : ℕ) (z : List Lock). 0 < a → a < 9 → Among r v z → Told (put word i w) (put holders i h) a r v) locks h (locks h ++ record { shelf = i; word = w } ∷ []) k
            (λ p q m. among_one (Told (put word i w) (put holders i h) h r v) i w r v (locks h) m (λ a. old h r v p q l a)
            (λ x y. inl (sym y ∙ (sym (put-same word i w) ∙ ap (put word i w) x), ap (put holders i h) (sym x) ∙ put-same holders i h)))
            (λ ne p q m. old k r v p q l m) p q;
      }

  -- a shelf that comes back has a count more of the lane that had it, and no count less
  pub outdated_release : (i new : ℕ) → ((k : ℕ) → digit (word i / 16) k ≤ digit (new / 16) k) → (holders i < 9 → digit (word i / 16) (holders i - 1) < digit (new / 16) (holders i - 1)) → Outdated n (put word i new) (put holders i 0) locks
  outdated_release i new up one = record {
    lower = λ k r v p q l a. dite (ℕ_discrete r i)
        (λ e. subst (λ (x : ℕ). Told (put word i new) (put holders i 0) k x v) (sym e) (subst (λ (z : ℕ). ((v ≡ z) × (put holders i 0 i ≡ k)) ⊎ (digit (v / 16) (k - 1) < digit (z / 16) (k - 1))) (sym (put-same word i new))
        (⊎_elim (λ (t : (v ≡ word i) × (holders i ≡ k)). inr (subst (λ (z : ℕ). digit (z / 16) (k - 1) < digit (new / 16) (k - 1)) (sym t.0) (subst (λ (z : ℕ). digit (word i / 16) (z - 1) < digit (new / 16) (z - 1)) t.1 (one (subst (λ (z : ℕ). z < 9) (sym t.1) q)))))
        (λ (t : digit (v / 16) (k - 1) < digit (word i / 16) (k - 1)). inr (omega (arith, t, up (k - 1)))) (subst (λ (x : ℕ). Told word holders k x v) e (o.lower k r v p q l a)))))
        (λ ne. subst (λ (z : ℕ). ((v ≡ z) × (put holders i 0 r ≡ k)) ⊎ (digit (v / 16) (k - 1) < digit (z / 16) (k - 1))) (sym (put-other word i r new ne)) (subst (λ (z : ℕ). ((v ≡ word r) × (z ≡ k)) ⊎ (digit (v / 16) (k - 1) < digit (word r / 16) (k - 1))) (sym (put-other holders i r 0 ne)) (o.lower k r v p q l a)));
  }

some_at : (cs ds : List ℕ) → SomeBelow cs ds → (k : ℕ) × (get_or cs k 0 < get_or ds k 0)
some_at [] ds a = absurd a
some_at (c ∷ cs) [] a = absurd a
some_at (c ∷ cs) (d ∷ ds) a = ⊎_elim (λ (t : c < d). (zero, t)) (λ (t : SomeBelow cs ds). let r = some_at cs ds t in (suc r.0, r.1)) a

small_below : (cs ds : List ℕ) → NoneAbove cs ds → Small ds → Small cs
small_below [] ds a s = tt
small_below (c ∷ cs) [] a s = absurd a
small_below (c ∷ cs) (d ∷ ds) a s = (omega (arith, a.0, s.0), small_below cs ds a.1 s.1)

-- a note read off its words
pub busy : (locks : ℕ → List Lock) (h : ℕ) (x : Note) → IsNote locks h x → IsBusy locks h x
busy locks h x is =
    let before : (k : ℕ) → digit (x.seen / 16) k ≡ get_or is.past.before k 0 = λ k. ap (λ (z : ℕ). digit (z / 16) k) is.past.is ∙ digit_of is.past.holder k is.past.before is.past.small (small_below is.past.before is.after is.past.le is.small) in
    let after : (k : ℕ) → digit (x.read / 16) k ≡ get_or is.after k 0 = λ k. ap (λ (z : ℕ). digit (z / 16) k) is.read ∙ digit_of is.holder k is.after is.few is.small in
    let whose : is.holder ≡ x.read % 16 = omega (arith, is.read, is.few) in
    record {
      later = λ k. omega (arith, before k, after k, above_at is.past.before is.after k is.past.le);
      by_whom = subst (BusyBy locks h x) whose (by_cause is.holder is.why);
    } where
      by_cause : (b : ℕ) → Why locks h x.shelf x.read is.past.before is.after b → BusyBy locks h x b
      by_cause zero w = let t = some_at is.past.before is.after w in (t.0, omega (arith, t.1, ap (λ (z : ℕ). digit (z / 16) t.0) is.past.is ∙ digit_of is.past.holder t.0 is.past.before is.past.small (small_below is.past.before is.after is.past.le is.small), ap (λ (z : ℕ). digit (z / 16) t.0) is.read ∙ digit_of is.holder t.0 is.after is.few is.small))
      by_cause (suc b) w = w
