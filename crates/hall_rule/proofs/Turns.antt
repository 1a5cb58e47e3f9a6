-- One item more in an ordered list: it goes behind the items of its holder, and behind those of its shelf, if its rank is above theirs.
use Rattle.std.proofs.Common.{◌≡◌, ◌≢◌, ℕ, ◌<◌, ◌≤◌, List, [], ◌∷◌, ◌++◌, sym, refl, ap, ◌∙◌, arith, cond, eqb, eq-eqb, ne_eqb, lt-ltb, le-ltb, subst, Bool, true, false}
use mathlib.Core.Logic.{dite}
use native.Mathlib.Decide.{ℕ_discrete, dec_le}
use Rattle.hall_rule.specs.Items.{by, in_shelf, Below}
use Rattle.hall_rule.specs.Turn.{rank, Over, Under, Ordered, insert, Apart, Known}
use Rattle.hall_rule.specs.declared.item.Item.{Item}

ins-lt : (x y : Item) (ys : List Item) → rank x < rank y → insert x (y ∷ ys) ≡ x ∷ y ∷ ys
ins-lt x y ys h = ap (λ b. cond b (x ∷ y ∷ ys) (y ∷ insert x ys)) (lt-ltb (rank x) (rank y) h)

ins-ge : (x y : Item) (ys : List Item) → rank y ≤ rank x → insert x (y ∷ ys) ≡ y ∷ insert x ys
ins-ge x y ys h = ap (λ b. cond b (x ∷ y ∷ ys) (y ∷ insert x ys)) (le-ltb (rank x) (rank y) h)

Over-less : (m n : ℕ) (ys : List Item) → m ≤ n → Over n ys → Over m ys
Over-less m n [] h o = tt
Over-less m n (y ∷ ys) h o = (omega (arith, o.0), Over-less m n ys h o.1)

module _ (keep : Item → Bool) where
  -- the items that are kept
  abbrev pub only : List Item → List Item
  only [] = []
  only (x ∷ xs) = cond (keep x) (x ∷ only xs) (only xs)

  cases : (P : List Item → Type 0) (y : Item) (l : List Item) → P (y ∷ l) → P l → P (cond (keep y) (y ∷ l) l)
  cases P y l with_it without = elim (keep y) as (λ b. P (cond b (y ∷ l) l)) [ true ↦ with_it | false ↦ without ]

  -- nothing that is kept lies below a bound and above it
  none : (n : ℕ) (ys : List Item) → Over n ys → Under n (only ys) → only ys ≡ []
  none n [] o u = refl
  none n (y ∷ ys) o u = cases (λ l. Under n l → l ≡ []) y (only ys) (λ v. absurd (omega (arith, v.0, o.0))) (λ v. none n ys o.1 v) u

  behind : (x y : Item) (l m : List Item) → (Under (rank x) l → m ≡ l ++ x ∷ []) → Under (rank x) (cond (keep y) (y ∷ l) l) → cond (keep y) (y ∷ m) m ≡ cond (keep y) (y ∷ l) l ++ x ∷ []
  behind x y l m e = elim (keep y) as (λ b. Under (rank x) (cond b (y ∷ l) l) → cond b (y ∷ m) m ≡ cond b (y ∷ l) l ++ x ∷ []) [ true ↦ λ v. ap (λ (z : List Item). y ∷ z) (e v.1) | false ↦ λ v. e v ]

  -- an item that is kept goes behind the others that are, if its rank is above theirs
  pub insert-kept : (x : Item) (ys : List Item) → keep x ≡ true → Ordered ys → Under (rank x) (only ys) → only (insert x ys) ≡ only ys ++ x ∷ []
  insert-kept x [] k o u = ap (λ b. cond b (x ∷ []) []) k
  insert-kept x (y ∷ ys) k o u = dite (dec_le (rank y) (rank x))
      (λ h. ap only (ins-ge x y ys h) ∙ behind x y (only ys) (only (insert x ys)) (λ v. insert-kept x ys k o.1 v) u)
      (λ h. let lt : rank x < rank y = omega arith in let gone = none (rank x) (y ∷ ys) (lt, Over-less (rank x) (rank y) ys (omega arith) o.0) u in
      ap only (ins-lt x y ys lt) ∙ (ap (λ b. cond b (x ∷ only (y ∷ ys)) (only (y ∷ ys))) k ∙ (ap (λ (l : List Item). x ∷ l) gone ∙ ap (λ (l : List Item). l ++ x ∷ []) (sym gone))))

  -- an item that is not kept changes nothing
  pub insert-left : (x : Item) (ys : List Item) → keep x ≡ false → only (insert x ys) ≡ only ys
  insert-left x [] k = ap (λ b. cond b (x ∷ []) []) k
  insert-left x (y ∷ ys) k = dite (dec_le (rank y) (rank x))
      (λ h. ap only (ins-ge x y ys h) ∙ ap (λ (l : List Item). cond (keep y) (y ∷ l) l) (insert-left x ys k))
      (λ h. ap only (ins-lt x y ys (omega arith)) ∙ ap (λ b. cond b (x ∷ only (y ∷ ys)) (only (y ∷ ys))) k)

  Over-only : (n : ℕ) (xs : List Item) → Over n xs → Over n (only xs)
  Over-only n [] o = tt
  Over-only n (x ∷ xs) o = cases (Over n) x (only xs) (o.0, Over-only n xs o.1) (Over-only n xs o.1)

  pub only-ordered : (xs : List Item) → Ordered xs → Ordered (only xs)
  only-ordered [] o = tt
  only-ordered (x ∷ xs) o = cases Ordered x (only xs) (Over-only (rank x) xs o.0, only-ordered xs o.1) (only-ordered xs o.1)

Over-insert : (n : ℕ) (x : Item) (ys : List Item) → n < rank x → Over n ys → Over n (insert x ys)
Over-insert n x [] h o = (h, tt)
Over-insert n x (y ∷ ys) h o = dite (dec_le (rank y) (rank x)) (λ le. subst (Over n) (sym (ins-ge x y ys le)) (o.0, Over-insert n x ys h o.1)) (λ lt. subst (Over n) (sym (ins-lt x y ys (omega arith))) (h, o))

pub insert-ordered : (x : Item) (ys : List Item) → Ordered ys → Apart (rank x) ys → Ordered (insert x ys)
insert-ordered x [] o a = (tt, tt)
insert-ordered x (y ∷ ys) o a = let ne : rank y ≢ rank x = a.0 in dite (dec_le (rank y) (rank x))
    (λ le. subst Ordered (sym (ins-ge x y ys le)) (Over-insert (rank y) x ys (omega arith) o.0, insert-ordered x ys o.1 a.1))
    (λ lt. let less : rank x < rank y = omega arith in subst Ordered (sym (ins-lt x y ys less)) ((less, Over-less (rank x) (rank y) ys (omega arith) o.0), o))

pub Known-insert : (x : Item) (ys : List Item) → x.holder < 10 → Known ys → Known (insert x ys)
Known-insert x [] h k = (h, tt)
Known-insert x (y ∷ ys) h k = dite (dec_le (rank y) (rank x)) (λ le. subst Known (sym (ins-ge x y ys le)) (k.0, Known-insert x ys h k.1)) (λ lt. subst Known (sym (ins-lt x y ys (omega arith))) (h, k))

by-only : (h : ℕ) (xs : List Item) → by h xs ≡ only (λ x. eqb x.holder h) xs
by-only h [] = refl
by-only h (x ∷ xs) = ap (λ (l : List Item). cond (eqb x.holder h) (x ∷ l) l) (by-only h xs)

in-only : (i : ℕ) (xs : List Item) → in_shelf i xs ≡ only (λ x. eqb x.shelf i) xs
in-only i [] = refl
in-only i (x ∷ xs) = ap (λ (l : List Item). cond (eqb x.shelf i) (x ∷ l) l) (in-only i xs)

-- known items with lower tickets are under
only-under : (keep : Item → Bool) (x : Item) (ys : List Item) → Known ys → Below x.ticket (only keep ys) → Under (rank x) (only keep ys)
only-under keep x [] k b = tt
only-under keep x (y ∷ ys) k b = (elim (keep y) as (λ c. Below x.ticket (cond c (y ∷ only keep ys) (only keep ys)) → Under (rank x) (cond c (y ∷ only keep ys) (only keep ys)))
    [ true ↦ λ v. let here : rank y < rank x = omega (arith, v.0, k.0) in (here, only-under keep x ys k.1 v.1) | false ↦ λ v. only-under keep x ys k.1 v ]) b

pub by-insert : (x : Item) (ys : List Item) → Ordered ys → Known ys → Below x.ticket (by x.holder ys) → by x.holder (insert x ys) ≡ by x.holder ys ++ x ∷ []
by-insert x ys o k b = let keep : Item → Bool = λ y. eqb y.holder x.holder in
    by-only x.holder (insert x ys) ∙ (insert-kept keep x ys (eq-eqb x.holder x.holder refl) o (only-under keep x ys k (subst (Below x.ticket) (by-only x.holder ys) b)) ∙ ap (λ (l : List Item). l ++ x ∷ []) (sym (by-only x.holder ys)))

pub by-insert-other : (h : ℕ) (x : Item) (ys : List Item) → x.holder ≢ h → by h (insert x ys) ≡ by h ys
by-insert-other h x ys ne = by-only h (insert x ys) ∙ (insert-left (λ y. eqb y.holder h) x ys (ne_eqb x.holder h ne) ∙ sym (by-only h ys))

pub in-insert : (x : Item) (ys : List Item) → Ordered ys → Known ys → Below x.ticket (in_shelf x.shelf ys) → in_shelf x.shelf (insert x ys) ≡ in_shelf x.shelf ys ++ x ∷ []
in-insert x ys o k b = let keep : Item → Bool = λ y. eqb y.shelf x.shelf in
    in-only x.shelf (insert x ys) ∙ (insert-kept keep x ys (eq-eqb x.shelf x.shelf refl) o (only-under keep x ys k (subst (Below x.ticket) (in-only x.shelf ys) b)) ∙ ap (λ (l : List Item). l ++ x ∷ []) (sym (in-only x.shelf ys)))

pub in-insert-other : (i : ℕ) (x : Item) (ys : List Item) → x.shelf ≢ i → in_shelf i (insert x ys) ≡ in_shelf i ys
in-insert-other i x ys ne = in-only i (insert x ys) ∙ (insert-left (λ y. eqb y.shelf i) x ys (ne_eqb x.shelf i ne) ∙ sym (in-only i ys))

-- the ranks of other items are other ranks
pub ranks-apart : (x : Item) (ys : List Item) → x.holder < 10 → Known ys → Below x.ticket (by x.holder ys) → Apart (rank x) ys
ranks-apart x [] h k b = tt
ranks-apart x (y ∷ ys) h k b = dite (ℕ_discrete y.holder x.holder)
    (λ e. let c : Below x.ticket (y ∷ by x.holder ys) = subst (λ (z : Bool). Below x.ticket (cond z (y ∷ by x.holder ys) (by x.holder ys))) (eq-eqb y.holder x.holder e) b in ((λ q. omega (arith, c.0)), ranks-apart x ys h k.1 c.1))
    (λ ne. let c : Below x.ticket (by x.holder ys) = subst (λ (z : Bool). Below x.ticket (cond z (y ∷ by x.holder ys) (by x.holder ys))) (ne_eqb y.holder x.holder ne) b in ((λ q. ne (omega (arith, k.0))), ranks-apart x ys h k.1 c))
