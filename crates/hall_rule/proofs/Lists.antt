-- Sums, and functions that change at one place.
use Rattle.std.proofs.Common.{◌≡◌, ◌≢◌, ℕ, zero, suc, ◌+◌, ◌<◌, ◌≤◌, List, [], ◌∷◌, ◌++◌, append-nil, append_assoc, length-append, length, get_or, set, sym, refl, ap, ◌∙◌, arith, cond, eqb, eq-eqb, ne_eqb, subst, inl, inr, ⊎_elim, ◌⊎◌, Bool, true, false}
use mathlib.Core.Option.{some, some-injective, some-ne-none}
use mathlib.Core.Logic.{dite}
use native.Mathlib.Decide.{ℕ_discrete}
use lib.ListN.{get_elem?}
use Rattle.hall_rule.specs.Items.{AllFrom, total, by, in_shelf, Below, Above, Rises, shelves, entries_of, entry_of, entry_for}
use Rattle.nvm_model.specs.declared.piece.ShelfEntry.{ShelfEntry}
use Rattle.hall_rule.specs.declared.item.Item.{Item}
use Rattle.hall_rule.specs.declared.item.Work.{Work}
use Rattle.hall_rule.specs.declared.item.Work.TheVariants.{Served, Copied}

module _ {A : Type 0} where
  abbrev pub put : (ℕ → A) → ℕ → A → ℕ → A
  put f i a x = cond (eqb x i) a (f x)

  pub put-same : (f : ℕ → A) (i : ℕ) (a : A) → put f i a i ≡ a
  put-same f i a = ap (λ b. cond b a (f i)) (eq-eqb i i refl)

  pub put-other : (f : ℕ → A) (i x : ℕ) (a : A) → x ≢ i → put f i a x ≡ f x
  put-other f i x a n = ap (λ b. cond b a (f x)) (ne_eqb x i n)

  -- what holds of a at i and of f elsewhere
  pub put-all : (P : ℕ → A → Type 0) (f : ℕ → A) (i : ℕ) (a : A) (x : ℕ) → P i a → (x ≢ i → P x (f x)) → P x (put f i a x)
  put-all P f i a x here there = dite (ℕ_discrete x i)
      (λ e. subst (λ (y : ℕ). P y (put f i a y)) (sym e) (subst (P i) (sym (put-same f i a)) here)) (λ n. subst (P x) (sym (put-other f i x a n)) (there n))

  pub at_end : (l : List A) (a b : A) (j : ℕ) → get_elem? (l ++ a ∷ []) j ≡ some b → (get_elem? l j ≡ some b) ⊎ ((j ≡ length l) × (a ≡ b))
  at_end [] a b zero e = inr (refl, some-injective a b e)
  at_end [] a b (suc j) e = absurd (some-ne-none b (sym e))
  at_end (x ∷ xs) a b zero e = inl e
  at_end (x ∷ xs) a b (suc j) e = ⊎_elim inl (λ (t : (j ≡ length xs) × (a ≡ b)). inr (ap suc t.0, t.1)) (at_end xs a b j e)

  pub at_get : (l : List A) (j : ℕ) (d : A) → j < length l → get_elem? l j ≡ some (get_or l j d)
  at_get [] j d h = absurd (omega arith)
  at_get (x ∷ xs) zero d h = refl
  at_get (x ∷ xs) (suc j) d h = at_get xs j d (omega arith)

  module _ (g : A → ℕ) where
    pub total-append : (l m : List A) → total g (l ++ m) ≡ total g l + total g m
    total-append [] m = omega arith
    total-append (x ∷ xs) m = omega (arith, total-append xs m)

    pub total-set : (l : List A) (j : ℕ) (v w : A) → get_elem? l j ≡ some v → total g (set l j w) + g v ≡ total g l + g w
    total-set [] j v w e = absurd (some-ne-none v (sym e))
    total-set (x ∷ xs) zero v w e = omega (arith, ap g (some-injective x v e))
    total-set (x ∷ xs) (suc j) v w e = omega (arith, total-set xs j v w e)

    pub term_le : (l : List A) (j : ℕ) (v : A) → get_elem? l j ≡ some v → g v ≤ total g l
    term_le [] j v e = absurd (some-ne-none v (sym e))
    term_le (x ∷ xs) zero v e = omega (arith, ap g (some-injective x v e))
    term_le (x ∷ xs) (suc j) v e = omega (arith, term_le xs j v e)

pub Below-more : (m n : ℕ) (xs : List Item) → m ≤ n → Below m xs → Below n xs
Below-more m n [] h b = tt
Below-more m n (x ∷ xs) h b = (omega (arith, b.0), Below-more m n xs h b.1)

pub Below-append : (n : ℕ) (xs : List Item) (x : Item) → Below n xs → x.ticket < n → Below n (xs ++ x ∷ [])
Below-append n [] x b h = (h, tt)
Below-append n (y ∷ ys) x b h = (b.0, Below-append n ys x b.1 h)

Above-append : (t : ℕ) (xs : List Item) (x : Item) → Above t xs → t < x.ticket → Above t (xs ++ x ∷ [])
Above-append t [] x b h = (h, tt)
Above-append t (y ∷ ys) x b h = (b.0, Above-append t ys x b.1 h)

pub Rises-append : (xs : List Item) (x : Item) → Rises xs → Below x.ticket xs → Rises (xs ++ x ∷ [])
Rises-append [] x r b = (tt, tt)
Rises-append (y ∷ ys) x r b = (Above-append y.ticket ys x r.0 b.0, Rises-append ys x r.1 b.1)

by-more : (b : Bool) (y : Item) (ys more : List Item) → cond b (y ∷ (ys ++ more)) (ys ++ more) ≡ cond b (y ∷ ys) ys ++ more
by-more b y ys more = elim b as (λ b. cond b (y ∷ (ys ++ more)) (ys ++ more) ≡ cond b (y ∷ ys) ys ++ more) [ true ↦ refl | false ↦ refl ]

pub by-append : (h : ℕ) (xs ys : List Item) → by h (xs ++ ys) ≡ by h xs ++ by h ys
by-append h [] ys = refl
by-append h (x ∷ xs) ys = ap (λ (z : List Item). cond (eqb x.holder h) (x ∷ z) z) (by-append h xs ys) ∙ by-more (eqb x.holder h) x (by h xs) (by h ys)

pub in_shelf-append : (i : ℕ) (xs ys : List Item) → in_shelf i (xs ++ ys) ≡ in_shelf i xs ++ in_shelf i ys
in_shelf-append i [] ys = refl
in_shelf-append i (x ∷ xs) ys = ap (λ (z : List Item). cond (eqb x.shelf i) (x ∷ z) z) (in_shelf-append i xs ys) ∙ by-more (eqb x.shelf i) x (in_shelf i xs) (in_shelf i ys)

pub shelves-append : (xs ys : List Item) → shelves (xs ++ ys) ≡ shelves xs ++ shelves ys
shelves-append [] ys = refl
shelves-append (x ∷ xs) ys = ap (λ (z : List ℕ). x.shelf ∷ z) (shelves-append xs ys)

pub entries-append : (xs ys : List Item) → entries_of (xs ++ ys) ≡ entries_of xs ++ entries_of ys
entries-append [] ys = refl
entries-append (x ∷ xs) ys = ap (λ (l : List ShelfEntry). entry_of x ++ l) (entries-append xs ys) ∙ sym (append_assoc (entry_of x) (entries_of xs) (entries_of ys))

pub entries-one : (log : List Item) (x : Item) → entries_of (log ++ x ∷ []) ≡ entries_of log ++ entry_of x
entries-one log x = entries-append log (x ∷ []) ∙ ap (λ (l : List ShelfEntry). entries_of log ++ l) (append-nil (entry_of x))

pub entries-grow : (log : List Item) (x : Item) (n : ℕ) → length (entry_of x) ≤ n → length (entries_of (log ++ x ∷ [])) ≤ length (entries_of log) + n
entries-grow log x n le = omega (arith, le, ap length (entries-one log x), length-append (entries_of log) (entry_of x))

-- an entry's ticket is that of an item of the log
entry_below : (t h k : ℕ) (w : Work) (es : List ShelfEntry) (n : ℕ) (d : ShelfEntry) → k < t → ((m : ℕ) → m < length es → (get_or es m d).ticket < t) → n < length (entry_for h k w ++ es) → (get_or (entry_for h k w ++ es) n d).ticket < t
entry_below t h k (Served i r) es zero d lt more l = lt
entry_below t h k (Served i r) es (suc n) d lt more l = more n (omega arith)
entry_below t h k (Copied b) es n d lt more l = more n l

pub entries_below : (t : ℕ) (log : List Item) (n : ℕ) (d : ShelfEntry) → Below t log → n < length (entries_of log) → (get_or (entries_of log) n d).ticket < t
entries_below t [] n d b l = absurd (omega arith)
entries_below t (x ∷ xs) n d b l = entry_below t x.holder x.ticket x.what (entries_of xs) n d b.0 (λ m q. entries_below t xs m d b.1 q) l

AllFrom-push : (P : ℕ → Item → Type 0) (k n : ℕ) (xs : List Item) (x : Item) → n ≡ k + length xs → AllFrom P k xs → P n x → AllFrom P k (xs ++ x ∷ [])
AllFrom-push P k n [] x e a p = let same : n ≡ k = omega (arith, e) in (subst (λ (m : ℕ). P m x) same p, tt)
AllFrom-push P k n (y ∷ ys) x e a p = let same : n ≡ suc k + length ys = omega (arith, e) in (a.0, AllFrom-push P (suc k) n ys x same a.1 p)

-- what is so of each item by its place is so with one more
pub AllFrom-append : (P : ℕ → Item → Type 0) (xs : List Item) (x : Item) → AllFrom P 0 xs → P (length xs) x → AllFrom P 0 (xs ++ x ∷ [])
AllFrom-append P xs x a p = let same : length xs ≡ 0 + length xs = omega arith in AllFrom-push P 0 (length xs) xs x same a p
