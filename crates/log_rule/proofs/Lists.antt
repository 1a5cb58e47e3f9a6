-- Sums, lists of views, and functions that change at one place.
use Rattle.std.proofs.Common.{◌≡◌, ◌≢◌, ℕ, zero, suc, ◌+◌, ◌<◌, ◌≤◌, List, [], ◌∷◌, ◌++◌, length, set, sym, refl, ap, ◌∙◌, arith, cond, eqb, eq-eqb, ne_eqb, subst, ⊎_elim}
use mathlib.Core.Option.{some, some-injective, some-ne-none}
use mathlib.Core.Logic.{dite}
use native.Mathlib.Decide.{ℕ_discrete}
use lib.ListN.{get_elem?}
use Rattle.atomic_table.proofs.Lists.{at_set}
use Rattle.log_rule.specs.Rule.{total}

module _ {A : Type 0} where
  -- f with another value at i
  abbrev pub put : (ℕ → A) → ℕ → A → ℕ → A
  put f i a x = cond (eqb x i) a (f x)

  pub put-same : (f : ℕ → A) (i : ℕ) (a : A) → put f i a i ≡ a
  put-same f i a = ap (λ b. cond b a (f i)) (eq-eqb i i refl)

  pub put-other : (f : ℕ → A) (i x : ℕ) (a : A) → x ≢ i → put f i a x ≡ f x
  put-other f i x a n = ap (λ b. cond b a (f x)) (ne_eqb x i n)

  -- what holds of a at i and of f elsewhere
  pub put-all : (P : ℕ → A → Type 0) (f : ℕ → A) (i : ℕ) (a : A) (x : ℕ) → P i a → (x ≢ i → P x (f x)) → P x (put f i a x)
  put-all P f i a x here there = dite (ℕ_discrete x i)
      (λ e. subst (λ (y : ℕ). P y (put f i a y)) (sym e) (subst (P i) (sym (put-same f i a)) here)) (λ n. subst (P x) (sym (put-other f i x a n)) (there n))

  pub some_length : (l : List A) (j : ℕ) (a : A) → get_elem? l j ≡ some a → j < length l
  some_length [] j a e = absurd (some-ne-none a (sym e))
  some_length (x ∷ xs) zero a e = omega arith
  some_length (x ∷ xs) (suc j) a e = omega (arith, some_length xs j a e)

  -- what holds of the changed value, and of the others as they were
  pub each_set : (P : ℕ → A → Type 0) (l : List A) (j : ℕ) (w : A) → P j w → ((k : ℕ) (u : A) → k ≢ j → get_elem? l k ≡ some u → P k u)
      → (k : ℕ) (u : A) → get_elem? (set l j w) k ≡ some u → P k u
  each_set P l j w here there k u e = ⊎_elim (λ (t : (k ≡ j) × (w ≡ u)). subst (P k) t.1 (subst (λ (x : ℕ). P x w) (sym t.0) here)) (λ (t : (k ≢ j) × (get_elem? l k ≡ some u)). there k u t.0 t.1) (at_set l j k w u e)

  pub one_value : (l : List A) (j : ℕ) (a b : A) → get_elem? l j ≡ some a → get_elem? l j ≡ some b → a ≡ b
  one_value l j a b e f = some-injective a b (sym e ∙ f)

  module _ (g : A → ℕ) where
    pub total-append : (l m : List A) → total g (l ++ m) ≡ total g l + total g m
    total-append [] m = omega arith
    total-append (x ∷ xs) m = omega (arith, total-append xs m)

    pub total-set : (l : List A) (j : ℕ) (v w : A) → get_elem? l j ≡ some v → total g (set l j w) + g v ≡ total g l + g w
    total-set [] j v w e = absurd (some-ne-none v (sym e))
    total-set (x ∷ xs) zero v w e = omega (arith, ap g (some-injective x v e))
    total-set (x ∷ xs) (suc j) v w e = omega (arith, total-set xs j v w e)

    pub term_le : (l : List A) (j : ℕ) (v : A) → get_elem? l j ≡ some v → g v ≤ total g l
    term_le [] j v e = absurd (some-ne-none v (sym e))
    term_le (x ∷ xs) zero v e = omega (arith, ap g (some-injective x v e))
    term_le (x ∷ xs) (suc j) v e = omega (arith, term_le xs j v e)
