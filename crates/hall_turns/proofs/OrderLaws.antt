use Rattle.std.proofs.Common.{◌≡◌, ◌≢◌, ℕ, suc, ◌<◌, ◌≤◌, ⊎_elim, cond, eq-eqb, List, [], ◌∷◌, length, get_or, refl, sym, ap, subst, ◌∙◌, arith}
use Rattle.std.specs.List.{AllByRecursion}
use Rattle.std.proofs.lemmas.Bool.{cases_eq}
use Rattle.hall_turns.specs.Merge.{at_key}
use Rattle.hall_turns.proofs.MergeLaws.{here, elsewhere}

abbrev tail_of : {A : Type 0} → List A → List A
tail_of [] = []
tail_of (x ∷ xs) = xs

module _ {A : Type 0} (rank key : A → ℕ) where
  abbrev pub Ordered : List A → Type 0
  Ordered [] = Unit {0}
  Ordered (x ∷ xs) = AllByRecursion (λ (a : A). rank x < rank a) xs × Ordered xs

  at_least : (n k : ℕ) (l : List A) (x : A) (r : List A) → AllByRecursion (λ (a : A). n ≤ rank a) l → at_key key k l ≡ x ∷ r → n ≤ rank x
  at_least n k [] x r all e = let none : 0 ≡ suc (length r) = ap length e in absurd (omega (arith, none))
  at_least n k (a ∷ l) x r all e =
      ⊎_elim
      (λ (is : key a ≡ k). let first : a ∷ at_key key k l ≡ x ∷ r = sym (ap (λ b. cond b (a ∷ at_key key k l) (at_key key k l)) (eq-eqb (key a) k is)) ∙ e in
      let same : a ≡ x = ap (λ (z : List A). get_or z 0 a) first in subst (λ (b : A). n ≤ rank b) same all.0)
      (λ (other : key a ≢ k). at_least n k l x r all.1 (sym (elsewhere key k a l other) ∙ e))
      (cases_eq (key a) k)

  weaker : (x : A) (xs : List A) → AllByRecursion (λ (a : A). rank x < rank a) xs → AllByRecursion (λ (a : A). rank x ≤ rank a) xs
  weaker x [] all = tt
  weaker x (a ∷ xs) all = (omega (arith, all.0), weaker x xs all.1)

  from : (x : A) (xs : List A) → Ordered (x ∷ xs) → AllByRecursion (λ (a : A). rank x ≤ rank a) (x ∷ xs)
  from x xs o = (omega arith, weaker x xs o.0)

  -- ordered lists with the same parts are one
  pub only_one : ((a b : A) → rank a ≡ rank b → key a ≡ key b) → (xs ys : List A) → Ordered xs → Ordered ys → ((k : ℕ) → at_key key k xs ≡ at_key key k ys) → xs ≡ ys
  only_one tie [] [] o p same = refl
  only_one tie [] (y ∷ ys) o p same = let none : 0 ≡ suc (length (at_key key (key y) ys)) = ap length (same (key y) ∙ here key y ys) in absurd (omega (arith, none))
  only_one tie (x ∷ xs) [] o p same = let none : suc (length (at_key key (key x) xs)) ≡ 0 = ap length (sym (here key x xs) ∙ same (key x)) in absurd (omega (arith, none))
  only_one tie (x ∷ xs) (y ∷ ys) o p same =
      let low = at_least (rank y) (key x) (y ∷ ys) x (at_key key (key x) xs) (from y ys p) (sym (same (key x)) ∙ here key x xs) in
      let high = at_least (rank x) (key y) (x ∷ xs) y (at_key key (key y) ys) (from x xs o) (same (key y) ∙ here key y ys) in
      let keys : key x ≡ key y = tie x y (omega (arith, low, high)) in
      let both : x ∷ at_key key (key x) xs ≡ y ∷ at_key key (key x) ys = sym (here key x xs) ∙ (same (key x) ∙ subst (λ (k : ℕ). at_key key k (y ∷ ys) ≡ y ∷ at_key key k ys) (sym keys) (here key y ys)) in
      let heads : x ≡ y = ap (λ (z : List A). get_or z 0 x) both in
      let rest = only_one tie xs ys o.1 p.1 (λ k. ⊎_elim
      (λ (is : key x ≡ k). subst (λ (j : ℕ). at_key key j xs ≡ at_key key j ys) is (ap tail_of both))
      (λ (other : key x ≢ k). sym (elsewhere key k x xs other) ∙ (same k ∙ elsewhere key k y ys (λ q. other (keys ∙ q))))
      (cases_eq (key x) k)) in
      ap (λ (z : A). z ∷ xs) heads ∙ ap (λ (l : List A). y ∷ l) rest
