use Rattle.std.proofs.Common.{◌≡◌, ◌⊎◌, ℕ, zero, suc, ◌+◌, ◌-◌, ◌*◌, ◌<◌, ◌≤◌, inl, inr, All, List, [], ◌∷◌, ◌++◌, Some, length, map, set, slice_get, slice_index_or, sum, take, get_or, refl, sym, ap, ◌∙◌, append_assoc, arith}
use Rattle.std.specs.List.{AllByRecursion}
use Rattle.std.proofs.lemmas.List.{map_more, take_all}
use Rattle.std.proofs.lemmas.List.Elements.{All-head, All-tail}
use Rattle.std.proofs.lemmas.List.Sums.{sum_by-cons, sum_by-set}
use Rattle.std.proofs.lemmas.Option.{same_Some}

-- Facts of lists that several crates use.

-- what holds of each element holds of the one at a place
pub all_at : {X : Type 0} (P : X → Type 0) (xs : List X) (i : ℕ) (d : X) → AllByRecursion P xs → i < length xs → P (get_or xs i d)
all_at P [] i d all there = absurd (omega arith)
all_at P (x ∷ xs) zero d all there = all.0
all_at P (x ∷ xs) (suc i) d all there = all_at P xs i d all.1 (omega arith)

-- what holds of all of two lists holds of both together
pub all_append : {X : Type 0} (P : X → Type 0) (a b : List X) → AllByRecursion P a → AllByRecursion P b → AllByRecursion P (a ++ b)
all_append P [] b first second = second
all_append P (x ∷ a) b first second = (first.0, all_append P a b first.1 second)

-- a list of no elements
pub empty_list : {X : Type 0} (xs : List X) → length xs ≡ 0 → xs ≡ []
empty_list [] none = refl
empty_list (x ∷ xs) none = absurd (omega (arith, none))

-- numbers with no sum are none
pub none_of_sum : {X : Type 0} (f : X → ℕ) (xs : List X) → sum (map f xs) ≡ 0 → AllByRecursion (λ (x : X). f x ≡ 0) xs
none_of_sum f [] none = tt
none_of_sum f (x ∷ xs) none =
    let first = sum_by-cons (λ (n : ℕ). n) (f x) (map f xs) in
    (omega (arith, first, none), none_of_sum f xs (omega (arith, first, none)))

-- an element of a list with one more at its end is that one, or stands where it stood
pub slice_get-push_cases : {X : Type 0} (xs : List X) (y x : X) (i : ℕ) → slice_get (xs ++ y ∷ []) i ≡ Some x → (slice_get xs i ≡ Some x) ⊎ ((i ≡ length xs) × (y ≡ x))
slice_get-push_cases [] y x zero h = inr (refl, same_Some y x h)
slice_get-push_cases [] y x (suc i) h = inl h
slice_get-push_cases (z ∷ xs) y x zero h = inl h
slice_get-push_cases (z ∷ xs) y x (suc i) h =
    elim (slice_get-push_cases xs y x i h) [
      | inl g ↦ inl g
      | inr g ↦ inr (ap suc g.0, g.1)
    ]

-- the elements before the last
pub slice_get_before : {X : Type 0} (xs : List X) (y : X) (i : ℕ) → i < length xs → slice_get (xs ++ y ∷ []) i ≡ slice_get xs i
slice_get_before [] y i there = absurd (omega arith)
slice_get_before (x ∷ xs) y zero there = refl
slice_get_before (x ∷ xs) y (suc i) there = slice_get_before xs y i (omega arith)

-- and the last
pub slice_get_last : {X : Type 0} (xs : List X) (y : X) → slice_get (xs ++ y ∷ []) (length xs) ≡ Some y
slice_get_last [] y = refl
slice_get_last (x ∷ xs) y = slice_get_last xs y

-- an element of a list that has one at a place
pub element_at : {X : Type 0} (xs : List X) (i : ℕ) → i < length xs → X
element_at [] i low = absurd (omega (arith, low))
element_at (x ∷ xs) zero low = x
element_at (x ∷ xs) (suc i) low = element_at xs i (omega (arith, low))

-- what holds at each place of a list and of one element more holds at each place of both
pub each_pushed : {X : Type 0} (P : ℕ → X → Type 0) (xs : List X) (x : X) → ((i : ℕ) (d : X) → i < length xs → P i (slice_index_or xs i d)) → P (length xs) x →
    (i : ℕ) (d : X) → i < length xs + 1 → P i (slice_index_or (xs ++ x ∷ []) i d)
each_pushed P [] x each last zero d there = last
each_pushed P [] x each last (suc i) d there = absurd (omega (arith, there))
each_pushed P (y ∷ xs) x each last zero d there = each 0 d (omega arith)
each_pushed P (y ∷ xs) x each last (suc i) d there = each_pushed (λ (j : ℕ). P (suc j)) xs x (λ j e within. each (suc j) e (omega (arith, within))) last i d (omega (arith, there))

-- one more of a list's elements was put behind others, as f makes it
pub pushed_more : {X Y : Type 0} (f : X → Y) (before now : List Y) (xs : List X) (i : ℕ) (x : X) → i < length xs → x ≡ get_or xs i x → now ≡ before ++ map f (take i xs) → now ++ f x ∷ [] ≡ before ++ map f (take (i + 1) xs)
pushed_more {Y = Y} f before now xs i x there x_is is =
    ap (λ (ys : List Y). ys ++ f x ∷ []) is ∙ append_assoc before (map f (take i xs)) (f x ∷ [])
    ∙ ap (λ (ys : List Y). before ++ ys) (ap (λ (y : Y). map f (take i xs) ++ y ∷ []) (ap f x_is) ∙ sym (map_more f xs i x there))

-- all of them were
pub pushed_all : {X Y : Type 0} (f : X → Y) (before now : List Y) (xs : List X) (i : ℕ) → length xs ≤ i → now ≡ before ++ map f (take i xs) → now ≡ before ++ map f xs
pushed_all f before now xs i all is = is ∙ ap (λ ys. before ++ map f ys) (take_all i xs all)

-- where one of some numbers falls by one, so does their sum
pub sum_less : (left : List ℕ) (place : ℕ) → place < length left → 1 ≤ get_or left place 0 → sum (set left place (get_or left place 0 - 1)) + 1 ≡ sum left
sum_less left place low some = omega (arith, some, sum_by-set (λ (n : ℕ). n) left place (get_or left place 0 - 1) 0 low)

-- the sum of numbers that are 0
pub sum_none : (ns : List ℕ) → All (λ (n : ℕ). n ≡ 0) ns → sum ns ≡ 0
sum_none [] none = refl
sum_none (m ∷ ns) none =
    omega (arith, All-head (λ (n : ℕ). n ≡ 0) m ns none, sum_none ns (All-tail (λ (n : ℕ). n ≡ 0) m ns none), sum_by-cons (λ (n : ℕ). n) m ns)

-- the sum of numbers up to a bound
pub sum_few : (most : ℕ) (ns : List ℕ) → All (λ (n : ℕ). n ≤ most) ns → sum ns ≤ most * length ns
sum_few most [] few = omega arith
sum_few most (m ∷ ns) few =
    let others = sum_few most ns (All-tail (λ (n : ℕ). n ≤ most) m ns few) in
    let more : most * length (m ∷ ns) ≡ most + most * length ns = omega arith in
    omega (arith, All-head (λ (n : ℕ). n ≤ most) m ns few, others, more, sum_by-cons (λ (n : ℕ). n) m ns)
