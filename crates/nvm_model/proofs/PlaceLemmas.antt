use Rattle.std.proofs.Common.{◌≡◌, ◌≢◌, ℕ, ◌+◌, ◌-◌, ◌*◌, ◌/◌, ◌%◌, ◌<◌, ◌≤◌, ◌⊎◌, ◌==◌, inl, inr, not, true, ap, ◌∙◌, arith}
use Rattle.std.proofs.Math.Nat.{mod-add-mod, mod-eq_of_lt, mod-eq-sub-mod, mod-lt, div-eq_of_lt, add-div_right}
use Rattle.std.proofs.lemmas.Nat.{div-add-mod', div-mul-add}
use Rattle.std.proofs.lemmas.Bool.{cases_lt}
use Rattle.std.proofs.lemmas.Bool.Decides.{nat_tests}
use Rattle.nvm_model.specs.Event.{phase_of}
use Rattle.nvm_model.specs.Ring.{next_place, places_between}

-- Places of a ring, as numbers.

-- the remainder of a number below twice the size
pub once_round : (x n : ℕ) → x < n + n → ((x < n) × (x % n ≡ x)) ⊎ ((n ≤ x) × (x % n + n ≡ x))
once_round x n h =
    elim (cases_lt x n) [
      | inl l ↦ inl (l, mod-eq_of_lt l)
      | inr g ↦
          let less : x - n < n = omega arith in
          let rest : x % n ≡ x - n = mod-eq-sub-mod g ∙ mod-eq_of_lt less in
          inr (g, omega (arith, rest))
    ]

-- the places between two places of a ring
pub places_between-cases : (n h t : ℕ) → h < n → t < n → ((h ≤ t) × (places_between n h t + h ≡ t)) ⊎ ((t < h) × (places_between n h t + h ≡ t + n))
places_between-cases n h t p q =
    elim (cases_lt t h) [
      | inl l ↦
          let small : t + n - h < n = omega arith in
          let e : places_between n h t ≡ t + n - h = mod-eq_of_lt small in
          inr (l, omega (arith, e))
      | inr g ↦
          let large : n ≤ t + n - h = omega arith in
          let less : t + n - h - n < n = omega arith in
          let e : places_between n h t ≡ t + n - h - n = mod-eq-sub-mod large ∙ mod-eq_of_lt less in
          inl (g, omega (arith, e))
    ]

-- the tail is as many places after the head as there are entries
pub tail-from_count : (n h t : ℕ) → h < n → t < n → (h + places_between n h t) % n ≡ t
tail-from_count n h t p q =
    let c = places_between-cases n h t p q in
    let small : h + places_between n h t < n + n = omega arith in
    let r = once_round (h + places_between n h t) n small in
    omega (arith, c, r)

-- one more entry than there are
pub places_between-tail_more : (n h t c : ℕ) → h < n → t < n → c ≡ places_between n h t → c + 1 < n → c + 1 ≡ places_between n h (next_place n t)
places_between-tail_more n h t c p q e l =
    let pos : 0 < n = omega arith in
    let there : next_place n t < n = mod-lt (t + 1) pos in
    let small : t + 1 < n + n = omega arith in
    let r = once_round (t + 1) n small in
    let a = places_between-cases n h t p q in
    let b = places_between-cases n h (next_place n t) p there in
    omega (arith, r, a, b)

-- one entry fewer than there are
pub places_between-head_more : (n h t : ℕ) → h < n → t < n → h ≢ t → places_between n (next_place n h) t + 1 ≡ places_between n h t
places_between-head_more n h t p q ne =
    let pos : 0 < n = omega arith in
    let there : next_place n h < n = mod-lt (h + 1) pos in
    let small : h + 1 < n + n = omega arith in
    let r = once_round (h + 1) n small in
    let a = places_between-cases n h t p q in
    let b = places_between-cases n (next_place n h) t there q in
    omega (arith, r, a, b)

-- a ring has no entry exactly where its head is its tail
pub places_between-none : (n h t : ℕ) → h < n → t < n → h ≡ t → places_between n h t ≡ 0
places_between-none n h t p q e =
    let a = places_between-cases n h t p q in
    omega (arith, a)

pub head-tail-from_none : (n h t : ℕ) → h < n → t < n → places_between n h t ≡ 0 → h ≡ t
head-tail-from_none n h t p q e =
    let a = places_between-cases n h t p q in
    omega (arith, a)

-- a ring is full exactly where its entries are one fewer than its places
pub places_between-full : (n h t : ℕ) → h < n → t < n → next_place n t ≡ h → places_between n h t + 1 ≡ n
places_between-full n h t p q e =
    let small : t + 1 < n + n = omega arith in
    let r = once_round (t + 1) n small in
    let a = places_between-cases n h t p q in
    omega (arith, r, a)

pub full-from_places_between : (n h t : ℕ) → h < n → t < n → places_between n h t + 1 ≡ n → next_place n t ≡ h
full-from_places_between n h t p q e =
    let small : t + 1 < n + n = omega arith in
    let r = once_round (t + 1) n small in
    let a = places_between-cases n h t p q in
    omega (arith, r, a)

-- the places up to that of a number, by the number
pub places_between-mod : (n h k : ℕ) → h ≤ n → places_between n h (k % n) ≡ (k + n - h) % n
places_between-mod n h k l =
    let split : k % n + n - h ≡ k % n + (n - h) = omega arith in
    let join : k + (n - h) ≡ k + n - h = omega arith in
    ap (λ x. x % n) split ∙ mod-add-mod k n (n - h) ∙ ap (λ x. x % n) join

-- numbers less than a ring apart have places of their own
pub mods-apart : (n m k : ℕ) → m < k → k < m + n → m % n ≢ k % n
mods-apart n m k l g e =
    let pos : 0 < n = omega arith in
    let there : m % n < n = mod-lt m pos in
    let d : ℕ = k - m in
    let whole : m + d ≡ k = omega arith in
    let small : m % n + d < n + n = omega arith in
    let r = once_round (m % n + d) n small in
    let s : (m % n + d) % n ≡ k % n = mod-add-mod m n d ∙ ap (λ x. x % n) whole in
    omega (arith, r, s)

-- the places between the places of two numbers less than a ring apart
pub places_between-mods : (n m k : ℕ) → m ≤ k → k < m + n → places_between n (m % n) (k % n) ≡ k - m
places_between-mods n m k l g =
    let pos : 0 < n = omega arith in
    let first : m % n < n = mod-lt m pos in
    let last : k % n < n = mod-lt k pos in
    let d : ℕ = k - m in
    let whole : m + d ≡ k = omega arith in
    let small : m % n + d < n + n = omega arith in
    let r = once_round (m % n + d) n small in
    let s : (m % n + d) % n ≡ k % n = mod-add-mod m n d ∙ ap (λ x. x % n) whole in
    let a = places_between-cases n (m % n) (k % n) first last in
    omega (arith, r, s, a)

-- the place of the next number
pub next_place-mod : (n m : ℕ) → next_place n (m % n) ≡ (m + 1) % n
next_place-mod n m = mod-add-mod m n 1

-- of two numbers in a row one is even
even-suc : (q : ℕ) → (q + 1) % 2 == 0 ≡ not (q % 2 == 0)
even-suc q = grind (arith, nat_tests)

-- the phase tag turns over where the place after is 0
pub phase_of-wrapped : (n m : ℕ) → 0 < n → (m + 1) % n ≡ 0 → phase_of n (m + 1) ≡ not (phase_of n m)
phase_of-wrapped n m p e =
    let there : m % n < n = mod-lt m p in
    let small : m % n + 1 < n + n = omega arith in
    let r = once_round (m % n + 1) n small in
    let s = mod-add-mod m n 1 in
    let last : m % n + 1 ≡ n = omega (arith, r, s) in
    let split = div-add-mod' m n in
    let whole : m + 1 ≡ (m / n + 1) * n + 0 = omega (arith, split, last) in
    let turns : (m + 1) / n ≡ m / n + 1 = ap (λ x. x / n) whole ∙ div-mul-add (m / n + 1) n 0 p in
    ap (λ q. q % 2 == 0) turns ∙ even-suc (m / n)

-- and is kept at every other place
pub phase_of-kept : (n m : ℕ) → 0 < n → (m + 1) % n ≢ 0 → phase_of n (m + 1) ≡ phase_of n m
phase_of-kept n m p ne =
    let there : m % n < n = mod-lt m p in
    let small : m % n + 1 < n + n = omega arith in
    let r = once_round (m % n + 1) n small in
    let s = mod-add-mod m n 1 in
    let inside : m % n + 1 < n = omega (arith, r, s) in
    let split = div-add-mod' m n in
    let whole : m + 1 ≡ m / n * n + (m % n + 1) = omega (arith, split) in
    let turns : (m + 1) / n ≡ m / n = ap (λ x. x / n) whole ∙ div-mul-add (m / n) n (m % n + 1) inside in
    ap (λ q. q % 2 == 0) turns

-- the phase tag of the next entry of the same cell
pub phase_of-add : (n m : ℕ) → 0 < n → phase_of n (m + n) ≡ not (phase_of n m)
phase_of-add n m p = ap (λ q. q % 2 == 0) (add-div_right m p) ∙ even-suc (m / n)

-- the first pass has the phase tag 1
pub phase_of-first : (n m : ℕ) → m < n → phase_of n m ≡ true
phase_of-first n m l = ap (λ q. q % 2 == 0) (div-eq_of_lt l)
