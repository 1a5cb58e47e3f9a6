use Rattle.std.proofs.Common.{◌≡◌, ◌⊎◌, ⊎_elim, inl, inr, ℕ, zero, suc, ◌+◌, ◌-◌, ◌*◌, ◌/◌, ◌^◌, ◌<◌, ◌≤◌, Bool, true, false, List, [], ◌∷◌, length, replicate, slice_index_or, slice_set, refl, ap, subst, ◌∙◌, arith}
use Rattle.std.proofs.lemmas.Bool.{cases_eq, cases_lt}
use Rattle.std.proofs.lemmas.Grind.{get_or-set_at}
use Rattle.std.proofs.lemmas.List.{get_or_past, get_or-set_other, length-replicate, length-set}
use Rattle.manager.proofs.CopyLemmas.{length-places}
use Rattle.manager.specs.Owed.{IsCounted, owe_from, owed_below, places_from, places_of}

-- How many of the first places are owed.

abbrev pub bit : Bool → ℕ
bit true = 1
bit false = 0

below_all : (j k : ℕ) (owed : List Bool) → length owed ≤ k → owed_below k owed ≡ length (places_from j owed)
below_all j zero [] long = refl
below_all j zero (x ∷ owed) long = absurd (omega (arith, long))
below_all j (suc k) [] long = refl
below_all j (suc k) (true ∷ owed) long = omega (arith, below_all (j + 1) k owed (omega (arith, long)))
below_all j (suc k) (false ∷ owed) long = below_all (j + 1) k owed (omega (arith, long))

pub none_below : (k n : ℕ) → owed_below k (replicate n false) ≡ 0
none_below zero n = refl
none_below (suc k) zero = refl
none_below (suc k) (suc n) = none_below k n

-- a place of them is set
set_below : (k : ℕ) (owed : List Bool) (i : ℕ) (v : Bool) → i < length owed → i < k → owed_below k (slice_set owed i v) + bit (slice_index_or owed i false) ≡ owed_below k owed + bit v
set_below zero owed i v there low = absurd (omega (arith, low))
set_below (suc k) [] i v there low = absurd (omega (arith, there))
set_below (suc k) (true ∷ owed) zero true there low = refl
set_below (suc k) (true ∷ owed) zero false there low = omega arith
set_below (suc k) (false ∷ owed) zero true there low = omega arith
set_below (suc k) (false ∷ owed) zero false there low = refl
set_below (suc k) (true ∷ owed) (suc i) v there low = omega (arith, set_below k owed i v (omega (arith, there)) (omega (arith, low)))
set_below (suc k) (false ∷ owed) (suc i) v there low = set_below k owed i v (omega (arith, there)) (omega (arith, low))

-- or one behind them
set_behind : (k : ℕ) (owed : List Bool) (i : ℕ) (v : Bool) → k ≤ i → owed_below k (slice_set owed i v) ≡ owed_below k owed
set_behind zero owed i v high = refl
set_behind (suc k) [] i v high = refl
set_behind (suc k) (x ∷ owed) zero v high = absurd (omega (arith, high))
set_behind (suc k) (true ∷ owed) (suc i) v high = ap (λ (n : ℕ). 1 + n) (set_behind k owed i v (omega (arith, high)))
set_behind (suc k) (false ∷ owed) (suc i) v high = set_behind k owed i v (omega (arith, high))

-- none is from one place to another
none_between : (a b : ℕ) (owed : List Bool) → a ≤ b → ((i : ℕ) → a ≤ i → i < b → slice_index_or owed i false ≡ false) → owed_below b owed ≡ owed_below a owed
none_between zero zero owed le none = refl
none_between zero (suc b) [] le none = refl
none_between zero (suc b) (true ∷ owed) le none = let first = none 0 (omega arith) (omega arith) in absurd cc
none_between zero (suc b) (false ∷ owed) le none = none_between zero b owed (omega arith) (λ i low high. none (suc i) (omega arith) (omega (arith, high)))
none_between (suc a) zero owed le none = absurd (omega (arith, le))
none_between (suc a) (suc b) [] le none = refl
none_between (suc a) (suc b) (true ∷ owed) le none = ap (λ (n : ℕ). 1 + n) (none_between a b owed (omega (arith, le)) (λ i low high. none (suc i) (omega (arith, low)) (omega (arith, high))))
none_between (suc a) (suc b) (false ∷ owed) le none = none_between a b owed (omega (arith, le)) (λ i low high. none (suc i) (omega (arith, low)) (omega (arith, high)))

zero_below : (k : ℕ) (owed : List Bool) (i : ℕ) → owed_below k owed ≡ 0 → i < k → slice_index_or owed i false ≡ false
zero_below zero owed i none low = absurd (omega (arith, low))
zero_below (suc k) [] i none low = refl
zero_below (suc k) (true ∷ owed) i none low = absurd (omega (arith, none))
zero_below (suc k) (false ∷ owed) zero none low = refl
zero_below (suc k) (false ∷ owed) (suc i) none low = zero_below k owed i none (omega (arith, low))

-- The counts.

zeroes : (m i : ℕ) → slice_index_or {A = ℕ} (replicate m 0) i 0 ≡ 0
zeroes zero i = refl
zeroes (suc m) zero = refl
zeroes (suc m) (suc i) = zeroes m i

pub counted_none : (n m : ℕ) → n < 2 ^ 32 → n < 512 * m → IsCounted 0 (replicate m 0) (replicate n false)
counted_none n m few there = record {
  few = omega (arith, length-replicate n false, few);
  there = let zero : ℕ = 0 in omega (arith, length-replicate n false, length-replicate m zero, there);
  all = omega (arith, below_all 0 n (replicate n false) (omega (arith, length-replicate n false)), none_below n n);
  each = λ i low. omega (arith, none_below (512 * (i + 1)) n, none_below (512 * i) n, zeroes m i);
}

-- one place is set, and the counts follow
module _ (count : ℕ) (counts : List ℕ) (owed : List Bool) (c : IsCounted count counts owed) (at : ℕ) (there : at < length owed) (v : Bool) (all group : ℕ) where
  each_set : group + bit (slice_index_or owed at false) ≡ slice_index_or counts (at / 512) 0 + bit v → (i : ℕ) → i < length counts →
      owed_below (512 * (i + 1)) (slice_set owed at v) ≡ owed_below (512 * i) (slice_set owed at v) + slice_index_or (slice_set counts (at / 512) group) i 0
  each_set one i low = ⊎_elim
      (λ (here : i ≡ at / 512). omega (arith, here, c.each i low, one, ap (λ (n : ℕ). slice_index_or counts n 0) here, get_or-set_at counts (at / 512) i group 0 here (omega (arith, here, low)), set_below (512 * (i + 1)) owed at v there (omega (arith, here)), set_behind (512 * i) owed at v (omega (arith, here))))
      (λ (other : i ≡ at / 512 → ⊥). ⊎_elim
      (λ (before : 512 * (i + 1) ≤ at). omega (arith, c.each i low, get_or-set_other counts (at / 512) i group 0 other, set_behind (512 * (i + 1)) owed at v before, set_behind (512 * i) owed at v (omega (arith, before))))
      (λ (after : at < 512 * (i + 1)). omega (arith, c.each i low, get_or-set_other counts (at / 512) i group 0 other, set_below (512 * (i + 1)) owed at v there after, set_below (512 * i) owed at v there (omega (arith, after, other))))
      (cases_le (512 * (i + 1)) at))
      (cases_eq i (at / 512))
    where
      cases_le : (a b : ℕ) → (a ≤ b) ⊎ (b < a)
      cases_le a b = ⊎_elim (λ (low : b < a). inr low) (λ (high : a ≤ b). inl high) (cases_lt b a)

  pub counted_set : all + bit (slice_index_or owed at false) ≡ count + bit v → group + bit (slice_index_or owed at false) ≡ slice_index_or counts (at / 512) 0 + bit v →
      IsCounted all (slice_set counts (at / 512) group) (slice_set owed at v)
  counted_set more one = record {
    few = omega (arith, c.few, length-set owed at v);
    there = omega (arith, c.there, length-set owed at v, length-set counts (at / 512) group);
    all = omega (arith, more, c.all, below_all 0 (length owed) owed (omega arith), below_all 0 (length owed) (slice_set owed at v) (omega (arith, length-set owed at v)), set_below (length owed) owed at v there there);
    each = λ i low. each_set one i (omega (arith, low, length-set counts (at / 512) group));
  }

-- a place that wasn't owed is, and one that was isn't
pub counted_owed : (count : ℕ) (counts : List ℕ) (owed : List Bool) → IsCounted count counts owed → (at : ℕ) → at < length owed → slice_index_or owed at false ≡ false →
    IsCounted (count + 1) (slice_set counts (at / 512) (slice_index_or counts (at / 512) 0 + 1)) (slice_set owed at true)
counted_owed count counts owed c at there not = counted_set count counts owed c at there true (count + 1) (slice_index_or counts (at / 512) 0 + 1) (rw not (omega arith)) (rw not (omega arith))

pub counted_taken : (count : ℕ) (counts : List ℕ) (owed : List Bool) → IsCounted count counts owed → (at all group : ℕ) → at < length owed → slice_index_or owed at false ≡ true → all + 1 ≡ count → group + 1 ≡ slice_index_or counts (at / 512) 0 →
    IsCounted all (slice_set counts (at / 512) group) (slice_set owed at false)
counted_taken count counts owed c at all group there is more one = counted_set count counts owed c at there false all group (rw is (omega (arith, more))) (rw is (omega (arith, one)))

-- no count passes the number of places
pub below_few : (k : ℕ) (owed : List Bool) → owed_below k owed ≤ length owed
below_few zero owed = omega arith
below_few (suc k) [] = omega arith
below_few (suc k) (true ∷ owed) = omega (arith, below_few k owed)
below_few (suc k) (false ∷ owed) = omega (arith, below_few k owed)

group_few : (count : ℕ) (counts : List ℕ) (owed : List Bool) → IsCounted count counts owed → (i : ℕ) → i < length counts → slice_index_or counts i 0 ≤ length owed
group_few count counts owed c i low = omega (arith, c.each i low, below_few (512 * (i + 1)) owed)

pub counts_fit : (count : ℕ) (counts : List ℕ) (owed : List Bool) → IsCounted count counts owed → (at : ℕ) → at < length owed → slice_index_or owed at false ≡ false → (count + 1 < 2 ^ 32) × (slice_index_or counts (at / 512) 0 + 1 < 2 ^ 32)
counts_fit count counts owed c at there not =
    let now = counted_owed count counts owed c at there not in
    let low : at / 512 < length counts = omega (arith, there, c.there) in
    let one = slice_index_or counts (at / 512) 0 + 1 in (
      omega (arith, now.all, now.few, length-places 0 (slice_set owed at true)),
      omega (arith, now.few, group_few _ _ _ now (at / 512) (omega (arith, low, length-set counts (at / 512) one)), get_or-set_at counts (at / 512) (at / 512) one 0 refl low),
    )

-- The lowest.

pub lowest_is : (k : ℕ) (owed : List Bool) (at : ℕ) → at < length owed → ((i : ℕ) → i < at → slice_index_or owed i false ≡ false) → slice_index_or owed at false ≡ true → places_from k owed ≡ (k + at) ∷ places_from k (slice_set owed at false)
lowest_is k [] at there none is = absurd (omega (arith, there))
lowest_is k (true ∷ owed) zero there none is = ap (λ (n : ℕ). n ∷ places_from (k + 1) owed) (omega arith)
lowest_is k (false ∷ owed) zero there none is = absurd cc
lowest_is k (true ∷ owed) (suc at) there none is = let first = none 0 (omega arith) in absurd cc
lowest_is k (false ∷ owed) (suc at) there none is =
    lowest_is (k + 1) owed at (omega (arith, there)) (λ i below. none (suc i) (omega (arith, below))) is ∙ ap (λ (n : ℕ). n ∷ places_from (k + 1) (slice_set owed at false)) (omega arith)

pub length-owe : (first n : ℕ) (owed : List Bool) → length (owe_from first n owed) ≡ length owed
length-owe first zero owed = refl
length-owe first (suc n) owed = length-set (owe_from first n owed) (first + n) true ∙ length-owe first n owed

-- the first 512 places that have some, by their counts
pub first_group : (count : ℕ) (counts : List ℕ) (owed : List Bool) → IsCounted count counts owed → (g : ℕ) → g ≤ length counts → ((i : ℕ) → i < g → slice_index_or counts i 0 ≡ 0) → owed_below (512 * g) owed ≡ 0
first_group count counts owed c zero there none = refl
first_group count counts owed c (suc g) there none =
    let same : 512 * suc g ≡ 512 * (g + 1) = omega arith in
    ap (λ (n : ℕ). owed_below n owed) same ∙ omega (arith, c.each g (omega (arith, there)), none g (omega arith), first_group count counts owed c g (omega (arith, there)) (λ i low. none i (omega (arith, low))))

pub some_group : (count : ℕ) (counts : List ℕ) (owed : List Bool) → IsCounted count counts owed → 0 < count → (g : ℕ) → g ≤ length counts → ((i : ℕ) → i < g → slice_index_or counts i 0 ≡ 0) → g < length counts
some_group count counts owed c some g there none = ⊎_elim
    (λ (low : g < length counts). low)
    (λ (high : length counts ≤ g). let end : g ≡ length counts = omega (arith, high, there) in
    absurd (omega (arith, some, c.all, below_all 0 (512 * g) owed (omega (arith, end, c.there)), first_group count counts owed c g there none)))
    (cases_lt g (length counts))

pub group_there : (count : ℕ) (counts : List ℕ) (owed : List Bool) → IsCounted count counts owed → (g : ℕ) → g < length counts → 0 < slice_index_or counts g 0 → 512 * g < length owed
group_there count counts owed c g low some = ⊎_elim
    (λ (is : 512 * g < length owed). is)
    (λ (past : length owed ≤ 512 * g). absurd (omega (arith, some, c.each g low, none_between (512 * g) (512 * (g + 1)) owed (omega arith) (λ i above below. get_or_past owed i false (omega (arith, past, above))))))
    (cases_lt (512 * g) (length owed))

-- and the first of these
module _ (count : ℕ) (counts : List ℕ) (owed : List Bool) (c : IsCounted count counts owed) (g at : ℕ) (low : g < length counts) (some : 0 < slice_index_or counts g 0) (from : 512 * g ≤ at) (there : at ≤ length owed)
    (none : (i : ℕ) → 512 * g ≤ i → i < at → slice_index_or owed i false ≡ false) where
  none_here : (b : ℕ) → 512 * g ≤ b → b ≤ 512 * (g + 1) → ((i : ℕ) → at ≤ i → i < b → slice_index_or owed i false ≡ false) → owed_below b owed ≡ owed_below (512 * g) owed
  none_here b from_b to rest = none_between (512 * g) b owed from_b (λ i above below. ⊎_elim (λ (before : i < at). none i above before) (λ (after : at ≤ i). rest i after below) (cases_lt i at))

  pub in_group : (at < length owed) × (at / 512 ≡ g)
  in_group = ⊎_elim
      (λ (within : at < 512 * (g + 1)). ⊎_elim
      (λ (is : at < length owed). (is, omega (arith, from, within)))
      (λ (past : length owed ≤ at). absurd (omega (arith, some, c.each g low, none_here (512 * (g + 1)) (omega arith) (omega arith) (λ i after below. get_or_past owed i false (omega (arith, past, after))))))
      (cases_lt at (length owed)))
      (λ (later : 512 * (g + 1) ≤ at). absurd (omega (arith, some, c.each g low, none_here (512 * (g + 1)) (omega arith) (omega arith) (λ i after below. absurd (omega (arith, later, after, below))))))
      (cases_lt at (512 * (g + 1)))

  pub none_lower : owed_below (512 * g) owed ≡ 0 → (i : ℕ) → i < at → slice_index_or owed i false ≡ false
  none_lower before i below = ⊎_elim (λ (early : i < 512 * g). zero_below (512 * g) owed i before early) (λ (late : 512 * g ≤ i). none i late below) (cases_lt i (512 * g))

-- the lowest place that is owed, as it is found
pub record IsLowest (count : ℕ) (counts : List ℕ) (owed : List Bool) (g at : ℕ) : Type 0 where
  pub there : at < length owed
  pub group : at / 512 ≡ g
  pub places : places_of owed ≡ at ∷ places_of (slice_set owed at false)
  pub counted : IsCounted (count - 1) (slice_set counts g (slice_index_or counts g 0 - 1)) (slice_set owed at false)

pub found_lowest : (count : ℕ) (counts : List ℕ) (owed : List Bool) → IsCounted count counts owed → 0 < count → (g at : ℕ) → g ≤ length counts → ((i : ℕ) → i < g → slice_index_or counts i 0 ≡ 0) → (g < length counts → 0 < slice_index_or counts g 0) →
    512 * g ≤ at → at ≤ length owed → ((i : ℕ) → 512 * g ≤ i → i < at → slice_index_or owed i false ≡ false) → (at < length owed → slice_index_or owed at false ≡ true) → IsLowest count counts owed g at
found_lowest count counts owed c more g at there none some from within free is =
    let low = some_group count counts owed c more g there none in
    let here = in_group count counts owed c g at low (some low) from within free in
    let before = none_lower count counts owed c g at low (some low) from within free (first_group count counts owed c g there none) in
    let one = some low in
    record {
      there = here.0;
      group = here.1;
      places = lowest_is 0 owed at here.0 before (is here.0) ∙ ap (λ (n : ℕ). n ∷ places_of (slice_set owed at false)) (omega arith);
      counted = subst (λ (k : ℕ). IsCounted (count - 1) (slice_set counts k (slice_index_or counts g 0 - 1)) (slice_set owed at false)) here.1
          (counted_taken count counts owed c at (count - 1) (slice_index_or counts g 0 - 1) here.0 (is here.0) (omega (arith, more)) (omega (arith, one, ap (λ (k : ℕ). slice_index_or counts k 0) here.1)));
    }

pub none_left : (k : ℕ) (owed : List Bool) → places_from k owed ≡ [] → owed ≡ replicate (length owed) false
none_left k [] none = refl
none_left k (true ∷ owed) none = absurd cc
none_left k (false ∷ owed) none = ap (λ (others : List Bool). false ∷ others) (none_left (k + 1) owed none)
