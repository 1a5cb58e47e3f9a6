use Rattle.std.proofs.Common.{ℕ, zero, suc, ◌+◌, ◌-◌, ◌^◌, ◌<◌, ◌≤◌, List, [], ◌∷◌, ◌++◌, Bool, true, false, cond, IsTrue, length, get_or, set, refl, arith}
use Rattle.std.specs.Prelude.{All, sum}
use Rattle.std.proofs.lemmas.List.Elements.{All-head, All-tail, All-cons}
use Rattle.std.proofs.lemmas.List.Sums.{sum_by-append, sum_by-cons, sum_by-set}
use Rattle.mig_base.specs.Count.{RisesBy, NeverFall, RiseBy}

-- counts that stay don't fall
pub never_stay : (counts : List ℕ) → NeverFall counts counts
never_stay [] = tt
never_stay (count ∷ counts) = (omega arith, never_stay counts)

pub never_more : (a b c : List ℕ) → NeverFall a b → NeverFall b c → NeverFall a c
never_more [] [] [] h k = tt
never_more [] [] (z ∷ zs) h k = absurd k
never_more [] (y ∷ ys) c h k = absurd h
never_more (x ∷ xs) [] c h k = absurd h
never_more (x ∷ xs) (y ∷ ys) [] h k = absurd k
never_more (x ∷ xs) (y ∷ ys) (z ∷ zs) h k = (omega (arith, h.0, k.0), never_more xs ys zs h.1 k.1)

-- where no count fell, they didn't fall together
pub never_sum : (a b : List ℕ) → NeverFall a b → sum a ≤ sum b
never_sum [] [] h = omega arith
never_sum [] (y ∷ ys) h = absurd h
never_sum (x ∷ xs) [] h = absurd h
never_sum (x ∷ xs) (y ∷ ys) h = omega (arith, h.0, never_sum xs ys h.1, sum_by-cons (λ (k : ℕ). k) x xs, sum_by-cons (λ (k : ℕ). k) y ys)

-- counts below their types' ends were so before
below_before : (m : ℕ) (a b : List ℕ) → NeverFall a b → All (λ (count : ℕ). count < m) b → All (λ (count : ℕ). count < m) a
below_before m [] [] h below = below
below_before m [] (y ∷ ys) h below = absurd h
below_before m (x ∷ xs) [] h below = absurd h
below_before m (x ∷ xs) (y ∷ ys) h below =
    All-cons (λ (count : ℕ). count < m) x xs (omega (arith, h.0, All-head (λ (count : ℕ). count < m) y ys below))
    (below_before m xs ys h.1 (All-tail (λ (count : ℕ). count < m) y ys below))

pub rise_none : (a b : List ℕ) → NeverFall a b → RiseBy 0 a b
rise_none a b h below = omega (arith, never_sum a b h)

-- rises add up
pub rise_more : (m n : ℕ) (a b c : List ℕ) → RiseBy m a b → NeverFall b c → RiseBy n b c → RiseBy (m + n) a c
rise_more m n a b c first later second below =
    omega (arith, first (below_before (2 ^ 64 - 1) b c later below), second below)

-- they rose by one where a call failed, and else by none
pub rise_if : (failed : Bool) (a b : List ℕ) → NeverFall a b → (IsTrue failed → RiseBy 1 a b) → RiseBy (cond failed 1 0) a b
rise_if true a b later cause = cause refl
rise_if false a b later cause = rise_none a b later

-- One count of them rose.

pub never_set : (counts : List ℕ) (i count : ℕ) → get_or counts i 0 ≤ count → NeverFall counts (set counts i count)
never_set [] i count h = tt
never_set (x ∷ xs) zero count h = (h, never_stay xs)
never_set (x ∷ xs) (suc i) count h = (omega arith, never_set xs i count h)

pub rise_set : (n : ℕ) (counts : List ℕ) (i count : ℕ) → i < length counts → RisesBy n (get_or counts i 0) count → RiseBy n counts (set counts i count)
rise_set n counts i count there rise below =
    let small : count < 2 ^ 64 - 1 = at_set counts i count there (2 ^ 64 - 1) below in
    omega (arith, small, rise, sum_by-set (λ (k : ℕ). k) counts i count 0 there)
  where
    at_set : (xs : List ℕ) (k new : ℕ) → k < length xs → (m : ℕ) → All (λ (c : ℕ). c < m) (set xs k new) → new < m
    at_set [] k new within m h = absurd (omega (arith, within))
    at_set (x ∷ xs) zero new within m h = All-head (λ (c : ℕ). c < m) new xs h
    at_set (x ∷ xs) (suc k) new within m h = at_set xs k new (omega (arith, within)) m (All-tail (λ (c : ℕ). c < m) x (set xs k new) h)

-- Counts beside further ones.

pub never_both : (a b c d : List ℕ) → NeverFall a b → NeverFall c d → NeverFall (a ++ c) (b ++ d)
never_both [] [] c d h k = k
never_both [] (y ∷ ys) c d h k = absurd h
never_both (x ∷ xs) [] c d h k = absurd h
never_both (x ∷ xs) (y ∷ ys) c d h k = (h.0, never_both xs ys c d h.1 k)

below_front : (m : ℕ) (a b : List ℕ) → All (λ (count : ℕ). count < m) (a ++ b) → All (λ (count : ℕ). count < m) a
below_front m [] b below = λ i d there. absurd (omega (arith, there))
below_front m (x ∷ xs) b below =
    All-cons (λ (count : ℕ). count < m) x xs (All-head (λ (count : ℕ). count < m) x (xs ++ b) below) (below_front m xs b (All-tail (λ (count : ℕ). count < m) x (xs ++ b) below))

below_back : (m : ℕ) (a b : List ℕ) → All (λ (count : ℕ). count < m) (a ++ b) → All (λ (count : ℕ). count < m) b
below_back m [] b below = below
below_back m (x ∷ xs) b below = below_back m xs b (All-tail (λ (count : ℕ). count < m) x (xs ++ b) below)

pub rise_left : (n : ℕ) (a b c : List ℕ) → RiseBy n a b → RiseBy n (a ++ c) (b ++ c)
rise_left n a b c rise below =
    omega (arith, rise (below_front (2 ^ 64 - 1) b c below), sum_by-append (λ (k : ℕ). k) a c, sum_by-append (λ (k : ℕ). k) b c)

pub rise_right : (n : ℕ) (a b c : List ℕ) → RiseBy n a b → RiseBy n (c ++ a) (c ++ b)
rise_right n a b c rise below =
    omega (arith, rise (below_back (2 ^ 64 - 1) c b below), sum_by-append (λ (k : ℕ). k) c a, sum_by-append (λ (k : ℕ). k) c b)
