-- Bytes each of which may stand behind those before it.
use Rattle.std.proofs.Common.{◌≡◌, ◌<◌, ◌≤◌, ◌+◌, ℕ, zero, suc, List, [], ◌∷◌, ◌++◌, append_assoc, add-one, length, take, drop, slice_index, refl, sym, ap, subst, arith, drop-cons}
use Rattle.std.proofs.lemmas.List.{append-nil, drop_all}
use Rattle.ctl_state.specs.declared.bounds.Bounds.{Bounds}
use Rattle.ctl_state.specs.Bounds.{Follows, IsWithin}

pub follows_append : (may : List ℕ → Bounds) (front xs ys : List ℕ) → Follows may front xs → Follows may (front ++ xs) ys → Follows may front (xs ++ ys)
follows_append may front [] ys first then = subst (λ (f : List ℕ). Follows may f ys) (append-nil front) then
follows_append may front (x ∷ xs) ys first then =
    (first.0, follows_append may (front ++ x ∷ []) xs ys first.1 (subst (λ (f : List ℕ). Follows may f ys) (sym (append_assoc front (x ∷ []) xs)) then))

pub follows_front : (may : List ℕ → Bounds) (front xs ys : List ℕ) → Follows may front (xs ++ ys) → Follows may front xs
follows_front may front [] ys all = tt
follows_front may front (x ∷ xs) ys all = (all.0, follows_front may (front ++ x ∷ []) xs ys all.1)

pub follows_rest : (may : List ℕ → Bounds) (front xs ys : List ℕ) → Follows may front (xs ++ ys) → Follows may (front ++ xs) ys
follows_rest may front [] ys all = subst (λ (f : List ℕ). Follows may f ys) (sym (append-nil front)) all
follows_rest may front (x ∷ xs) ys all =
    subst (λ (f : List ℕ). Follows may f ys) (append_assoc front (x ∷ []) xs) (follows_rest may (front ++ x ∷ []) xs ys all.1)

-- each of them may
pub follows_at : (may : List ℕ → Bounds) (front xs : List ℕ) (i : ℕ) → Follows may front xs → i < length xs → IsWithin (may (front ++ take i xs)) (slice_index xs i)
follows_at may front [] i all there = absurd (omega arith)
follows_at may front (x ∷ xs) zero all there = subst (λ (f : List ℕ). IsWithin (may f) x) (sym (append-nil front)) all.0
follows_at may front (x ∷ xs) (suc i) all there =
    subst (λ (f : List ℕ). IsWithin (may f) (slice_index xs i)) (append_assoc front (x ∷ []) (take i xs)) (follows_at may (front ++ x ∷ []) xs i all.1 (omega arith))

-- where one may always stand, bytes go on as far as one likes
pub record GoesOn (may : List ℕ → Bounds) (front : List ℕ) (count : ℕ) : Type 0 where
  pub rest : List ℕ
  pub size : length rest ≡ count
  pub follows : Follows may front rest

pub goes_on : (may : List ℕ → Bounds) (count : ℕ) (front : List ℕ) → ((f : List ℕ) → (may f).low ≤ (may f).high) → GoesOn may front count
goes_on may zero front some = record { rest = []; size = refl; follows = tt }
goes_on may (suc count) front some =
    let byte : ℕ = (may front).low in
    let more = goes_on may count (front ++ byte ∷ []) some in
    record { rest = byte ∷ more.rest; size = ap suc more.size; follows = ((omega arith, some front), more.follows) }

-- a list by its elements
abbrev pub listed : ℕ → ℕ → List ℕ → List ℕ
listed at zero xs = []
listed at (suc n) xs = slice_index xs at ∷ listed (at + 1) n xs

pub drop-listed : (at n : ℕ) (xs : List ℕ) → length xs ≡ at + n → drop at xs ≡ listed at n xs
drop-listed at zero xs size = drop_all at xs (omega arith)
drop-listed at (suc n) xs size = rw (drop-cons xs at 0 (omega (arith, size))) (ap (λ (rest : List ℕ). slice_index xs at ∷ rest) (rw (← add-one at) (drop-listed (at + 1) n xs (omega (arith, size)))))
