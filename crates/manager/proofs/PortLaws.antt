use Rattle.std.proofs.Common.{◌≡◌, ℕ, ◌-◌, ◌^◌, ◌<◌, ◌≤◌, ⊎_elim, List, Option, Some, None, refl, arith}
use Rattle.std.specs.Prelude.{IfSome, sum}
use Rattle.std.proofs.lemmas.Bool.{cases_lt}
use Rattle.std.proofs.lemmas.List.Sums.{get_or-le-sum_by}
use Rattle.mig_base.specs.Count.{RiseBy, RisesBy}
use Rattle.nvm_model.specs.Medium.{StayTold}

-- For whoever makes a port: what is told and stays, and one count for several.

pub stay_same : {B : Type 0} (P : B → Type 0) (old new : Option B) → new ≡ old → IfSome old P → StayTold (λ x y. (y ≡ x) × P x) old new
stay_same P None new is p = rw is tt
stay_same P (Some x) new is p = rw is (refl, p)

pub stay : {B : Type 0} (old new : Option B) → new ≡ old → StayTold (λ x y. y ≡ x) old new
stay None new is = rw is tt
stay (Some x) new is = rw is refl

pub always : {B : Type 0} (old : Option B) → IfSome old (λ _. Unit {0})
always None = tt
always (Some x) = tt

-- a rise of several counts is one of their sum
pub rises_sum : (a b : List ℕ) → RiseBy 1 a b → RisesBy 1 (sum a) (sum b)
rises_sum a b rise = ⊎_elim
    (λ (low : sum b < 2 ^ 64 - 1). omega (arith, rise (λ k d there. omega (arith, low, get_or-le-sum_by (λ (n : ℕ). n) b k d there))))
    (λ (high : 2 ^ 64 - 1 ≤ sum b). omega (arith, high))
    (cases_lt (sum b) (2 ^ 64 - 1))
