use Rattle.std.specs.Prelude.{◌≡◌, ℕ, ◌+◌, ◌-◌, ◌^◌, ◌<◌, ◌≤◌, Bool, true, false, List, All, min, sum, Result, IsErr, OnOk}
use Rattle.std.specs.List.{AllZip}

-- A count kept in 64 bits that rises by n or more: at its type's end it stands still.
abbrev pub RisesBy : ℕ → ℕ → ℕ → Type 0
RisesBy n before now = min (before + n) (2 ^ 64 - 1) ≤ now

-- A count of faults rises where there was a fault, and else stays.
abbrev pub RisesIf : Bool → ℕ → ℕ → Type 0
RisesIf true before now = RisesBy 1 before now
RisesIf false before now = now ≡ before

-- A count of faults after a call: it never falls, it rose where the call failed, and else it stayed.
pub record HasCause {T E : Type 0} (before now : ℕ) (result : Result T E) : Type 0 where
  pub later : before ≤ now
  pub calm : OnOk result (now ≡ before)
  pub failed : IsErr result → RisesBy 1 before now

-- The same for several counts, one beside another: those of all media of a host, say.

-- they are as many as before, and none of them fell
abbrev pub NeverFall : List ℕ → List ℕ → Type 0
NeverFall before now = AllZip (λ count new. count ≤ new) before now

-- they rose by n or more together, as far as they hadn't reached their types' ends
abbrev pub RiseBy : ℕ → List ℕ → List ℕ → Type 0
RiseBy n before now = All (λ count. count < 2 ^ 64 - 1) now → n + sum before ≤ sum now

-- counts of faults after a call
pub record HaveCause {T E : Type 0} (before now : List ℕ) (result : Result T E) : Type 0 where
  pub later : NeverFall before now
  pub failed : IsErr result → RiseBy 1 before now
