use Rattle.std.specs.Prelude.{◌≡◌, ℕ, ◌<◌, ◌≤◌, List, [], ◌++◌, Option, Some, None, length, take, drop, Result, OnOk, OnErr}
use Rattle.mig_base.specs.Count.{HasCause}

-- n bytes went from the front of what was left to the front of the buffer; none where nothing was left, and only there
pub record Moves (left buffer : List ℕ) (n : ℕ) (rest : List ℕ) : Type 0 where
  pub within : n ≤ length left
  pub same : take n buffer ≡ take n left
  pub rest_is : rest ≡ drop n left
  pub ends : 0 < length buffer → n ≡ 0 → left ≡ []

-- the same where the bytes are told; whether they are never changes
abbrev pub Takes : Option (List ℕ) → List ℕ → ℕ → Option (List ℕ) → Type 0
Takes (Some left) buffer n (Some rest) = Moves left buffer n rest
Takes None buffer n None = Unit {0}
Takes (Some left) buffer n None = ⊥
Takes None buffer n (Some rest) = ⊥

-- the bytes that a sink took, and these after them
abbrev pub with_more : List ℕ → Option (List ℕ) → Option (List ℕ)
with_more piece None = None
with_more piece (Some taken) = Some (taken ++ piece)

-- of a text a front was written, and no more was taken
abbrev pub IsCut : List ℕ → Option (List ℕ) → Option (List ℕ) → Type 0
IsCut text before after = (n : ℕ) × (n ≤ length text) × (after ≡ with_more (take n text) before)

-- A text was written, or a front of it where the sink failed: the bytes before and after, where they are told, and the
-- counts of faults.
pub record Writes {T E : Type 0} (text : List ℕ) (before after : Option (List ℕ)) (faults now : ℕ) (result : Result T E) : Type 0 where
  pub written : OnOk result (after ≡ with_more text before)
  pub cut : OnErr result (IsCut text before after)
  pub cause : HasCause faults now result

-- Bytes went from the front of what was left to the end of those that a reader has, where they are told.
abbrev pub Gathers : Option (List ℕ) → List ℕ → Option (List ℕ) → List ℕ → Type 0
Gathers (Some left) got (Some rest) more = more ++ rest ≡ got ++ left
Gathers None got None more = Unit {0}
Gathers (Some left) got None more = ⊥
Gathers None got (Some rest) more = ⊥
