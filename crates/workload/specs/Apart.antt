use Rattle.std.specs.Prelude.{◌≡◌, ℕ, ◌+◌, ◌<◌, ◌≤◌, zero, suc, List, [], ◌∷◌, ◌++◌}
use Rattle.std.specs.List.{AllByRecursion}
use Rattle.nvm_model.specs.declared.script.Act.{Act}
use Rattle.nvm_model.specs.declared.script.Act.TheVariants.{Submit, Raw}

-- Whose commands are on which blocks, and how they are numbered.

-- an act submits a command on this block; an entry that is given as bytes may be on any
abbrev pub IsOn : ℕ → Act → Type 0
IsOn block (Submit cid op slba count p1 p2) = (slba ≤ block) × (block < slba + count)
IsOn block (Raw entry) = Unit {0}
IsOn block _ = ⊥

-- each block has one lane at most whose commands are on it
abbrev pub AreApart : List (ℕ × Act) → Type 0
AreApart acts = (owner : ℕ → ℕ) × AllByRecursion (λ (a : ℕ × Act). (block : ℕ) → IsOn block a.1 → a.0 ≡ owner block) acts

-- the identifier of the command that an act submits
abbrev pub submitted_cid : Act → List ℕ
submitted_cid (Submit cid op slba count p1 p2) = cid ∷ []
submitted_cid _ = []

-- the numbers from 1 to n
unfoldable pub numbers_to : ℕ → List ℕ
numbers_to zero = []
numbers_to (suc n) = numbers_to n ++ (n + 1) ∷ []
