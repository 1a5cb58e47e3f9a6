use Rattle.std.specs.Prelude.{◌≡◌, ℕ, ◌+◌, ◌≤◌, List, Option, Some, None, IfSome, length}
use Rattle.nvm_model.specs.declared.script.Head.{Head}
use Rattle.nvm_model.specs.declared.script.Script.{Script}
use Rattle.nvm_model.specs.World.{window_pages}
use Rattle.nvm_model.specs.ScriptText.{IsScript, script_text}
use Rattle.script.specs.declared.refusal.Why.{Why}
use Rattle.script.specs.declared.refusal.Why.TheVariants.{Range}
use Rattle.script.specs.BadLine.{IsBadLine}

-- The heads that are taken: no migration but one that copies everything while the guests are suspended.
pub record IsBuilt (head : Head) : Type 0 where
  pub moves : IfSome head.migrate (λ _. (head.small ≡ head.blocks) × (window_pages head ≤ head.pages))

-- the line of `migrate` of a head that asks for more, which stands behind the lanes' lines
pub record IsUnbuilt (head : Head) (line : ℕ) : Type 0 where
  pub line_is : line ≡ head.lanes + 12
  pub moves : IfSome head.migrate (λ _. (head.small ≡ head.blocks) × (window_pages head ≤ head.pages)) → ⊥

-- the scripts that are taken: those of the grammar with such a head
pub record IsTaken (s : Script) : Type 0 where
  pub script : IsScript s
  pub built : IsBuilt s.head

-- the longest input that is read, in bytes
abbrev pub most_bytes : ℕ
most_bytes = 4194304

-- the whole input spells the script, where it is told
abbrev pub Spells : Option (List ℕ) → Script → Type 0
Spells None s = Unit {0}
Spells (Some text) s = (text ≡ script_text s) × (length text ≤ most_bytes)

-- it spells no other
abbrev pub SpellsOnly : Option (List ℕ) → Script → Type 0
SpellsOnly None s = Unit {0}
SpellsOnly (Some text) s = (other : Script) → IsScript other → text ≡ script_text other → s ≡ other

-- it spells one that is taken
abbrev pub SpellsOne : Option (List ℕ) → Type 0
SpellsOne told = (s : Script) × IsTaken s × Spells told s

-- the input spells no script that is taken, where it is told
abbrev pub SpellsNone : Option (List ℕ) → Type 0
SpellsNone None = Unit {0}
SpellsNone (Some text) = (length text ≤ most_bytes) × ((s : Script) → IsTaken s → text ≡ script_text s → ⊥)

-- the input spells no script, and this is its first line that isn't right, where it is told
abbrev pub TellsBadLine : Option (List ℕ) → ℕ → Why → Type 0
TellsBadLine None line why = Unit {0}
TellsBadLine (Some text) line why = (length text ≤ most_bytes) × IsBadLine text (record { line = line; why = why })

-- the input spells a script whose head asks for more at this line, where it is told
abbrev pub TellsUnbuilt : Option (List ℕ) → ℕ → Why → Type 0
TellsUnbuilt told line why = (why ≡ Range) × (s : Script) × IsScript s × Spells told s × IsUnbuilt s.head line

-- the input is too long, where it is told
abbrev pub IsTooLong : Option (List ℕ) → Type 0
IsTooLong None = Unit {0}
IsTooLong (Some text) = (length text ≤ most_bytes) → ⊥
