use Rattle.std.specs.Prelude.{◌≡◌, ◌⊎◌, ℕ, ◌+◌, ◌-◌, ◌≤◌, ◌^◌, min, true, List, [], ◌∷◌, ◌++◌, length, codes, None}
use Rattle.std.specs.List.{flat_map, AllByRecursion}
use Rattle.nvm_model.specs.declared.script.Script.{Script}
use Rattle.nvm_model.specs.ScriptText.{IsScript, script_text}
use Rattle.nvm_model.specs.Text.{last_field}
use Rattle.script.specs.declared.refusal.BadLine.{BadLine}
use Rattle.script.specs.declared.refusal.ParseRefusal.{ParseRefusal}
use Rattle.script.specs.declared.refusal.ParseRefusal.TheVariants.{Bad, OutOfMemory}
use Rattle.script.specs.declared.refusal.Why.{Why}
use Rattle.script.specs.declared.refusal.Why.TheVariants.{Form, Range, Cut, More}
use Rattle.script.specs.Words.{cut_at}
use Rattle.script.specs.Lines.{is_due, due_at}

-- Which line of a text is the first that isn't right, and why.

-- bytes without a line feed
abbrev pub HasNoFeed : List ℕ → Type 0
HasNoFeed text = cut_at 10 text ≡ None

-- lines, each with its line feed
abbrev pub lined : List (List ℕ) → List ℕ
lined lines = flat_map (λ line. line ++ 10 ∷ []) lines

-- the line behind so many has a form that is allowed there in a script with so many lanes
abbrev pub HasForm : ℕ → ℕ → List ℕ → Type 0
HasForm lanes count line = is_due (due_at lanes count) line ≡ true

-- ---- right lines

-- the first two lines. Not each number of blocks has a length of a shelf that divides it, so they are right by themselves.
abbrev pub IsStart : List ℕ → Type 0
IsStart front = (blocks : ℕ) × (1 ≤ blocks) × (blocks ≤ 131072) × (front ≡ codes "nvmigrate script 1\n" ++ (codes "blocks " ++ last_field blocks))

-- the first lines of a script with so many lanes
abbrev pub BeginsOf : ℕ → List ℕ → Type 0
BeginsOf lanes front = IsStart front ⊎ ((s : Script) × IsScript s × (s.head.lanes ≡ lanes) × (rest : List ℕ) × (script_text s ≡ front ++ rest))

-- these lines begin a script, or are the title and the lines of a head up to a right number
abbrev pub Begins : List ℕ → Type 0
Begins front = (lanes : ℕ) × BeginsOf lanes front

-- a whole script
abbrev pub IsWholeText : List ℕ → Type 0
IsWholeText text = (s : Script) × IsScript s × (text ≡ script_text s)

-- ---- the line that isn't right

-- a whole line begins the text, and P holds of it
abbrev pub OnFirstLine : List ℕ → (List ℕ → Type 0) → Type 0
OnFirstLine text P = (line : List ℕ) × (after : List ℕ) × (text ≡ line ++ 10 ∷ after) × HasNoFeed line × P line

-- What is wrong with the line that comes after these. Behind a whole script it is that bytes are there.
abbrev pub IsWhy : ℕ → List (List ℕ) → List ℕ → Why → Type 0
IsWhy lanes before rest Form = (IsWholeText (lined before) → ⊥) × OnFirstLine rest (λ line. HasForm lanes (length before) line → ⊥)
IsWhy lanes before rest Range = (IsWholeText (lined before) → ⊥) × OnFirstLine rest (λ line. HasForm lanes (length before) line × (Begins (lined (before ++ line ∷ [])) → ⊥))
IsWhy lanes before rest Cut = (IsWholeText (lined before) → ⊥) × HasNoFeed rest
IsWhy lanes before rest More = IsWholeText (lined before) × (rest ≡ [] → ⊥)

-- The first line that isn't right: the lines before it begin a script.
pub record IsBadLine (text : List ℕ) (bad : BadLine) : Type 0 where
  pub lanes : ℕ
  pub before : List (List ℕ)
  pub rest : List ℕ
  pub text_is : text ≡ lined before ++ rest
  pub lines : AllByRecursion HasNoFeed before
  -- it stands still at the largest number that has 32 bits
  pub number : bad.line ≡ min (length before + 1) (2 ^ 32 - 1)
  pub begins : BeginsOf lanes (lined before)
  pub why : IsWhy lanes before rest bad.why

-- what a refusal says of the text
abbrev pub IsRefusedAt : List ℕ → ParseRefusal → Type 0
IsRefusedAt text (Bad bad) = IsBadLine text bad
IsRefusedAt text OutOfMemory = Unit {0}

-- what a refusal says of a text that may go on behind a script
abbrev pub IsFrontRefused : List ℕ → ParseRefusal → Type 0
IsFrontRefused text (Bad bad) = IsBadLine text bad × (bad.why ≡ More → ⊥)
IsFrontRefused text OutOfMemory = Unit {0}
