use Rattle.std.specs.Prelude.{◌≡◌, ℕ, ◌+◌, ◌-◌, ◌^◌, min, Bool, true, false, if◌then◌else◌, Result, Ok, Err, List, [], ◌++◌, length, Option, Some, None}
use Rattle.std.specs.List.{AllByRecursion}
use Rattle.script.specs.declared.key.Due.TheVariants.{Done}
use Rattle.script.specs.declared.refusal.BadLine.{BadLine}
use Rattle.script.specs.declared.refusal.ParseRefusal.{ParseRefusal}
use Rattle.script.specs.declared.refusal.ParseRefusal.TheVariants.{Bad, OutOfMemory}
use Rattle.script.specs.declared.refusal.Why.{Why}
use Rattle.script.specs.declared.refusal.Why.TheVariants.{Form, Range, Cut, More}
use Rattle.script.specs.Words.{cut_at}
use Rattle.script.specs.Lines.{State, start, step, run, is_due}
use Rattle.script.specs.BadLine.{lined, HasNoFeed}

-- what a reader became: a line that isn't right changes nothing
abbrev pub Stepped : State → Option State → Bool → State → Type 0
Stepped old read true new = read ≡ Some new
Stepped old read false new = (read ≡ None) × (new ≡ old)

-- nor does one for which there is no memory
abbrev pub Steps : {E : Type 0} → State → Option State → Result Bool E → State → Type 0
Steps old read (Ok stepped) new = Stepped old read stepped new
Steps old read (Err e) new = new ≡ old

abbrev pub why_of : State → List ℕ → Why
why_of s line = if is_due s.due line then Range else Form

-- How far a text was read line by line, and why it isn't read further.

-- the lines before what is left were read, and it begins at the line of that number
pub record IsRead (text : List ℕ) (s : State) (rest : List ℕ) (number : ℕ) : Type 0 where
  pub before : List (List ℕ)
  pub text_is : text ≡ lined before ++ rest
  pub lines : AllByRecursion HasNoFeed before
  pub runs : run start before ≡ Some s
  pub count : number ≡ min (length before + 1) (2 ^ 32 - 1)

-- what is wrong with the line that is due
abbrev pub IsStuck : State → List ℕ → Why → Type 0
IsStuck s rest Form = (s.due ≡ Done → ⊥) × (x : List ℕ × List ℕ) × (cut_at 10 rest ≡ Some x) × (is_due s.due x.0 ≡ false)
IsStuck s rest Range = (s.due ≡ Done → ⊥) × (x : List ℕ × List ℕ) × (cut_at 10 rest ≡ Some x) × (is_due s.due x.0 ≡ true) × (step s x.0 ≡ None)
IsStuck s rest Cut = (s.due ≡ Done → ⊥) × (cut_at 10 rest ≡ None)
IsStuck s rest More = (s.due ≡ Done) × (rest ≡ [] → ⊥)

pub record IsTold (text : List ℕ) (bad : BadLine) : Type 0 where
  pub state : State
  pub rest : List ℕ
  pub read : IsRead text state rest bad.line
  pub stuck : IsStuck state rest bad.why

-- what a refusal says of a text whose front may be a script
abbrev pub IsRefused : List ℕ → ParseRefusal → Type 0
IsRefused text (Bad bad) = IsTold text bad × (bad.why ≡ More → ⊥)
IsRefused text OutOfMemory = Unit {0}
