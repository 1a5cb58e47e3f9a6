use Rattle.std.specs.Prelude.{◌≡◌, ℕ, ◌+◌, List, [], ◌∷◌, ◌++◌, length, replicate}
use Rattle.std.specs.List.{AllByRecursion}
use Rattle.nvm_model.specs.declared.line.Line.{Line}
use Rattle.nvm_model.specs.declared.script.Head.{Head}
use Rattle.nvm_model.specs.declared.script.Script.{Script}
use Rattle.nvm_model.specs.History.{Complete, IsWhole, Legal, Reaches, events_of}
use Rattle.nvm_model.specs.Memory.{zero_block}
use Rattle.nvm_model.specs.Text.{IsLine, IsTranscript, line_text, text_of}
use Rattle.nvm_model.specs.World.{World}
use Rattle.judge.specs.declared.verdict.Fault.{Fault}
use Rattle.judge.specs.declared.verdict.Fault.TheVariants as fault
use Rattle.judge.specs.declared.verdict.Verdict.{Verdict}
use Rattle.judge.specs.declared.verdict.Verdict.TheVariants.{Yes, No}

-- What is said of a text that may be the transcript of a script. It names no reader.

-- a namespace before anything was written
abbrev pub zeroed : Head → List (List ℕ)
zeroed head = replicate head.blocks zero_block

-- the events among lines are a legal history, from a zeroed namespace and zeroed memory
abbrev pub AreLegal : Script → List Line → Type 0
AreLegal s lines = Legal s (zeroed s.head) (events_of lines)

-- and each guest did its acts by then, and no command of its is under way
abbrev pub AreComplete : Script → List Line → Type 0
AreComplete s lines = (w : World) × Reaches s (zeroed s.head) (events_of lines) w × Complete s w

-- a whole transcript for the script begins with these lines
abbrev pub BeginWhole : Script → List Line → Type 0
BeginWhole s lines = (rest : List Line) × IsWhole s (lines ++ rest)

-- a whole transcript for the script, whose events are legal, and complete at the end
pub record IsRight (s : Script) (text : List ℕ) : Type 0 where
  pub lines : List Line
  pub transcript : IsTranscript text lines
  pub whole : IsWhole s lines
  pub complete : AreComplete s lines

-- a line comes next in a text, and P holds of it
pub record ComesNext (rest : List ℕ) (P : Line → Type 0) : Type 0 where
  pub line : Line
  pub after : List ℕ
  pub is_line : IsLine line
  pub rest_is : rest ≡ line_text line ++ after
  pub holds : P line

-- What is wrong with what comes after these lines: no whole transcript for the script goes on so; one does, but the line
-- is an event that isn't legal; or it is the last line, and some lane isn't complete.
abbrev pub IsFault : Script → List Line → List ℕ → Fault → Type 0
IsFault s lines rest fault.Form = (IsWhole s lines → rest ≡ [] → ⊥) × (ComesNext rest (λ l. BeginWhole s (lines ++ l ∷ [])) → ⊥)
IsFault s lines rest fault.Legal = ComesNext rest (λ l. BeginWhole s (lines ++ l ∷ []) × (AreLegal s (lines ++ l ∷ []) → ⊥))
IsFault s lines rest fault.Complete = ComesNext rest (λ l. IsWhole s (lines ++ l ∷ []) × AreLegal s (lines ++ l ∷ []) × (AreComplete s (lines ++ l ∷ []) → ⊥))

-- The first line that is wrong, counted from 1. Nothing is wrong with the lines before it.
pub record IsFirstWrong (s : Script) (text : List ℕ) (line : ℕ) (why : Fault) : Type 0 where
  pub before : List Line
  pub rest : List ℕ
  pub text_is : text ≡ text_of before ++ rest
  pub are_lines : AllByRecursion IsLine before
  pub begin : BeginWhole s before
  pub legal : AreLegal s before
  pub complete : IsWhole s before → AreComplete s before
  pub number : line ≡ length before + 1
  pub is_fault : IsFault s before rest why

-- a verdict that is true of a text: yes where it is right, no with its first wrong line and why
abbrev pub IsVerdict : Script → List ℕ → Verdict → Type 0
IsVerdict s text Yes = IsRight s text
IsVerdict s text (No line why) = IsFirstWrong s text line why
