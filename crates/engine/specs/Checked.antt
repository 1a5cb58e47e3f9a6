use Rattle.std.specs.Prelude.{◌≡◌, ℕ, ◌≤◌, List, ◌++◌, Option, Some, None, codes, length}
use Rattle.mig_base.specs.Stream.{IsCut, with_more}
use Rattle.nvm_model.specs.declared.script.Script.{Script}
use Rattle.nvm_model.specs.ScriptText.{IsScript, script_text}
use Rattle.nvm_model.specs.Text.{field}
use Rattle.script.specs.BadLine.{IsFrontRefused}
use Rattle.script.specs.declared.refusal.ParseRefusal.TheVariants.{Bad}
use Rattle.script.specs.declared.refusal.Why.{Why}
use Rattle.judge.specs.declared.verdict.Verdict.{Verdict}
use Rattle.judge.specs.declared.verdict.Verdict.TheVariants.{Yes, No}
use Rattle.judge.specs.Verdict.{IsVerdict}
use Rattle.engine.specs.declared.status.Status.{Status}
use Rattle.engine.specs.declared.status.Status.TheVariants.{Done, Usage, BadScript, TooLong, OutOfMemory, HostSize, ReadFault, WriteFault, GaveUp, Refused}
use Rattle.engine.specs.StatusText.{fault_text}

-- What the form `check` claims.

-- the longest input that is judged, in bytes: a script and a transcript behind it
abbrev pub most_judged : ℕ
most_judged = 67108864

-- the input is a script and a transcript behind it, where it is told
abbrev pub IsInput : Option (List ℕ) → Script → List ℕ → Type 0
IsInput None s transcript = Unit {0}
IsInput (Some text) s transcript = (text ≡ script_text s ++ transcript) × (length text ≤ most_judged)

-- what is said of the transcript is true of it
pub record HasVerdict (told : Option (List ℕ)) (v : Verdict) : Type 0 where
  pub script : Script
  pub is_script : IsScript script
  pub transcript : List ℕ
  pub input : IsInput told script transcript
  pub said : IsVerdict script transcript v

-- the front of the input is no script, and this is its first line that isn't right, where it is told
abbrev pub TellsBadFront : Option (List ℕ) → ℕ → Why → Type 0
TellsBadFront None line why = Unit {0}
TellsBadFront (Some text) line why = (length text ≤ most_judged) × IsFrontRefused text (Bad (record { line = line; why = why }))

-- the input is too long, where it is told
abbrev pub IsOverlong : Option (List ℕ) → Type 0
IsOverlong None = Unit {0}
IsOverlong (Some text) = (length text ≤ most_judged) → ⊥

-- what is written of a transcript
abbrev pub verdict_text : Verdict → List ℕ
verdict_text Yes = codes "yes\n"
verdict_text (No line why) = codes "no " ++ field line ++ fault_text why

-- the answers where a transcript was judged: `Done` where it is right, and `Refused` with the first line that is wrong
abbrev pub IsChecked : Option (List ℕ) → Option (List ℕ) → Option (List ℕ) → Status → Type 0
IsChecked told before after Done = HasVerdict told Yes × (after ≡ with_more (verdict_text Yes) before)
IsChecked told before after (Refused line why) = HasVerdict told (No line why) × (after ≡ with_more (verdict_text (No line why)) before)
IsChecked told before after WriteFault = (v : Verdict) × HasVerdict told v × IsCut (verdict_text v) before after
IsChecked told before after (BadScript line why) = TellsBadFront told line why
IsChecked told before after TooLong = IsOverlong told
IsChecked told before after OutOfMemory = Unit {0}
IsChecked told before after ReadFault = Unit {0}
IsChecked told before after Usage = ⊥
IsChecked told before after GaveUp = ⊥
IsChecked told before after (HostSize kept asked) = ⊥

-- Below, the parts.

-- why a text has no script at its front, or wasn't judged
abbrev pub IsUnjudged : List ℕ → Status → Type 0
IsUnjudged text (BadScript line why) = IsFrontRefused text (Bad (record { line = line; why = why }))
IsUnjudged text OutOfMemory = Unit {0}
IsUnjudged text TooLong = ⊥
IsUnjudged text ReadFault = ⊥
IsUnjudged text Done = ⊥
IsUnjudged text GaveUp = ⊥
IsUnjudged text Usage = ⊥
IsUnjudged text (HostSize kept asked) = ⊥
IsUnjudged text WriteFault = ⊥
IsUnjudged text (Refused line why) = ⊥

-- a verdict was written, or a front of it
abbrev pub IsTold : Verdict → Option (List ℕ) → Option (List ℕ) → Status → Type 0
IsTold v before after WriteFault = IsCut (verdict_text v) before after
IsTold v before after Done = (v ≡ Yes) × (after ≡ with_more (verdict_text v) before)
IsTold v before after (Refused line why) = (v ≡ No line why) × (after ≡ with_more (verdict_text v) before)
IsTold v before after (BadScript line why) = ⊥
IsTold v before after TooLong = ⊥
IsTold v before after OutOfMemory = ⊥
IsTold v before after ReadFault = ⊥
IsTold v before after Usage = ⊥
IsTold v before after GaveUp = ⊥
IsTold v before after (HostSize kept asked) = ⊥

-- how the program ends behind a verdict
abbrev pub verdict_status : Verdict → Status
verdict_status Yes = Done
verdict_status (No line why) = Refused line why
