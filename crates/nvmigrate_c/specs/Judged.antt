use Rattle.std.specs.Prelude.{◌≡◌, ℕ, ◌==◌, List, ◌++◌, Option, Some, None, if◌then◌else◌}
use Rattle.nvm_model.specs.declared.script.Script.{Script}
use Rattle.nvm_model.specs.ScriptText.{IsScript, script_text}
use Rattle.script.specs.declared.refusal.Why.{Why}
use Rattle.script.specs.declared.refusal.Why.TheVariants as why
use Rattle.judge.specs.declared.verdict.Fault.TheVariants.{Form, Legal, Complete}
use Rattle.judge.specs.declared.verdict.Verdict.{Verdict}
use Rattle.judge.specs.declared.verdict.Verdict.TheVariants.{Yes, No}
use Rattle.judge.specs.Verdict.{IsVerdict}

-- What a code tells of a transcript that was judged. Another code is no verdict.
abbrev pub verdict_told : ℕ → ℕ → Option Verdict
verdict_told code line =
    if code == 0 then Some Yes else (
    if code == 14 then Some (No line Form) else (
    if code == 15 then Some (No line Legal) else (
    if code == 16 then Some (No line Complete) else None)))

-- the number of what is wrong with a line of a script
abbrev pub why_number : Why → ℕ
why_number why.Form = 0
why_number why.Range = 1
why_number why.Cut = 2
why_number why.More = 3

-- the text is a script and a transcript behind it, of which this is true
pub record HasVerdict (text : List ℕ) (v : Verdict) : Type 0 where
  pub script : Script
  pub is_script : IsScript script
  pub transcript : List ℕ
  pub text_is : text ≡ script_text script ++ transcript
  pub said : IsVerdict script transcript v
