-- A script's text has no bad line.
use Rattle.std.proofs.Common.{◌≡◌, ℕ, List}
use Rattle.nvm_model.specs.declared.script.Script.{Script}
use Rattle.nvm_model.specs.ScriptText.{script_text, IsScript}
use Rattle.script.specs.declared.refusal.BadLine.{BadLine}
use Rattle.script.specs.BadLine.{IsBadLine}
use Rattle.script.proofs.BadLines.{bad_is_told}
use Rattle.script.proofs.ReadLaws.{not_told}

pub no_bad_line : (text : List ℕ) (s : Script) (bad : BadLine) → IsScript s → text ≡ script_text s → IsBadLine text bad → ⊥
no_bad_line text s bad f e b = not_told text bad s (bad_is_told text bad b) f e
