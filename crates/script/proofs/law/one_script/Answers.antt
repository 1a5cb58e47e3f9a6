use Rattle.std.proofs.Common.{[], refl}
use Rattle.nvm_model.specs.ScriptText.{script_text}
use Rattle.script.proofs.BadLines.{front_read}
use Rattle.script.proofs.ReadLaws.{only, whole}
use Rattle.script.proofs.law.one_script.Goals as goal

pub returns : goal.returns
returns c = λ s t is other same.
    let text = script_text s in
    let read = front_read text [] s is (whole text s refl) in
    (only text [] _ read.0 t read.1 refl other same).0
