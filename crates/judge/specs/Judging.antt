use Rattle.std.specs.Prelude.{◌≡◌, [], ◌∷◌, Option, Some, None}
use Rattle.nvm_model.specs.declared.line.Line.{Line}
use Rattle.nvm_model.specs.declared.script.Script.{Script}
use Rattle.nvm_model.specs.History.{Complete, Steps, events_of}
use Rattle.nvm_model.specs.World.{World}
use Rattle.judge.specs.declared.stage.Stage.{Stage}
use Rattle.judge.specs.declared.stage.Stage.TheVariants.{Over}
use Rattle.judge.specs.declared.verdict.Fault.{Fault}
use Rattle.judge.specs.declared.verdict.Fault.TheVariants as fault

-- What is wrong in a world with a line that leads to a stage, and the world then.
abbrev pub FaultIn : Script → World → Line → Stage → Option Fault → World → Type 0
FaultIn s w l stage None v = Steps s w (events_of (l ∷ [])) v × (stage ≡ Over → Complete s v)
FaultIn s w l stage (Some fault.Form) v = ⊥
FaultIn s w l stage (Some fault.Legal) v = (u : World) → Steps s w (events_of (l ∷ [])) u → ⊥
FaultIn s w l stage (Some fault.Complete) v = Steps s w (events_of (l ∷ [])) v × (stage ≡ Over) × (Complete s v → ⊥)
