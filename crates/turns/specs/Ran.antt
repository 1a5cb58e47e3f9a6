use Rattle.std.specs.Prelude.{◌≡◌, ℕ, Bool, true, false, List, length}
use Rattle.std.specs.List.{flat_map}
use Rattle.mig_base.specs.Count.{NeverFall, RiseBy, RisesIf}
use Rattle.nvm_model.specs.declared.script.Script.{Script}
use Rattle.nvm_model.specs.declared.trace.Step.{Step}
use Rattle.nvm_model.specs.Chain.{Chain}
use Rattle.nvm_model.specs.History.{faults_shown}
use Rattle.nvm_model.specs.Medium.{HaveSize, IsAt, MediumState}
use Rattle.nvm_model.specs.declared.run.Side.{Side}
use Rattle.nvm_model.specs.declared.run.Side.TheVariants.{Source, Destination}
use Rattle.nvm_model.specs.Run.{IsStage, IsWritten, Snapshot, Stage, calls_at, lines_in, media_at}
use Rattle.nvm_model.specs.Told.{faults_of, HasRun, HasStopped, have_resumed, Tells}

-- What a run did, from its start to its end or to where the sink failed: one list of stages, to which all of this belongs.
pub record Ran {M I : Type 0} (state : M → MediumState I) (moves : I → Step → Bool → I → Type 0) (old : Snapshot M) (failed : Bool) (new : Snapshot M) : Type 0 where
  pub stages : List Stage
  pub run : Chain (IsStage state moves) old stages new
  -- each side's media got exactly the calls of the stages there, in order
  pub source : Chain (IsAt state moves) (media_at Source old) (flat_map (calls_at old.task.script Source) stages) (media_at Source new)
  pub destination : Chain (IsAt state moves) (media_at Destination old) (flat_map (calls_at old.task.script Destination) stages) (media_at Destination new)
  pub sizes : (who : Side) (size : ℕ) → HaveSize state size (media_at who old) → HaveSize state size (media_at who new) × (length (media_at who new) ≡ length (media_at who old))
  -- each fault that a line shows has a call that failed
  pub never_fell : NeverFall (faults_of state old) (faults_of state new)
  pub causes : RiseBy (faults_shown (lines_in stages)) (faults_of state old) (faults_of state new)
  pub text : IsWritten stages old.out.taken failed new.out.taken
  pub counted : RisesIf failed old.out.faults new.out.faults
  -- where the media told their blocks at the start
  pub ended : failed ≡ false → (s : Script) (blocks : List (List ℕ)) → Tells state s blocks (have_resumed stages) old → HasRun state s blocks old new (lines_in stages)
  pub stopped : failed ≡ true → (s : Script) (blocks : List (List ℕ)) → Tells state s blocks (have_resumed stages) old → HasStopped state s blocks old new
