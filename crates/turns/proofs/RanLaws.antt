use Rattle.std.proofs.Common.{◌≡◌, Bool, false, refl, arith}
use Rattle.std.specs.List.{flat_map}
use Rattle.nvm_model.specs.declared.trace.Step.{Step}
use Rattle.nvm_model.specs.Medium.{MediumState}
use Rattle.nvm_model.specs.declared.run.RunPhase.TheVariants.{New, Over}
use Rattle.nvm_model.specs.declared.run.Side.TheVariants.{Source, Destination}
use Rattle.turns.specs.Ran.{Ran}
use Rattle.nvm_model.specs.Run.{Snapshot, Went, calls_at, media_at}
use Rattle.turns.proofs.EndLaws.{run_ended}
use Rattle.turns.proofs.MediaLaws.{run_media, run_rises, sizes_stay}
use Rattle.turns.proofs.StopLaws.{run_stopped}

-- all that a run did, by its stages
pub ran : {M I : Type 0} {state : M → MediumState I} {moves : I → Step → Bool → I → Type 0} {old new : Snapshot M} {failed : Bool} → Went state moves old failed new → old.phase ≡ New → (failed ≡ false → new.phase ≡ Over) → Ran state moves old failed new
ran {M} {I} {state} {moves} {old} {new} {failed} w start over =
    let s = old.task.script in
    let rises = run_rises state moves s old w.stages new refl start w.run in
    record {
      stages = w.stages;
      run = w.run;
      source = run_media state moves Source s old w.stages new refl w.run;
      destination = run_media state moves Destination s old w.stages new refl w.run;
      sizes = λ who size have. sizes_stay state moves size (media_at who old) (flat_map (calls_at s who) w.stages) (media_at who new) (run_media state moves who s old w.stages new refl w.run) have;
      never_fell = rises.0;
      causes = λ below. omega (arith, rises.1 below);
      text = w.text;
      counted = w.counted;
      ended = λ is t blocks tells. run_ended state moves t blocks old w.stages new tells w.run (over is);
      stopped = λ is t blocks tells. run_stopped state moves t blocks old new failed is w tells;
    }
