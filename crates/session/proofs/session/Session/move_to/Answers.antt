use Rattle.std.proofs.Common.{◌∙◌, ◌+◌, ◌^◌, ◌<◌, refl, sym, subst, ap}
use Rattle.std.proofs.lemmas.Result.{err_from_is_err_and}
use Rattle.nvm_model.specs.declared.run.RunPhase.TheVariants.{Running, Suspended}
use Rattle.nvm_model.specs.Run.{opposite}
use Rattle.session.specs.declared.ending.Ending.{Ending}
use Rattle.session.specs.Moves.{both}
use Rattle.session.specs.Place.{IsReady, IsWaiting, total_work}
use Rattle.nvm_model.specs.declared.run.Side.{Side}
use Rattle.session.specs.Served.{Leaves}
use Rattle.session.specs.Sides.{IsMoved, SessionState, machine_of}
use Rattle.session.proofs.StageLemmas.{goes_more, if_ok, may_suspend, on_destination, on_source, resumed, stayed}
use Rattle.session.proofs.ServedLemmas.{stayed_leaves}
use Rattle.session.proofs.session.Session.move_to.Goals as goal

pub returns-in_err-start-clause-left : goal.returns-in_err-start-clause-left
returns-in_err-start-clause-left g c =
    let side = ap (λ (s : SessionState). s.side) c.in_err-start.ensures.session ∙ c.requires.source in
    subst (λ (now : Side). Leaves now (both c.args.at.now c.args.to.now) (both c.args.at.now c.args.to.now)) (sym side) (refl, refl, refl)

pub suspend-requires : goal.suspend-requires
suspend-requires g c = may_suspend c.args.self.now c.start.new.self c.in_ok-start.ensures.session c.requires.manager c.requires.at_once

pub returns-in_err-suspend-clause-went : goal.returns-in_err-suspend-clause-went
returns-in_err-suspend-clause-went g c =
    let p = err_from_is_err_and c.from_residual-in_err-suspend.result c.from_residual-in_err-suspend.ensures.1 in
    let side = ap (λ (s : SessionState). s.side) c.in_err-suspend.ensures.session ∙ ap (λ (s : SessionState). s.side) c.in_ok-start.ensures.session ∙ c.requires.source in
    rw p.1 ((on_source side).0 (goes_more (c.in_ok-start.ensures.went c.args.to.now) (c.in_err-suspend.ensures.went c.args.to.now)))

pub returns-in_err-suspend-clause-left : goal.returns-in_err-suspend-clause-left
returns-in_err-suspend-clause-left g c =
    let side = ap (λ (s : SessionState). s.side) c.in_err-suspend.ensures.session ∙ ap (λ (s : SessionState). s.side) c.in_ok-start.ensures.session ∙ c.requires.source in
    subst (λ (now : Side). Leaves now (both c.args.at.now c.args.to.now) (both c.args.at.now c.args.to.now)) (sym side) (refl, refl, refl)

pub returns-in-Ok : goal.returns-in-Ok
returns-in-Ok g c =
    let suspended = c.in_ok-suspend.ensures.session ∙ ap (λ (s : SessionState). record s { phase = Suspended }) c.in_ok-start.ensures.session in
    let ready = subst (λ (s : SessionState). IsReady s.script (machine_of s c.args.at.now)) (sym suspended) c.requires.running.ready in
    let waits = subst (λ (s : SessionState). IsWaiting s.script c.args.to.now) (sym suspended) c.requires.waits in
    let few = subst (λ (s : SessionState). s.turns + total_work 1 s.runs c.args.at.now.controller < 2 ^ 32) (sym suspended) c.requires.running.few in
    let is = c.resume.ensures.session ∙ ap (λ (s : SessionState). record s { phase = Running; side = opposite s.side }) c.cut_over.ensures.session in
    let to = resumed c.suspend.new.self ready c.resume.new.self (ap (λ (s : SessionState). s.phase) suspended) few waits c.in-Ok.ensures.tried c.resume.ensures.written is in
    let side = ap (λ (s : SessionState). s.side) is ∙ ap opposite (ap (λ (s : SessionState). s.side) suspended ∙ c.requires.source) in
    record {
      went = (on_destination side).0 (goes_more (goes_more (c.in_ok-start.ensures.went c.args.to.now) (c.in_ok-suspend.ensures.went c.args.to.now)) to.0);
      moved = if_ok c.resume.result (λ ending done. subst (λ (e : Ending). IsMoved e (both c.args.at.now c.args.to.now) c.resume.new.self (both c.cut_over.new.at c.cut_over.new.to)) (sym done) (side, to.1, c.in-Ok.ensures.tried.0.controllers)) c.resume.ensures.done;
      left = subst (λ (now : Side). Leaves now (both c.args.at.now c.args.to.now) (both c.cut_over.new.at c.cut_over.new.to)) (sym side) c.in-Ok.ensures.tried.0.controllers;
      begun = record { script = ap (λ (s : SessionState). s.script) is ∙ ap (λ (s : SessionState). s.script) suspended; tried = ap (λ (s : SessionState). s.tried) is ∙ ap (λ (s : SessionState). s.tried) suspended };
    }

pub returns-in-Err : goal.returns-in-Err
returns-in-Err g c =
    let suspended = c.in_ok-suspend.ensures.session ∙ ap (λ (s : SessionState). record s { phase = Suspended }) c.in_ok-start.ensures.session in
    let ready = subst (λ (s : SessionState). IsReady s.script (machine_of s c.args.at.now)) (sym suspended) c.requires.running.ready in
    let few = subst (λ (s : SessionState). s.turns + total_work 1 s.runs c.args.at.now.controller < 2 ^ 32) (sym suspended) c.requires.running.few in
    let is = c.stay.ensures.session ∙ ap (λ (s : SessionState). record s { phase = Running }) c.cut_over.ensures.session in
    let to = stayed c.suspend.new.self ready c.stay.new.self (ap (λ (s : SessionState). s.phase) suspended) few c.in-Err.ensures.tried c.stay.ensures.written is in
    let side = ap (λ (s : SessionState). s.side) is ∙ ap (λ (s : SessionState). s.side) suspended ∙ c.requires.source in
    record {
      went = (on_source side).0 (goes_more (goes_more (c.in_ok-start.ensures.went c.args.to.now) (c.in_ok-suspend.ensures.went c.args.to.now)) to.0);
      moved = if_ok c.stay.result (λ ending done. subst (λ (e : Ending). IsMoved e (both c.args.at.now c.args.to.now) c.stay.new.self (both c.cut_over.new.at c.cut_over.new.to)) (sym done) (side, to.1, c.in-Err.ensures.tried.controllers)) c.stay.ensures.gave_up;
      left = subst (λ (now : Side). Leaves now (both c.args.at.now c.args.to.now) (both c.cut_over.new.at c.cut_over.new.to)) (sym side) (stayed_leaves c.requires.running.ready.running c.in-Err.ensures.tried);
      begun = record { script = ap (λ (s : SessionState). s.script) is ∙ ap (λ (s : SessionState). s.script) suspended; tried = ap (λ (s : SessionState). s.tried) is ∙ ap (λ (s : SessionState). s.tried) suspended };
    }
