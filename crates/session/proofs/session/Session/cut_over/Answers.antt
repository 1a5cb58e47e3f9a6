use Rattle.std.proofs.Common.{◌≡◌, ◌∙◌, ℕ, true, ap, sym, subst}
use Rattle.manager.specs.declared.manager.MovePhase.TheVariants.{Begun}
use Rattle.session.specs.Place.{IsReady, IsWaiting}
use Rattle.session.specs.Moves.{Tries, both, owed_by}
use Rattle.manager.specs.Move.{ManagerState, with_all}
use Rattle.session.specs.Sides.{SessionState, machine_of, move_set}
use Rattle.session.proofs.MoveLemmas.{brought, fits, may_cut_over}
use Rattle.session.proofs.session.Session.cut_over.Goals as goal

pub cut_over-requires-clause-begun : goal.cut_over-requires-clause-begun
cut_over-requires-clause-begun g c = ap (λ (s : SessionState). s.manager.phase) c.self.view_is ∙ ap (λ (m : ManagerState). m.phase) c.requires.begun

pub cut_over-requires-clause-fits : goal.cut_over-requires-clause-fits
cut_over-requires-clause-fits g c = λ names. (
  fits g.M.Medium.state names c.requires.ready c.requires.waits c.self.inside.manager (ap (λ (s : SessionState). s.manager.set) c.self.view_is ∙ ap (λ (m : ManagerState). m.set) c.requires.begun),
  may_cut_over g.M.Medium.state names c.requires.ready c.requires.waits,
)

pub returns-clause-tried : goal.returns-clause-tried
returns-clause-tried g c = rw (← c.self.view_is)
    (let ready = subst (λ (s : SessionState). IsReady s.script (machine_of s c.args.at.now)) (sym c.self.view_is) c.requires.ready in
    let waits = subst (λ (s : SessionState). IsWaiting s.script c.args.to.now) (sym c.self.view_is) c.requires.waits in
    let begun = subst (λ (s : SessionState). s.manager ≡ with_all true Begun (move_set s.script.head)) (sym c.self.view_is) c.requires.begun in
    subst (λ (n : ℕ). Tries g.M.Medium.state g.M.Medium.moves c.self.inside.script n (owed_by c.self.inside.manager) c.cut_over.result (both c.args.at.now c.args.to.now) (both c.cut_over.new.at c.cut_over.new.to)) c.from.ensures
    (brought g.M.Medium.state g.M.Medium.moves c.from.result c.cut_over.ensures.0 c.cut_over.new.at c.cut_over.new.to c.self.inside.manager c.cut_over.result ready.script.head ready.place waits.at begun c.cut_over.ensures.1))
