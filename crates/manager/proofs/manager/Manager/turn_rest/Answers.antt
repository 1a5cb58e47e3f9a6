use Rattle.std.proofs.Common.{◌∙◌}
use Rattle.manager.specs.Work.{DoesAll, TurnWork, again, at_work}
use Rattle.manager.proofs.WorkLemmas.{all_keep, keeps_itself, shown_so}
use Rattle.manager.proofs.manager.Manager.turn_rest.Goals as goal

pub invariant_of-self : goal.invariant_of-self
invariant_of-self g c =
    let was = c.self.invariant in
    let kept = all_keep g.P.WorkPort.works _ _ c.rest.ensures.does.tried _ c.rest.ensures.does.run (keeps_itself _) in
    (was.0, kept.count ∙ was.1, was.2, kept.slice ∙ was.3, kept.cells ∙ was.4)

pub returns-clause-does : goal.returns-clause-does
returns-clause-does g c =
    let was = c.self.invariant in
    let kept = all_keep g.P.WorkPort.works _ _ c.rest.ensures.does.tried _ c.rest.ensures.does.run (keeps_itself _) in
    rw (← c.self.view_is) (shown_so (λ (v w : TurnWork). DoesAll g.P.WorkPort.works (at_work (again v) (g.P.WorkPort.work c.args.port.now)) (at_work w (g.P.WorkPort.work c.rest.new.port))) c.self.inside.work _ _ _ was.3 was.4 (kept.slice ∙ was.3) (kept.cells ∙ was.4) c.rest.ensures.does)
