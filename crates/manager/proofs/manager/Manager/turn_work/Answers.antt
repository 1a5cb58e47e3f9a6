use Rattle.std.proofs.Common.{◌∙◌}
use Rattle.manager.specs.Work.{DoesAll, TurnWork, at_work}
use Rattle.manager.proofs.WorkLemmas.{all_keep, keeps_itself, shown_so}
use Rattle.manager.proofs.manager.Manager.turn_work.Goals as goal

pub invariant_of-self : goal.invariant_of-self
invariant_of-self g c =
    let was = c.self.invariant in
    let kept = all_keep g.W.WorkPort.works _ _ c.all.ensures.does.tried _ c.all.ensures.does.run (keeps_itself _) in
    (was.0, kept.count ∙ was.1, was.2, kept.slice ∙ was.3, kept.cells ∙ was.4)

pub returns-clause-does : goal.returns-clause-does
returns-clause-does g c =
    let was = c.self.invariant in
    let kept = all_keep g.W.WorkPort.works _ _ c.all.ensures.does.tried _ c.all.ensures.does.run (keeps_itself _) in
    rw (← c.self.view_is) (shown_so (λ (v w : TurnWork). DoesAll g.W.WorkPort.works (at_work v (g.W.WorkPort.work c.args.port.now)) (at_work w (g.W.WorkPort.work c.all.new.port))) _ _ _ _ was.3 was.4 (kept.slice ∙ was.3) (kept.cells ∙ was.4) c.all.ensures.does)
