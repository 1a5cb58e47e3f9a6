use Rattle.std.proofs.Common.{◌∙◌}
use Rattle.manager.specs.Work.{DoesOne, TurnWork, at_work}
use Rattle.manager.proofs.WorkLemmas.{one_keeps, shown_so}
use Rattle.manager.proofs.manager.Manager.work_one.Goals as goal

pub invariant_of-self : goal.invariant_of-self
invariant_of-self g c =
    let was = c.self.invariant in
    let kept = one_keeps _ _ _ c.one.ensures.does.1 in
    (was.0, kept.count ∙ was.1, was.2, kept.slice ∙ was.3, kept.cells ∙ was.4)

pub returns-clause-does : goal.returns-clause-does
returns-clause-does g c =
    let was = c.self.invariant in
    let kept = one_keeps _ _ _ c.one.ensures.does.1 in
    (c.one.ensures.does.0, rw (← c.self.view_is) (shown_so (λ (v w : TurnWork). DoesOne g.W.WorkPort.works (at_work v (g.W.WorkPort.work c.args.port.now)) c.one.ensures.does.0 (at_work w (g.W.WorkPort.work c.one.new.port))) _ _ _ _ was.3 was.4 (kept.slice ∙ was.3) (kept.cells ∙ was.4) c.one.ensures.does.1))
