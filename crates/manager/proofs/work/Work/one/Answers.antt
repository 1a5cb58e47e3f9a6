use Rattle.std.proofs.Common.{◌≡◌, ◌+◌, ◌<◌, ◌∷◌, ℕ, drop, length, sym, ap, ◌∙◌, arith}
use Rattle.std.proofs.lemmas.List.{drop_more, length-drop}
use Rattle.manager.specs.declared.side.CopyAnswer.TheVariants.{Copied, Busy, Fault}
use Rattle.manager.proofs.WorkLemmas.{does_one}
use Rattle.manager.proofs.work.Work.one.Goals as goal
use Rattle.manager.proofs.work.Work.one.Goals.{in-Copied, in-Busy, in-Fault}

pub returns-clause-does : goal.returns-clause-does
returns-clause-does g c =
    let i = c.self.inside in
    let block = c.index-block.result.now in
    let some = rw (← c.self.view_is) at c.requires.work in
    let there : i.tried < length i.due.items = omega (arith, some.1, length-drop i.tried i.due.items) in
    let due : drop i.tried i.due.items ≡ block ∷ drop (i.tried + 1) i.due.items = drop_more i.due.items i.tried block there ∙ ap (λ (b : ℕ). b ∷ drop (i.tried + 1) i.due.items) (sym c.index-block.ensures) in
    elim c.match-copy.branch [
      | in-Copied w ↦ rw (← c.self.view_is, w.self-inside-is) (does_one g.W.WorkPort.works _ block _ w.in-Copied.ensures.called.0 Copied _ _ _ _ due w.in-Copied.ensures.called.1 (rw w.self-inside-is at c.take_some.ensures.takes))
      | in-Busy w ↦ rw (← c.self.view_is, w.self-inside-is, w.push_reserved.ensures.items) (does_one g.W.WorkPort.works _ block _ w.in-Busy.ensures.called.0 (Busy w.in-Busy.holder) _ _ _ _ due w.in-Busy.ensures.called.1 (rw w.self-inside-is at c.take_some.ensures.takes))
      | in-Fault w ↦ rw (← c.self.view_is, w.self-inside-is) (does_one g.W.WorkPort.works _ block _ w.in-Fault.ensures.called.0 (Fault w.in-Fault.side) _ _ _ _ due w.in-Fault.ensures.called.1 (rw w.self-inside-is at c.take_some.ensures.takes))
    ]
