use Rattle.std.proofs.Common.{inl, inr, ⊎_elim}
use Rattle.session.proofs.StageLemmas.{not_true}
use Rattle.session.proofs.session.Session.next.Goals as goal

pub returns : goal.returns
returns c = rw (← c.self.view_is) (
  λ done. not_true c.if-complete.false (c.are_all_done-complete.ensures.not done),
  λ due. not_true c.if-is_due.false (c.is_due.ensures.not (record {
    untried = due.untried;
    turn = due.turn;
    asked_is = due.asked_is;
    when = ⊎_elim (λ next. inl next) (λ done. inr (c.are_all_done-complete.ensures.not done)) due.when;
  })),
)
