use Rattle.std.proofs.Common.{◌∙◌, refl, sym}
use Rattle.turns.proofs.NextPieceLaws.{none_some}
use Rattle.session.proofs.order.Order.pick.Goals as goal

pub returns-then-some-eq0-clause-none : goal.returns-then-some-eq0-clause-none
returns-then-some-eq0-clause-none c = (none_some 1 c.args.left.now (sym c.count_some-some.ensures ∙ c.if-some-eq0.true), refl)
