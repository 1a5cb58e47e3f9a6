use Rattle.std.proofs.Common.{arith}
use Rattle.turns.proofs.NextPieceLaws.{none_more, some_more}
use Rattle.session.proofs.order.count_some.Goals.{then-n-gt0, else-n-gt0}
use Rattle.session.proofs.order.count_some.Goals as goal

pub loop-n-preserved : goal.loop-n-preserved
loop-n-preserved c =
    let now = c.loop-n.invariant in
    let i = c.loop-n.n-index in
    elim c.if-n-gt0.branch [
      | then-n-gt0 w ↦ record { count = omega (arith, w.count-is, now.count, some_more c.args.left.now i c.loop-n-test.true w.if-n-gt0.true); few = omega (arith, w.count-is, now.few) }
      | else-n-gt0 w ↦ record { count = omega (arith, w.count-is, now.count, none_more c.args.left.now i c.loop-n-test.true (omega (arith, w.if-n-gt0.false))); few = omega (arith, w.count-is, now.few) }
    ]
