use Rattle.std.proofs.Common.{◌∙◌, arith}
use Rattle.mig_base.proofs.StreamSteps.{with_more-rest}
use Rattle.mig_base.proofs.streams.send.Goals as goal

pub loop-sent-preserved : goal.loop-sent-preserved
loop-sent-preserved g c = (
  omega (arith, c.in-Ok.ensures.within),
  with_more-rest (g.K.Sink.bytes c.args.sink.now) (g.K.Sink.bytes c.loop-sent.sink) _ _ _ _ c.loop-sent.invariant.1 c.in-Ok.ensures.taken,
  c.in-Ok.ensures.cause.calm ∙ c.loop-sent.invariant.2,
)
