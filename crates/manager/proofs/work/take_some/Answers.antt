use Rattle.std.proofs.Common.{◌∙◌, arith}
use Rattle.manager.proofs.WorkLemmas.{takes_end, took_more}
use Rattle.manager.proofs.work.take_some.Goals as goal

pub returns-in-None-clause-takes : goal.returns-in-None-clause-takes
returns-in-None-clause-takes g c = takes_end g.W.WorkPort.works c.loop.counter c.args.most _ _ _ _ _ (omega (arith, c.loop-test.true)) c.loop.invariant.took c.in-None.ensures.called

pub loop-preserved : goal.loop-preserved
loop-preserved g c = record {
  took = rw c.owe_span.ensures.owed (took_more g.W.WorkPort.works c.loop.counter c.in-Some.change _ _ _ _ _ c.loop.invariant.took c.in-Some.ensures.called);
  long = c.owe_span.ensures.long ∙ c.loop.invariant.long;
  seated = c.in-Some.ensures.seated;
}
