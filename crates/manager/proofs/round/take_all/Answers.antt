use Rattle.std.proofs.Common.{Some, None, [], ◌∷◌, ◌++◌, ap, sym, ◌∙◌, arith}
use Rattle.manager.specs.Owed.{owe_from}
use Rattle.manager.specs.Work.WorkCall.{Take}
use Rattle.manager.proofs.RoundLemmas.{drained_all, drained_more}
use Rattle.manager.proofs.WorkLemmas.{called_at, owe_more}
use Rattle.manager.proofs.round.take_all.Goals as goal

pub takes-preserved : goal.takes-preserved
takes-preserved g c =
    let both = g.met.P.Port.both in
    let was = c.takes.invariant.drained in
    let call = called_at both c.takes.port (Take (Some c.in-Some.change)) c.take.new.self c.in-Some.ensures.called.done in
    record {
      drained = (was.0 ++ c.in-Some.change ∷ [], drained_more c.requires.live was.1 (omega (arith, both.left c.takes.port, both.left c.take.new.self, c.in-Some.ensures.called.left)) c.in-Some.change call, c.owe_span.ensures.owed ∙ ap (owe_from c.in-Some.change.span.first c.in-Some.change.span.count) was.2 ∙ sym (owe_more was.0 c.in-Some.change c.args.owed.now));
      long = c.owe_span.ensures.long ∙ c.takes.invariant.long;
    }

pub returns-in-None-clause-drains : goal.returns-in-None-clause-drains
returns-in-None-clause-drains g c =
    let both = g.met.P.Port.both in
    let was = c.takes.invariant.drained in
    let call = called_at both c.takes.port (Take None) c.take.new.self c.in-None.ensures.called.done in
    (was.0, drained_all c.requires.live was.1 (omega (arith, both.left c.takes.port, both.left c.take.new.self, c.in-None.ensures.called.left)) call, was.2)
