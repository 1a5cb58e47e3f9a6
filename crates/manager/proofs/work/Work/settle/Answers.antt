use Rattle.std.proofs.Common.{Bool, true, List, length, replicate, ap, ◌∙◌}
use Rattle.manager.proofs.work.Work.settle.Goals as goal

pub returns-then-restarted-clause-settled : goal.returns-then-restarted-clause-settled
returns-then-restarted-clause-settled g c =
    let d = c.take_all.ensures.drains in
    rw (← c.self.view_is) (record {
      changes = d.0;
      mid = g.P.Port.state c.take_all.new.port;
      drains = d.1;
      starts = c.start_log-restarted.ensures;
      owed_is = rw c.if-restarted.true (c.owe_all.ensures ∙ ap (λ (owed : List Bool). replicate (length owed) true) d.2);
    })

pub returns-else-restarted-clause-settled : goal.returns-else-restarted-clause-settled
returns-else-restarted-clause-settled g c =
    let d = c.take_all.ensures.drains in
    rw (← c.self.view_is) (record { changes = d.0; mid = g.P.Port.state c.take_all.new.port; drains = d.1; starts = c.start_log-restarted.ensures; owed_is = rw c.if-restarted.false d.2 })
