use Rattle.std.proofs.Common.{◌∙◌, arith, rules}
use Rattle.controller.specs.Pair.{fetch_line}
use Rattle.session.proofs.plan.push_fetches.Goals as goal
use Rattle.mig_base.proofs.ListLemmas.{pushed_all, pushed_more}

pub loop-told-preserved : goal.loop-told-preserved
loop-told-preserved c = record {
  events = c.push_reserved.ensures.items ∙ pushed_more (fetch_line c.args.lane) c.args.events.now.items c.loop-told.events.items c.args.fetched.now c.loop-told.told-index c.told-item.result (omega arith) c.told-item.is c.loop-told.invariant.events;
  count = omega arith;
  capacity = search rules;
}

pub returns-clause-events : goal.returns-clause-events
returns-clause-events c = pushed_all (fetch_line c.args.lane) c.args.events.now.items c.loop-told.events.items c.args.fetched.now c.loop-told.told-index (omega arith) c.loop-told.invariant.events
