use Rattle.std.proofs.Common.{◌∙◌, arith, refl}
use Rattle.turns.proofs.PartLaws.{acts_full, acts_more, acts_start, acts_stop, leads_none, leads_more, added_count, acts_are}
use Rattle.session.proofs.LanePartLemmas.{step_more, step_none}
use Rattle.session.proofs.plan.do_acts.Goals as goal

pub loop-done-init : goal.loop-done-init
loop-done-init c = record {
  acts = λ l free. leads_none l c.args.events.now.items free (acts_start l);
  step = step_none c.requires.seat;
  count = omega arith;
  capacity = refl;
}

pub loop-done-preserved : goal.loop-done-preserved
loop-done-preserved c = record {
  acts = λ l free. leads_more (λ y z first second x last. acts_more x last) (c.loop-done.invariant.acts l free) c.if-not-do_next_act.ensures.acts;
  step = step_more c.loop-done.invariant.step c.do_next_act.ensures.step;
  count = omega (arith, c.if-not-do_next_act.ensures.more.exact);
  capacity = c.do_next_act.ensures.more.more.capacity ∙ c.loop-done.invariant.capacity;
}

pub returns-then-not-do_next_act-clause-acts : goal.returns-then-not-do_next_act-clause-acts
returns-then-not-do_next_act-clause-acts c = λ l free.
    let to = leads_more (λ y z first second x last. acts_more x last) (c.loop-done.invariant.acts l free) c.if-not-do_next_act.ensures.acts in
    acts_are to (acts_stop (omega (arith, added_count to)) to.part)

pub returns-then-not-do_next_act-clause-step : goal.returns-then-not-do_next_act-clause-step
returns-then-not-do_next_act-clause-step c = step_more c.loop-done.invariant.step c.do_next_act.ensures.step

pub returns-clause-acts : goal.returns-clause-acts
returns-clause-acts c = λ l free.
    let to = c.loop-done.invariant.acts l free in
    acts_are to (acts_full (omega (arith, added_count to)) to.part)
