use Rattle.std.proofs.Common.{◌∙◌, arith, refl, sym}
use Rattle.std.proofs.lemmas.Bool.{false≢true}
use Rattle.turns.proofs.PartLaws.{reaps_more, reaps_none, leads_none, leads_more}
use Rattle.session.proofs.LanePartLemmas.{reaps_end, run_set, step_more, step_none}
use Rattle.session.proofs.plan.reap_all.Goals as goal

pub loop-turn-init : goal.loop-turn-init
loop-turn-init c = record {
  reaps = λ l free. leads_none l c.args.events.now.items free (reaps_none l (λ never. absurd (false≢true (sym never))));
  step = step_none c.requires.seat;
  count = omega arith;
  capacity = refl;
}

pub returns-then-not-reap-clause-reaps : goal.returns-then-not-reap-clause-reaps
returns-then-not-reap-clause-reaps c = λ l free.
    leads_more (λ y z first second x last. let all = reaps_more x last in record { are = all.are; steps = all.steps; all = all.all refl }) (c.loop-turn.invariant.reaps l free) c.if-not-reap.ensures.reaps

pub returns-then-not-reap-clause-step : goal.returns-then-not-reap-clause-step
returns-then-not-reap-clause-step c = step_more c.loop-turn.invariant.step c.reap.ensures.step

pub loop-turn-preserved : goal.loop-turn-preserved
loop-turn-preserved c = record {
  reaps = λ l free. leads_more (λ y z first second x last. reaps_more x last) (c.loop-turn.invariant.reaps l free) c.if-not-reap.ensures.reaps;
  step = step_more c.loop-turn.invariant.step c.reap.ensures.step;
  count = omega (arith, c.if-not-reap.ensures.more.exact);
  capacity = c.reap.ensures.more.more.capacity ∙ c.loop-turn.invariant.capacity;
}

pub returns-clause-reaps : goal.returns-clause-reaps
returns-clause-reaps c = λ l free. absurd (reaps_end (run_set c.requires.seat.run) free (c.loop-turn.invariant.reaps l free) (omega arith))
