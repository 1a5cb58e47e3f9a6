use Rattle.std.proofs.Common.{◌≡◌, ◌∙◌, ◌<◌, ◌-◌, [], refl, arith}
use Rattle.mig_base.proofs.ListLemmas.{element_at}
use Rattle.ctl_state.specs.Controller.{pair_of}
use Rattle.session.specs.declared.lane_run.LaneRun.{LaneRun}
use Rattle.turns.proofs.PartLaws.{none_yet, leads_none, all_led}
use Rattle.session.proofs.SeatLemmas.{seats_more}
use Rattle.session.proofs.AllLanesLemmas.{PlannedTo, all_lanes, quiet_at, led_more, more_more, planned_more, put_here, run_here, seat_at, seat_put}
use Rattle.session.proofs.plan.plan_all.Goals as goal

pub loop-at-init : goal.loop-at-init
loop-at-init g c = record {
  leads = λ lanes stands. leads_none lanes c.args.events.now.items stands (none_yet _ lanes);
  fit = c.requires.may.fit;
  fits = c.requires.may.fits;
  each = λ k d low high. record {
    planned = λ none. absurd (omega (arith, low, none));
    later = λ _. (quiet_at c.args.place.now.controller c.requires.may.quiet k, c.requires.may.empty (k - 1) [] (omega (arith, low, high, c.requires.may.fits.count)));
    undone = c.requires.may.undone (k - 1) d (omega (arith, low, high, c.requires.may.fit.own.count));
  };
  kept = record { namespace = refl; controller = refl };
  more = record { fewer = omega arith; few = omega arith; capacity = refl };
}

pub plan-requires-clause-may : goal.plan-requires-clause-may
plan-requires-clause-may g c =
    let was = c.loop-at.invariant in
    let run = c.index_mut.result.now in
    let k = run.script.lane in
    let is = seat_at c.loop-at.at run was.fit (omega arith) c.index_mut.ensures.value in
    let own = run_here c.loop-at.runs.items (λ (r : LaneRun). PlannedTo c.args.script.now c.loop-at.plan c.loop-at.at k r (pair_of c.loop-at.place.controller k)) c.loop-at.at k run is.1 c.index_mut.ensures.value (was.each k run is.0.there.0 is.0.there.1) in
    record { seat = is.0; running = was.fit.running; commands = (own.later (omega (arith, is.1))).0; results = own.undone }

pub plan-requires-clause-plan : goal.plan-requires-clause-plan
plan-requires-clause-plan g c =
    let was = c.loop-at.invariant in
    let run = c.index_mut.result.now in
    let is = seat_at c.loop-at.at run was.fit (omega arith) c.index_mut.ensures.value in
    (was.fits, ((was.each run.script.lane run is.0.there.0 is.0.there.1).later (omega (arith, is.1))).1)

pub loop-at-preserved : goal.loop-at-preserved
loop-at-preserved g c =
    let i = c.loop-at.at in
    let was = c.loop-at.invariant in
    let old_run = c.index_mut.result.now in
    let is = seat_at i old_run was.fit (omega arith) c.index_mut.ensures.value in
    let there : i < c.args.script.now.head.lanes = omega arith in
    let did = c.plan.ensures in
    let run = c.plan.new.run in
    let put = seat_put i old_run.script.lane run is.1 there did.run.0 did.seat was.fit in
    record {
      leads = λ lanes stands. led_more c.loop-at.place c.plan.new.self old_run run put.0 there stands.count c.index_mut.ensures.value (was.leads lanes stands) did.leads;
      fit = put.1;
      fits = record { count = did.planned.same.count ∙ was.fits.count; size = did.planned.same.size ∙ was.fits.size };
      each = planned_more put.0 did.planned (put_here c.loop-at.runs.items i run (λ (r : LaneRun). r.results.items ≡ []) put.0.there did.run.1) was.each;
      kept = seats_more was.kept did.seat;
      more = more_more (omega arith) was.more did.more;
    }

pub returns-clause-leads : goal.returns-clause-leads
returns-clause-leads g c = λ lanes stands.
    let led = c.loop-at.invariant.leads lanes stands in
    all_led led (omega (arith, stands.count)) (omega (arith, led.stands.count))

pub returns-clause-has : goal.returns-clause-has
returns-clause-has g c =
    let now = c.loop-at.invariant in
    let d = element_at c.loop-at.runs.items 0 (omega (arith, now.fit.own.count, now.fit.head.lanes.0)) in (
      record { fit = now.fit; fits = now.fits; planned = λ k low high. (now.each k d low high).planned (omega (arith, high)) },
      all_lanes (λ (r : LaneRun). r.results.items ≡ []) c.loop-at.runs.items d now.fit.own.count (λ k low high. (now.each k d low high).undone),
    )
