use Rattle.std.proofs.Common.{◌≡◌, ◌<◌, ◌≤◌, ℕ, [], refl, arith}
use Rattle.mig_base.proofs.ListLemmas.{element_at}
use Rattle.ctl_state.specs.Controller.{PairState, no_pair, pair_of}
use Rattle.session.specs.declared.lane_run.LaneRun.{LaneRun}
use Rattle.turns.proofs.PartLaws.{none_yet, leads_none, all_led}
use Rattle.session.proofs.SeatLemmas.{seats_more}
use Rattle.session.proofs.AllLanesLemmas.{PostedTo, all_lanes, led_more, more_more, posted_more, put_here, run_here, seat_at, seat_put}
use Rattle.session.proofs.WorkLemmas.{may_post}
use Rattle.session.proofs.posts.post_all.Goals as goal

pub loop-at-init : goal.loop-at-init
loop-at-init g c = record {
  leads = λ lanes stands. leads_none lanes c.args.events.now.items stands (none_yet _ lanes);
  fit = c.requires.has.0.fit;
  each = λ k d low high. record { quiet = λ none. absurd (omega (arith, low, none)); later = λ _. may_post (c.requires.has.0.planned k low high) (c.requires.has.1 k d low high) };
  kept = record { namespace = refl; controller = refl };
  more = record { fewer = omega arith; few = omega arith; capacity = refl };
}

pub post-requires-clause-seat : goal.post-requires-clause-seat
post-requires-clause-seat g c = (seat_at c.loop-at.at c.index_mut.result.now c.loop-at.invariant.fit (omega arith) c.index_mut.ensures.value).0

pub post-requires-clause-done : goal.post-requires-clause-done
post-requires-clause-done g c =
    let run = c.index_mut.result.now in
    let k = run.script.lane in
    let is = seat_at c.loop-at.at run c.loop-at.invariant.fit (omega arith) c.index_mut.ensures.value in
    let own = run_here c.loop-at.runs.items (λ (r : LaneRun). PostedTo c.args.script.now c.loop-at.at k r (pair_of c.loop-at.place.controller k)) c.loop-at.at k run is.1 c.index_mut.ensures.value (c.loop-at.invariant.each k run is.0.there.0 is.0.there.1) in
    own.later (omega (arith, is.1))

pub loop-at-preserved : goal.loop-at-preserved
loop-at-preserved g c =
    let i = c.loop-at.at in
    let was = c.loop-at.invariant in
    let old_run = c.index_mut.result.now in
    let is = seat_at i old_run was.fit (omega arith) c.index_mut.ensures.value in
    let there : i < c.args.script.now.head.lanes = omega arith in
    let did = c.post.ensures in
    let run = c.post.new.run in
    let put = seat_put i old_run.script.lane run is.1 there did.rests.0 did.seat was.fit in
    record {
      leads = λ lanes stands. led_more c.loop-at.place c.post.new.self old_run run put.0 there stands.count c.index_mut.ensures.value (was.leads lanes stands) did.leads;
      fit = put.1;
      each = posted_more put.0 did.rests.2 (put_here c.loop-at.runs.items i run (λ (r : LaneRun). r.results.items ≡ []) put.0.there did.rests.1) was.each;
      kept = seats_more was.kept did.seat;
      more = more_more (omega arith) was.more did.more;
    }

pub returns-clause-leads : goal.returns-clause-leads
returns-clause-leads g c = λ lanes stands.
    let led = c.loop-at.invariant.leads lanes stands in
    all_led led (omega (arith, stands.count)) (omega (arith, led.stands.count))

pub returns-clause-rests : goal.returns-clause-rests
returns-clause-rests g c =
    let now = c.loop-at.invariant in
    let d = element_at c.loop-at.runs.items 0 (omega (arith, now.fit.own.count, now.fit.head.lanes.0)) in
    let rests = λ (k : ℕ) (low : 1 ≤ k) (high : k ≤ c.args.script.now.head.lanes). (now.each k d low high).quiet (omega (arith, high)) in (
      now.fit,
      all_lanes (λ (p : PairState). p.commands ≡ []) c.loop-at.place.controller.pairs no_pair now.fit.at.pairs (λ k low high. (rests k low high).0),
      all_lanes (λ (r : LaneRun). r.results.items ≡ []) c.loop-at.runs.items d now.fit.own.count (λ k low high. (rests k low high).1),
    )
