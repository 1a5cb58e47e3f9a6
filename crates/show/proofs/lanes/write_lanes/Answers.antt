use Rattle.std.proofs.Common.{take, take_all, ◌∙◌, ap, arith}
use Rattle.mig_base.proofs.WriteLemmas.{writes_none, numbered_more, numbered_cut}
use Rattle.nvm_model.specs.declared.script.LaneSet.{LaneSet}
use Rattle.show.proofs.ShowLemmas.{lanes_are_numbered, lane_counted}
use Rattle.show.proofs.lanes.write_lanes.Goals as goal

abbrev none : LaneSet
none = record { sq = 0; cq = 0; pages = 0 }

pub loop-i-init : goal.loop-i-init
loop-i-init g c = writes_none

pub loop-i-preserved : goal.loop-i-preserved
loop-i-preserved g c =
    let i = c.loop-i.i in
    let acts = c.args.s.now.acts in
    let sets = take c.from.result c.args.s.now.head.sets in
    let counted = c.count_acts-counts.ensures i (omega (arith, c.requires.head.lanes)) in
    numbered_more (lanes_are_numbered acts) sets i none (omega arith) c.loop-i.invariant (lane_counted c.count_acts-counts.result acts i _ counted c.in_ok-write_lane.ensures)

pub returns-in_err-write_lane : goal.returns-in_err-write_lane
returns-in_err-write_lane g c =
    let i = c.loop-i.i in
    let acts = c.args.s.now.acts in
    let sets = take c.from.result c.args.s.now.head.sets in
    let counted = c.count_acts-counts.ensures i (omega (arith, c.requires.head.lanes)) in
    let line = lane_counted c.count_acts-counts.result acts i _ counted c.in_err-write_lane.ensures in
    rw (ap (λ n. take n c.args.s.now.head.sets) c.from.ensures) at (numbered_cut (lanes_are_numbered acts) sets i none (omega arith) c.loop-i.invariant line c.from_residual.ensures.0)

pub returns : goal.returns
returns g c =
    let all = take_all c.loop-i.i (take c.from.result c.args.s.now.head.sets) (omega arith) ∙ ap (λ n. take n c.args.s.now.head.sets) c.from.ensures in
    rw all at c.loop-i.invariant
