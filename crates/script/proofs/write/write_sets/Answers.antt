use Rattle.std.proofs.Common.{take_all, arith}
use Rattle.mig_base.proofs.WriteLemmas.{writes_none, numbered_more, numbered_cut}
use Rattle.nvm_model.specs.declared.script.LaneSet.{LaneSet}
use Rattle.script.proofs.Writing.{lanes_are_numbered}
use Rattle.script.proofs.write.write_sets.Goals as goal

abbrev none : LaneSet
none = record { sq = 0; cq = 0; pages = 0 }

pub loop-i-init : goal.loop-i-init
loop-i-init g c = writes_none

pub loop-i-preserved : goal.loop-i-preserved
loop-i-preserved g c = numbered_more lanes_are_numbered c.args.sets.now c.loop-i.i none (omega arith) c.loop-i.invariant c.in_ok-write_lane.ensures

pub returns-in_err-write_lane : goal.returns-in_err-write_lane
returns-in_err-write_lane g c = numbered_cut lanes_are_numbered c.args.sets.now c.loop-i.i none (omega arith) c.loop-i.invariant c.in_err-write_lane.ensures c.from_residual.ensures.0

pub returns : goal.returns
returns g c = rw (take_all c.loop-i.i c.args.sets.now (omega arith)) at c.loop-i.invariant
