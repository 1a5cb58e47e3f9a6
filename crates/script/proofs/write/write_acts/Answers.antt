use Rattle.std.proofs.Common.{arith}
use Rattle.mig_base.proofs.WriteLemmas.{writes_none, parts_more, parts_cut, parts_all}
use Rattle.nvm_model.specs.declared.script.Act.TheVariants.{Fill}
use Rattle.nvm_model.specs.ScriptText.{IsActLine, act_line}
use Rattle.mig_base.proofs.ListLemmas.{all_at}
use Rattle.script.proofs.write.write_acts.Goals as goal

pub loop-lane-init : goal.loop-lane-init
loop-lane-init g c = writes_none

pub write_act-requires : goal.write_act-requires
write_act-requires g c =
    let all = rw (← c.list-lane-items.ensures) at c.requires.acts in
    (_, (all_at (IsActLine c.args.s.now.head) c.list-lane-items.result.now c.loop-lane.lane-index (0, Fill 0 0) all (omega arith)).2)

pub loop-lane-preserved : goal.loop-lane-preserved
loop-lane-preserved g c = parts_more act_line c.list-lane-items.result.now c.loop-lane.lane-index (0, Fill 0 0) (omega arith) c.loop-lane.invariant c.in_ok-write_act.ensures

pub returns-in_err-write_act : goal.returns-in_err-write_act
returns-in_err-write_act g c =
    rw (← c.list-lane-items.ensures)
    (parts_cut act_line c.list-lane-items.result.now c.loop-lane.lane-index (0, Fill 0 0) (omega arith) c.loop-lane.invariant c.in_err-write_act.ensures c.from_residual.ensures.0)

pub returns : goal.returns
returns g c = rw (← c.list-lane-items.ensures) (parts_all act_line c.list-lane-items.result.now c.loop-lane.lane-index (omega arith) c.loop-lane.invariant)
