use Rattle.std.proofs.Common.{Ok, take}
use Rattle.std.specs.List.{flat_map}
use Rattle.mig_base.specs.Stream.{Writes}
use Rattle.mig_base.specs.declared.fault.Failed.{Failed}
use Rattle.nvm_model.specs.ScriptText.{act_line}
use Rattle.script.proofs.write.write_acts.Given as goal

abbrev pub invariant-loop-lane : goal.invariant-loop-lane
invariant-loop-lane g l =
    let sink = g.K.Sink in
    Writes {T = Unit {0}} {E = Failed} (flat_map act_line (take l.lane-index l.lane-items)) (sink.bytes l.fn.sink) (sink.bytes l.sink) (sink.faults l.fn.sink) (sink.faults l.sink) (Ok tt)
