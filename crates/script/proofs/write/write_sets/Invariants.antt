use Rattle.std.proofs.Common.{Ok, take}
use Rattle.mig_base.specs.Stream.{Writes}
use Rattle.mig_base.specs.declared.fault.Failed.{Failed}
use Rattle.nvm_model.specs.ScriptText.{lane_lines}
use Rattle.script.proofs.write.write_sets.Given as goal

abbrev pub invariant-loop-i : goal.invariant-loop-i
invariant-loop-i g l =
    let sink = g.K.Sink in
    Writes {T = Unit {0}} {E = Failed} (lane_lines 1 (take l.i l.sets)) (sink.bytes l.fn.sink) (sink.bytes l.sink) (sink.faults l.fn.sink) (sink.faults l.sink) (Ok tt)
