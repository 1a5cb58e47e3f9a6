use Rattle.std.proofs.Common.{Ok, take}
use Rattle.mig_base.specs.Stream.{Writes}
use Rattle.mig_base.specs.declared.fault.Failed.{Failed}
use Rattle.nvm_model.specs.Text.{text_of}
use Rattle.transcript.proofs.write.send_lines.Given as goal

abbrev pub invariant-loop-line : goal.invariant-loop-line
invariant-loop-line g l =
    let sink = g.K.Sink in
    Writes {T = Unit {0}} {E = Failed} (text_of (take l.line-index l.lines)) (sink.bytes l.fn.sink) (sink.bytes l.sink) (sink.faults l.fn.sink) (sink.faults l.sink) (Ok tt)
