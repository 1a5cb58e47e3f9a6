use Rattle.std.proofs.Common.{Ok, take}
use Rattle.std.specs.List.{flat_map}
use Rattle.mig_base.specs.Stream.{Writes}
use Rattle.mig_base.specs.declared.fault.Failed.{Failed}
use Rattle.script.specs.Writing.{key_text}
use Rattle.script.proofs.write.write_keys.Given as goal

abbrev pub invariant-loop-key : goal.invariant-loop-key
invariant-loop-key g l =
    let sink = g.K.Sink in
    Writes {T = Unit {0}} {E = Failed} (flat_map (key_text l.head) (take l.key-index l.keys)) (sink.bytes l.fn.sink) (sink.bytes l.sink) (sink.faults l.fn.sink) (sink.faults l.sink) (Ok tt)
