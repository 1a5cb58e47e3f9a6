use Rattle.std.proofs.Common.{length}
use Rattle.script.proofs.ValueLaws.{AreFilled}
use Rattle.script.proofs.value.bytes.Given as goal

abbrev pub invariant-loop-i : goal.invariant-loop-i
invariant-loop-i l = AreFilled l.word (length l.initial.out) l.i l.out l.rest
