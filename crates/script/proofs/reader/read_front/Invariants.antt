use Rattle.std.proofs.Common.{length}
use Rattle.script.specs.Reads.{IsRead}
use Rattle.script.proofs.reader.read_front.Given as goal

abbrev pub invariant-lines : goal.invariant-lines
invariant-lines l = IsRead l.text l.reader l.rest l.line

abbrev pub decreases-lines : goal.decreases-lines
decreases-lines l = length l.rest
