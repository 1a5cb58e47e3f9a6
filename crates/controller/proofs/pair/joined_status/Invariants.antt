use Rattle.std.proofs.Common.{◌≡◌, drop}
use Rattle.controller.specs.Pair.{outcomes_of}
use Rattle.controller.specs.Parts.{joined_with}
use Rattle.controller.proofs.pair.joined_status.Given as goal

abbrev pub invariant-loop-r : goal.invariant-loop-r
invariant-loop-r l = record {
  left : joined_with l.work.op (drop l.r-index (outcomes_of l.results)) l.status ≡ joined_with l.work.op (outcomes_of l.results) l.command.status;
}
