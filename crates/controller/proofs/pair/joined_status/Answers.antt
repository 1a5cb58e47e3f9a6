use Rattle.std.proofs.Common.{◌+◌, drop, ap, ◌∙◌}
use Rattle.controller.specs.Pair.{outcomes_of}
use Rattle.controller.specs.Parts.{joined_with}
use Rattle.controller.proofs.WorkLemmas.{joined_next}
use Rattle.controller.proofs.pair.joined_status.Goals as goal

pub loop-r-preserved : goal.loop-r-preserved
loop-r-preserved c =
    let op = c.in-Some.work.op in
    let i = c.loop-r.r-index in
    record { left = ap (joined_with op (drop (i + 1) (outcomes_of c.args.results.now))) c.join_status-status.ensures ∙ joined_next op c.args.results.now i _ c.loop-r.status c.loop-r-test.true ∙ c.loop-r.invariant.left }
