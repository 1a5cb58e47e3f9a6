use Rattle.std.proofs.Common.{ℕ, arith}
use Rattle.std.proofs.lemmas.List.FromFn.{length-map-range_with_len}
use Rattle.nvm_model.specs.Piece.{piece_count}
use Rattle.nvm_cmd.specs.Answer.{job_of}
use Rattle.nvm_cmd.specs.Cut.{piece_of}
use Rattle.controller.proofs.pair.plan_command.Goals as goal

pub returns-in-Some-clause-few : goal.returns-in-Some-clause-few
returns-in-Some-clause-few c =
    let work = c.in-Some.work in
    let cid = c.args.command.now.cid in
    let count = length-map-range_with_len (λ (i : ℕ). piece_of c.args.lane c.args.shelf i (job_of cid work)) 0 (piece_count c.args.shelf work.span) in
    rw c.in-Some.is (omega (arith, count, c.plan_job.ensures.count, c.plan_job.ensures.few))
