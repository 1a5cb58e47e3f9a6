use Rattle.std.proofs.Common.{◌<◌, ◌+◌, ℕ, length, ap, sym, subst, arith}
use Rattle.nvm_model.specs.declared.piece.Piece.{Piece}
use Rattle.std.proofs.Common.{List}
use Rattle.hall.specs.Plan.{pieces_of}
use Rattle.session.specs.declared.lane_run.LaneRun.{LaneRun}
use Rattle.session.proofs.AllLanesLemmas.{run_at}
use Rattle.session.proofs.pieces.next_piece.Goals as goal

pub bounds-pieces-index : goal.bounds-pieces-index
bounds-pieces-index c =
    let run = c.index-run.result.now in
    let plan = c.args.plan.now in
    let own = run_at c.args.at run c.requires.fits.0 c.requires.left.there c.index-run.ensures in
    let left : length run.results.items < length (pieces_of plan (c.args.at + 1)) = subst (λ (r : LaneRun). length r.results.items < length (pieces_of plan (c.args.at + 1))) (sym c.index-run.ensures) (c.requires.left.left run) in
    omega (arith, c.len-index.ensures, run.results.ok.0, left, ap (λ (ps : List Piece). length ps) c.pieces-pieces.ensures, ap (λ (k : ℕ). length (pieces_of plan k)) own.lane)
