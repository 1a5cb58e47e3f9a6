use Rattle.std.proofs.Common.{◌<◌, List, get_or, length, ap, ◌∙◌, arith}
use Rattle.session.specs.declared.lane_run.LaneRun.{LaneRun}
use Rattle.session.proofs.AllLanesLemmas.{run_at}
use Rattle.session.proofs.pieces.count_left.Goals as goal

pub pieces-requires : goal.pieces-requires
pieces-requires c =
    let at = c.loop-at.at in
    let run = c.run-item.result in
    let value = c.deref-run-items.ensures.value in
    let there : at < c.args.script.now.head.lanes = omega (arith, c.loop-at-test.true, ap (λ (rs : List LaneRun). length rs) value, c.requires.fits.0.count) in
    let own = run_at at run c.requires.fits.0 there (c.run-item.is ∙ ap (λ (rs : List LaneRun). get_or rs at run) value) in
    omega (arith, own.lane, c.requires.fits.1.count, there)
