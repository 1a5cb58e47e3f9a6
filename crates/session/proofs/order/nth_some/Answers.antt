use Rattle.std.proofs.Common.{◌≡◌, ◌+◌, ℕ, length, take, slice_index_or, ap, ◌∙◌, arith}
use Rattle.nvm_model.specs.Turn.{with_some}
use Rattle.turns.proofs.NextPieceLaws.{none_more, some_at, some_more}
use Rattle.session.proofs.order.nth_some.Goals.{then-n-gt0+else-others-eq0, else-n-gt0}
use Rattle.session.proofs.order.nth_some.Goals as goal

pub returns-then-others-eq0-clause-some : goal.returns-then-others-eq0-clause-some
returns-then-others-eq0-clause-some c =
    let left = c.args.left.now in
    let place = c.loop-place.place in
    let at : c.args.at ≡ length (with_some 1 (take place left)) = omega (arith, c.loop-place.invariant.others, c.if-others-eq0.true) in
    let is = some_at 1 left place c.loop-place-test.true c.if-n-gt0.true in
    let value : slice_index_or (with_some 1 left) c.args.at 0 ≡ 1 + place = ap (λ (i : ℕ). slice_index_or (with_some 1 left) i 0) at ∙ is.1 in
    (omega (arith, at, is.0), omega (arith, value))

pub loop-place-preserved : goal.loop-place-preserved
loop-place-preserved c =
    let now = c.loop-place.invariant in
    let left = c.args.left.now in
    let place = c.loop-place.place in
    elim c.if-n-gt0.branch [
      | then-n-gt0+else-others-eq0 w ↦ record { others = omega (arith, w.others-is, now.others, w.if-others-eq0.false, some_more left place c.loop-place-test.true w.if-n-gt0.true) }
      | else-n-gt0 w ↦ record { others = omega (arith, w.others-is, now.others, none_more left place c.loop-place-test.true (omega (arith, w.if-n-gt0.false))) }
    ]
