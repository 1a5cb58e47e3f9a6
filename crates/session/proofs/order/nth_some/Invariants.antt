use Rattle.std.proofs.Common.{◌≡◌, ◌+◌, length, take}
use Rattle.nvm_model.specs.Turn.{with_some}
use Rattle.session.proofs.order.nth_some.Given as goal

abbrev pub invariant-loop-place : goal.invariant-loop-place
invariant-loop-place l = record {
  others : l.at ≡ l.others + length (with_some 1 (take l.place l.left));
}
