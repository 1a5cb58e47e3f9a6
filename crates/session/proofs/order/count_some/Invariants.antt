use Rattle.std.proofs.Common.{◌≡◌, ◌≤◌, length, take}
use Rattle.nvm_model.specs.Turn.{with_some}
use Rattle.session.proofs.order.count_some.Given as goal

abbrev pub invariant-loop-n : goal.invariant-loop-n
invariant-loop-n l = record {
  count : l.count ≡ length (with_some 1 (take l.n-index l.left));
  few : l.count ≤ l.n-index;
}
