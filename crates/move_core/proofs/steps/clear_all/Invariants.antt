use Rattle.std.specs.Prelude.{◌≡◌, ◌++◌, [], drop, replicate}
use Rattle.move_core.proofs.steps.clear_all.Given as goal

abbrev pub invariant-loop-i : goal.invariant-loop-i
invariant-loop-i l = record {
  items : l.unposted.items ≡ replicate l.i [] ++ drop l.i l.fn.unposted.items;
}
