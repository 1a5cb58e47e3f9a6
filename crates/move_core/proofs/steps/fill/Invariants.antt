use Rattle.std.specs.Prelude.{◌≡◌, ◌++◌, drop, replicate}
use Rattle.move_core.proofs.steps.fill.Given as goal

abbrev pub invariant-loop-i : goal.invariant-loop-i
invariant-loop-i l = record {
  items : l.owed.items ≡ replicate l.i l.value ++ drop l.i l.fn.owed.items;
}
