use Rattle.std.specs.Prelude.{◌≡◌, length}
use Rattle.move_core.specs.State.{owe_blocks}
use Rattle.move_core.proofs.steps.owe_blocks.Given as goal

abbrev pub invariant-loop-i : goal.invariant-loop-i
invariant-loop-i l = record {
  owed : l.owed.items ≡ owe_blocks l.span.first l.i l.fn.owed.items;
  long : length l.owed.items ≡ length l.fn.owed.items;
}
