use Rattle.std.specs.Prelude.{◌≡◌, length}
use Rattle.move_core.specs.State.{put_blocks}
use Rattle.move_core.proofs.steps.put_blocks.Given as goal

abbrev pub invariant-loop-i : goal.invariant-loop-i
invariant-loop-i l = record {
  blocks : l.blocks.items ≡ put_blocks l.span.first l.i l.bytes l.fn.blocks.items;
  long : length l.blocks.items ≡ length l.fn.blocks.items;
}
