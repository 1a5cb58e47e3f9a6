use Rattle.std.proofs.Common.{◌∙◌, ap, arith, set}
use Rattle.move_core.proofs.RoomLemmas.{set_next}
use Rattle.move_core.proofs.steps.fill.Goals as goal

pub loop-i-preserved : goal.loop-i-preserved
loop-i-preserved c = record {
  items = ap (λ xs. set xs c.loop-i.i c.args.value) c.loop-i.invariant.items ∙ set_next c.args.value c.loop-i.i c.args.owed.now.items (omega arith);
}
