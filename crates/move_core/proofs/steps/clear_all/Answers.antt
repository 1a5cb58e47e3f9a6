use Rattle.std.proofs.Common.{[], ◌∙◌, ap, arith, set}
use Rattle.move_core.proofs.RoomLemmas.{set_next}
use Rattle.move_core.proofs.steps.clear_all.Goals as goal

pub loop-i-preserved : goal.loop-i-preserved
loop-i-preserved c = record {
  items = ap (λ y. set c.loop-i.unposted.items c.loop-i.i y) c.clear.ensures ∙ ap (λ xs. set xs c.loop-i.i []) c.loop-i.invariant.items ∙ set_next [] c.loop-i.i c.args.unposted.now.items (omega arith);
}
