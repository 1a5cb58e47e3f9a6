use Rattle.std.proofs.Common.{◌++◌, ◌∷◌, [], ◌∙◌, ap, arith, replicate}
use Rattle.std.proofs.lemmas.List.{replicate-append-replicate}
use Rattle.move_core.proofs.state.zero_blocks.Goals as goal

pub loop-preserved : goal.loop-preserved
loop-preserved c = record {
  items = c.push_reserved.ensures.items ∙ ap (λ xs. xs ++ replicate 512 0 ∷ []) c.loop.invariant.items ∙ replicate-append-replicate c.loop.counter 1 (replicate 512 0);
  count = omega arith;
  capacity = omega arith;
}
