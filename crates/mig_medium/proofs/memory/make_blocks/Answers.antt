use Rattle.std.proofs.Common.{◌∙◌, ap, ◌++◌, ◌∷◌, [], arith, sym, replicate}
use Rattle.mig_medium.proofs.BlockSteps.{zero_blocks-zero, zero_blocks-more}
use Rattle.mig_medium.proofs.memory.make_blocks.Goals as goal

pub loop-init : goal.loop-init
loop-init c =
    (c.in_ok-blocks.ensures.items ∙ sym zero_blocks-zero, c.in_ok-blocks.ensures.len, c.in_ok-blocks.ensures.capacity)

pub loop-preserved : goal.loop-preserved
loop-preserved c = (
  c.push_reserved.ensures.items ∙ ap (λ xs. xs ++ replicate 512 0 ∷ []) c.loop.invariant.0 ∙ sym (zero_blocks-more c.loop.counter),
  omega arith,
  omega arith,
)
