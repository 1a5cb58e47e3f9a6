use Rattle.std.proofs.Common.{◌∙◌, arith}
use Rattle.std.proofs.lemmas.List.{replicate-append-replicate}
use Rattle.nvm_model.specs.Memory.{zero_block}
use Rattle.judge.proofs.replay.make_blocks.Goals as goal

pub more-preserved : goal.more-preserved
more-preserved c = record {
  made = c.push_reserved.ensures.items ∙ (cc (c.more.invariant.made, c.zero_block.ensures) ∙ replicate-append-replicate c.more.counter 1 zero_block);
  count = omega arith;
  capacity = omega arith;
}
