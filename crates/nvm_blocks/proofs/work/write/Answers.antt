use Rattle.std.proofs.Common.{◌∙◌, arith}
use Rattle.nvm_values.specs.declared.op.Op.TheVariants.{Write}
use Rattle.nvm_blocks.proofs.CallLemmas.{all_moved, due_more, due_none, moved_more, moved_none, some_failed, write_is}
use Rattle.nvm_blocks.proofs.work.write.Goals as goal

pub loop-i-init : goal.loop-i-init
loop-i-init g c = moved_none Write c.args.first (due_none _)

pub loop-i-preserved : goal.loop-i-preserved
loop-i-preserved g c = moved_more Write c.args.first c.loop-i.i _ c.loop-i.invariant c.in-Ok.ensures (due_more _ c.loop-i.i _ (c.copy_from_slice.ensures.after ∙ c.data_block.ensures.value))

pub returns-in-Err : goal.returns-in-Err
returns-in-Err g c =
    some_failed Write _ _ c.requires.op c.loop-i.invariant c.in-Err.ensures (c.copy_from_slice.ensures.after ∙ c.data_block.ensures.value)
    (λ moved size due. write_is c.requires.op size due (omega arith))

pub returns : goal.returns
returns g c = all_moved Write _ c.requires.op c.loop-i.invariant (λ moved size due. write_is c.requires.op (omega arith) due tt)
