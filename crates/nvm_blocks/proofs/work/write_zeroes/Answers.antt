use Rattle.std.proofs.Common.{arith}
use Rattle.nvm_values.specs.declared.op.Op.TheVariants.{WriteZeroes}
use Rattle.nvm_blocks.proofs.CallLemmas.{all_moved, due_more, due_none, moved_more, moved_none, some_failed, zeroes_are}
use Rattle.nvm_blocks.proofs.work.write_zeroes.Goals as goal

pub loop-i-init : goal.loop-i-init
loop-i-init g c = record { zeroes = c.zero_block-zeroes.ensures; moved = moved_none WriteZeroes c.args.first (due_none _) }

pub loop-i-preserved : goal.loop-i-preserved
loop-i-preserved g c = record {
  zeroes = c.loop-i.invariant.zeroes;
  moved = moved_more WriteZeroes c.args.first c.loop-i.i _ c.loop-i.invariant.moved c.in-Ok.ensures (due_more _ c.loop-i.i _ c.loop-i.invariant.zeroes);
}

pub returns-in-Err : goal.returns-in-Err
returns-in-Err g c = λ memory.
    some_failed WriteZeroes _ _ c.requires.op c.loop-i.invariant.moved c.in-Err.ensures c.loop-i.invariant.zeroes (λ moved size due. zeroes_are c.requires.op size due (omega arith))

pub returns : goal.returns
returns g c = λ memory. all_moved WriteZeroes _ c.requires.op c.loop-i.invariant.moved (λ moved size due. zeroes_are c.requires.op (omega arith) due tt)
