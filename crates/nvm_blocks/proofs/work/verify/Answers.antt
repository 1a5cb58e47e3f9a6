use Rattle.std.proofs.Common.{refl, arith}
use Rattle.nvm_values.specs.declared.op.Op.TheVariants.{Verify}
use Rattle.nvm_blocks.proofs.CallLemmas.{all_moved, moved_more, moved_none, some_failed, verify_is}
use Rattle.nvm_blocks.proofs.work.verify.Goals as goal

pub loop-i-init : goal.loop-i-init
loop-i-init g c = moved_none Verify c.args.first tt

pub loop-i-preserved : goal.loop-i-preserved
loop-i-preserved g c = moved_more Verify c.args.first c.loop-i.i _ c.loop-i.invariant c.in-Ok.ensures (λ moved size are. tt)

pub returns-in-Err : goal.returns-in-Err
returns-in-Err g c = λ memory. some_failed Verify _ _ c.requires.op c.loop-i.invariant c.in-Err.ensures refl (λ moved size are. verify_is c.requires.op size (omega arith))

pub returns : goal.returns
returns g c = λ memory. all_moved Verify _ c.requires.op c.loop-i.invariant (λ moved size are. verify_is c.requires.op (omega arith) tt)
