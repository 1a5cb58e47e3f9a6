use Rattle.std.proofs.Common.{refl, arith, rules}
use Rattle.nvm_values.specs.declared.op.Op.TheVariants.{Read}
use Rattle.nvm_blocks.proofs.CallLemmas.{all_moved, moved_more, moved_none, none_read, one_read, read_is, some_failed}
use Rattle.nvm_blocks.proofs.work.read.Goals as goal

pub loop-i-init : goal.loop-i-init
loop-i-init g c = record { moved = moved_none Read c.args.first (none_read c.new-hasher.ensures); window = search rules }

pub loop-i-preserved : goal.loop-i-preserved
loop-i-preserved g c = record {
  moved = moved_more Read c.args.first c.loop-i.i _ c.loop-i.invariant.moved c.in-Ok.ensures (one_read c.loop-i.i _ c.keep_block.ensures.memory c.digest_more.ensures);
  window = search rules;
}

pub returns-in-Err-clause-applied : goal.returns-in-Err-clause-applied
returns-in-Err-clause-applied g c =
    some_failed Read _ _ c.requires.op c.loop-i.invariant.moved c.in-Err.ensures refl (λ moved size are. read_is c.requires.op size size (omega arith) are c.finalize.ensures)

pub returns-clause-applied : goal.returns-clause-applied
returns-clause-applied g c =
    all_moved Read _ c.requires.op c.loop-i.invariant.moved (λ moved size are. read_is c.requires.op (omega arith) (omega arith) tt are c.finalize-2.ensures)
