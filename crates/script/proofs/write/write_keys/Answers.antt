use Rattle.std.proofs.Common.{arith}
use Rattle.mig_base.proofs.WriteLemmas.{writes_none, parts_more, parts_cut, parts_all}
use Rattle.script.specs.declared.key.Key.TheVariants.{Blocks}
use Rattle.script.specs.Writing.{key_text}
use Rattle.script.proofs.write.write_keys.Goals as goal

pub loop-key-init : goal.loop-key-init
loop-key-init g c = writes_none

pub loop-key-preserved : goal.loop-key-preserved
loop-key-preserved g c = parts_more (key_text c.args.head.now) c.args.keys.now c.loop-key.key-index Blocks (omega arith) c.loop-key.invariant c.in_ok-write_key.ensures

pub returns-in_err-write_key : goal.returns-in_err-write_key
returns-in_err-write_key g c = parts_cut (key_text c.args.head.now) c.args.keys.now c.loop-key.key-index Blocks (omega arith) c.loop-key.invariant c.in_err-write_key.ensures c.from_residual.ensures.0

pub returns : goal.returns
returns g c = parts_all (key_text c.args.head.now) c.args.keys.now c.loop-key.key-index (omega arith) c.loop-key.invariant
