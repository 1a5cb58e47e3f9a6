use Rattle.std.proofs.Common.{length, sym, arith}
use Rattle.script.proofs.ValueLaws.{next_filled, next_fails, all_filled}
use Rattle.script.proofs.value.bytes.Goals as goal

pub loop-i-preserved : goal.loop-i-preserved
loop-i-preserved c = next_filled c.args.word.now (length c.args.out.now) c.loop-i.i c.loop-i.out c.loop-i.rest.now c.in-Some.byte c.loop-i-test.true c.in-len2-up.len_at_least (sym c.in-Some.ensures) c.loop-i.invariant

pub returns-in_default-byte : goal.returns-in_default-byte
returns-in_default-byte c = next_fails c.args.word.now (length c.args.out.now) c.loop-i.i c.loop-i.out c.loop-i.rest.now c.in-len2-up.len_at_least (sym c.in_default-byte.ensures) c.if-word-out.false c.loop-i.invariant

pub returns : goal.returns
returns c = all_filled c.args.word.now (length c.args.out.now) c.loop-i.i c.loop-i.out c.loop-i.rest.now (omega arith) c.if-word-out.false c.loop-i.invariant
