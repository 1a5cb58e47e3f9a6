use Rattle.std.proofs.Common.{arith}
use Rattle.std.proofs.lemmas.List.{take_rest}
use Rattle.script.proofs.WordLaws.{cut_found, cut_nowhere}
use Rattle.script.proofs.line.cut_word.Goals as goal

pub returns-then-byte-eq32 : goal.returns-then-byte-eq32
returns-then-byte-eq32 c = rw (take_rest c.split_at.result.1.now 1, c.split_at.ensures.front, c.split_at.ensures.back) (cut_found 32 c.args.text.now c.loop-at.at c.loop-at-test.true c.loop-at.invariant c.if-byte-eq32.true)

pub returns : goal.returns
returns c = cut_nowhere 32 c.args.text.now (λ k l. c.loop-at.invariant k (omega arith))
