use Rattle.std.proofs.Common.{arith}
use Rattle.manager.proofs.OwedLemmas.{counted_none}
use Rattle.manager.proofs.owed.Owed.make.Goals as goal

pub invariant_of-result : goal.invariant_of-result
invariant_of-result c = rw (c.loop.invariant.items, c.in_ok-none_owed.ensures) (counted_none c.args.size _ (omega arith) (omega arith))
