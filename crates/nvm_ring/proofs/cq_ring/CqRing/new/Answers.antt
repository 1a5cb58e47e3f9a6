use Rattle.std.proofs.Common.{arith}
use Rattle.nvm_ring.proofs.RingLemmas.{cq_ring-start}
use Rattle.nvm_ring.proofs.cq_ring.CqRing.new.Goals as goal

pub returns-clause-start : goal.returns-clause-start
returns-clause-start c = λ head tail new. cq_ring-start c.args.ring c.args.phase (omega (arith, c.requires)) c.requires.at_most head tail new
