use Rattle.std.proofs.Common.{arith}
use Rattle.nvm_ring.proofs.RingLemmas.{guest_cq-start}
use Rattle.nvm_ring.proofs.guest_cq.GuestCq.new.Goals as goal

pub returns-clause-start : goal.returns-clause-start
returns-clause-start c = guest_cq-start c.args.size (omega (arith, c.requires)) c.requires.most
