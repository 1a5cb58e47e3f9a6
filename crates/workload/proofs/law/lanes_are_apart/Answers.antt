use Rattle.workload.proofs.MadeLemmas.{made_apart}
use Rattle.workload.proofs.law.lanes_are_apart.Goals as goal

pub returns : goal.returns
returns c = made_apart
