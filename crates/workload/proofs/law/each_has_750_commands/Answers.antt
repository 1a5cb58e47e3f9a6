use Rattle.workload.proofs.NumberLemmas.{made_numbered}
use Rattle.workload.proofs.law.each_has_750_commands.Goals as goal

pub returns : goal.returns
returns c = made_numbered
