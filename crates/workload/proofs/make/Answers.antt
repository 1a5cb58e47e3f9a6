use Rattle.std.proofs.Common.{◌∙◌}
use Rattle.workload.proofs.MadeLemmas.{made_of}
use Rattle.workload.proofs.make.Goals as goal

pub returns-clause-range : goal.returns-clause-range
returns-clause-range c = made_of c.args.n c.head_of.result c.new.result c.head_of.ensures (c.new.ensures ∙ c.in_ok-acts.ensures)
