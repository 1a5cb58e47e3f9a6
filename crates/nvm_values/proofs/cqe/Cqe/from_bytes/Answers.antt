use Rattle.std.proofs.Common.{rules, ◌∙◌, ap}
use Rattle.nvm_values.specs.Cqe.{cqe_bytes}
use Rattle.nvm_values.proofs.CqeLemmas.{cqe_bytes-cqe_of}
use Rattle.nvm_values.proofs.cqe.Cqe.from_bytes.Goals as goal

pub returns-clause-back : goal.returns-clause-back
returns-clause-back c =
    ap cqe_bytes (search rules) ∙ cqe_bytes-cqe_of c.args.b.now (search rules) (search rules)
