use Rattle.std.proofs.Common.{rules, ◌∙◌, ap}
use Rattle.nvm_values.specs.Sqe.{sqe_bytes}
use Rattle.nvm_values.proofs.SqeLemmas.{sqe_bytes-sqe_of}
use Rattle.nvm_values.proofs.sqe.Sqe.from_bytes.Goals as goal

pub returns-clause-back : goal.returns-clause-back
returns-clause-back c =
    ap sqe_bytes (search rules) ∙ sqe_bytes-sqe_of c.args.b.now (search rules) (search rules)
