use Rattle.std.proofs.Common.{ap, ◌∙◌}
use Rattle.nvm_values.specs.Cqe.{cqe_of}
use Rattle.nvm_values.proofs.CqeLemmas.{cqe_of-cqe_bytes}
use Rattle.nvm_values.proofs.cqe.Cqe.to_bytes.Goals as goal

pub returns-clause-back : goal.returns-clause-back
returns-clause-back c = ap cqe_of c.bytes_of.ensures.bytes ∙ cqe_of-cqe_bytes c.args.self.now c.bytes_of.ensures.fits
