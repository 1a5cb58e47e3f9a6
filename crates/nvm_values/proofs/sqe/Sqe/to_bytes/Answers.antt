use Rattle.std.proofs.Common.{ap, ◌∙◌}
use Rattle.nvm_values.specs.Sqe.{sqe_of}
use Rattle.nvm_values.proofs.SqeLemmas.{sqe_of-sqe_bytes}
use Rattle.nvm_values.proofs.sqe.Sqe.to_bytes.Goals as goal

pub returns-clause-back : goal.returns-clause-back
returns-clause-back c = ap sqe_of c.bytes_of.ensures.bytes ∙ sqe_of-sqe_bytes c.args.self.now c.bytes_of.ensures.fits
