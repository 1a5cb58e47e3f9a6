use Rattle.std.proofs.Common.{codes}
use Rattle.mig_base.proofs.WriteLemmas.{writes_then, writes_no_more}
use Rattle.nvm_identify.specs.Namespace.{namespace_bytes, own_of}
use Rattle.show.specs.ShowText.{digest_line}
use Rattle.show.proofs.digests.write_digests.Goals as goal

pub returns-in_err-write_controller : goal.returns-in_err-write_controller
returns-in_err-write_controller g c = writes_no_more (digest_line (codes "namespace") (namespace_bytes (own_of c.args.blocks))) c.in_err-write_controller.ensures c.from_residual.ensures.0

pub returns : goal.returns
returns g c = writes_then c.in_ok-write_controller.ensures c.write_namespace.ensures
