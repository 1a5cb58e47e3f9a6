use Rattle.std.proofs.Common.{codes}
use Rattle.mig_base.proofs.WriteLemmas.{writes_then, writes_no_more}
use Rattle.show.proofs.write_controller.Goals as goal

pub returns-in_err-write_line : goal.returns-in_err-write_line
returns-in_err-write_line g c = writes_no_more (codes "mdts 3\n") c.in_err-write_line.ensures c.from_residual.ensures.0

pub returns : goal.returns
returns g c = writes_then c.in_ok-write_line.ensures c.write_line-2.ensures
