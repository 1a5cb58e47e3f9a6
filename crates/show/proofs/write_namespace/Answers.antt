use Rattle.mig_base.proofs.WriteLemmas.{writes_then, writes_no_more}
use Rattle.show.specs.ShowText.{shelves_line}
use Rattle.show.proofs.write_namespace.Goals as goal

pub returns-in_err-write_blocks : goal.returns-in_err-write_blocks
returns-in_err-write_blocks g c = writes_no_more (shelves_line c.args.head.now) c.in_err-write_blocks.ensures c.from_residual.ensures.0

pub returns : goal.returns
returns g c = writes_then c.in_ok-write_blocks.ensures c.write_shelves.ensures
