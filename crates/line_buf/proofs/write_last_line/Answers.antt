use Rattle.std.proofs.Common.{append-nil, []}
use Rattle.mig_base.proofs.WriteLemmas.{writes_flushed, writes_no_more}
use Rattle.line_buf.proofs.write_last_line.Goals as goal

pub returns-in_err-write_line : goal.returns-in_err-write_line
returns-in_err-write_line g c = rw (append-nil c.args.line.now) at (writes_no_more [] c.in_err-write_line.ensures c.from_residual.ensures.0)

pub returns : goal.returns
returns g c = writes_flushed c.in_ok-write_line.ensures c.flush.ensures.kept c.flush.ensures.cause
