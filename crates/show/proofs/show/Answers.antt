use Rattle.std.proofs.Common.{append-nil, []}
use Rattle.mig_base.proofs.WriteLemmas.{writes_flushed, writes_no_more}
use Rattle.show.specs.ShowText.{show_text}
use Rattle.show.proofs.show.Goals as goal

pub returns-in_err-write_parts : goal.returns-in_err-write_parts
returns-in_err-write_parts g c = rw (append-nil (show_text c.args.s.now)) at (writes_no_more [] c.in_err-write_parts.ensures c.from_residual.ensures.0)

pub returns : goal.returns
returns g c = writes_flushed c.in_ok-write_parts.ensures c.flush.ensures.kept c.flush.ensures.cause
