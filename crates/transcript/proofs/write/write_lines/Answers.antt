use Rattle.std.proofs.Common.{append-nil, []}
use Rattle.mig_base.proofs.WriteLemmas.{writes_flushed, writes_no_more}
use Rattle.nvm_model.specs.Text.{text_of}
use Rattle.transcript.proofs.write.write_lines.Goals as goal

pub returns-in_err-send_lines : goal.returns-in_err-send_lines
returns-in_err-send_lines g c = rw (append-nil (text_of c.args.lines.now)) at (writes_no_more [] c.in_err-send_lines.ensures c.from_residual.ensures.0)

pub returns : goal.returns
returns g c = writes_flushed c.in_ok-send_lines.ensures c.flush.ensures.kept c.flush.ensures.cause
