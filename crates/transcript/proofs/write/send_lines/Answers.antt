use Rattle.std.proofs.Common.{◌≡◌, ℕ, List, Option, subst, arith}
use Rattle.std.specs.Prelude.{Result}
use Rattle.mig_base.specs.Stream.{Writes}
use Rattle.mig_base.proofs.WriteLemmas.{writes_none, parts_more, parts_cut, parts_all}
use Rattle.nvm_model.specs.declared.line.Line.{Line}
use Rattle.nvm_model.specs.Text.{line_text}
use Rattle.transcript.proofs.write.send_lines.Goals as goal

line_is : {T E : Type 0} {l m : Line} {before after : Option (List ℕ)} {f h : ℕ} {result : Result T E} → l ≡ m → Writes (line_text l) before after f h result → Writes (line_text m) before after f h result
line_is {before = before} {after = after} {f = f} {h = h} {result = result} same = subst (λ (x : Line). Writes (line_text x) before after f h result) same

pub loop-line-init : goal.loop-line-init
loop-line-init g c = writes_none

pub loop-line-preserved : goal.loop-line-preserved
loop-line-preserved g c = parts_more line_text c.args.lines.now c.loop-line.line-index c.line-item.result (omega arith) c.loop-line.invariant (line_is c.line-item.is c.in_ok-send_line.ensures)

pub returns-in_err-send_line : goal.returns-in_err-send_line
returns-in_err-send_line g c = parts_cut line_text c.args.lines.now c.loop-line.line-index c.line-item.result (omega arith) c.loop-line.invariant (line_is c.line-item.is c.in_err-send_line.ensures) c.from_residual.ensures.0

pub returns : goal.returns
returns g c = parts_all line_text c.args.lines.now c.loop-line.line-index (omega arith) c.loop-line.invariant
