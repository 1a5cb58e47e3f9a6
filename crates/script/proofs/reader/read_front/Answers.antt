use Rattle.std.proofs.Common.{sym, ◌∙◌}
use Rattle.std.proofs.lemmas.Bool.{false≢true}
use Rattle.script.proofs.ReadLaws.{read_none, read_more, shorter_rest, line_told}
use Rattle.script.proofs.reader.read_front.Goals as goal

pub lines-init : goal.lines-init
lines-init c = rw c.new-reader.ensures (read_none c.args.text.now)

pub lines-preserved : goal.lines-preserved
lines-preserved c =
    read_more c.args.text.now c.lines.rest.now c.in-Some.due.now c.in-Some.after.now c.lines.reader c.read.new.self c.lines.line c.saturating_add-line.result c.lines.invariant c.in-Some.ensures (rw c.if-not-branch.false at c.in_ok-read.ensures) c.saturating_add-line.ensures

pub lines-smaller : goal.lines-smaller
lines-smaller c = shorter_rest c.lines.rest.now c.in-Some.due.now c.in-Some.after.now c.in-Some.ensures

pub returns-then-not-branch : goal.returns-then-not-branch
returns-then-not-branch c =
    let step = rw c.if-not-branch.true at c.in_ok-read.ensures in
    line_told c.args.text.now c.lines.rest.now c.in-Some.due.now c.in-Some.after.now c.lines.reader c.lines.line c.why-why.result c.lines.invariant (λ d. false≢true (sym c.if-is_done.false ∙ c.is_done.ensures.1 d)) c.in-Some.ensures step.0 (rw step.1 at c.why-why.ensures)
