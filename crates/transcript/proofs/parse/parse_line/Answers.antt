use Rattle.std.proofs.Common.{ap, Ok}
use Rattle.std.proofs.lemmas.Bool.{false≢true}
use Rattle.transcript.proofs.Lines.{guess_is, no_guess, no_line}
use Rattle.transcript.proofs.parse.parse_line.Goals as goal

pub returns-in_default-clause-exact : goal.returns-in_default-clause-exact
returns-in_default-clause-exact c = λ l f t. no_guess c.args.text.now l c.in_default.ensures f t

pub returns-in_default-clause-only : goal.returns-in_default-clause-only
returns-in_default-clause-only c = λ l f t. absurd (no_guess c.args.text.now l c.in_default.ensures f t)

pub returns-then-is_line-clause-only : goal.returns-then-is_line-clause-only
returns-then-is_line-clause-only c = λ l f t. ap Ok (guess_is c.args.text.now c.in-Ok.line l c.in-Ok.ensures f t)

pub returns-else-is_line-clause-exact : goal.returns-else-is_line-clause-exact
returns-else-is_line-clause-exact c = λ l f t. no_line c.args.text.now c.in-Ok.line l c.in-Ok.ensures f t (λ i e. absurd (false≢true (c.if-is_line.ensures.1 (i, e))))

pub returns-else-is_line-clause-only : goal.returns-else-is_line-clause-only
returns-else-is_line-clause-only c = λ l f t. absurd (no_line c.args.text.now c.in-Ok.line l c.in-Ok.ensures f t (λ i e. absurd (false≢true (c.if-is_line.ensures.1 (i, e)))))
