use Rattle.std.proofs.Common.{sym, subst}
use Rattle.std.specs.Prelude.{IfNone}
use Rattle.judge.specs.Verdict.{ComesNext}
use Rattle.judge.proofs.LineLemmas.{none_comes, other_comes}
use Rattle.judge.proofs.next_line.next_line.Goals as goal

pub returns-in_err-line-clause-none : goal.returns-in_err-line-clause-none
returns-in_err-line-clause-none c = subst (λ r. IfNone r (ComesNext c.args.text.now (λ l. Unit {0}) → ⊥)) (sym c.from_residual.ensures) (none_comes c.args.text.now c.in_err-line.ensures.none)

pub returns-in-Err-clause-none : goal.returns-in-Err-clause-none
returns-in-Err-clause-none c =
    let begins = c.in_ok-line.ensures.line in
    other_comes c.args.text.now c.in_ok-line.line.now c.in_ok-line.after.now begins.text_is begins.ended c.in-Err.ensures.exact
