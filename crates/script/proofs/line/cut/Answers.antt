use Rattle.std.proofs.Common.{get_or, arith}
use Rattle.std.proofs.lemmas.Bool.{eqb-true, eq-eqb}
use Rattle.std.proofs.lemmas.List.{take_rest}
use Rattle.script.proofs.WordLaws.{cut_found, cut_nowhere}
use Rattle.script.proofs.line.cut.Goals as goal

pub returns-in-Some : goal.returns-in-Some
returns-in-Some c =
    let first = c.in-Some.ensures.0 in
    let at = c.in-Some.at in
    rw (take_rest c.split_at.result.1.now 1, c.split_at.ensures.front, c.split_at.ensures.back)
    (cut_found c.args.end c.args.text.now at first.high (λ k lt e. first.before k (omega arith) lt (eq-eqb (get_or c.args.text.now k 0) c.args.end e)) (eqb-true (get_or c.args.text.now at 0) c.args.end c.in-Some.ensures.1))

pub returns-in-None : goal.returns-in-None
returns-in-None c = cut_nowhere c.args.end c.args.text.now (λ k lt e. c.in-None.ensures k (omega arith) lt (eq-eqb (get_or c.args.text.now k 0) c.args.end e))
