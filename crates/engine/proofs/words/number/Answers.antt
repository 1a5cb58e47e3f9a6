use Rattle.std.proofs.Common.{◌≡◌, sym, ap, ◌∙◌, arith}
use Rattle.std.proofs.lemmas.Bool.{false≢true}
use Rattle.std.proofs.lemmas.Bool.Decides.{Decides-eqb}
use Rattle.std.proofs.lemmas.Fmt.{parse-decimal}
use Rattle.std.proofs.lemmas.Slice.Eq.{slice_eq-Decides}
use Rattle.std.specs.Fmt.{decimal}
use Rattle.engine.proofs.WordLemmas.{none_parsed, some_parsed}
use Rattle.engine.proofs.words.number.Goals as goal

pub returns-in_err-n-clause-none : goal.returns-in_err-n-clause-none
returns-in_err-n-clause-none c = rw c.from_residual.ensures (λ n small spelled.
    none_parsed c.parse.result c.ok.result n (parse-decimal 32 n c.args.word.now c.parse.result small (omega arith) spelled c.parse.ensures.value.0) c.ok.ensures.value c.in_err-n.was)

pub returns-else-eq-clause-none : goal.returns-else-eq-clause-none
returns-else-eq-clause-none c = λ n small spelled.
    let parsed = parse-decimal 32 n c.args.word.now c.parse.result small (omega arith) spelled c.parse.ensures.value.0 in
    let same = some_parsed c.parse.result c.ok.result n c.in_ok-n.n parsed c.ok.ensures.value c.in_ok-n.was in
    let text : c.format.result.now ≡ c.args.word.now = c.format.ensures.text ∙ ap decimal same ∙ sym spelled in
    let equal = (slice_eq-Decides Decides-eqb c.format.result.now c.args.word.now c.eq.result c.eq.ensures).1 text in
    false≢true (sym c.if-eq.false ∙ equal)
