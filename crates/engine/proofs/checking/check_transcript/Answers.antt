use Rattle.std.proofs.Common.{List, ℕ, subst}
use Rattle.engine.specs.Checked.{HasVerdict}
use Rattle.std.specs.Prelude.{Some}
use Rattle.engine.proofs.CheckLemmas.{told_checked, told_verdict}
use Rattle.engine.proofs.checking.check_transcript.Goals as goal

pub returns-in-Ok-judge_text-clause-checked : goal.returns-in-Ok-judge_text-clause-checked
returns-in-Ok-judge_text-clause-checked g c =
    let verdict = c.in-Ok-judge_text.verdict in
    let has = subst (λ (text : List ℕ). HasVerdict (Some text) verdict) c.as_slice.ensures.value c.in-Ok-judge_text.ensures.judged in
    told_checked _ _ _ verdict c.tell.result (told_verdict _ c.in-Ok.text.items verdict c.in-Ok.ensures.all has) c.tell.ensures.told
