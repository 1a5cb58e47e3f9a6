use Rattle.std.proofs.Common.{◌-◌, ◌++◌, ◌∙◌, ℕ, List, drop, length, take, ap, sym}
use Rattle.std.proofs.lemmas.List.{take-append-drop, take_rest}
use Rattle.nvm_model.specs.ScriptText.{script_text}
use Rattle.engine.proofs.checking.judge_text.Goals as goal

pub returns-in-Ok-check-clause-judged : goal.returns-in-Ok-check-clause-judged
returns-in-Ok-check-clause-judged c =
    let text = c.args.text.now in
    let at = c.in-Ok.front.1 in
    let found = c.in-Ok.ensures.found in
    record {
      script = c.in-Ok.front.0;
      is_script = found.0;
      transcript = take (length text - at) (drop at text);
      input = (sym (take-append-drop at text) ∙ (ap (λ (front : List ℕ). front ++ drop at text) found.2 ∙ ap (λ (rest : List ℕ). script_text c.in-Ok.front.0 ++ rest) (sym (take_rest text at))), c.requires);
      said = c.in-Ok-check.ensures.said;
    }
