use Rattle.std.proofs.Common.{◌-◌, ◌++◌, ◌∙◌, ℕ, Ok, List, drop, length, take, ap, inl, inr, sym}
use Rattle.std.proofs.lemmas.List.{take-append-drop, take_rest}
use Rattle.nvm_model.specs.ScriptText.{script_text}
use Rattle.nvmigrate_c.proofs.JudgedLemmas.{judged_part, ok_is, read_is, unread_is}
use Rattle.nvmigrate_c.proofs.judging.judge_text.Goals as goal

pub returns-in-Ok-check-clause-judged : goal.returns-in-Ok-check-clause-judged
returns-in-Ok-check-clause-judged c =
    let text = c.args.text.now in
    let at = c.in-Ok.front.1 in
    let found = c.in-Ok.ensures.found in
    record {
      script = c.in-Ok.front.0;
      is_script = found.0;
      transcript = take (length text - at) (drop at text);
      text_is = sym (take-append-drop at text) ∙ (ap (λ (front : List ℕ). front ++ drop at text) found.2 ∙ ap (λ (rest : List ℕ). script_text c.in-Ok.front.0 ++ rest) (sym (take_rest text at)));
      said = c.in-Ok-check.ensures.said;
    }

pub returns-in-Ok-check-clause-only : goal.returns-in-Ok-check-clause-only
returns-in-Ok-check-clause-only c = λ s transcript v is spelled said.
    let read = read_is c.in-Ok.front s (c.in-Ok.ensures.only s transcript is spelled) in
    inl (ap (λ verdict. Ok verdict) (ok_is _ _ (c.in-Ok-check.ensures.only v (judged_part c.args.text.now transcript c.in-Ok.front s v read spelled said))))

pub returns-in-Err-clause-only : goal.returns-in-Err-clause-only
returns-in-Err-clause-only c = λ s transcript v is spelled said. inr (unread_is c.in-Err.refusal (s, length (script_text s)) (c.in-Err.ensures.only s transcript is spelled))
