use Rattle.std.proofs.Common.{◌≡◌, ℕ, ◌-◌, ◌≤◌, List, length, take, ap, inl, inr, sym, subst, ◌∙◌, Ok, Err}
use Rattle.nvm_model.specs.declared.script.Script.{Script}
use Rattle.nvm_model.specs.ScriptText.{IsScript, script_text}
use Rattle.script.specs.Lines.{script_of}
use Rattle.script.proofs.ReadLaws.{front_found, front_place, refused_front, refused_only}
use Rattle.script.proofs.BadLines.{one_front}
use Rattle.script.proofs.parse_front.Goals as goal

pub returns-in-Ok-clause-found : goal.returns-in-Ok-clause-found
returns-in-Ok-clause-found c =
    let f = front_found c.args.text.now c.in-Ok.rest.now c.in-Ok.reader c.in-Ok.field-0-2 c.in-Ok.ensures.1 c.in-Ok.ensures.0 in
    let end : ℕ = c.saturating_sub-end.result in
    let p = front_place c.args.text.now c.in-Ok.rest.now (script_of c.in-Ok.reader) end f.1 c.saturating_sub-end.ensures in
    subst (λ (s : Script). IsScript s × (end ≤ length c.args.text.now) × (take end c.args.text.now ≡ script_text s)) (sym c.script.ensures) (f.0, p.1, p.2)

pub returns-in-Ok-clause-only : goal.returns-in-Ok-clause-only
returns-in-Ok-clause-only c =
    let end : ℕ = c.saturating_sub-end.result in
    λ s rest f e.
    let same = one_front c.args.text.now c.in-Ok.rest.now rest c.in-Ok.reader c.in-Ok.field-0-2 s c.in-Ok.ensures.1 c.in-Ok.ensures.0 f e in
    let p = front_place c.args.text.now rest s end e (c.saturating_sub-end.ensures ∙ ap (λ (t : List ℕ). length c.args.text.now - length t) same.1) in
    inl (ap Ok (ap (λ (x : Script). (x, end)) (c.script.ensures ∙ same.0) ∙ ap (λ (n : ℕ). (s, n)) p.0))

pub returns-in-Err-clause-only : goal.returns-in-Err-clause-only
returns-in-Err-clause-only c = λ s rest f e. inr (ap Err (refused_only c.args.text.now rest c.in-Err.refusal s c.in-Err.ensures f e))

pub returns-in-Err-clause-bad : goal.returns-in-Err-clause-bad
returns-in-Err-clause-bad c = refused_front c.args.text.now c.in-Err.refusal c.in-Err.ensures
