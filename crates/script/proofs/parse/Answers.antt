use Rattle.std.proofs.Common.{◌≡◌, [], length, ap, inl, inr, sym, subst, ◌∙◌, Ok, Err}
use Rattle.std.proofs.lemmas.Bool.{eqb-true, eqb-false}
use Rattle.std.proofs.lemmas.List.{nil_from_length}
use Rattle.nvm_model.specs.declared.script.Script.{Script}
use Rattle.nvm_model.specs.ScriptText.{IsScript, script_text}
use Rattle.script.specs.declared.refusal.ParseRefusal.TheVariants.{Bad}
use Rattle.script.proofs.ReadLaws.{found, only, whole, more_told, no_told, refused_bad, refused_only, refused_told}
use Rattle.script.proofs.BadLines.{told_is_bad, bad_is_told, one_told}
use Rattle.script.proofs.parse.Goals as goal

pub returns-else-not-is_empty-clause-found : goal.returns-else-not-is_empty-clause-found
returns-else-not-is_empty-clause-found c =
    let none = nil_from_length c.in-Ok.rest.now (eqb-true (length c.in-Ok.rest.now) 0 (sym c.is_empty.ensures ∙ c.if-not-is_empty.false)) in
    subst (λ (s : Script). IsScript s × (c.args.text.now ≡ script_text s)) (sym c.script.ensures) (found c.args.text.now c.in-Ok.rest.now c.in-Ok.reader c.in-Ok.line c.in-Ok.ensures.1 c.in-Ok.ensures.0 none)

pub returns-else-not-is_empty-clause-only : goal.returns-else-not-is_empty-clause-only
returns-else-not-is_empty-clause-only c = λ s f e. inl (ap Ok (c.script.ensures ∙ (only c.args.text.now c.in-Ok.rest.now c.in-Ok.reader c.in-Ok.line s c.in-Ok.ensures.1 c.in-Ok.ensures.0 f e).0))

pub returns-else-not-is_empty-clause-told : goal.returns-else-not-is_empty-clause-told
returns-else-not-is_empty-clause-told c =
    let none = nil_from_length c.in-Ok.rest.now (eqb-true (length c.in-Ok.rest.now) 0 (sym c.is_empty.ensures ∙ c.if-not-is_empty.false)) in
    λ bad p. absurd (no_told c.args.text.now c.in-Ok.rest.now c.in-Ok.reader c.in-Ok.line bad c.in-Ok.ensures.1 c.in-Ok.ensures.0 none p)

pub returns-then-not-is_empty-clause-only : goal.returns-then-not-is_empty-clause-only
returns-then-not-is_empty-clause-only c =
    λ s f e. absurd (eqb-false (length c.in-Ok.rest.now) 0 (sym c.is_empty.ensures ∙ c.if-not-is_empty.true) (ap length (only c.args.text.now c.in-Ok.rest.now c.in-Ok.reader c.in-Ok.line s c.in-Ok.ensures.1 c.in-Ok.ensures.0 f e).1))

pub returns-then-not-is_empty-clause-bad : goal.returns-then-not-is_empty-clause-bad
returns-then-not-is_empty-clause-bad c =
    told_is_bad c.args.text.now _ (more_told c.args.text.now c.in-Ok.rest.now c.in-Ok.reader c.in-Ok.line c.in-Ok.ensures.1 c.in-Ok.ensures.0 (λ e. eqb-false (length c.in-Ok.rest.now) 0 (sym c.is_empty.ensures ∙ c.if-not-is_empty.true) (ap length e)))

pub returns-then-not-is_empty-clause-told : goal.returns-then-not-is_empty-clause-told
returns-then-not-is_empty-clause-told c =
    let more = more_told c.args.text.now c.in-Ok.rest.now c.in-Ok.reader c.in-Ok.line c.in-Ok.ensures.1 c.in-Ok.ensures.0 (λ e. eqb-false (length c.in-Ok.rest.now) 0 (sym c.is_empty.ensures ∙ c.if-not-is_empty.true) (ap length e)) in
    λ bad p. inl (ap (λ b. Err (Bad b)) (one_told c.args.text.now _ bad more (bad_is_told c.args.text.now bad p)))

pub returns-in-Err-clause-only : goal.returns-in-Err-clause-only
returns-in-Err-clause-only c = λ s f e. inr (ap Err (refused_only c.args.text.now [] c.in-Err.refusal s c.in-Err.ensures f (whole c.args.text.now s e)))

pub returns-in-Err-clause-bad : goal.returns-in-Err-clause-bad
returns-in-Err-clause-bad c = refused_bad c.args.text.now c.in-Err.refusal c.in-Err.ensures

pub returns-in-Err-clause-told : goal.returns-in-Err-clause-told
returns-in-Err-clause-told c =
    λ bad p. elim (refused_told c.args.text.now c.in-Err.refusal bad c.in-Err.ensures p) [
      | inl h ↦ inl (ap Err h)
      | inr h ↦ inr (ap Err h)
    ]
