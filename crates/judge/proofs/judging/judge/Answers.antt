use Rattle.std.proofs.Common.{◌∙◌, ℕ, List, sym, subst, arith}
use Rattle.std.proofs.lemmas.Bool.{false≢true}
use Rattle.judge.specs.declared.stage.Stage.{Stage}
use Rattle.judge.specs.declared.stage.Stage.TheVariants.{Over}
use Rattle.judge.specs.World.{world_of}
use Rattle.judge.proofs.VerdictLemmas.{IsJudged, judged_few, judged_more, judged_right, wrong_form, wrong_line, wrong_text}
use Rattle.judge.proofs.judging.judge.Goals as goal

pub returns-then-is_read : goal.returns-then-is_read
returns-then-is_read c =
    let s = c.args.s.now in
    let text = c.args.text.now in
    let w = world_of c.lines.world in
    let read = c.is_read.ensures.0 c.if-is_read.true in
    judged_right (subst (λ (r : List ℕ). IsJudged s text Over r c.lines.line w) read.1 (subst (λ (st : Stage). IsJudged s text st c.lines.rest.now c.lines.line w) read.0 c.lines.invariant.judged))

pub returns-in_default : goal.returns-in_default
returns-in_default c = wrong_text c.lines.invariant.judged (λ over none. false≢true (sym c.if-is_read.false ∙ c.is_read.ensures.1 (over, none))) c.in_default.ensures.none

pub returns-in_default-after_line : goal.returns-in_default-after_line
returns-in_default-after_line c =
    wrong_form c.in-Some.due c.in-Some.after.now c.lines.invariant.judged c.in-Some.ensures.line c.in-Some.ensures.rest (λ over none. false≢true (sym c.if-is_read.false ∙ c.is_read.ensures.1 (over, none)))
    (sym c.after_line.ensures ∙ c.in_default-after_line.is)

pub returns-in-Some-fault_of : goal.returns-in-Some-fault_of
returns-in-Some-fault_of c =
    let s = c.args.s.now in
    wrong_line (world_of c.fault_of.new.world) c.in-Some.due c.in-Some.after.now c.in-Some-fault_of.why c.lines.invariant.judged c.in-Some.ensures.line c.in-Some.ensures.rest (sym c.after_line.ensures ∙ c.in-Some-after_line.is)
    (c.in-Some-fault_of.ensures.fault s c.lines.invariant.of)

pub overflow_add-line : goal.overflow_add-line
overflow_add-line c = let few = judged_few c.lines.invariant.judged in omega (arith, few, c.requires.few)

pub lines-preserved : goal.lines-preserved
lines-preserved c =
    let s = c.args.s.now in
    let fine = c.in_default-fault_of.ensures.fault s c.lines.invariant.of in
    record {
      of = c.fault_of.ensures.of s c.lines.invariant.of;
      judged = judged_more c.in-Some.due c.in-Some.after.now c.lines.invariant.judged c.in-Some.ensures.line c.in-Some.ensures.rest (sym c.after_line.ensures ∙ c.in-Some-after_line.is) fine.0 fine.1;
    }
