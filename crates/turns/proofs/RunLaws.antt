use Rattle.std.proofs.Common.{◌≡◌, ℕ, Bool, true, false, List, [], ◌∷◌, ◌++◌, Option, refl, sym, ap, subst, ◌∙◌, append_assoc, append-nil}
use Rattle.std.specs.Prelude.{Result, Ok, Err, is_err}
use Rattle.std.proofs.lemmas.Grind.{flat_map-append}
use Rattle.mig_base.specs.Count.{RisesIf}
use Rattle.mig_base.specs.Stream.{IsCut, Writes, with_more}
use Rattle.mig_base.proofs.WriteLemmas.{with_more_nothing, written_more}
use Rattle.nvm_model.specs.declared.line.Line.{Line}
use Rattle.nvm_model.specs.declared.trace.Step.{Step}
use Rattle.nvm_model.specs.Chain.{Chain}
use Rattle.nvm_model.specs.Medium.{MediumState}
use Rattle.nvm_model.specs.Text.{line_text, text_of}
use Rattle.nvm_model.proofs.ChainLemmas.{chain_keeps, chain_more, chain_one}
use Rattle.nvm_model.specs.Run.{IsStage, IsWritten, Snapshot, Stage, Went, lines_in, lines_of, SinkState}
use Rattle.nvm_model.specs.Run.Stage.{Title, Turn, Begin, Round, Broken, Suspend, Resume, Stop, GiveUp, End}

-- A run goes on, stage after stage.

-- What is asked never changes.

pub stage_task : {M I : Type 0} (state : M → MediumState I) (moves : I → Step → Bool → I → Type 0) (x : Snapshot M) (stage : Stage) (y : Snapshot M) → IsStage state moves x stage y → y.task ≡ x.task
stage_task {M} state moves x Title y r = ap (λ (t : Snapshot M). t.task) r.after
stage_task {M} state moves x (Turn side t) y r = ap (λ (t : Snapshot M). t.task) r.after
stage_task {M} state moves x Begin y r = ap (λ (t : Snapshot M). t.task) r.after
stage_task {M} state moves x (Round side n t lost blocks pages) y r = ap (λ (t : Snapshot M). t.task) r.after
stage_task {M} state moves x (Broken side n t) y r = ap (λ (t : Snapshot M). t.task) r.after
stage_task {M} state moves x Suspend y r = ap (λ (t : Snapshot M). t.task) r.after
stage_task {M} state moves x (Resume side n copies pages) y r = ap (λ (t : Snapshot M). t.task) r.after
stage_task {M} state moves x (Stop side n copies) y r = ap (λ (t : Snapshot M). t.task) r.after
stage_task {M} state moves x (GiveUp n) y r = ap (λ (t : Snapshot M). t.task) r.after
stage_task {M} state moves x End y r = ap (λ (t : Snapshot M). t.task) r.after

pub run_task : {M I : Type 0} (state : M → MediumState I) (moves : I → Step → Bool → I → Type 0) (old : Snapshot M) (stages : List Stage) (new : Snapshot M) → Chain (IsStage state moves) old stages new → new.task ≡ old.task
run_task {M} state moves old stages new c =
    chain_keeps (IsStage state moves) (λ (x : Snapshot M). x.task ≡ old.task) (λ x stage y r is. stage_task state moves x stage y r ∙ is) old stages new c refl

-- Their text.

pub lines_in_more : (front back : List Stage) → lines_in (front ++ back) ≡ lines_in front ++ lines_in back
lines_in_more front back = flat_map-append (lines_of) front back

text_in : (front back : List Stage) → text_of (lines_in front) ++ text_of (lines_in back) ≡ text_of (lines_in (front ++ back))
text_in front back = sym (ap text_of (lines_in_more front back) ∙ flat_map-append line_text (lines_in front) (lines_in back))

all_written : (front back : List Stage) (old mid new : Option (List ℕ)) → mid ≡ with_more (text_of (lines_in front)) old → new ≡ with_more (text_of (lines_in back)) mid → new ≡ with_more (text_of (lines_in (front ++ back))) old
all_written front back old mid new p q =
    subst (λ (text : List ℕ). new ≡ with_more text old) (text_in front back) (written_more (text_of (lines_in front)) (text_of (lines_in back)) old mid new p q)

stages_written : (front back : List Stage) (failed : Bool) (old mid new : Option (List ℕ)) → IsWritten front old false mid → IsWritten back mid failed new → IsWritten (front ++ back) old failed new
stages_written front back false old mid new p q = all_written front back old mid new p q
stages_written front back true old mid new p q = (
  front ++ q.0,
  q.1,
  ap (λ (stages : List Stage). front ++ stages) q.2 ∙ sym (append_assoc front q.0 (q.1 ∷ [])),
  subst (λ (b : Option (List ℕ)). IsCut (text_of (lines_of q.1)) b new) (all_written front q.0 old mid (with_more (text_of (lines_in q.0)) mid) p refl) q.3,
)

-- a text went out, or a front of it where the sink failed
abbrev pub IsSent : List ℕ → Option (List ℕ) → Bool → Option (List ℕ) → Type 0
IsSent text old false new = new ≡ with_more text old
IsSent text old true new = IsCut text old new

one_written : (stage : Stage) (failed : Bool) (old new : Option (List ℕ)) → IsSent (text_of (lines_of stage)) old failed new → IsWritten (stage ∷ []) old failed new
one_written stage false old new sent = subst (λ (ls : List Line). new ≡ with_more (text_of ls) old) (sym (append-nil (lines_of stage))) sent
one_written stage true old new sent = ([], stage, refl, subst (λ (b : Option (List ℕ)). IsCut (text_of (lines_of stage)) b new) (sym (with_more_nothing old)) sent)

-- Runs.

-- no stage
pub went_none : {M I : Type 0} {state : M → MediumState I} {moves : I → Step → Bool → I → Type 0} (old : Snapshot M) → Went state moves old false old
went_none old = record { stages = []; run = refl; text = sym (with_more_nothing old.out.taken); counted = refl }

-- one stage, and its text
pub went_stage : {M I : Type 0} {state : M → MediumState I} {moves : I → Step → Bool → I → Type 0} {old new : Snapshot M} {failed : Bool} (stage : Stage) → IsStage state moves old stage new →
    IsSent (text_of (lines_of stage)) old.out.taken failed new.out.taken → RisesIf failed old.out.faults new.out.faults → Went state moves old failed new
went_stage {M} {I} {state} {moves} {old} {new} {failed} stage is sent counted = record {
  stages = stage ∷ [];
  run = chain_one (IsStage state moves) old stage new is;
  text = one_written stage failed old.out.taken new.out.taken sent;
  counted = counted;
}

sent_by : {T E : Type 0} (text : List ℕ) (old new : Option (List ℕ)) (faults now : ℕ) (result : Result T E) → Writes text old new faults now result → IsSent text old (is_err result) new
sent_by text old new faults now (Ok t) w = w.written
sent_by text old new faults now (Err e) w = w.cut

counted_by : {T E : Type 0} (text : List ℕ) (old new : Option (List ℕ)) (faults now : ℕ) (result : Result T E) → Writes text old new faults now result → RisesIf (is_err result) faults now
counted_by text old new faults now (Ok t) w = w.cause.calm
counted_by text old new faults now (Err e) w = w.cause.failed refl

-- the same by the call that wrote it
pub went_sent : {M I T E : Type 0} {state : M → MediumState I} {moves : I → Step → Bool → I → Type 0} {old new : Snapshot M} {result : Result T E} (stage : Stage) → IsStage state moves old stage new →
    Writes (text_of (lines_of stage)) old.out.taken new.out.taken old.out.faults new.out.faults result → Went state moves old (is_err result) new
went_sent {old} {new} {result} stage is w =
    let text = text_of (lines_of stage) in
    went_stage stage is (sent_by text old.out.taken new.out.taken old.out.faults new.out.faults result w) (counted_by text old.out.taken new.out.taken old.out.faults new.out.faults result w)

-- a stage without text
pub went_silent : {M I : Type 0} {state : M → MediumState I} {moves : I → Step → Bool → I → Type 0} {old new : Snapshot M} (stage : Stage) → IsStage state moves old stage new → lines_of stage ≡ [] → new.out ≡ old.out → Went state moves old false new
went_silent {M} {I} {state} {moves} {old} {new} stage is none same =
    went_stage stage is (subst (λ (o : SinkState). IsSent (text_of (lines_of stage)) old.out.taken false o.taken) (sym same) (subst (λ (ls : List Line). IsSent (text_of ls) old.out.taken false old.out.taken) (sym none) (sym (with_more_nothing old.out.taken))))
    (ap (λ (o : SinkState). o.faults) same)

-- a run that went on, and went on again
pub went_more : {M I : Type 0} {state : M → MediumState I} {moves : I → Step → Bool → I → Type 0} {old mid new : Snapshot M} {failed : Bool} → Went state moves old false mid → Went state moves mid failed new → Went state moves old failed new
went_more {M} {I} {state} {moves} {old} {mid} {new} {failed} a b =
    record {
      stages = a.stages ++ b.stages;
      run = chain_more (IsStage state moves) old a.stages mid b.stages new a.run b.run;
      text = stages_written a.stages b.stages failed old.out.taken mid.out.taken new.out.taken a.text b.text;
      counted = subst (λ (n : ℕ). RisesIf failed n new.out.faults) a.counted b.counted;
    }

-- a text went out from where the run stood
pub sent_from : {T E : Type 0} {text : List ℕ} {at out sent : SinkState} {result : Result T E} → at ≡ out → Writes text out.taken sent.taken out.faults sent.faults result → Writes text at.taken sent.taken at.faults sent.faults result
sent_from {text = text} {sent = sent} {result = result} is w = subst (λ (o : SinkState). Writes text o.taken sent.taken o.faults sent.faults result) (sym is) w
