use Rattle.std.proofs.Common.{◌≡◌, ℕ, ◌+◌, ◌≤◌, Bool, true, false, cond, List, [], ◌∷◌, ◌++◌, Option, Some, None, length, refl, sym, ap, subst, ◌∙◌, append_assoc, arith}
use Rattle.std.specs.List.{AllByRecursion}
use Rattle.std.proofs.lemmas.List.{append-nil, length-append}
use Rattle.std.proofs.lemmas.List.Concat.{flat_map-append}
use Rattle.std.proofs.lemmas.List.Elements.{filter-append}
use Rattle.mig_base.proofs.ListLemmas.{all_append}
use Rattle.nvm_model.specs.declared.line.Line.{Line}
use Rattle.nvm_model.specs.declared.script.Script.{Script}
use Rattle.nvm_model.specs.Event.{One}
use Rattle.nvm_model.specs.History.{Complete, IsWhole, Reaches, Steps, events_of, is_event}
use Rattle.nvm_model.specs.Text.{IsLine, line_text, text_of}
use Rattle.nvm_model.specs.World.{World, start_world}
use Rattle.turns.proofs.EventLaws.{one_end}
use Rattle.turns.proofs.FrameLemmas.{steps_more}
use Rattle.judge.specs.declared.stage.Stage.{Stage}
use Rattle.judge.specs.declared.stage.Stage.TheVariants.{Title, Over}
use Rattle.judge.specs.declared.verdict.Fault.{Fault}
use Rattle.judge.specs.declared.verdict.Fault.TheVariants as fault
use Rattle.judge.specs.Stage.{Leads, after_line}
use Rattle.judge.specs.Verdict.{BeginWhole, ComesNext, IsFault, IsFirstWrong, IsRight, zeroed}
use Rattle.judge.specs.Decides.{Decides}
use Rattle.judge.specs.Judging.{FaultIn}
use Rattle.judge.proofs.LineLemmas.{lines_few, one_line}
use Rattle.judge.proofs.StageLemmas.{begin_leads, leads_begin, leads_more, leads_same, leads_split, leads_whole, whole_leads}

-- How far a text was judged: the lines before the rest are right, and led to this stage and this world.
pub record IsJudged (s : Script) (text : List ℕ) (stage : Stage) (rest : List ℕ) (number : ℕ) (w : World) : Type 0 where
  pub before : List Line
  pub text_is : text ≡ text_of before ++ rest
  pub are_lines : AllByRecursion IsLine before
  pub leads : Leads s.head.migrate Title before stage
  pub reaches : Reaches s (zeroed s.head) (events_of before) w
  pub complete : stage ≡ Over → Complete s w
  pub number_is : number ≡ length before + 1

-- One line more.

text_more : (before : List Line) (l : Line) (after : List ℕ) → text_of (before ++ l ∷ []) ++ after ≡ text_of before ++ (line_text l ++ after)
text_more before l after =
    ap (λ (t : List ℕ). t ++ after) (flat_map-append line_text before (l ∷ []) ∙ ap (λ (t : List ℕ). text_of before ++ t) (append-nil (line_text l)))
    ∙ append_assoc (text_of before) (line_text l) after

events_more : (before more : List Line) → events_of (before ++ more) ≡ events_of before ++ events_of more
events_more before more = filter-append is_event before more

steps_split : (s : Script) (w v : World) (a b : List Line) → Steps s w (a ++ b) v → (u : World) × Steps s w a u × Steps s u b v
steps_split s w v [] b steps = (w, refl, steps)
steps_split s w v (e ∷ a) b steps = let rest = steps_split s steps.0 v a b steps.2 in (rest.0, (steps.0, steps.1, rest.1), rest.2)

-- more lines are legal in their worlds
reaches_more : (s : Script) (before more : List Line) (w v : World) → Reaches s (zeroed s.head) (events_of before) w → Steps s w (events_of more) v → Reaches s (zeroed s.head) (events_of (before ++ more)) v
reaches_more s before more w v first second =
    let start = start_world s.head (zeroed s.head) in
    subst (λ (es : List Line). Steps s start es v) (sym (events_more before more)) (steps_more s start w v (events_of before) (events_of more) first second)

-- and what is legal is so line by line
pub reaches_split : (s : Script) (before more : List Line) (v : World) → Reaches s (zeroed s.head) (events_of (before ++ more)) v → (w : World) × Reaches s (zeroed s.head) (events_of before) w × Steps s w (events_of more) v
reaches_split s before more v reaches =
    let start = start_world s.head (zeroed s.head) in
    steps_split s start v (events_of before) (events_of more) (subst (λ (es : List Line). Steps s start es v) (events_more before more) reaches)

one_world : (s : Script) (lines : List Line) (w v : World) → Reaches s (zeroed s.head) (events_of lines) w → Reaches s (zeroed s.head) (events_of lines) v → v ≡ w
one_world s lines w v a b = one_end s (start_world s.head (zeroed s.head)) (events_of lines) w v a b

lead_more : (m : Option ℕ) (stage next : Stage) (before : List Line) (l : Line) → Leads m Title before stage → after_line m stage l ≡ Some next → Leads m Title (before ++ l ∷ []) next
lead_more m stage next before l leads on = leads_more m Title stage next before (l ∷ []) leads (next, on, refl)

pub judged_more : {s : Script} {text : List ℕ} {stage next : Stage} {rest : List ℕ} {number : ℕ} {w v : World} (l : Line) (after : List ℕ) →
    IsJudged s text stage rest number w → IsLine l → rest ≡ line_text l ++ after → after_line s.head.migrate stage l ≡ Some next → Steps s w (events_of (l ∷ [])) v → (next ≡ Over → Complete s v) →
    IsJudged s text next after (number + 1) v
judged_more {s} {text} {stage} {next} {rest} {number} {w} {v} l after j is rest_is on steps complete = record {
  before = j.before ++ l ∷ [];
  text_is = j.text_is ∙ (ap (λ (t : List ℕ). text_of j.before ++ t) rest_is ∙ sym (text_more j.before l after));
  are_lines = all_append IsLine j.before (l ∷ []) j.are_lines (is, tt);
  leads = lead_more s.head.migrate stage next j.before l j.leads on;
  reaches = reaches_more s j.before (l ∷ []) w v j.reaches steps;
  complete = complete;
  number_is = omega (arith, j.number_is, length-append j.before (l ∷ []));
}

-- What is said at the end, and of a line that is wrong.

pub judged_right : {s : Script} {text : List ℕ} {number : ℕ} {w : World} → IsJudged s text Over [] number w → IsRight s text
judged_right {s} {text} {number} {w} j = record {
  lines = j.before;
  transcript = record { text_is = j.text_is ∙ append-nil (text_of j.before); are_lines = j.are_lines };
  whole = leads_whole s j.before j.leads;
  complete = (w, j.reaches, j.complete refl);
}

-- a whole transcript has led to the end
over_whole : {s : Script} {text : List ℕ} {stage : Stage} {rest : List ℕ} {number : ℕ} {w : World} (j : IsJudged s text stage rest number w) → IsWhole s j.before → stage ≡ Over
over_whole {s} {stage = stage} j whole = leads_same s.head.migrate Title stage Over j.before j.leads (whole_leads s j.before whole)

pub wrong_at : {s : Script} {text : List ℕ} {stage : Stage} {rest : List ℕ} {number : ℕ} {w : World} (j : IsJudged s text stage rest number w) (why : Fault) → IsFault s j.before rest why → IsFirstWrong s text number why
wrong_at {s} {text} {stage} {rest} {number} {w} j why is = record {
  before = j.before;
  rest = rest;
  text_is = j.text_is;
  are_lines = j.are_lines;
  begin = leads_begin s j.before stage j.leads;
  legal = (w, j.reaches);
  complete = λ whole. (w, j.reaches, j.complete (over_whole j whole));
  number = j.number_is;
  is_fault = is;
}

-- no line comes
pub wrong_text : {s : Script} {text : List ℕ} {stage : Stage} {rest : List ℕ} {number : ℕ} {w : World} → IsJudged s text stage rest number w → (stage ≡ Over → rest ≡ [] → ⊥) → (ComesNext rest (λ l. Unit {0}) → ⊥) →
    IsFirstWrong s text number fault.Form
wrong_text j more none = wrong_at j fault.Form (
  (λ whole. more (over_whole j whole)),
  (λ next. none (record { line = next.line; after = next.after; is_line = next.is_line; rest_is = next.rest_is; holds = tt })),
)

-- a line that comes is the one that was read
pub read_line : {rest : List ℕ} (l : Line) (after : List ℕ) (P : Line → Type 0) → IsLine l → rest ≡ line_text l ++ after → (next : ComesNext rest P) → P l
read_line {rest} l after P is rest_is next = subst P (one_line next.line l next.after after next.is_line is (sym next.rest_is ∙ rest_is)).0 next.holds

-- a line that may not come here
pub wrong_form : {s : Script} {text : List ℕ} {stage : Stage} {rest : List ℕ} {number : ℕ} {w : World} (l : Line) (after : List ℕ) → IsJudged s text stage rest number w → IsLine l → rest ≡ line_text l ++ after → (stage ≡ Over → rest ≡ [] → ⊥) →
    after_line s.head.migrate stage l ≡ None → IsFirstWrong s text number fault.Form
wrong_form {s} {text} {stage} {rest} {number} {w} l after j is rest_is more none = wrong_at j fault.Form (
  (λ whole. more (over_whole j whole)),
  (λ next.
      let m = s.head.migrate in
      let leads = begin_leads s (j.before ++ l ∷ []) (read_line l after (λ (k : Line). BeginWhole s (j.before ++ k ∷ [])) is rest_is next) in
      let p = leads_split m Title leads.0 j.before (l ∷ []) leads.1 in
      let here : p.0 ≡ stage = leads_same m Title p.0 stage j.before p.1 j.leads in
      let on : after_line m stage l ≡ Some p.2.0 = subst (λ (st : Stage). after_line m st l ≡ Some p.2.0) here p.2.1 in
      absurd (no_value (sym none ∙ on))),
)
  where
    no_value : {A : Type 0} {x : A} → None ≡ Some x → ⊥
    no_value e = cc

-- an event that isn't legal
pub wrong_event : {s : Script} {text : List ℕ} {stage next : Stage} {rest : List ℕ} {number : ℕ} {w : World} (l : Line) (after : List ℕ) → IsJudged s text stage rest number w → IsLine l → rest ≡ line_text l ++ after →
    after_line s.head.migrate stage l ≡ Some next → ((u : World) → Steps s w (events_of (l ∷ [])) u → ⊥) → IsFirstWrong s text number fault.Legal
wrong_event {s} {text} {stage} {next} {rest} {number} {w} l after j is rest_is on none = wrong_at j fault.Legal (record {
  line = l;
  after = after;
  is_line = is;
  rest_is = rest_is;
  holds = (
    leads_begin s (j.before ++ l ∷ []) next (lead_more s.head.migrate stage next j.before l j.leads on),
    (λ legal.
        let p = reaches_split s j.before (l ∷ []) legal.0 legal.1 in
        let same : p.0 ≡ w = one_world s j.before w p.0 j.reaches p.1 in
        none legal.0 (subst (λ (u : World). Steps s u (events_of (l ∷ [])) legal.0) same p.2)),
  );
})

-- the last line, where some lane isn't complete
pub wrong_end : {s : Script} {text : List ℕ} {stage next : Stage} {rest : List ℕ} {number : ℕ} {w : World} (v : World) (l : Line) (after : List ℕ) → IsJudged s text stage rest number w → IsLine l → rest ≡ line_text l ++ after →
    after_line s.head.migrate stage l ≡ Some next → Steps s w (events_of (l ∷ [])) v → next ≡ Over → (Complete s v → ⊥) → IsFirstWrong s text number fault.Complete
wrong_end {s} {text} {stage} {next} {rest} {number} {w} v l after j is rest_is on steps over not = wrong_at j fault.Complete (record {
  line = l;
  after = after;
  is_line = is;
  rest_is = rest_is;
  holds = (
    leads_whole s (j.before ++ l ∷ []) (subst (λ (st : Stage). Leads s.head.migrate Title (j.before ++ l ∷ []) st) over (lead_more s.head.migrate stage next j.before l j.leads on)),
    (v, reaches_more s j.before (l ∷ []) w v j.reaches steps),
    (λ complete.
        let same : complete.0 ≡ v = one_world s (j.before ++ l ∷ []) v complete.0 (reaches_more s j.before (l ∷ []) w v j.reaches steps) complete.1 in
        not (subst (λ (u : World). Complete s u) same complete.2)),
  );
})

-- a line that may come here, of which something is wrong
pub wrong_line : {s : Script} {text : List ℕ} {stage next : Stage} {rest : List ℕ} {number : ℕ} {w : World} (v : World) (l : Line) (after : List ℕ) (why : Fault) → IsJudged s text stage rest number w → IsLine l → rest ≡ line_text l ++ after →
    after_line s.head.migrate stage l ≡ Some next → FaultIn s w l next (Some why) v → IsFirstWrong s text number why
wrong_line v l after fault.Form j is rest_is on is_fault = absurd is_fault
wrong_line v l after fault.Legal j is rest_is on is_fault = wrong_event l after j is rest_is on is_fault
wrong_line v l after fault.Complete j is rest_is on is_fault = wrong_end v l after j is rest_is on is_fault.0 is_fault.1 is_fault.2

-- lines have numbers of 32 bits
pub judged_few : {s : Script} {text : List ℕ} {stage : Stage} {rest : List ℕ} {number : ℕ} {w : World} → IsJudged s text stage rest number w → number ≤ length text + 1
judged_few {rest = rest} j =
    let count = ap (λ (t : List ℕ). length t) j.text_is in
    omega (arith, j.number_is, lines_few j.before j.are_lines, count, length-append (text_of j.before) rest)

-- an event is one step
pub event_decided : (s : Script) (w : World) (l : Line) (v : World) (found : Bool) → is_event l ≡ true → Decides found (One s w l) v → Decides found (Steps s w (events_of (l ∷ []))) v
event_decided s w l v true is one = subst (λ (b : Bool). Steps s w (cond b (l ∷ []) []) v) (sym is) (v, one, refl)
event_decided s w l v false is none = λ other steps.
    let one : Steps s w (l ∷ []) other = subst (λ (b : Bool). Steps s w (cond b (l ∷ []) []) other) is steps in
    none other (subst (λ (u : World). One s w l u) (sym one.2) one.1)
