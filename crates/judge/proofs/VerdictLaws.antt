use Rattle.std.proofs.Common.{◌≡◌, ◌⊎◌, inl, inr, ℕ, ◌+◌, List, [], ◌∷◌, ◌++◌, length, refl, sym, ap, subst, ◌∙◌, append_assoc}
use Rattle.std.specs.List.{AllByRecursion}
use Rattle.std.proofs.lemmas.List.{append-nil}
use Rattle.nvm_model.specs.declared.line.Line.{Line}
use Rattle.nvm_model.specs.declared.script.Script.{Script}
use Rattle.nvm_model.specs.History.{IsWhole, Reaches, events_of}
use Rattle.nvm_model.specs.Text.{IsLine, line_text, text_of}
use Rattle.turns.proofs.FrameLemmas.{no_first}
use Rattle.judge.specs.declared.verdict.Fault.{Fault}
use Rattle.judge.specs.declared.verdict.Fault.TheVariants as fault
use Rattle.judge.specs.declared.verdict.Verdict.{Verdict}
use Rattle.judge.specs.declared.verdict.Verdict.TheVariants.{Yes, No}
use Rattle.judge.specs.Verdict.{AreComplete, AreLegal, BeginWhole, ComesNext, IsFault, IsFirstWrong, IsRight, IsVerdict, zeroed}
use Rattle.judge.proofs.LineLemmas.{line_ends, one_line}
use Rattle.judge.proofs.StageLemmas.{whole_ends}
use Rattle.judge.proofs.VerdictLemmas.{read_line, reaches_split}

-- One verdict at most is true of a text.

-- nothing is wrong with these lines
record AreRight (s : Script) (lines : List Line) : Type 0 where
  begin : BeginWhole s lines
  legal : AreLegal s lines
  complete : IsWhole s lines → AreComplete s lines

-- what comes first of text that begins with a line isn't nothing
not_empty : (l : Line) (after : List ℕ) → IsLine l → [] ≡ line_text l ++ after → ⊥
not_empty l after is none =
    let e = line_ends l is in
    let long : [] ≡ (e.front ++ 10 ∷ []) ++ after = none ∙ ap (λ (t : List ℕ). t ++ after) e.text_is in
    some_bytes e.front after (long ∙ append_assoc e.front (10 ∷ []) after)
  where
    some_bytes : (a b : List ℕ) → [] ≡ a ++ 10 ∷ b → ⊥
    some_bytes [] b e = cc
    some_bytes (x ∷ a) b e = cc

-- further lines, as far as they go past others, with the text that these leave
record Past (lines : List Line) (rest : List ℕ) (more : List Line) (after : List ℕ) : Type 0 where
  extra : List Line
  more_is : more ≡ lines ++ extra
  rest_is : rest ≡ text_of extra ++ after
  are_lines : AllByRecursion IsLine extra

past_more : {l : Line} {lines : List Line} {rest : List ℕ} {more : List Line} {after : List ℕ} → Past lines rest more after → Past (l ∷ lines) rest (l ∷ more) after
past_more {l} p = record { extra = p.extra; more_is = ap (λ (ls : List Line). l ∷ ls) p.more_is; rest_is = p.rest_is; are_lines = p.are_lines }

one_front : (xs ys : List Line) (x y : List ℕ) → text_of xs ++ x ≡ text_of ys ++ y → AllByRecursion IsLine xs → AllByRecursion IsLine ys → Past xs x ys y ⊎ Past ys y xs x
one_front [] ys x y same fx fy = inl (record { extra = ys; more_is = refl; rest_is = same; are_lines = fy })
one_front (l ∷ xs) [] x y same fx fy = inr (record { extra = l ∷ xs; more_is = refl; rest_is = sym same; are_lines = fx })
one_front (l ∷ xs) (m ∷ ys) x y same fx fy =
    let both = one_line l m (text_of xs ++ x) (text_of ys ++ y) fx.0 fy.0 (sym (append_assoc (line_text l) (text_of xs) x) ∙ (same ∙ append_assoc (line_text m) (text_of ys) y)) in
    elim (one_front xs ys x y both.1 fx.1 fy.1) [
      | inl p ↦ inl (subst (λ (k : Line). Past (l ∷ xs) x (k ∷ ys) y) both.0 (past_more p))
      | inr p ↦ inr (subst (λ (k : Line). Past (k ∷ ys) y (l ∷ xs) x) both.0 (past_more p))
    ]

-- right lines don't go on past one that is wrong
past_none : (s : Script) (lines more : List Line) (rest after : List ℕ) (why : Fault) (l : Line) (others : List Line) → IsLine l → rest ≡ line_text l ++ after → more ≡ lines ++ l ∷ others → AreRight s more → IsFault s lines rest why → ⊥
past_none s lines more rest after why l others is rest_is more_is right wrong = none why wrong
  where
    longer : more ≡ (lines ++ l ∷ []) ++ others
    longer = more_is ∙ sym (append_assoc lines (l ∷ []) others)

    begin : BeginWhole s (lines ++ l ∷ [])
    begin =
        let b = right.begin in
        (others ++ b.0, subst (λ (ls : List Line). IsWhole s ls) (ap (λ (ls : List Line). ls ++ b.0) longer ∙ append_assoc (lines ++ l ∷ []) others b.0) b.1)

    legal : AreLegal s (lines ++ l ∷ [])
    legal =
        let r = right.legal in
        let p = reaches_split s (lines ++ l ∷ []) others r.0 (subst (λ (ls : List Line). Reaches s (zeroed s.head) (events_of ls) r.0) longer r.1) in
        (p.0, p.1)

    complete : IsWhole s (lines ++ l ∷ []) → AreComplete s (lines ++ l ∷ [])
    complete whole =
        let last : others ≡ [] = no_first others right.begin.0 (whole_ends s (lines ++ l ∷ []) begin.0 whole begin.1) in
        let all : more ≡ lines ++ l ∷ [] = more_is ∙ ap (λ (ls : List Line). lines ++ l ∷ ls) last in
        subst (λ (ls : List Line). AreComplete s ls) all (right.complete (subst (λ (ls : List Line). IsWhole s ls) (sym all) whole))

    none : (why : Fault) → IsFault s lines rest why → ⊥
    none fault.Form wrong = wrong.1 (record { line = l; after = after; is_line = is; rest_is = rest_is; holds = begin })
    none fault.Legal wrong = (read_line l after (λ (k : Line). BeginWhole s (lines ++ k ∷ []) × (AreLegal s (lines ++ k ∷ []) → ⊥)) is rest_is wrong).1 legal
    none fault.Complete wrong =
        let h = read_line l after (λ (k : Line). IsWhole s (lines ++ k ∷ []) × AreLegal s (lines ++ k ∷ []) × (AreComplete s (lines ++ k ∷ []) → ⊥)) is rest_is wrong in
        h.2 (complete h.0)

-- right lines go no further than one that is wrong
past_wrong : (s : Script) (lines more : List Line) (rest after : List ℕ) (why : Fault) → Past lines rest more after → AreRight s more → IsFault s lines rest why → (more ≡ lines) × (rest ≡ after)
past_wrong s lines more rest after why p right wrong = by p.extra p.more_is p.rest_is p.are_lines
  where
    by : (extra : List Line) → more ≡ lines ++ extra → rest ≡ text_of extra ++ after → AllByRecursion IsLine extra → (more ≡ lines) × (rest ≡ after)
    by [] more_is rest_is are = (more_is ∙ append-nil lines, rest_is)
    by (l ∷ extra) more_is rest_is are =
        absurd (past_none s lines more rest (text_of extra ++ after) why l extra are.0 (rest_is ∙ append_assoc (line_text l) (text_of extra) after) more_is right wrong)

-- a line of the right form comes where it isn't legal, or isn't the end of a complete world
legal_begins : (s : Script) (lines : List Line) (rest : List ℕ) → IsFault s lines rest fault.Legal → ComesNext rest (λ l. BeginWhole s (lines ++ l ∷ []))
legal_begins s lines rest next = record { line = next.line; after = next.after; is_line = next.is_line; rest_is = next.rest_is; holds = next.holds.0 }

complete_begins : (s : Script) (lines : List Line) (rest : List ℕ) → IsFault s lines rest fault.Complete → ComesNext rest (λ l. BeginWhole s (lines ++ l ∷ []))
complete_begins s lines rest next = record {
  line = next.line;
  after = next.after;
  is_line = next.is_line;
  rest_is = next.rest_is;
  holds = ([], subst (λ (ls : List Line). IsWhole s ls) (sym (append-nil (lines ++ next.line ∷ []))) next.holds.0);
}

not_both : (s : Script) (lines : List Line) (rest : List ℕ) → IsFault s lines rest fault.Legal → IsFault s lines rest fault.Complete → ⊥
not_both s lines rest x y =
    (read_line y.line y.after (λ (k : Line). BeginWhole s (lines ++ k ∷ []) × (AreLegal s (lines ++ k ∷ []) → ⊥)) y.is_line y.rest_is x).1 y.holds.1

-- one thing is wrong
one_fault : (s : Script) (lines : List Line) (rest : List ℕ) (a b : Fault) → IsFault s lines rest a → IsFault s lines rest b → b ≡ a
one_fault s lines rest fault.Form fault.Form x y = refl
one_fault s lines rest fault.Legal fault.Legal x y = refl
one_fault s lines rest fault.Complete fault.Complete x y = refl
one_fault s lines rest fault.Form fault.Legal x y = absurd (x.1 (legal_begins s lines rest y))
one_fault s lines rest fault.Form fault.Complete x y = absurd (x.1 (complete_begins s lines rest y))
one_fault s lines rest fault.Legal fault.Form x y = absurd (y.1 (legal_begins s lines rest x))
one_fault s lines rest fault.Complete fault.Form x y = absurd (y.1 (complete_begins s lines rest x))
one_fault s lines rest fault.Legal fault.Complete x y = absurd (not_both s lines rest x y)
one_fault s lines rest fault.Complete fault.Legal x y = absurd (not_both s lines rest y x)

-- a right text ends where nothing is wrong
right_none : (s : Script) (text : List ℕ) (line : ℕ) (why : Fault) → IsRight s text → IsFirstWrong s text line why → ⊥
right_none s text line why right wrong = both (one_front right.lines wrong.before [] wrong.rest same right.transcript.are_lines wrong.are_lines)
  where
    same : text_of right.lines ++ [] ≡ text_of wrong.before ++ wrong.rest
    same = append-nil (text_of right.lines) ∙ (sym right.transcript.text_is ∙ wrong.text_is)

    are_right : AreRight s right.lines
    are_right = record {
      begin = ([], subst (λ (ls : List Line). IsWhole s ls) (sym (append-nil right.lines)) right.whole);
      legal = (right.complete.0, right.complete.1);
      complete = λ whole. right.complete;
    }

    at_end : (why : Fault) → right.lines ≡ wrong.before → wrong.rest ≡ [] → IsFault s wrong.before wrong.rest why → ⊥
    at_end fault.Form lines_are rest_is is = is.0 (subst (λ (ls : List Line). IsWhole s ls) lines_are right.whole) rest_is
    at_end fault.Legal lines_are rest_is is = not_empty is.line is.after is.is_line (sym rest_is ∙ is.rest_is)
    at_end fault.Complete lines_are rest_is is = not_empty is.line is.after is.is_line (sym rest_is ∙ is.rest_is)

    -- nothing is left of the text, so no lines are
    no_lines : (extra : List Line) → [] ≡ text_of extra ++ wrong.rest → AllByRecursion IsLine extra → (extra ≡ []) × (wrong.rest ≡ [])
    no_lines [] e are = (refl, sym e)
    no_lines (l ∷ extra) e are = absurd (not_empty l (text_of extra ++ wrong.rest) are.0 (e ∙ append_assoc (line_text l) (text_of extra) wrong.rest))

    both : Past right.lines [] wrong.before wrong.rest ⊎ Past wrong.before wrong.rest right.lines [] → ⊥
    both (inl p) =
        let n = no_lines p.extra p.rest_is p.are_lines in
        at_end why (sym (p.more_is ∙ (ap (λ (ls : List Line). right.lines ++ ls) n.0 ∙ append-nil right.lines))) n.1 wrong.is_fault
    both (inr p) =
        let e = past_wrong s wrong.before right.lines wrong.rest [] why p are_right wrong.is_fault in
        at_end why e.0 e.1 wrong.is_fault

-- one line is the first that is wrong
one_wrong : (s : Script) (text : List ℕ) (m n : ℕ) (why other : Fault) → IsFirstWrong s text m why → IsFirstWrong s text n other → (n ≡ m) × (other ≡ why)
one_wrong s text m n why other a b = both (one_front a.before b.before a.rest b.rest (sym a.text_is ∙ b.text_is) a.are_lines b.are_lines)
  where
    right : {line : ℕ} {why : Fault} (w : IsFirstWrong s text line why) → AreRight s w.before
    right w = record { begin = w.begin; legal = w.legal; complete = w.complete }

    at : b.before ≡ a.before → b.rest ≡ a.rest → (n ≡ m) × (other ≡ why)
    at lines_are rest_is = (
      b.number ∙ (ap (λ (ls : List Line). length ls + 1) lines_are ∙ sym a.number),
      one_fault s a.before a.rest why other a.is_fault (subst (λ (r : List ℕ). IsFault s a.before r other) rest_is (subst (λ (ls : List Line). IsFault s ls b.rest other) lines_are b.is_fault)),
    )

    both : Past a.before a.rest b.before b.rest ⊎ Past b.before b.rest a.before a.rest → (n ≡ m) × (other ≡ why)
    both (inl p) = let e = past_wrong s a.before b.before a.rest b.rest why p (right b) a.is_fault in at e.0 (sym e.1)
    both (inr p) = let e = past_wrong s b.before a.before b.rest a.rest other p (right a) b.is_fault in at (sym e.0) e.1

pub one_verdict : (s : Script) (text : List ℕ) (v w : Verdict) → IsVerdict s text v → IsVerdict s text w → w ≡ v
one_verdict s text Yes Yes a b = refl
one_verdict s text Yes (No line why) a b = absurd (right_none s text line why a b)
one_verdict s text (No line why) Yes a b = absurd (right_none s text line why b a)
one_verdict s text (No m why) (No n other) a b = let e = one_wrong s text m n why other a b in cc
