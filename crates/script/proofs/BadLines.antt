-- The first bad line of a text is told, and there is one.
use Rattle.std.proofs.Common.{◌≡◌, ℕ, suc, ◌+◌, ◌-◌, ◌^◌, ◌≤◌, ◌⊎◌, min, false, List, [], ◌∷◌, ◌++◌, length, codes, Option, Some, None, refl, sym, ap, subst, ◌∙◌, append_assoc, arith, inl, inr}
use Rattle.std.proofs.lemmas.Bool.{true≢false, false_from_ne_true}
use Rattle.std.proofs.lemmas.List.{append-nil}
use Rattle.nvm_model.specs.declared.script.Act.{Act}
use Rattle.nvm_model.specs.declared.script.Head.{Head}
use Rattle.nvm_model.specs.declared.script.Script.{Script}
use Rattle.nvm_model.specs.ScriptText.{script_text, IsScript}
use Rattle.script.specs.declared.key.Key.TheVariants.{Blocks, Shelf}
use Rattle.script.specs.declared.key.Due.{Due}
use Rattle.script.specs.declared.key.Due.TheVariants.{Title, Number, Done}
use Rattle.script.specs.declared.refusal.BadLine.{BadLine}
use Rattle.script.specs.declared.refusal.Why.{Why}
use Rattle.script.specs.declared.refusal.Why.TheVariants.{Form, Range, Cut, More}
use Rattle.script.specs.Words.{◌>>=◌, cut_at}
use Rattle.script.specs.Keys.{no_head}
use Rattle.script.specs.Lines.{title, is_due, due_next, due_at, State, start, script_of, number_in, step_at, step, run}
use Rattle.script.specs.BadLine.{lined, HasNoFeed, HasForm, BeginsOf, Begins, IsWholeText, IsWhy, IsBadLine}
use Rattle.script.specs.Reads.{IsStuck, IsRead, IsTold}
use Rattle.script.proofs.WordLaws.{bind_step, some_is, cut_takes, cut_again}
use Rattle.script.proofs.StepLaws.{key_line, keyed_free, number_read}
use Rattle.script.proofs.LineRuns.{AreLines, lines_append, lines_behind, first_line, which_longer, run_parts, run_first, run_none}
use Rattle.script.proofs.ScriptLines.{lines_before, keys_are, text_is}
use Rattle.script.proofs.Reaches.{seen, reach_done, script_free}
use Rattle.script.proofs.Sounds.{FitsAt, Agrees, IsNext, next_is}
use Rattle.script.proofs.Begins.{sets_few, begin_is}

-- ---- what is read

start_fits : FitsAt Title no_head []
start_fits = ((refl, tt, refl), (refl, refl))

one_next : (s : State) (line : List ℕ) (u : State) → FitsAt s.due s.head s.acts → step s line ≡ Some u → IsNext s.due s.head s.acts line u
unfolding step
one_next s line u f e = next_is s.due s.head s.acts line u f e

record IsSound (xs : List (List ℕ)) (u : State) : Type 0 where
  fits : FitsAt u.due u.head u.acts
  lines : lines_before u.due u.head u.acts ≡ xs

sound_run : (s u : State) (xs ys : List (List ℕ)) → IsSound xs s → run s ys ≡ Some u → IsSound (xs ++ ys) u
sound_run s u xs [] so e = let same = run_none s u e in subst (λ (t : State). IsSound (xs ++ []) t) same (record { fits = so.fits; lines = so.lines ∙ sym (append-nil xs) })
sound_run s u xs (y ∷ ys) so e =
    let t = run_first s y ys u e in
    let n = one_next s y t.0 so.fits t.1 in
    subst (λ (ls : List (List ℕ)). IsSound ls u) (append_assoc xs (y ∷ []) ys)
    (sound_run t.0 u (xs ++ y ∷ []) ys (record { fits = n.fits; lines = n.lines ∙ ap (λ (ls : List (List ℕ)). ls ++ y ∷ []) so.lines }) t.2)

sound : (xs : List (List ℕ)) (u : State) → run start xs ≡ Some u → IsSound xs u
sound xs u e = sound_run start u [] xs (record { fits = start_fits; lines = refl }) e

agrees_run : (s u : State) (ys : List (List ℕ)) (lanes : ℕ) → FitsAt s.due s.head s.acts → run s ys ≡ Some u → Agrees u.due u.head lanes → Agrees s.due s.head lanes
agrees_run s u [] lanes f e a = subst (λ (t : State). Agrees t.due t.head lanes) (sym (run_none s u e)) a
agrees_run s u (y ∷ ys) lanes f e a =
    let t = run_first s y ys u e in
    let n = one_next s y t.0 f t.1 in
    n.agrees lanes (agrees_run t.0 u ys lanes n.fits t.2 a)

no_step : (s t : State) (line : List ℕ) → s.due ≡ Done → step s line ≡ Some t → ⊥
unfolding step
no_step s t line d e = let none : step_at s.due s line ≡ None = ap (λ (x : Due). step_at x s line) d in let both = sym none ∙ e in absurd cc

ended : (s u : State) (ys : List (List ℕ)) → s.due ≡ Done → run s ys ≡ Some u → u.due ≡ Done
ended s u [] d e = ap (λ (t : State). t.due) (sym (run_none s u e)) ∙ d
ended s u (y ∷ ys) d e = let t = run_first s y ys u e in absurd (no_step s t.0 y d t.1)

-- the line that is due goes by the lines before it
due_run : (lanes n : ℕ) (s u : State) (ys : List (List ℕ)) → FitsAt s.due s.head s.acts → run s ys ≡ Some u → Agrees u.due u.head lanes → due_at lanes n ≡ s.due → (u.due ≡ Done) ⊎ (due_at lanes (n + length ys) ≡ u.due)
unfolding due_at
due_run lanes n s u [] f e a d = let same = run_none s u e in let count : n + 0 ≡ n = omega arith in inr (ap (due_at lanes) count ∙ d ∙ ap (λ (t : State). t.due) same)
due_run lanes n s u (y ∷ ys) f e a d =
    let t = run_first s y ys u e in
    let x = one_next s y t.0 f t.1 in
    let count : suc n + length ys ≡ n + suc (length ys) = omega arith in
    elim (x.due lanes (agrees_run s u (y ∷ ys) lanes f e a)) [
      | inl done ↦ inl (ended t.0 u ys done t.2)
      | inr next ↦
          elim (due_run lanes (suc n) t.0 u ys x.fits t.2 a (ap (due_next lanes) d ∙ next)) [
            | inl done ↦ inl done
            | inr is ↦ inr (ap (due_at lanes) (sym count) ∙ is)
          ]
    ]

-- ---- two lists of lines of one text

some_byte : (z rest : List ℕ) → [] ≡ z ++ 10 ∷ rest → ⊥
some_byte [] rest e = absurd cc
some_byte (c ∷ z) rest e = absurd cc

no_lines : (zs : List (List ℕ)) (rest : List ℕ) → [] ≡ lined zs ++ rest → zs ≡ []
no_lines [] rest e = refl
no_lines (z ∷ zs) rest e = absurd (some_byte z (lined zs ++ rest) (e ∙ first_line z zs rest))

-- no further line is read
abbrev Ends : State → List ℕ → Type 0
Ends s rest = (z after : List ℕ) (t : State) → HasNoFeed z → rest ≡ z ++ 10 ∷ after → step s z ≡ Some t → ⊥

record IsSame (xs ys : List (List ℕ)) (a b : List ℕ) : Type 0 where
  lines : xs ≡ ys
  rest : a ≡ b

ends_same : (xs ys zs : List (List ℕ)) (a b : List ℕ) (s t : State) → AreLines ys → run start xs ≡ Some s → run start ys ≡ Some t → Ends s a → ys ≡ xs ++ zs → a ≡ lined zs ++ b → IsSame xs ys a b
ends_same xs ys [] a b s t free rx ry ends e r = record { lines = sym (e ∙ append-nil xs); rest = r }
ends_same xs ys (z ∷ zs) a b s t free rx ry ends e r =
    let parts = run_parts start xs (z ∷ zs) t (ap (run start) (sym e) ∙ ry) in
    let same : parts.0 ≡ s = some_is parts.0 s (sym parts.1 ∙ rx) in
    let first = run_first s z zs t (subst (λ (u : State). run u (z ∷ zs) ≡ Some t) same parts.2) in
    absurd (ends z (lined zs ++ b) first.0 (lines_behind xs (z ∷ zs) (subst AreLines e free)).0 (r ∙ first_line z zs b) first.1)

both_end : (text : List ℕ) (s t : State) (a b : List ℕ) (m n : ℕ) (p : IsRead text s a m) (q : IsRead text t b n) → Ends s a → Ends t b → IsSame p.before q.before a b
both_end text s t a b m n p q es et =
    elim (which_longer p.before q.before a b p.lines q.lines (sym p.text_is ∙ q.text_is)) [
      | inl l ↦ ends_same p.before q.before l.more a b s t q.lines p.runs q.runs es l.lines l.rest
      | inr l ↦ let same = ends_same q.before p.before l.more b a t s p.lines q.runs p.runs et l.lines l.rest in record { lines = sym same.lines; rest = sym same.rest }
    ]

same_state : (xs ys : List (List ℕ)) (s t : State) → xs ≡ ys → run start xs ≡ Some s → run start ys ≡ Some t → s ≡ t
same_state xs ys s t e p q = some_is s t (sym p ∙ ap (run start) e ∙ q)

-- a front of lines that are read is read
front_run : (xs ys : List (List ℕ)) (rest : List ℕ) (u : State) (lanes : ℕ) → AreLines xs → AreLines ys → lined xs ≡ lined ys ++ rest → run start xs ≡ Some u → Agrees u.due u.head lanes → (t : State) × (run start ys ≡ Some t) × Agrees t.due t.head lanes
front_run xs ys rest u lanes fx fy e r a =
    elim (which_longer xs ys [] rest fx fy (append-nil (lined xs) ∙ e)) [
      | inl l ↦
          let same : ys ≡ xs = l.lines ∙ ap (λ (zs : List (List ℕ)). xs ++ zs) (no_lines l.more rest l.rest) ∙ append-nil xs in
          (u, ap (run start) same ∙ r, a)
      | inr l ↦
          let parts = run_parts start ys l.more u (ap (run start) (sym l.lines) ∙ r) in
          (parts.0, parts.1, agrees_run parts.0 u l.more lanes (sound ys parts.0 parts.1).fits parts.2 a)
    ]

start_run : (blocks : ℕ) → 1 ≤ blocks → blocks ≤ 131072 → (t : State) × (run start (title ∷ key_line Blocks blocks ∷ []) ≡ Some t) × (t.due ≡ Number Shelf)
unfolding run step
start_run blocks low high =
    let t : State = record { due = Number Shelf; head = record no_head { blocks = blocks }; acts = [] } in
    let made : ℕ → Option State = λ (n : ℕ). Some (record { due = Number Shelf; head = record no_head { blocks = n }; acts = [] }) in
    (t, bind_step (number_in Blocks no_head (key_line Blocks blocks) >>= made) _ t (Some t) (bind_step (number_in Blocks no_head (key_line Blocks blocks)) made blocks (Some t) (number_read Blocks no_head blocks (omega arith) (low, high, refl)) refl) refl, refl)

start_free : (blocks : ℕ) → blocks ≤ 131072 → AreLines (title ∷ key_line Blocks blocks ∷ [])
unfolding cut_at
start_free blocks high = (refl, (keyed_free (codes "blocks") blocks refl (omega arith), tt))

begins_run : (lanes : ℕ) (ys : List (List ℕ)) → AreLines ys → BeginsOf lanes (lined ys) → (t : State) × (run start ys ≡ Some t) × Agrees t.due t.head lanes
begins_run lanes ys free (inl (blocks, low, high, e)) =
    let r = start_run blocks low high in
    front_run (title ∷ key_line Blocks blocks ∷ []) ys [] r.0 lanes (start_free blocks high) free (keys_are (Blocks ∷ []) (record no_head { blocks = blocks }) (title ∷ []) ∙ sym e ∙ sym (append-nil (lined ys))) r.1 (subst (λ (d : Due). Agrees d r.0.head lanes) (sym r.2) tt)
begins_run lanes ys free (inr (s, f, same, rest, e)) =
    let h : Head = s.head in
    front_run (lines_before Done h s.acts) ys rest (seen Done h s.acts) lanes (script_free s f) free (text_is s (sets_few h f.head.sets.0 f.head.lanes.1) ∙ e) (reach_done s f).runs (sym same)

-- ---- whole scripts

done_fits : (d : Due) (h : Head) (done : List (ℕ × Act)) → d ≡ Done → FitsAt d h done → FitsAt Done h done
done_fits d h done e f = subst (λ (x : Due). FitsAt x h done) e f

-- what is read to its end is a script
pub whole_script : (xs : List (List ℕ)) (s : State) → run start xs ≡ Some s → s.due ≡ Done → IsScript (script_of s) × (lined xs ≡ script_text (script_of s))
whole_script xs s e d =
    let so = sound xs s e in
    let f = done_fits s.due s.head s.acts d so.fits in
    let lines : lines_before Done s.head s.acts ≡ xs = ap (λ (x : Due). lines_before x s.head s.acts) (sym d) ∙ so.lines in
    (record { head = f.0; acts = f.1; few = f.2 }, ap lined (sym lines) ∙ text_is (script_of s) (sets_few s.head f.0.sets.0 f.0.lanes.1))

done_ends : (s : State) (rest : List ℕ) → s.due ≡ Done → Ends s rest
done_ends s rest d z after t free e step = no_step s t z d step

-- a script at the front of a text is read
pub front_read : (text rest : List ℕ) (s : Script) → IsScript s → text ≡ script_text s ++ rest → (n : ℕ) × IsRead text (seen Done s.head s.acts) rest n
front_read text rest s f e =
    let before : List (List ℕ) = lines_before Done s.head s.acts in
    (min (length before + 1) (2 ^ 32 - 1), record { before = before; text_is = e ∙ ap (λ (t : List ℕ). t ++ rest) (sym (text_is s (sets_few s.head f.head.sets.0 f.head.lanes.1))); lines = script_free s f; runs = (reach_done s f).runs; count = refl })

whole_done : (xs : List (List ℕ)) (s : State) → AreLines xs → run start xs ≡ Some s → IsWholeText (lined xs) → s.due ≡ Done
whole_done xs s free e (w, f, is) =
    let r = front_read (lined xs) [] w f (is ∙ sym (append-nil (script_text w))) in
    let p : IsRead (lined xs) s [] (min (length xs + 1) (2 ^ 32 - 1)) = record { before = xs; text_is = sym (append-nil (lined xs)); lines = free; runs = e; count = refl } in
    let nothing : Ends s [] = λ z after t fz e0 st. some_byte z after e0 in
    let same = both_end (lined xs) s (seen Done w.head w.acts) [] [] (min (length xs + 1) (2 ^ 32 - 1)) r.0 p r.1 nothing (done_ends (seen Done w.head w.acts) [] refl) in
    ap (λ (t : State). t.due) (same_state xs r.1.before s (seen Done w.head w.acts) same.lines e r.1.runs)

-- ---- what is told is the first bad line

due_is : (lanes : ℕ) (xs : List (List ℕ)) (s : State) → run start xs ≡ Some s → Agrees s.due s.head lanes → (s.due ≡ Done → ⊥) → due_at lanes (length xs) ≡ s.due
unfolding due_at
due_is lanes xs s e a other =
    elim (due_run lanes 0 start s xs start_fits e a refl) [
      | inl done ↦ absurd (other done)
      | inr is ↦ let count : length xs ≡ 0 + length xs = omega arith in ap (due_at lanes) count ∙ is
    ]

-- a line that is read has its form, and goes on as a script
goes_on : (lanes : ℕ) (xs : List (List ℕ)) (s t : State) (line : List ℕ) → run start xs ≡ Some s → Agrees s.due s.head lanes → step s line ≡ Some t → HasForm lanes (length xs) line × Begins (lined (xs ++ line ∷ []))
goes_on lanes xs s t line e a st =
    let so = sound xs s e in
    let n = one_next s line t so.fits st in
    let b = begin_is t.due t.head t.acts n.fits in
    let lines : lines_before t.due t.head t.acts ≡ xs ++ line ∷ [] = n.lines ∙ ap (λ (ls : List (List ℕ)). ls ++ line ∷ []) so.lines in
    (ap (λ (d : Due). is_due d line) (due_is lanes xs s e a (λ d. no_step s t line d st)) ∙ n.formed, (b.lanes, subst (λ (ls : List (List ℕ)). BeginsOf b.lanes (lined ls)) lines b.begins))

not_begun : (xs : List (List ℕ)) (s : State) (line : List ℕ) → AreLines xs → HasNoFeed line → run start xs ≡ Some s → step s line ≡ None → Begins (lined (xs ++ line ∷ [])) → ⊥
not_begun xs s line free none e st (lanes, b) =
    let t = begins_run lanes (xs ++ line ∷ []) (lines_append xs (line ∷ []) free (none, tt)) b in
    let parts = run_parts start xs (line ∷ []) t.0 t.1 in
    let same : parts.0 ≡ s = some_is parts.0 s (sym parts.1 ∙ e) in
    let first = run_first parts.0 line [] t.0 parts.2 in
    let both = sym st ∙ (ap (λ (u : State). step u line) (sym same) ∙ first.1) in
    absurd cc

stuck_why : (lanes : ℕ) (xs : List (List ℕ)) (s : State) (rest : List ℕ) (w : Why) → AreLines xs → run start xs ≡ Some s → Agrees s.due s.head lanes → IsStuck s rest w → IsWhy lanes xs rest w
stuck_why lanes xs s rest Form free e a (other, x, c, f) =
    let t = cut_takes 10 rest x c in
    (λ whole. other (whole_done xs s free e whole), (x.0, x.1, t.0, t.1, λ has. true≢false (sym has ∙ ap (λ (d : Due). is_due d x.0) (due_is lanes xs s e a other) ∙ f)))
stuck_why lanes xs s rest Range free e a (other, x, c, f, st) =
    let t = cut_takes 10 rest x c in
    (λ whole. other (whole_done xs s free e whole), (x.0, x.1, t.0, t.1, (ap (λ (d : Due). is_due d x.0) (due_is lanes xs s e a other) ∙ f, not_begun xs s x.0 free t.1 e st)))
stuck_why lanes xs s rest Cut free e a (other, c) = (λ whole. other (whole_done xs s free e whole), c)
stuck_why lanes xs s rest More free e a (d, some) = let w = whole_script xs s e d in ((script_of s, w.0, w.1), some)

pub told_is_bad : (text : List ℕ) (bad : BadLine) → IsTold text bad → IsBadLine text bad
told_is_bad text bad t =
    let p = t.read in
    let s : State = t.state in
    let so = sound p.before s p.runs in
    let b = begin_is s.due s.head s.acts so.fits in
    record {
      lanes = b.lanes;
      before = p.before;
      rest = t.rest;
      text_is = p.text_is;
      lines = p.lines;
      number = p.count;
      begins = subst (λ (ls : List (List ℕ)). BeginsOf b.lanes (lined ls)) so.lines b.begins;
      why = stuck_why b.lanes p.before s t.rest bad.why p.lines p.runs b.agrees t.stuck;
    }

-- ---- the first bad line is told

step_cases : (o : Option State) → (o ≡ None) ⊎ ((t : State) × (o ≡ Some t))
step_cases None = inl refl
step_cases (Some t) = inr (t, refl)

not_done : (xs : List (List ℕ)) (s : State) → run start xs ≡ Some s → (IsWholeText (lined xs) → ⊥) → s.due ≡ Done → ⊥
not_done xs s e other d = let w = whole_script xs s e d in other (script_of s, w.0, w.1)

cut_of : (rest line after : List ℕ) → rest ≡ line ++ 10 ∷ after → HasNoFeed line → cut_at 10 rest ≡ Some (line, after)
cut_of rest line after e none = ap (cut_at 10) e ∙ cut_again 10 line after none

why_stuck : (lanes : ℕ) (xs : List (List ℕ)) (s : State) (rest : List ℕ) (w : Why) → AreLines xs → run start xs ≡ Some s → Agrees s.due s.head lanes → IsWhy lanes xs rest w → IsStuck s rest w
why_stuck lanes xs s rest Form free e a (whole, (line, after, is, none, not)) =
    let other = not_done xs s e whole in
    (other, (line, after), cut_of rest line after is none, false_from_ne_true (is_due s.due line) (λ f. not (ap (λ (d : Due). is_due d line) (due_is lanes xs s e a other) ∙ f)))
why_stuck lanes xs s rest Range free e a (whole, (line, after, is, none, (has, not))) =
    let other = not_done xs s e whole in
    elim (step_cases (step s line)) [
      | inl st ↦ (other, (line, after), cut_of rest line after is none, ap (λ (d : Due). is_due d line) (sym (due_is lanes xs s e a other)) ∙ has, st)
      | inr t ↦ absurd (not (goes_on lanes xs s t.0 line e a t.1).1)
    ]
why_stuck lanes xs s rest Cut free e a (whole, none) = (not_done xs s e whole, none)
why_stuck lanes xs s rest More free e a (whole, some) = (whole_done xs s free e whole, some)

pub bad_is_told : (text : List ℕ) (bad : BadLine) → IsBadLine text bad → IsTold text bad
bad_is_told text bad b =
    let t = begins_run b.lanes b.before b.lines b.begins in
    record {
      state = t.0;
      rest = b.rest;
      read = record { before = b.before; text_is = b.text_is; lines = b.lines; runs = t.1; count = b.number };
      stuck = why_stuck b.lanes b.before t.0 b.rest bad.why b.lines t.1 t.2 b.why;
    }

-- ---- there is one

form_step : (s t : State) (line : List ℕ) → FitsAt s.due s.head s.acts → is_due s.due line ≡ false → step s line ≡ Some t → ⊥
form_step s t line f e st = true≢false (sym (one_next s line t f st).formed ∙ e)

stuck_ends : (s : State) (rest : List ℕ) (w : Why) → FitsAt s.due s.head s.acts → IsStuck s rest w → Ends s rest
stuck_ends s rest Form f (other, x, c, e) z after t none is st = let same = some_is x (z, after) (sym c ∙ cut_of rest z after is none) in form_step s t z f (ap (λ (p : List ℕ × List ℕ). is_due s.due p.0) (sym same) ∙ e) st
stuck_ends s rest Range f (other, x, c, e, fails) z after t none is st = let same = some_is x (z, after) (sym c ∙ cut_of rest z after is none) in let both = sym fails ∙ (ap (λ (p : List ℕ × List ℕ). step s p.0) same ∙ st) in absurd cc
stuck_ends s rest Cut f (other, c) z after t none is st = let both = sym c ∙ cut_of rest z after is none in absurd cc
stuck_ends s rest More f (d, some) z after t none is st = no_step s t z d st

same_cut : (rest : List ℕ) (x y : List ℕ × List ℕ) → cut_at 10 rest ≡ Some x → cut_at 10 rest ≡ Some y → x ≡ y
same_cut rest x y p q = some_is x y (sym p ∙ q)

one_why : (s : State) (rest : List ℕ) (v w : Why) → IsStuck s rest v → IsStuck s rest w → v ≡ w
one_why s rest Form Form p q = refl
one_why s rest Form Range (d, x, c, e) (d1, y, c1, e1, st) = absurd (true≢false (sym e1 ∙ ap (λ (z : List ℕ × List ℕ). is_due s.due z.0) (sym (same_cut rest x y c c1)) ∙ e))
one_why s rest Form Cut (d, x, c, e) (d1, none) = absurd cc
one_why s rest Form More p q = absurd (p.0 q.0)
one_why s rest Range Form (d1, y, c1, e1, st) (d, x, c, e) = absurd (true≢false (sym e1 ∙ ap (λ (z : List ℕ × List ℕ). is_due s.due z.0) (sym (same_cut rest x y c c1)) ∙ e))
one_why s rest Range Range p q = refl
one_why s rest Range Cut (d, x, c, e, st) (d1, none) = absurd cc
one_why s rest Range More p q = absurd (p.0 q.0)
one_why s rest Cut Form (d1, none) (d, x, c, e) = absurd cc
one_why s rest Cut Range (d1, none) (d, x, c, e, st) = absurd cc
one_why s rest Cut Cut p q = refl
one_why s rest Cut More p q = absurd (p.0 q.0)
one_why s rest More Form p q = absurd (q.0 p.0)
one_why s rest More Range p q = absurd (q.0 p.0)
one_why s rest More Cut p q = absurd (q.0 p.0)
one_why s rest More More p q = refl

told_ends : (text : List ℕ) (bad : BadLine) (t : IsTold text bad) → Ends t.state t.rest
told_ends text bad t = stuck_ends t.state t.rest bad.why (sound t.read.before t.state t.read.runs).fits t.stuck

pub one_told : (text : List ℕ) (a b : BadLine) → IsTold text a → IsTold text b → a ≡ b
one_told text a b p q =
    let same = both_end text p.state q.state p.rest q.rest a.line b.line p.read q.read (told_ends text a p) (told_ends text b q) in
    let state = same_state p.read.before q.read.before p.state q.state same.lines p.read.runs q.read.runs in
    let line : a.line ≡ b.line = p.read.count ∙ ap (λ (ls : List (List ℕ)). min (length ls + 1) (2 ^ 32 - 1)) same.lines ∙ sym q.read.count in
    let stuck : IsStuck q.state q.rest a.why = subst (λ (r : List ℕ). IsStuck q.state r a.why) same.rest (subst (λ (s : State). IsStuck s p.rest a.why) state p.stuck) in
    let why = one_why q.state q.rest a.why b.why stuck q.stuck in
    ap (λ (n : ℕ). record { line = n; why = a.why }) line ∙ ap (λ (w : Why). record { line = b.line; why = w }) why

-- ---- a text that is read to the end of a script

-- another script isn't at its front
pub one_front : (text rest more : List ℕ) (s : State) (n : ℕ) (w : Script) → IsRead text s rest n → s.due ≡ Done → IsScript w → text ≡ script_text w ++ more → (script_of s ≡ w) × (rest ≡ more)
one_front text rest more s n w p d f e =
    let r = front_read text more w f e in
    let same = both_end text s (seen Done w.head w.acts) rest more n r.0 p r.1 (done_ends s rest d) (done_ends (seen Done w.head w.acts) more refl) in
    (ap script_of (same_state p.before r.1.before s (seen Done w.head w.acts) same.lines p.runs r.1.runs), same.rest)

-- nor is a line told before its end
pub told_or_read : (text more : List ℕ) (bad : BadLine) (w : Script) → IsTold text bad → IsScript w → text ≡ script_text w ++ more → (t : State) × (t.due ≡ Done) × IsStuck t more bad.why
told_or_read text more bad w t f e =
    let r = front_read text more w f e in
    let s : State = seen Done w.head w.acts in
    let same = both_end text t.state s t.rest more bad.line r.0 t.read r.1 (told_ends text bad t) (done_ends s more refl) in
    let state = same_state t.read.before r.1.before t.state s same.lines t.read.runs r.1.runs in
    (s, refl, subst (λ (x : List ℕ). IsStuck s x bad.why) same.rest (subst (λ (u : State). IsStuck u t.rest bad.why) state t.stuck))

done_more : (s : State) (rest : List ℕ) (w : Why) → s.due ≡ Done → IsStuck s rest w → (w ≡ More) × (rest ≡ [] → ⊥)
done_more s rest Form d p = absurd (p.0 d)
done_more s rest Range d p = absurd (p.0 d)
done_more s rest Cut d p = absurd (p.0 d)
done_more s rest More d p = (refl, p.1)

-- what is told of a text with a script at its front is that more stands behind it
pub only_more : (text more : List ℕ) (bad : BadLine) (w : Script) → IsTold text bad → IsScript w → text ≡ script_text w ++ more → (bad.why ≡ More) × (more ≡ [] → ⊥)
only_more text more bad w t f e = let r = told_or_read text more bad w t f e in done_more r.0 more bad.why r.1 r.2
