-- What the functions that read a text answer.
use Rattle.std.proofs.Common.{◌≡◌, ℕ, ◌+◌, ◌-◌, ◌^◌, ◌<◌, ◌≤◌, ◌⊎◌, inl, inr, min, Bool, true, false, cond, List, [], ◌∷◌, ◌++◌, length, take, Some, None, refl, sym, ap, subst, ◌∙◌, append_assoc, arith}
use Rattle.std.proofs.lemmas.List.{append-nil, length-append, length_push, take_at}
use Rattle.nvm_model.specs.declared.script.Script.{Script}
use Rattle.nvm_model.specs.ScriptText.{script_text, IsScript}
use Rattle.script.specs.declared.key.Due.TheVariants.{Done}
use Rattle.script.specs.declared.refusal.BadLine.{BadLine}
use Rattle.script.specs.declared.refusal.ParseRefusal.{ParseRefusal}
use Rattle.script.specs.declared.refusal.ParseRefusal.TheVariants.{Bad, OutOfMemory}
use Rattle.script.specs.declared.refusal.Why.{Why}
use Rattle.script.specs.declared.refusal.Why.TheVariants.{Form, Range, Cut, More}
use Rattle.script.specs.Words.{cut_at}
use Rattle.script.specs.Lines.{State, start, script_of, is_due, step, run}
use Rattle.script.specs.BadLine.{lined, IsBadLine, IsRefusedAt, IsFrontRefused}
use Rattle.script.specs.Reads.{why_of, IsRead, IsStuck, IsTold, IsRefused}
use Rattle.script.proofs.WordLaws.{cut_takes}
use Rattle.script.proofs.LineRuns.{lined_append, lines_append, run_more, run_one}
use Rattle.script.proofs.BadLines.{whole_script, one_front, only_more, told_is_bad, bad_is_told, one_told}

-- ---- the lines of a text, one after the other

no_run : run start [] ≡ Some start
unfolding run
no_run = refl

pub read_none : (text : List ℕ) → IsRead text start text 1
read_none text = record { before = []; text_is = refl; lines = tt; runs = no_run; count = refl }

pub read_more : (text rest line after : List ℕ) (s t : State) (n m : ℕ) → IsRead text s rest n → cut_at 10 rest ≡ Some (line, after) → step s line ≡ Some t → m ≡ min (n + 1) (2 ^ 32 - 1) → IsRead text t after m
read_more text rest line after s t n m r c e next =
    let cut = cut_takes 10 rest (line, after) c in
    let before : List (List ℕ) = r.before in
    let len = length_push before line in
    let count = r.count in
    let behind : lined (line ∷ []) ++ after ≡ rest = ap (λ (x : List ℕ). x ++ after) (append-nil (line ++ 10 ∷ [])) ∙ append_assoc line (10 ∷ []) after ∙ sym cut.0 in
    record {
      before = before ++ line ∷ [];
      text_is = r.text_is ∙ ap (λ (x : List ℕ). lined before ++ x) (sym behind) ∙ sym (append_assoc (lined before) (lined (line ∷ [])) after) ∙ ap (λ (x : List ℕ). x ++ after) (sym (lined_append before (line ∷ [])));
      lines = lines_append before (line ∷ []) r.lines (cut.1, tt);
      runs = run_more start before (line ∷ []) s t r.runs (run_one s line t e);
      count = omega (arith, len, count, next);
    }

pub shorter_rest : (rest line after : List ℕ) → cut_at 10 rest ≡ Some (line, after) → length after < length rest
shorter_rest rest line after c =
    let e = ap length (cut_takes 10 rest (line, after) c).0 in
    let len = length-append line (10 ∷ after) in
    omega (arith, e, len)

-- ---- what is told

not_more : (s : State) (line : List ℕ) → why_of s line ≡ More → ⊥
not_more s line e = by (is_due s.due line) e
  where
    by : (b : Bool) → cond b Range Form ≡ More → ⊥
    by true e = absurd cc
    by false e = absurd cc

why_stuck : (s : State) (rest line after : List ℕ) → (s.due ≡ Done → ⊥) → cut_at 10 rest ≡ Some (line, after) → step s line ≡ None → (b : Bool) → is_due s.due line ≡ b → IsStuck s rest (cond b Range Form)
why_stuck s rest line after other c e true f = (other, (line, after), c, f, e)
why_stuck s rest line after other c e false f = (other, (line, after), c, f)

pub line_told : (text rest line after : List ℕ) (s : State) (n : ℕ) (w : Why) → IsRead text s rest n → (s.due ≡ Done → ⊥) → cut_at 10 rest ≡ Some (line, after) → step s line ≡ None → w ≡ why_of s line
    → IsTold text (record { line = n; why = w }) × (w ≡ More → ⊥)
line_told text rest line after s n w r other c e is =
    (record { state = s; rest = rest; read = r; stuck = subst (IsStuck s rest) (sym is) (why_stuck s rest line after other c e (is_due s.due line) refl) }, λ more. not_more s line (sym is ∙ more))

pub cut_told : (text rest : List ℕ) (s : State) (n : ℕ) → IsRead text s rest n → (s.due ≡ Done → ⊥) → cut_at 10 rest ≡ None → IsTold text (record { line = n; why = Cut }) × (Cut ≡ More → ⊥)
cut_told text rest s n r other c = (record { state = s; rest = rest; read = r; stuck = (other, c) }, λ e. absurd cc)

pub more_told : (text rest : List ℕ) (s : State) (n : ℕ) → IsRead text s rest n → s.due ≡ Done → (rest ≡ [] → ⊥) → IsTold text (record { line = n; why = More })
more_told text rest s n r d some = record { state = s; rest = rest; read = r; stuck = (d, some) }

-- ---- what is found

pub front_found : (text rest : List ℕ) (s : State) (n : ℕ) → IsRead text s rest n → s.due ≡ Done → IsScript (script_of s) × (text ≡ script_text (script_of s) ++ rest)
front_found text rest s n r d = let w = whole_script r.before s r.runs d in (w.0, r.text_is ∙ ap (λ (t : List ℕ). t ++ rest) w.1)

pub found : (text rest : List ℕ) (s : State) (n : ℕ) → IsRead text s rest n → s.due ≡ Done → rest ≡ [] → IsScript (script_of s) × (text ≡ script_text (script_of s))
found text rest s n r d none = let f = front_found text rest s n r d in (f.0, f.1 ∙ ap (λ (t : List ℕ). script_text (script_of s) ++ t) none ∙ append-nil (script_text (script_of s)))

pub whole : (text : List ℕ) (w : Script) → text ≡ script_text w → text ≡ script_text w ++ []
whole text w e = e ∙ sym (append-nil (script_text w))

pub only : (text rest : List ℕ) (s : State) (n : ℕ) (w : Script) → IsRead text s rest n → s.due ≡ Done → IsScript w → text ≡ script_text w → (script_of s ≡ w) × (rest ≡ [])
only text rest s n w r d f e = one_front text rest [] s n w r d f (whole text w e)

pub not_told : (text : List ℕ) (bad : BadLine) (w : Script) → IsTold text bad → IsScript w → text ≡ script_text w → ⊥
not_told text bad w t f e = (only_more text [] bad w t f (whole text w e)).1 refl

pub no_told : (text rest : List ℕ) (s : State) (n : ℕ) (bad : BadLine) → IsRead text s rest n → s.due ≡ Done → rest ≡ [] → IsBadLine text bad → ⊥
no_told text rest s n bad r d none p = let f = found text rest s n r d none in not_told text bad (script_of s) (bad_is_told text bad p) f.0 f.1

-- the place behind a script, and the text before it
pub front_place : (text rest : List ℕ) (w : Script) (end : ℕ) → text ≡ script_text w ++ rest → end ≡ length text - length rest → (end ≡ length (script_text w)) × (end ≤ length text) × (take end text ≡ script_text w)
front_place text rest w end e at =
    let len = ap length e ∙ length-append (script_text w) rest in
    let place : end ≡ length (script_text w) = omega (arith, len, at) in
    (place, omega (arith, at), ap (take end) e ∙ take_at (script_text w) rest end (sym place))

-- ---- what is refused

pub refused_bad : (text : List ℕ) (r : ParseRefusal) → IsRefused text r → IsRefusedAt text r
refused_bad text (Bad bad) t = told_is_bad text bad t.0
refused_bad text OutOfMemory t = tt

pub refused_front : (text : List ℕ) (r : ParseRefusal) → IsRefused text r → IsFrontRefused text r
refused_front text (Bad bad) t = (told_is_bad text bad t.0, t.1)
refused_front text OutOfMemory t = tt

pub refused_only : (text more : List ℕ) (r : ParseRefusal) (w : Script) → IsRefused text r → IsScript w → text ≡ script_text w ++ more → r ≡ OutOfMemory
refused_only text more (Bad bad) w t f e = absurd (t.1 (only_more text more bad w t.0 f e).0)
refused_only text more OutOfMemory w t f e = refl

pub refused_told : (text : List ℕ) (r : ParseRefusal) (bad : BadLine) → IsRefused text r → IsBadLine text bad → (r ≡ Bad bad) ⊎ (r ≡ OutOfMemory)
refused_told text (Bad b) bad t p = inl (ap Bad (one_told text b bad t.0 (bad_is_told text bad p)))
refused_told text OutOfMemory bad t p = inr refl
