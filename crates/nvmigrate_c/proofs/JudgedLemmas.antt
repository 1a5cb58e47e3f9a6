-- One verdict is said of a script and what stands behind it.
use Rattle.std.proofs.Common.{◌≡◌, ◌⊎◌, ℕ, ◌-◌, Result, Ok, Err, List, ◌++◌, ◌∙◌, ⊎_elim, ap, drop, length, refl, subst, sym, take}
use Rattle.std.proofs.lemmas.List.{drop_at, take_rest}
use Rattle.nvm_model.specs.declared.script.Script.{Script}
use Rattle.nvm_model.specs.ScriptText.{script_text}
use Rattle.script.specs.declared.refusal.ParseRefusal.{ParseRefusal}
use Rattle.script.specs.declared.refusal.ParseRefusal.TheVariants.{OutOfMemory}
use Rattle.judge.specs.declared.verdict.Verdict.{Verdict}
use Rattle.judge.specs.Verdict.{IsVerdict}

not_ok : {A E : Type 0} (e : E) (x : A) → (Err e ≡ Ok x) → ⊥
not_ok e x is = absurd cc

pub ok_is : {A E : Type 0} (x y : A) → (let r : Result A E = Ok x in r ≡ Ok y) → x ≡ y
ok_is x y is = cc

-- the part of the text that is judged is the transcript
pub judged_part : (text transcript : List ℕ) (front : Script × ℕ) (s : Script) (v : Verdict) → front ≡ (s, length (script_text s)) → text ≡ script_text s ++ transcript → IsVerdict s transcript v
    → IsVerdict front.0 (take (length text - front.1) (drop front.1 text)) v
judged_part text transcript front s v read spelled said =
    let rest : take (length text - front.1) (drop front.1 text) ≡ transcript
    = take_rest text front.1 ∙ ap (λ (f : Script × ℕ). drop f.1 text) read ∙ ap (drop (length (script_text s))) spelled ∙ drop_at (script_text s) transcript (length (script_text s)) refl in
    subst (λ (t : List ℕ). IsVerdict front.0 t v) (sym rest) (subst (λ (f : Script × ℕ). IsVerdict f.0 transcript v) (sym read) said)

-- where a script was read, it is the script in front
pub read_is : (front : Script × ℕ) (s : Script) → (let r : Result (Script × ℕ) ParseRefusal = Ok front in (r ≡ Ok (s, length (script_text s))) ⊎ (r ≡ Err OutOfMemory)) → front ≡ (s, length (script_text s))
read_is front s read = ⊎_elim (λ is. ok_is front (s, length (script_text s)) is) (λ no. absurd (not_ok OutOfMemory front (sym no))) read

-- where none was, memory ran out
pub unread_is : {A B : Type 0} (e : ParseRefusal) (x : A) → (let r : Result A ParseRefusal = Err e in (r ≡ Ok x) ⊎ (r ≡ Err OutOfMemory)) → (let r : Result B ParseRefusal = Err e in r ≡ Err OutOfMemory)
unread_is e x read = ⊎_elim (λ no. absurd (not_ok e x no)) (λ is. cc) read
