use Rattle.std.proofs.Common.{◌≡◌, ℕ, ◌+◌, ◌-◌, List, ◌++◌, Option, Some, None, length, take, drop, append_assoc, arith, refl, sym, ap, ◌∙◌, length-drop}
use Rattle.std.proofs.Math.Seq.{take-add}
use Rattle.std.proofs.lemmas.List.{take_all}
use Rattle.mig_base.specs.Stream.{with_more}

-- after a front of a piece was taken, and then a front of its rest, a longer front was taken
with_more-drop : (o : Option (List ℕ)) (piece : List ℕ) (a n : ℕ) → with_more (take n (drop a piece)) (with_more (take a piece) o) ≡ with_more (take (a + n) piece) o
with_more-drop None piece a n = refl
with_more-drop (Some taken) piece a n =
    ap Some (append_assoc taken (take a piece) (take n (drop a piece)) ∙ ap (λ x. taken ++ x) (sym (take-add a n piece)))

-- the same, with the rest as `&piece[a..]`
pub with_more-rest : (o q now : Option (List ℕ)) (piece : List ℕ) (a n : ℕ) → q ≡ with_more (take a piece) o → now ≡ with_more (take n (take (length piece - a) (drop a piece))) q → now ≡ with_more (take (a + n) piece) o
with_more-rest o q now piece a n before after =
    after ∙ ap (λ x. with_more (take n x) q) (take_all (length piece - a) (drop a piece) (omega (arith, length-drop a piece))) ∙ ap (λ x. with_more (take n (drop a piece)) x) before ∙ with_more-drop o piece a n
