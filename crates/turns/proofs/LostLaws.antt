use Rattle.std.proofs.Common.{◌≡◌, ℕ, zero, suc, ◌+◌, ◌*◌, ◌<◌, ◌≤◌, ⊎_elim, Bool, true, false, cond, List, [], ◌∷◌, ◌++◌, sym, ap, ◌∙◌, arith}
use Rattle.std.specs.Prelude.{◌==◌, replicate}
use Rattle.std.proofs.lemmas.Bool.{cases_eq, eq-eqb, ne_eqb}

-- When a queue of changes that is emptied after each copy loses one. In a list of what was done, true is a piece that changed
-- a block, and false a copy.

-- one was lost, where so many waited
abbrev pub is_lost : ℕ → ℕ → List Bool → Bool
is_lost cells waiting [] = false
is_lost cells waiting (true ∷ done) = cond (waiting == cells) true (is_lost cells (waiting + 1) done)
is_lost cells waiting (false ∷ done) = is_lost cells 0 done

abbrev pub changes : List Bool → ℕ
changes [] = 0
changes (true ∷ done) = 1 + changes done
changes (false ∷ done) = changes done

abbrev pub copies : List Bool → ℕ
copies [] = 0
copies (true ∷ done) = copies done
copies (false ∷ done) = 1 + copies done

-- only where there are more changes than cells
pub lost_only : (cells waiting : ℕ) (done : List Bool) → waiting ≤ cells → is_lost cells waiting done ≡ true → cells < waiting + changes done
lost_only cells waiting [] few lost = absurd cc
lost_only cells waiting (false ∷ done) few lost = omega (arith, lost_only cells 0 done (omega arith) lost)
lost_only cells waiting (true ∷ done) few lost =
    ⊎_elim (λ (is : waiting ≡ cells). omega (arith, is))
    (λ (other : waiting ≡ cells → ⊥). omega (arith, lost_only cells (waiting + 1) done (omega (arith, few, other)) (sym (ap (λ (b : Bool). cond b true (is_lost cells (waiting + 1) done)) (ne_eqb waiting cells other)) ∙ lost)))
    (cases_eq waiting cells)

one_more : (cells n : ℕ) → cells * (1 + n + 1) ≡ cells + cells * (n + 1)
one_more cells n = omega arith

-- always where they are more than the cells can hold with a copy between
pub lost_always : (cells waiting : ℕ) (done : List Bool) → waiting ≤ cells → is_lost cells waiting done ≡ false → waiting + changes done ≤ cells * (copies done + 1)
lost_always cells waiting [] few kept = omega (arith, few)
lost_always cells waiting (false ∷ done) few kept = omega (arith, few, one_more cells (copies done), lost_always cells 0 done (omega arith) kept)
lost_always cells waiting (true ∷ done) few kept =
    ⊎_elim (λ (is : waiting ≡ cells). let no = sym (ap (λ (b : Bool). cond b true (is_lost cells (waiting + 1) done)) (eq-eqb waiting cells is)) ∙ kept in absurd cc)
    (λ (other : waiting ≡ cells → ⊥). omega (arith, lost_always cells (waiting + 1) done (omega (arith, few, other)) (sym (ap (λ (b : Bool). cond b true (is_lost cells (waiting + 1) done)) (ne_eqb waiting cells other)) ∙ kept)))
    (cases_eq waiting cells)

-- exactly in the first case where the pieces come before all copies
pub lost_first : (cells waiting d c : ℕ) → waiting ≤ cells → cells < waiting + d → is_lost cells waiting (replicate d true ++ replicate c false) ≡ true
lost_first cells waiting zero c few more = absurd (omega (arith, few, more))
lost_first cells waiting (suc d) c few more =
    ⊎_elim (λ (is : waiting ≡ cells). ap (λ (b : Bool). cond b true (is_lost cells (waiting + 1) (replicate d true ++ replicate c false))) (eq-eqb waiting cells is))
    (λ (other : waiting ≡ cells → ⊥). ap (λ (b : Bool). cond b true (is_lost cells (waiting + 1) (replicate d true ++ replicate c false))) (ne_eqb waiting cells other)
    ∙ lost_first cells (waiting + 1) d c (omega (arith, few, other)) (omega (arith, more)))
    (cases_eq waiting cells)
