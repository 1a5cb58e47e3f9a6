-- Texts as lists of lines, and what is read line by line.
use Rattle.std.proofs.Common.{◌≡◌, ℕ, ◌⊎◌, List, [], ◌∷◌, ◌++◌, Some, refl, sym, ap, subst, ◌∙◌, append_assoc, inl, inr}
use Rattle.std.specs.List.{AllByRecursion}
use Rattle.script.specs.Words.{cut_at}
use Rattle.script.specs.Lines.{State, step, run}
use Rattle.script.specs.BadLine.{lined, HasNoFeed}
use Rattle.script.proofs.WordLaws.{bind_some, bind_step, some_is, cut_again}

abbrev pub AreLines : List (List ℕ) → Type 0
AreLines lines = AllByRecursion HasNoFeed lines

pub lined_append : (xs ys : List (List ℕ)) → lined (xs ++ ys) ≡ lined xs ++ lined ys
lined_append [] ys = refl
lined_append (x ∷ xs) ys = ap (λ (t : List ℕ). (x ++ 10 ∷ []) ++ t) (lined_append xs ys) ∙ sym (append_assoc (x ++ 10 ∷ []) (lined xs) (lined ys))

pub lines_append : (xs ys : List (List ℕ)) → AreLines xs → AreLines ys → AreLines (xs ++ ys)
lines_append [] ys f g = g
lines_append (x ∷ xs) ys f g = (f.0, lines_append xs ys f.1 g)

pub lines_behind : (xs ys : List (List ℕ)) → AreLines (xs ++ ys) → AreLines ys
lines_behind [] ys f = f
lines_behind (x ∷ xs) ys f = lines_behind xs ys f.1

-- the first line of a text is one
pub same_line : (x y a b : List ℕ) → HasNoFeed x → HasNoFeed y → x ++ 10 ∷ a ≡ y ++ 10 ∷ b → (x ≡ y) × (a ≡ b)
same_line x y a b f g e =
    let both : (x, a) ≡ (y, b) = some_is (x, a) (y, b) (sym (cut_again 10 x a f) ∙ ap (cut_at 10) e ∙ cut_again 10 y b g) in
    (ap (λ (p : List ℕ × List ℕ). p.0) both, ap (λ (p : List ℕ × List ℕ). p.1) both)

pub first_line : (x : List ℕ) (xs : List (List ℕ)) (rest : List ℕ) → lined (x ∷ xs) ++ rest ≡ x ++ 10 ∷ (lined xs ++ rest)
first_line x xs rest = append_assoc (x ++ 10 ∷ []) (lined xs) rest ∙ append_assoc x (10 ∷ []) (lined xs ++ rest)

pub no_feed_line : (rest x after : List ℕ) → HasNoFeed rest → HasNoFeed x → rest ≡ x ++ 10 ∷ after → ⊥
no_feed_line rest x after none f e = let both = sym none ∙ (ap (cut_at 10) e ∙ cut_again 10 x after f) in absurd cc

-- the lines of one go on the other's
pub record Longer (xs ys : List (List ℕ)) (a b : List ℕ) : Type 0 where
  pub more : List (List ℕ)
  pub lines : ys ≡ xs ++ more
  pub rest : a ≡ lined more ++ b

longer_both : (x y : List ℕ) (xs ys : List (List ℕ)) (a b : List ℕ) → x ≡ y → Longer xs ys a b → Longer (x ∷ xs) (y ∷ ys) a b
longer_both x y xs ys a b e l = record { more = l.more; lines = ap (λ (t : List ℕ). t ∷ ys) (sym e) ∙ ap (λ (ts : List (List ℕ)). x ∷ ts) l.lines; rest = l.rest }

pub which_longer : (xs ys : List (List ℕ)) (a b : List ℕ) → AreLines xs → AreLines ys → lined xs ++ a ≡ lined ys ++ b → Longer xs ys a b ⊎ Longer ys xs b a
which_longer [] ys a b f g e = inl (record { more = ys; lines = refl; rest = e })
which_longer (x ∷ xs) [] a b f g e = inr (record { more = x ∷ xs; lines = refl; rest = sym e })
which_longer (x ∷ xs) (y ∷ ys) a b f g e =
    let s = same_line x y (lined xs ++ a) (lined ys ++ b) f.0 g.0 (sym (first_line x xs a) ∙ e ∙ first_line y ys b) in
    elim (which_longer xs ys a b f.1 g.1 s.1) [
      | inl l ↦ inl (longer_both x y xs ys a b s.0 l)
      | inr l ↦ inr (longer_both y x ys xs b a (sym s.0) l)
    ]

-- ---- what is read

pub run_parts : (s : State) (xs ys : List (List ℕ)) (u : State) → run s (xs ++ ys) ≡ Some u → (t : State) × (run s xs ≡ Some t) × (run t ys ≡ Some u)
unfolding run
run_parts s [] ys u e = (s, refl, e)
run_parts s (x ∷ xs) ys u e =
    let t = bind_some (step s x) _ u e in
    let r = run_parts t.0 xs ys u t.2 in
    (r.0, bind_step (step s x) _ t.0 (Some r.0) t.1 r.1, r.2)

pub run_more : (s : State) (xs ys : List (List ℕ)) (t u : State) → run s xs ≡ Some t → run t ys ≡ Some u → run s (xs ++ ys) ≡ Some u
unfolding run
run_more s [] ys t u e g = let same : s ≡ t = some_is s t e in subst (λ (r : State). run r ys ≡ Some u) (sym same) g
run_more s (x ∷ xs) ys t u e g =
    let a = bind_some (step s x) _ t e in
    bind_step (step s x) _ a.0 (Some u) a.1 (run_more a.0 xs ys t u a.2 g)

pub run_one : (s : State) (x : List ℕ) (t : State) → step s x ≡ Some t → run s (x ∷ []) ≡ Some t
unfolding run
run_one s x t e = bind_step (step s x) _ t (Some t) e refl

pub run_first : (s : State) (x : List ℕ) (xs : List (List ℕ)) (u : State) → run s (x ∷ xs) ≡ Some u → (t : State) × (step s x ≡ Some t) × (run t xs ≡ Some u)
unfolding run
run_first s x xs u e = bind_some (step s x) _ u e

pub run_none : (s u : State) → run s [] ≡ Some u → s ≡ u
unfolding run
run_none s u e = some_is s u e
