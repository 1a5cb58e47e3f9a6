use Rattle.std.proofs.Common.{◌≡◌, ℕ, ◌/◌, Bool, true, false, List, [], ◌∷◌, ◌++◌, Option, Some, None, length, map, replicate, refl, sym, ap, ◌∙◌}
use Rattle.std.specs.Prelude.{if◌then◌else◌, ◌==◌}
use Rattle.std.proofs.lemmas.Bool.{eqb-true}
use Rattle.nvm_model.specs.declared.script.Script.{Script}
use Rattle.engine.specs.Sizes.{sizes_of, first_difference, HaveSizes}

-- Pairs of which the first that differs is looked for.

none_if : (b : Bool) (rest all other : Option (ℕ × ℕ)) (p : ℕ × ℕ) → (rest ≡ None → all ≡ other) → (if b then rest else Some p) ≡ None → (if b then all else Some p) ≡ other
none_if true rest all other p then_is e = then_is e
none_if false rest all other p then_is e = cc

pub none_first : (xs ys : List (ℕ × ℕ)) → first_difference xs ≡ None → first_difference (xs ++ ys) ≡ first_difference ys
none_first [] ys e = refl
none_first (x ∷ xs) ys e = none_if (x.0 == x.1) (first_difference xs) (first_difference (xs ++ ys)) (first_difference ys) x (none_first xs ys) e

some_if : (b : Bool) (rest all : Option (ℕ × ℕ)) (p q : ℕ × ℕ) → (rest ≡ Some q → all ≡ Some q) → (if b then rest else Some p) ≡ Some q → (if b then all else Some p) ≡ Some q
some_if true rest all p q then_is e = then_is e
some_if false rest all p q then_is e = e

pub some_first : (xs ys : List (ℕ × ℕ)) (q : ℕ × ℕ) → first_difference xs ≡ Some q → first_difference (xs ++ ys) ≡ Some q
some_first [] ys q e = cc
some_first (x ∷ xs) ys q e = some_if (x.0 == x.1) (first_difference xs) (first_difference (xs ++ ys)) x q (some_first xs ys q) e

-- the same of the sizes of two hosts, for a script whose numbers were converted
pub some_host : (from to : List ℕ) (blocks shelf b s : ℕ) (q : ℕ × ℕ) → b ≡ blocks → s ≡ shelf → Some q ≡ first_difference (sizes_of from (b / s) s) →
    Some q ≡ first_difference (sizes_of from (blocks / shelf) shelf ++ sizes_of to (blocks / shelf) shelf)
some_host from to blocks shelf b s q same_blocks same_shelf e =
    let all = e ∙ ap (λ (x : ℕ). first_difference (sizes_of from (x / s) s)) same_blocks ∙ ap (λ (x : ℕ). first_difference (sizes_of from (blocks / x) x)) same_shelf in
    sym (some_first (sizes_of from (blocks / shelf) shelf) (sizes_of to (blocks / shelf) shelf) q (sym all))

pub none_host : (from to : List ℕ) (blocks shelf b s : ℕ) (r : Option (ℕ × ℕ)) → b ≡ blocks → s ≡ shelf → None ≡ first_difference (sizes_of from (b / s) s) → r ≡ first_difference (sizes_of to (b / s) s) →
    r ≡ first_difference (sizes_of from (blocks / shelf) shelf ++ sizes_of to (blocks / shelf) shelf)
none_host from to blocks shelf b s r same_blocks same_shelf e f =
    let all = e ∙ ap (λ (x : ℕ). first_difference (sizes_of from (x / s) s)) same_blocks ∙ ap (λ (x : ℕ). first_difference (sizes_of from (blocks / x) x)) same_shelf in
    let other = f ∙ ap (λ (x : ℕ). first_difference (sizes_of to (x / s) s)) same_blocks ∙ ap (λ (x : ℕ). first_difference (sizes_of to (blocks / x) x)) same_shelf in
    other ∙ sym (none_first (sizes_of from (blocks / shelf) shelf) (sizes_of to (blocks / shelf) shelf) (sym all))

-- where none differs, the first pair is of two equal numbers, and none of the others differs
equal_if : (b : Bool) (rest : Option (ℕ × ℕ)) (p : ℕ × ℕ) → (if b then rest else Some p) ≡ None → (b ≡ true) × (rest ≡ None)
equal_if true rest p e = (refl, e)
equal_if false rest p e = cc

all_same : (sizes : List ℕ) (shelf : ℕ) → first_difference (map (λ (size : ℕ). (size, shelf)) sizes) ≡ None → sizes ≡ replicate (length sizes) shelf
all_same [] shelf e = refl
all_same (x ∷ xs) shelf e =
    let h = equal_if (x == shelf) (first_difference (map (λ (size : ℕ). (size, shelf)) xs)) (x, shelf) e in
    ap (λ (n : ℕ). n ∷ xs) (eqb-true x shelf h.0) ∙ ap (λ (l : List ℕ). shelf ∷ l) (all_same xs shelf h.1)

none_differs : (sizes : List ℕ) (count shelf : ℕ) → first_difference (sizes_of sizes count shelf) ≡ None → sizes ≡ replicate count shelf
none_differs sizes count shelf e =
    let h = equal_if (length sizes == count) (first_difference (map (λ (size : ℕ). (size, shelf)) sizes)) (length sizes, count) e in
    all_same sizes shelf h.1 ∙ ap (λ (n : ℕ). replicate n shelf) (eqb-true (length sizes) count h.0)

-- where none of two lists of pairs differs, none of the first does
none_of_first : (xs ys : List (ℕ × ℕ)) → first_difference (xs ++ ys) ≡ None → first_difference xs ≡ None
none_of_first [] ys e = refl
none_of_first (x ∷ xs) ys e =
    let h = equal_if (x.0 == x.1) (first_difference (xs ++ ys)) x e in
    ap (λ (b : Bool). if b then first_difference xs else Some x) h.0 ∙ none_of_first xs ys h.1

-- hosts of the sizes of a script have its shelves
pub has_shelves : (s : Script) (from to : List ℕ) → HaveSizes s from to → from ≡ replicate (s.head.blocks / s.head.shelf) s.head.shelf
has_shelves s from to same =
    none_differs from (s.head.blocks / s.head.shelf) s.head.shelf (none_of_first (sizes_of from (s.head.blocks / s.head.shelf) s.head.shelf) (sizes_of to (s.head.blocks / s.head.shelf) s.head.shelf) same)

pub has_other_shelves : (s : Script) (from to : List ℕ) → HaveSizes s from to → to ≡ replicate (s.head.blocks / s.head.shelf) s.head.shelf
has_other_shelves s from to same =
    let first = sizes_of from (s.head.blocks / s.head.shelf) s.head.shelf in
    let second = sizes_of to (s.head.blocks / s.head.shelf) s.head.shelf in
    none_differs to (s.head.blocks / s.head.shelf) s.head.shelf (sym (none_first first second (none_of_first first second same)) ∙ same)
