use Rattle.std.proofs.Common.{◌≡◌, ℕ, ◌*◌, ◌/◌, ◌^◌, ◌<◌, ◌≤◌, List, [], ◌∷◌, Option, Some, None, Result, Ok, length, get_or, sym, ap, ◌∙◌, add-zero, arith, decimal}
use Rattle.std.specs.Result.{result_ok}
use Rattle.std.specs.Str.Parse.{digits_value}
use Rattle.std.proofs.lemmas.Fmt.{decimal_is_IsNumeral}
use Rattle.std.proofs.lemmas.Nat.{div-mul-add}
use Rattle.engine.specs.Words.{AreSizes}

-- four words are these four
pub four_words : (words : List (List ℕ)) (a b c d : List ℕ) → length words ≡ 4 → get_or words 0 [] ≡ a → get_or words 1 [] ≡ b → get_or words 2 [] ≡ c → get_or words 3 [] ≡ d → words ≡ a ∷ b ∷ c ∷ d ∷ []
four_words [] a b c d n e f g h = absurd (omega arith)
four_words (w ∷ []) a b c d n e f g h = absurd (omega arith)
four_words (w ∷ x ∷ []) a b c d n e f g h = absurd (omega arith)
four_words (w ∷ x ∷ y ∷ []) a b c d n e f g h = absurd (omega arith)
four_words (w ∷ x ∷ y ∷ z ∷ []) a b c d n e f g h = cc
four_words (w ∷ x ∷ y ∷ z ∷ v ∷ rest) a b c d n e f g h = absurd (omega arith)

pub none_parsed : {E : Type 0} (r : Result ℕ E) (o : Option ℕ) (n : ℕ) → r ≡ Ok n → o ≡ result_ok r → o ≡ None → ⊥
none_parsed r o n p v w = let found : Some n ≡ None = sym (ap result_ok p) ∙ sym v ∙ w in cc

pub some_parsed : {E : Type 0} (r : Result ℕ E) (o : Option ℕ) (n m : ℕ) → r ≡ Ok n → o ≡ result_ok r → o ≡ Some m → m ≡ n
some_parsed r o n m p v w = let found : Some m ≡ Some n = sym w ∙ v ∙ ap result_ok p in cc

-- a word spells one number
pub decimal_one : (a b : ℕ) → a < 2 ^ 64 → b < 2 ^ 64 → decimal a ≡ decimal b → a ≡ b
decimal_one a b small_a small_b e = sym ((decimal_is_IsNumeral a small_a).1) ∙ ap (digits_value 10) e ∙ (decimal_is_IsNumeral b small_b).1

-- two words spell one pair of sizes
pub sizes_one : (v w : List ℕ) (x y b s : ℕ) → x < 2 ^ 32 → y < 2 ^ 32 → v ≡ decimal x → w ≡ decimal y → AreSizes v w b s → (b ≡ x) × (s ≡ y)
sizes_one v w x y b s small_x small_y ex ey sizes =
    (decimal_one b x (omega (arith, sizes.blocks_fit.1)) (omega arith) (sym sizes.blocks_is ∙ ex), decimal_one s y (omega (arith, sizes.shelf_fits.1)) (omega arith) (sym sizes.shelf_is ∙ ey))

-- the shelves of a namespace that they fill
pub shelves_are : (x y n : ℕ) → 1 ≤ y → x ≡ n * y → x / y ≡ n
shelves_are x y n some e = ap (λ z. z / y) (e ∙ sym (add-zero (n * y))) ∙ div-mul-add n y 0 some
