-- Counts packed into a word.
use Rattle.std.proofs.Common.{◌≡◌, ℕ, zero, suc, ◌+◌, ap, ◌∙◌, get_or, ◌/◌, ◌*◌, ◌%◌, ◌<◌, List, [], ◌∷◌, length, get_or, set, refl, arith, subst}
use Rattle.hall_rule.specs.Notes.{digit}
use Rattle.hall_rule.specs.Words.{pack, weight, word_for, Small}

-- one more at the place k
pub pack-more : (cs : List ℕ) (k n : ℕ) → k < length cs → n ≡ get_or cs k 0 + 1 → pack (set cs k n) ≡ pack cs + weight k
pack-more [] k n h e = absurd (omega arith)
pack-more (c ∷ cs) zero n h e = omega arith
pack-more (c ∷ cs) (suc k) n h e = omega (arith, pack-more cs k n (omega arith) e)

pub pack-below : (cs : List ℕ) → Small cs → pack cs < weight (length cs)
pack-below [] s = omega arith
pack-below (c ∷ cs) s = omega (arith, pack-below cs s.1, s.0)

-- two lists of one length with one number are one list
pub pack-injective : (cs ds : List ℕ) → length cs ≡ length ds → Small cs → Small ds → pack cs ≡ pack ds → cs ≡ ds
pack-injective [] [] l s t e = refl
pack-injective [] (d ∷ ds) l s t e = absurd (omega arith)
pack-injective (c ∷ cs) [] l s t e = absurd (omega arith)
pack-injective (c ∷ cs) (d ∷ ds) l s t e = let same : c ≡ d = omega (arith, s.0, t.0) in let rest : pack cs ≡ pack ds = omega (arith, s.0, t.0) in λ i. same i ∷ pack-injective cs ds (omega arith) s.1 t.1 rest i

pub holder-read : (h : ℕ) (cs : List ℕ) → h < 16 → word_for h cs % 16 ≡ h
holder-read h cs l = omega arith

pub holder-none : (h : ℕ) (cs : List ℕ) → h < 16 → word_for h cs % 16 ≡ 0 → h ≡ 0
holder-none h cs l e = omega arith

pub word-below : (h : ℕ) (cs : List ℕ) → h < 16 → length cs ≡ 8 → Small cs → word_for h cs < 2305843009213693952
word-below h cs l e s = let b : pack cs < weight 8 = subst (λ (k : ℕ). pack cs < weight k) e (pack-below cs s) in omega arith

-- a count is read off a word digit by digit
pub digit-pack : (cs : List ℕ) (k : ℕ) → Small cs → digit (pack cs) k ≡ get_or cs k 0
digit-pack [] zero s = refl
digit-pack [] (suc k) s = digit-pack [] k tt
digit-pack (c ∷ cs) zero s = omega (arith, s.0)
digit-pack (c ∷ cs) (suc k) s = let here : (c + 128 * pack cs) / 128 ≡ pack cs = omega (arith, s.0) in ap (λ (w : ℕ). digit w k) here ∙ digit-pack cs k s.1
