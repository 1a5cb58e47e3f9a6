-- What stands in the words of a log once no seat is out, up to the first position that was given up.
use Rattle.std.proofs.Common.{◌≡◌, ◌≢◌, ◌⊎◌, ℕ, zero, suc, ◌+◌, ◌-◌, ◌%◌, ◌<◌, ◌≤◌, List, [], ◌∷◌, ap, ◌∙◌, arith, get_or, inl, inr, length, lt_of_not-le, subst, sym, ⊎_elim}
use Rattle.std.proofs.Math.Nat.{add-mod_right}
use mathlib.Core.Logic.{dite}
use mathlib.Core.Option.{some-injective, some-ne-none}
use native.Mathlib.Decide.{ℕ_discrete, dec_le}
use Rattle.nvm_model.specs.Event.{phase_of}
use Rattle.log_rule.specs.declared.view.Lost.{Lost}
use Rattle.log_rule.specs.declared.view.View.{View}
use Rattle.log_rule.specs.Places.{Place, Free, GivenUp, IsPublished, tag, word_or}
use Rattle.log_rule.specs.Rule.{AreLost, IsTold, TellsLost, Whole}
use Rattle.log_rule.proofs.Looks.{at_place}
use Rattle.log_rule.proofs.PlaceLemmas.{few_kinds, hollow, is_filled, kind, no_published, owner, published_is, word_is}
use Rattle.log_ring.specs.Words.{Fits, IsEntryWord}
use Rattle.log_ring.specs.Ends.{IsLast}

some_told : (p : ℕ) (xs : List Lost) → TellsLost p xs → 0 < length xs
some_told p [] t = absurd t
some_told p (x ∷ xs) t = omega arith

told_by : (v : View) (p : ℕ) → IsTold (v ∷ []) p → 0 < length v.lost
told_by v p (zero, u, at, tells) = some_told p v.lost (subst (λ (x : View). TellsLost p x.lost) (sym (some-injective v u at)) tells)
told_by v p (suc j, u, at, tells) = absurd (some-ne-none u (sym at))

some_lost : (n : ℕ) (P : ℕ → Place) (xs : List Lost) → 0 < length xs → AreLost n P xs → (p : ℕ) × (P p ≡ GivenUp)
some_lost n P [] pos are = absurd (omega (arith, pos))
some_lost n P (x ∷ xs) pos are = (x.at, are.0)

not_given : (x : Place) → IsPublished x → x ≡ GivenUp → ⊥
not_given x is e = no_published x is (omega (arith, ap kind e))

module _ (n h t : ℕ) (start : ℕ → ℕ) (v : View) (ws : List ℕ) (f : Fits n h t) (w : Whole n h t start IsEntryWord v ws) (last : ℕ) (is : IsLast ws n (get_or ws 1 0) (get_or ws 0 0) last) where
  pub filled : (p : ℕ) → p < last → IsPublished (w.places p)
  filled p lt = dite (dec_le (get_or ws 1 0) p)
      (λ le. ⊎_elim (λ (a : IsPublished (w.places p) × (word_or (w.places p) 0 ≡ get_or ws (p % n + 3) 0) × IsEntryWord (get_or ws (p % n + 3) 0) × (tag (get_or ws (p % n + 3) 0) ≡ phase_of n p)). a.0)
      (λ (ne : tag (get_or ws (p % n + 3) 0) ≢ phase_of n p). absurd (ne (is.tagged p le lt)))
      (at_place n h t start IsEntryWord w.holds p (get_or ws (p % n + 3) 0) le (omega (arith, lt, is.near)) (w.holds.cells p le (omega (arith, lt, is.near))) f.some f.far f.near))
      (λ gt. w.holds.below p (lt_of_not-le gt))

  -- a published last position would be tagged
  last_tagged : IsPublished (w.places last) → (last < get_or ws 1 0 + n) × (tag (get_or ws (last % n + 3) 0) ≡ phase_of n last)
  last_tagged there =
      let x : Place = w.places last in
      let at = published_is x there in
      let near = w.holds.near last (owner x) (word_or x 0) at in
      let word : get_or ws (last % n + 3) 0 ≡ word_or x 0 = w.holds.cells last is.from near ∙ word_is x (word_or (w.places (last - n)) 0) 0 there in
      (near, ap tag word ∙ w.holds.phases last (owner x) (word_or x 0) at (omega (arith, f.near, w.holds.head.0, is.from)))

  pub over : (last ≡ get_or ws 0 0) ⊎ (w.places last ≡ GivenUp)
  over = dite (dec_le (get_or ws 0 0) last)
      (λ le. inl (omega (arith, le, is.below)))
      (λ gt. inr (⊎_elim
      (λ (there : IsPublished (w.places last)). absurd (
      let g = last_tagged there in ⊎_elim (λ (e : last ≡ get_or ws 0 0). gt (omega (arith, e)))
      (λ (rest : (last ≡ get_or ws 1 0 + n) ⊎ (tag (get_or ws (last % n + 3) 0) ≢ phase_of n last)). ⊎_elim (λ (e : last ≡ get_or ws 1 0 + n). omega (arith, e, g.0)) (λ (ne : tag (get_or ws (last % n + 3) 0) ≢ phase_of n last). ne g.1) rest) is.stops))
      (λ (g : w.places last ≡ GivenUp). g)
      (w.filled last (lt_of_not-le gt))))

  pub told : w.places last ≡ GivenUp → 0 < length v.lost
  told e = told_by v last (w.holds.given last e).1

  pub late : w.places last ≡ GivenUp → h + n ≤ last
  late e = (w.holds.given last e).0

  pub whole : v.lost ≡ [] → last ≡ get_or ws 0 0
  whole none = ⊎_elim (λ (e : last ≡ get_or ws 0 0). e) (λ (g : w.places last ≡ GivenUp). absurd (omega (arith, told g, ap length none))) over

  pub ended : 0 < length v.lost → w.places last ≡ GivenUp
  ended some-lost = ⊎_elim
      (λ (e : last ≡ get_or ws 0 0).
      let x = some_lost n w.places v.lost some-lost w.lost in
      absurd (dite (dec_le (get_or ws 0 0) x.0) (λ le. omega (arith, ap kind (sym x.1 ∙ w.holds.beyond x.0 le))) (λ gt. not_given (w.places x.0) (filled x.0 (omega (arith, e, lt_of_not-le gt))) x.1)))
      (λ (g : w.places last ≡ GivenUp). g) over

  pub order : t ≤ last
  order = ⊎_elim (λ (e : last ≡ get_or ws 0 0). omega (arith, e, w.holds.tail)) (λ (g : w.places last ≡ GivenUp). omega (arith, late g, f.near)) over

  -- the word that was posted at a position stands in its cell, unless it may be that of the position a turn on
  pub word_there : (q : ℕ) → q < last → last ≤ q + n → (get_or ws 1 0 ≤ q) ⊎ (last ≡ get_or ws 0 0) → get_or ws (q % n + 3) 0 ≡ word_or (w.places q) 0
  word_there q lt near which = dite (dec_le (get_or ws 1 0) q)
      (λ le. w.holds.cells q le (omega (arith, lt, is.near)) ∙ word_is (w.places q) (word_or (w.places (q - n)) 0) 0 (filled q lt))
      (λ gt.
      let before = lt_of_not-le gt in
      let e : last ≡ get_or ws 0 0 = ⊎_elim (λ (le : get_or ws 1 0 ≤ q). absurd (gt le)) (λ (e : last ≡ get_or ws 0 0). e) which in
      let free : w.places (q + n) ≡ Free = w.holds.beyond (q + n) (omega (arith, e, near)) in
      let there = w.holds.cells (q + n) (omega (arith, is.from, near)) (omega (arith, before)) in
      ap (λ (k : ℕ). get_or ws (k + 3) 0) (sym (add-mod_right q n)) ∙ (there ∙ (ap (λ (z : Place). word_or z (word_or (w.places (q + n - n)) 0)) free ∙ ap (λ (k : ℕ). word_or (w.places k) 0) (the (q + n - n ≡ q) (omega arith)))))
    where
      the : (A : Type 0) → A → A
      the A a = a

  sound_at : (p : ℕ) → h ≤ p → IsPublished (w.places p) → IsEntryWord (word_or (w.places p) 0)
  sound_at p from there = (w.holds.sound p (owner (w.places p)) (word_or (w.places p) 0) (published_is (w.places p) there) from).0

  pub good_word : (q : ℕ) → h ≤ q → q < last → IsEntryWord (word_or (w.places q) 0)
  good_word q from lt = sound_at q from (filled q lt)

  -- whichever it is, it is an entry
  pub sound_there : (q : ℕ) → h ≤ q → q < last → last ≤ q + n → IsEntryWord (get_or ws (q % n + 3) 0)
  sound_there q from lt near = dite (dec_le (get_or ws 1 0) q)
      (λ le. subst IsEntryWord (sym (word_there q lt near (inl le))) (good_word q from lt))
      (λ gt.
      let before = lt_of_not-le gt in
      let x : Place = w.places (q + n) in
      let old : w.places (q + n - n) ≡ w.places q = ap w.places (the (q + n - n ≡ q) (omega arith)) in
      let there : get_or ws (q % n + 3) 0 ≡ word_or x (word_or (w.places (q + n - n)) 0) = ap (λ (k : ℕ). get_or ws (k + 3) 0) (sym (add-mod_right q n)) ∙ w.holds.cells (q + n) (omega (arith, is.from, near)) (omega (arith, before)) in
      dite (ℕ_discrete (kind x) 3)
      (λ full. let yes-there = is_filled x full in subst IsEntryWord (sym (there ∙ word_is x (word_or (w.places (q + n - n)) 0) 0 yes-there)) (sound_at (q + n) (omega (arith, from)) yes-there))
      (λ few. subst IsEntryWord (sym (there ∙ (hollow x (word_or (w.places (q + n - n)) 0) (few_kinds x few) ∙ ap (λ (z : Place). word_or z 0) old))) (good_word q from lt)))
    where
      the : (A : Type 0) → A → A
      the A a = a
