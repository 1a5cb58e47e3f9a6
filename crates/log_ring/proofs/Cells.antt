-- Words of a table, and what stands in a list of cells after one is written.
use Rattle.std.proofs.Common.{◌≡◌, ◌≢◌, ℕ, zero, suc, ◌+◌, ◌%◌, ◌<◌, ◌≤◌, List, [], ◌∷◌, ◌++◌, ap, ◌∙◌, arith, get_or, get_or-set_other, get_or-set_same, inl, inr, length, lt_of_not-le, min, set, subst, sym}
use Rattle.std.proofs.Math.Nat.{mod-lt}
use Rattle.std.proofs.lemmas.List.{get_or_append_left, get_or_push}
use mathlib.Core.Logic.{dite}
use mathlib.Core.Option.{some, some-injective, some-ne-none}
use native.Mathlib.Decide.{ℕ_discrete, dec_le}
use lib.ListN.{get_elem?}
use Rattle.nvm_model.specs.Event.{phase_of}
use Rattle.nvm_model.proofs.PlaceLemmas.{mods-apart}
use Rattle.data_queue.specs.Change.{change_bytes}
use Rattle.log_rule.specs.Places.{tag}
use Rattle.log_ring.specs.Words.{change_in}
use Rattle.log_ring.specs.Ends.{IsLast, WritesBack, first_back}

pub value_at : (l : List ℕ) (i x : ℕ) → get_elem? l i ≡ some x → get_or l i 0 ≡ x
value_at [] i x e = absurd (some-ne-none x (sym e))
value_at (y ∷ ys) zero x e = some-injective y x e
value_at (y ∷ ys) (suc i) x e = value_at ys i x e

-- the first position from the head on with no entry, from what a loop has seen
pub stops_at : (ws : List ℕ) (n head tail p x : ℕ) → head ≤ p → p < tail → p < head + n → ((q : ℕ) → head ≤ q → q < p → tag (get_or ws (q % n + 3) 0) ≡ phase_of n q)
    → get_elem? ws (p % n + 3) ≡ some x → tag x ≢ phase_of n p → IsLast ws n head tail p
stops_at ws n head tail p x from below near tagged is other = record {
  from = from;
  below = omega (arith, below);
  near = omega (arith, near);
  tagged = tagged;
  stops = inr (inr (λ e. other (ap tag (sym (value_at ws (p % n + 3) x is)) ∙ e)));
}

pub tagged_more : (ws : List ℕ) (n head p x : ℕ) → ((q : ℕ) → head ≤ q → q < p → tag (get_or ws (q % n + 3) 0) ≡ phase_of n q) → get_elem? ws (p % n + 3) ≡ some x → tag x ≡ phase_of n p
    → (q : ℕ) → head ≤ q → q < p + 1 → tag (get_or ws (q % n + 3) 0) ≡ phase_of n q
tagged_more ws n head p x tagged is here q from below = dite (ℕ_discrete q p)
    (λ e. subst (λ (k : ℕ). tag (get_or ws (k % n + 3) 0) ≡ phase_of n k) (sym e) (ap tag (value_at ws (p % n + 3) x is) ∙ here))
    (λ ne. tagged q from (omega (arith, below, ne)))

pub ends_at : (ws : List ℕ) (n head tail : ℕ) → head ≤ tail → ((q : ℕ) → head ≤ q → q < min tail (head + n) → tag (get_or ws (q % n + 3) 0) ≡ phase_of n q) → IsLast ws n head tail (min tail (head + n))
ends_at ws n head tail order tagged = record {
  from = omega arith;
  below = omega arith;
  near = omega arith;
  tagged = tagged;
  stops = dite (dec_le tail (head + n)) (λ le. inl (omega (arith, le))) (λ gt. inr (inl (omega (arith, lt_of_not-le gt))));
}

module _ {A : Type 0} where
  -- one more entry is written into a ring's cells
  pub writes_more : (n first p : ℕ) (G : ℕ → A) (d x : A) (old was : List A) → length was ≡ n → p < first + n → 0 < n → first ≤ p
      → ((q : ℕ) → first ≤ q → q < p → get_or was (q % n) d ≡ G q) → x ≡ G p → (q : ℕ) → first ≤ q → q < p + 1 → get_or (set was (p % n) x) (q % n) d ≡ G q
  writes_more n first p G d x old was long near pos from written here q le lt = dite (ℕ_discrete q p)
      (λ e. subst (λ (k : ℕ). get_or (set was (p % n) x) (k % n) d ≡ G k) (sym e) (get_or-set_same was (p % n) x d (omega (arith, long, mod-lt p pos)) ∙ here))
      (λ ne. get_or-set_other was (p % n) (q % n) x d (λ e. mods-apart n q p (omega (arith, ne, lt)) (omega (arith, near, le)) e) ∙ written q le (omega (arith, ne, lt)))

  pub others_more : (n first p i : ℕ) (d x : A) (old was : List A) → first ≤ p
      → (((q : ℕ) → first ≤ q → q < p → q % n ≢ i) → get_or was i d ≡ get_or old i d) → ((q : ℕ) → first ≤ q → q < p + 1 → q % n ≢ i) → get_or (set was (p % n) x) i d ≡ get_or old i d
  others_more n first p i d x old was from same apart = get_or-set_other was (p % n) i x d (λ e. apart p from (omega arith) (sym e)) ∙ same (λ q le lt. apart q le (omega (arith, lt)))

-- a word more stands behind the others
pub pushed_at : (ws : List ℕ) (x i k y : ℕ) → length ws ≡ i + 3 → k < i + 1 → (k < i → get_or ws (k + 3) 0 ≡ y) → (k ≡ i → x ≡ y) → get_or (ws ++ x ∷ []) (k + 3) 0 ≡ y
pushed_at ws x i k y long lt old new = dite (ℕ_discrete k i)
    (λ e. get_or_push ws x 0 (k + 3) (omega (arith, long, e)) ∙ new e)
    (λ ne. get_or_append_left ws (x ∷ []) 0 (k + 3) (omega (arith, long, lt, ne)) ∙ old (omega (arith, lt, ne)))

pub writes_back : (ws : List ℕ) (from last n : ℕ) (old new : List (List ℕ)) → n ≡ length old
    → ((p : ℕ) → first_back n from last ≤ p → p < last → get_or new (p % n) [] ≡ change_bytes (change_in (get_or ws (p % n + 3) 0)) (phase_of n p))
    → ((i : ℕ) → ((p : ℕ) → first_back n from last ≤ p → p < last → p % n ≢ i) → get_or new i [] ≡ get_or old i []) → WritesBack ws from last old new
writes_back ws from last n old new e = subst (λ (n : ℕ). ((p : ℕ) → first_back n from last ≤ p → p < last → get_or new (p % n) [] ≡ change_bytes (change_in (get_or ws (p % n + 3) 0)) (phase_of n p))
    → ((i : ℕ) → ((p : ℕ) → first_back n from last ≤ p → p < last → p % n ≢ i) → get_or new i [] ≡ get_or old i []) → WritesBack ws from last old new) (sym e)
    (λ written others. record { written = written; others = others })
