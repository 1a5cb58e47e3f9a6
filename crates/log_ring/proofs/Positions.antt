-- Positions that have the same place in the ring, and the same phase tag.
use Rattle.std.proofs.Common.{◌≡◌, ◌≢◌, ⊎_elim, ℕ, zero, suc, ◌+◌, ◌-◌, ◌%◌, ◌<◌, ◌≤◌, Bool, not, true, false, ap, ◌∙◌, arith, refl, subst, sym}
use Rattle.std.proofs.Math.Nat.{add-mod_right, mod-add-mod}
use Rattle.std.proofs.lemmas.Bool.{cases_eq}
use Rattle.nvm_model.specs.Event.{phase_of}
use Rattle.nvm_model.proofs.PlaceLemmas.{phase_of-add, phase_of-kept, phase_of-wrapped}

pub record Alike (n a b : ℕ) : Type 0 where
  pub place : a % n ≡ b % n
  pub phase : phase_of n a ≡ phase_of n b

pub alike_both : {n a b c d : ℕ} → a ≡ c → b ≡ d → Alike n a b → Alike n c d
alike_both {n} {a} {b} {c} {d} e f is = subst (λ (x : ℕ). Alike n x d) e (subst (λ (y : ℕ). Alike n a y) f is)

pub alike_turned : (n a b : ℕ) → Alike n a b → Alike n b a
alike_turned n a b is = record { place = sym is.place; phase = sym is.phase }

alike_one : (n a b : ℕ) → 0 < n → Alike n a b → Alike n (a + 1) (b + 1)
alike_one n a b some is =
    let place : (a + 1) % n ≡ (b + 1) % n = sym (mod-add-mod a n 1) ∙ (ap (λ (k : ℕ). (k + 1) % n) is.place ∙ mod-add-mod b n 1) in
    record {
      place = place;
      phase = ⊎_elim
          (λ (e : (b + 1) % n ≡ 0). phase_of-wrapped n a some (place ∙ e) ∙ (ap not is.phase ∙ sym (phase_of-wrapped n b some e)))
          (λ (ne : (b + 1) % n ≢ 0). phase_of-kept n a some (λ e. ne (sym place ∙ e)) ∙ (is.phase ∙ sym (phase_of-kept n b some ne)))
          (cases_eq ((b + 1) % n) 0);
    }

pub alike_more : (n a b k : ℕ) → 0 < n → Alike n a b → Alike n (a + k) (b + k)
alike_more n a b zero some is = alike_both (omega arith) (omega arith) is
alike_more n a b (suc k) some is = alike_both (omega arith) (omega arith) (alike_one n (a + k) (b + k) some (alike_more n a b k some is))

not-not : (b : Bool) → not (not b) ≡ b
not-not true = refl
not-not false = refl

alike_turn : (n a : ℕ) → 0 < n → Alike n (a + n + n) a
alike_turn n a some = record {
  place = add-mod_right (a + n) n ∙ add-mod_right a n;
  phase = phase_of-add n (a + n) some ∙ (ap not (phase_of-add n a some) ∙ not-not (phase_of n a));
}

pub alike_less : (n a b k : ℕ) → 0 < n → k ≤ n + n → Alike n (a + k) (b + k) → Alike n a b
alike_less n a b k some few is =
    let j : ℕ = n + n - k in
    let far : Alike n (a + n + n) (b + n + n) = alike_both (omega (arith, few)) (omega (arith, few)) (alike_more n (a + k) (b + k) j some is) in
    record {
      place = sym (alike_turn n a some).place ∙ (far.place ∙ (alike_turn n b some).place);
      phase = sym (alike_turn n a some).phase ∙ (far.phase ∙ (alike_turn n b some).phase);
    }
