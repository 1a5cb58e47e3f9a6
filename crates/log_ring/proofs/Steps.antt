-- What a seat knows after each call.
use Rattle.std.proofs.Common.{◌≡◌, ◌≢◌, ℕ, ◌+◌, ◌-◌, [], ◌∷◌, ◌++◌, ap, ap₂, ◌∙◌, arith, sym}
use mathlib.Core.Option.{none}
use Rattle.atomic_table.specs.Table.{Me, step}
use Rattle.nvm_model.specs.Event.{phase_of}
use Rattle.log_rule.specs.declared.view.View.{View}
use Rattle.log_rule.specs.Places.{entry, tag}
use Rattle.log_rule.specs.Plays.{drawing, finding, found, looking, losing, missing, posting, taking}
use Rattle.log_ring.specs.Words.{IsEntryWord}
use Rattle.log_ring.specs.Seats.{with_entry, with_loss, with_none, with_word}

back : (p : ℕ) → p + 1 - 1 ≡ p
back p = omega arith

pub posting_is : (v : View) (p head w : ℕ) → posting (looking (drawing v p) head) w ≡ with_entry v p w
posting_is v p head w = ap (λ (k : ℕ). record v { pending = 0; head = 0; budget = v.budget - 1; posted = v.posted ++ entry k w ∷ [] }) (back p)

pub losing_is : (v : View) (p head : ℕ) → losing (looking (drawing v p) head) ≡ with_loss v p head
losing_is v p head = ap₂ (λ (k i : ℕ). record v { pending = 0; head = 0; budget = v.budget - 1; lost = v.lost ++ record { at = k; head = i } ∷ [] }) (back p) (back head)

pub taking_is : (v : View) (head w : ℕ) → taking (finding (looking v head) w) ≡ with_word v w
taking_is v head w = ap (λ (k : ℕ). record v { head = 0; seen = 0; taken = v.taken ++ k ∷ [] }) (back w)

pub missing_is : (v : View) (head w : ℕ) → missing (looking v head) w ≡ with_none v head w
missing_is v head w = ap (λ (k : ℕ). record v { head = 0; empty = v.empty ++ record { head = k; word = w } ∷ [] }) (back head)

module _ {S : Type 0} where
  pub looked_is : (v : View) (p head : ℕ) (m k l : Me S View) → m.0 ≡ v → k ≡ (drawing m.0 p, m.1) → l ≡ (looking k.0 head, k.1) → l ≡ (looking (drawing v p) head, m.1)
  looked_is v p head m k l e f g = g ∙ (ap (λ (x : Me S View). (looking x.0 head, x.1)) f ∙ ap (λ (x : View). (looking (drawing x p) head, m.1)) e)

  -- what the load of the cell at the head tells
  pub sees : (n head r : ℕ) (m l k : Me S View) → m.0.cells ≡ n → l ≡ (looking m.0 head, m.1) → found IsEntryWord (step 0 0 0 0 none) l r k
      → (tag r ≡ phase_of n head → (k ≡ (finding (looking m.0 head) r, m.1)) × IsEntryWord r) × (tag r ≢ phase_of n head → k ≡ (missing (looking m.0 head) r, m.1))
  sees n head r m l k cells is tells =
      let same : phase_of l.0.cells (l.0.head - 1) ≡ phase_of n head = ap (λ (x : Me S View). phase_of x.0.cells (x.0.head - 1)) is ∙ ap₂ (λ (i j : ℕ). phase_of i j) cells (back head) in (
        (λ e. let t = tells.0 (e ∙ sym same) in (t.0 ∙ ap (λ (x : Me S View). (finding x.0 r, x.1)) is, t.1)),
        (λ ne. tells.1 (λ e. ne (e ∙ same)) ∙ ap (λ (x : Me S View). (missing x.0 r, x.1)) is),
      )
