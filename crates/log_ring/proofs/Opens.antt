-- What a queue's cells say of the positions with which it is opened.
use Rattle.std.proofs.Common.{◌≡◌, ℕ, ◌+◌, ◌-◌, ◌*◌, ◌%◌, ◌<◌, ◌≤◌, Bool, not, true, false, cond, Some, List, [], ap, ap₂, ◌∙◌, arith, get_or, length, lt_of_not-le, refl, slice_get, slice_index_or, subst, sym}
use Rattle.std.proofs.lemmas.Bool.Decides.{nat_tests}
use Rattle.std.proofs.Math.Nat.{add-mod_right, add-mul-mod_self_left, mod-eq_of_lt, mod-lt}
use Rattle.std.proofs.lemmas.Option.{slice_get-get_or}
use mathlib.Core.Logic.{dite}
use native.Mathlib.Decide.{dec_le}
use Rattle.atomic_table.specs.Table.{opening}
use Rattle.nvm_model.specs.Event.{phase_of}
use Rattle.nvm_model.proofs.PlaceLemmas.{phase_of-add, phase_of-first}
use Rattle.data_queue.specs.declared.change.Change.{Change}
use Rattle.data_queue.specs.declared.places.Places.{Places}
use Rattle.data_queue.specs.Change.{IsChange, change_bytes}
use Rattle.data_queue.specs.Log.{HasLog, IsLog, QueueState}
use Rattle.data_queue.specs.Places.{ArePlaces, queue_of}
use Rattle.log_rule.specs.Places.{tag}
use Rattle.log_rule.specs.Plays.{opener}
use Rattle.log_rule.specs.Rule.{IsLogTable}
use Rattle.log_rule.proofs.Ends.{opens}
use Rattle.log_ring.specs.Words.{AreWords, Fits, IsEntryWord, IsOpened, change_in, entry_word, tail_for}
use Rattle.log_ring.proofs.Positions.{Alike, alike_both, alike_less}

pub word_change : (c : Change) (phase : Bool) → IsChange c → change_in (entry_word c phase) ≡ c
word_change c true is = ap₂ (λ (first count : ℕ). record { span = record { first = first; count = count } }) (omega (arith, is.first, is.few)) (omega (arith, is.first, is.few))
word_change c false is = ap₂ (λ (first count : ℕ). record { span = record { first = first; count = count } }) (omega (arith, is.first, is.few)) (omega (arith, is.first, is.few))

pub word_tag : (c : Change) (phase : Bool) → IsChange c → tag (entry_word c phase) ≡ phase
word_tag c true is = grind (arith, nat_tests)
word_tag c false is = let f = is.first in let k = is.few in grind (arith, nat_tests)

between : (phase : Bool) (t next n : ℕ) → t ≡ next + n * cond phase 2 3 → (next + n * 2 ≤ t) × (t ≤ next + n * 3)
between true t next n e = omega (arith, e)
between false t next n e = omega (arith, e)

pub opened : (places : Places) (q : QueueState) (n h t w : ℕ) (start : ℕ → ℕ) → queue_of places q.cells ≡ q → ArePlaces (length q.cells) places → n ≡ length q.cells → t ≡ places.next + n * cond places.phase 2 3
    → w ≡ places.waiting → h ≡ t - w → AreWords q start → IsOpened q n h t start
opened places q n h t w start is are size tail waits head words =
    let waiting : places.waiting ≡ q.waiting = ap (λ (x : QueueState). x.waiting) is in
    let b = between places.phase t places.next n tail in
    record {
      cells_are = size;
      tail_is = tail ∙ (ap (λ (k : ℕ). places.next + k * cond places.phase 2 3) size ∙ ap (λ (x : QueueState). x.next + length q.cells * cond x.phase 2 3) is);
      head_is = omega (arith, head, waits, waiting, are.waiting, b.0, size);
      words = words;
    }

pub fits : (places : Places) (q : QueueState) (n h t : ℕ) (start : ℕ → ℕ) → queue_of places q.cells ≡ q → ArePlaces (length q.cells) places → IsOpened q n h t start → Fits n h t
fits places q n h t start is are o =
    let b = between q.phase t q.next (length q.cells) o.tail_is in
    let waiting : places.waiting ≡ q.waiting = ap (λ (x : QueueState). x.waiting) is in
    let next : places.next ≡ q.next = ap (λ (x : QueueState). x.next) is in
    record {
      some = omega (arith, o.cells_are, are.some);
      few = omega (arith, o.cells_are, are.few);
      far = omega (arith, o.cells_are, o.head_is, are.waiting, waiting, b.0);
      order = omega (arith, o.head_is);
      near = omega (arith, o.cells_are, o.head_is, are.waiting, waiting);
      small = omega (arith, are.few, are.next, next, b.1);
    }

twice : (n k : ℕ) → 0 < n → k < n → phase_of n (k + n + n) ≡ true
twice n k some lt = phase_of-add n (k + n) some ∙ (ap not (phase_of-add n k some) ∙ ap (λ (b : Bool). not (not b)) (phase_of-first n k lt))

-- the tail's phase tag is the queue's
tail_phase : (n k : ℕ) (phase : Bool) → 0 < n → k < n → phase_of n (k + n * cond phase 2 3) ≡ phase
tail_phase n k true some lt = let e : k + n * 2 ≡ k + n + n = omega arith in ap (phase_of n) e ∙ twice n k some lt
tail_phase n k false some lt = let e : k + n * 3 ≡ k + n + n + n = omega arith in ap (phase_of n) e ∙ (phase_of-add n (k + n + n) some ∙ ap not (twice n k some lt))

pub tail_alike : (q : QueueState) (list : List Change) (taken : ℕ) → 0 < length q.cells → IsLog q list taken → Alike (length q.cells) (tail_for q) (length list)
tail_alike q list taken some log =
    let n = length q.cells in
    let lt : q.next < n = omega (arith, log.next, mod-lt (length list) some) in
    record {
      place = add-mul-mod_self_left q.next n (cond q.phase 2 3) ∙ (mod-eq_of_lt lt ∙ log.next);
      phase = tail_phase n q.next q.phase some lt ∙ log.phase;
    }

-- what a position has that the queue was opened with
pub record Held (q : QueueState) (start : ℕ → ℕ) (list : List Change) (p m : ℕ) : Type 0 where
  pub change : Change
  pub there : slice_get list m ≡ Some change
  pub is : IsChange change
  pub word : start (p % length q.cells) ≡ entry_word change (phase_of (length q.cells) p)
  pub alike : Alike (length q.cells) p m

module _ (q : QueueState) (h t : ℕ) (start : ℕ → ℕ) (list : List Change) (taken : ℕ) (o : IsOpened q (length q.cells) h t start) (f : Fits (length q.cells) h t) (log : IsLog q list taken) where
  pub tails : Alike (length q.cells) t (length list)
  tails = alike_both (sym o.tail_is) refl (tail_alike q list taken f.some log)

  pub heads : Alike (length q.cells) h taken
  heads = alike_less (length q.cells) h taken q.waiting f.some (omega (arith, log.few)) (alike_both (sym o.head_is) (omega (arith, log.order)) tails)

  pub held : (p m : ℕ) → p < t → t ≤ p + length q.cells → m + t ≡ p + length list → Held q start list p m
  held p m lt near same =
      let n = length q.cells in
      let d : ℕ = t - p in
      let none : Change = record { span = record { first = 0; count = 0 } } in
      let c = get_or list m none in
      let there : slice_get list m ≡ Some c = slice_get-get_or list m none (omega (arith, lt, same)) in
      let alike : Alike n p m = alike_less n p m d f.some (omega (arith, near)) (alike_both (omega (arith, lt)) (omega (arith, same, lt)) tails) in
      let is = log.changes m c there in
      let cell : slice_index_or q.cells (p % n) [] ≡ change_bytes c (phase_of n m) = ap (λ (i : ℕ). slice_index_or q.cells i []) alike.place ∙ log.written m c there (omega (arith, near, same)) in
      record {
        change = c;
        there = there;
        is = is;
        word = o.words.entries (p % n) c (phase_of n m) (mod-lt p f.some) is (sym cell) ∙ ap (entry_word c) (sym alike.phase);
        alike = alike;
      }

  -- where nothing was written, a position has the phase tag 0
  bare : (p : ℕ) → p < t → t ≤ p + length q.cells → p + length list < t → tag (start (p % length q.cells)) ≡ phase_of (length q.cells) p
  bare p lt near short =
      let n = length q.cells in
      let next : q.next ≡ length list = log.next ∙ mod-eq_of_lt (omega (arith, near, short)) in
      let phase : q.phase ≡ true = log.phase ∙ phase_of-first n (length list) (omega (arith, near, short)) in
      let at : t ≡ length list + n * 2 = o.tail_is ∙ (ap₂ (λ (k : ℕ) (b : Bool). k + n * cond b 2 3) next phase) in
      let k : ℕ = p - n in
      let back : k + n ≡ p = omega (arith, at, near) in
      let small : k < n = omega (arith, at, short) in
      let place : p % n ≡ k = ap (λ (x : ℕ). x % n) (sym back) ∙ (add-mod_right k n ∙ mod-eq_of_lt small) in
      let off : phase_of n p ≡ false = ap (phase_of n) (sym back) ∙ (phase_of-add n k f.some ∙ ap not (phase_of-first n k small)) in
      let zero_word : start k ≡ 0 = o.words.zeroes k small (log.unwritten k (omega (arith, at, near)) small) in
      ap (λ (x : ℕ). tag (start x)) place ∙ (ap tag zero_word ∙ sym off)

  pub phases : (p : ℕ) → p < t → t ≤ p + length q.cells → tag (start (p % length q.cells)) ≡ phase_of (length q.cells) p
  phases p lt near = dite (dec_le t (p + length list))
      (λ le. let g = held p (p + length list - t) lt near (omega (arith, le)) in ap tag g.word ∙ word_tag g.change (phase_of (length q.cells) p) g.is)
      (λ gt. bare p lt near (lt_of_not-le gt))

  pub sound : (p : ℕ) → h ≤ p → p < t → IsEntryWord (start (p % length q.cells))
  sound p from lt =
      let g = held p (p + length list - t) lt (omega (arith, from, f.near)) (omega (arith, from, o.head_is, log.order)) in
      subst IsChange (sym (ap change_in g.word ∙ word_change g.change (phase_of (length q.cells) p) g.is)) g.is

-- the table of a queue that is opened keeps the rule
pub begins : {S : Type 0} (q : QueueState) (h t : ℕ) (start : ℕ → ℕ) (n : ℕ) (ws : List ℕ) (xs : List S) → HasLog q → n ≡ length q.cells → IsOpened q n h t start → Fits n h t
    → length ws ≡ length q.cells + 3 → get_or ws 0 0 ≡ t → get_or ws 1 0 ≡ h → get_or ws 2 0 ≡ 0 → ((c : ℕ) → get_or ws (c + 3) 0 ≡ start c) → IsLogTable n h t start IsEntryWord (opening ws xs (opener n))
begins {S} q h t start n ws xs has size = subst (λ (n : ℕ). IsOpened q n h t start → Fits n h t
    → length ws ≡ length q.cells + 3 → get_or ws 0 0 ≡ t → get_or ws 1 0 ≡ h → get_or ws 2 0 ≡ 0 → ((c : ℕ) → get_or ws (c + 3) 0 ≡ start c) → IsLogTable n h t start IsEntryWord (opening ws xs (opener n))) (sym size)
    (λ o f wide tail head mark cells. opens (length q.cells) h t start IsEntryWord ws xs wide tail head mark cells f.some f.far f.order f.near
    (phases q h t start has.posted has.taken o f has.is) (sound q h t start has.posted has.taken o f has.is))
