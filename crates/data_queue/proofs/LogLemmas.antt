use Rattle.std.proofs.Common.{◌≡◌, ◌==◌, ⊎_elim, ℕ, ◌+◌, ◌%◌, ◌<◌, Bool, not, true, false, cond, Option, Some, None, Result, Ok, Err, OnErr, OnOk, List, [], ◌∷◌, ◌++◌, ap, ap₂, ◌∙◌, arith, get_or, length, refl, slice_get, slice_index_or, slice_set, subst, sym}
use Rattle.std.proofs.Math.Nat.{mod-add-mod, mod-eq_of_lt, mod-lt}
use Rattle.std.proofs.lemmas.Bool.{cases_eq, eq-eqb, ne_eqb}
use Rattle.std.proofs.lemmas.Grind.{get_or-set_at}
use Rattle.std.proofs.lemmas.List.{get_or-set_other, length-set, length_push}
use Rattle.std.proofs.lemmas.Nat.{from_le_bytes-to_le_bytes_4}
use Rattle.std.proofs.lemmas.Option.{slice_get_within, slice_get-get_or}
use Rattle.mig_base.proofs.ListLemmas.{slice_get-push_cases}
use Rattle.nvm_model.specs.Event.{phase_of}
use Rattle.nvm_model.proofs.PlaceLemmas.{mods-apart, next_place-mod, phase_of-kept, phase_of-wrapped}
use Rattle.data_queue.specs.declared.change.Change.{Change}
use Rattle.data_queue.specs.declared.places.Places.{Places}
use Rattle.data_queue.specs.declared.queue.BadHead.{BadHead}
use Rattle.data_queue.specs.Change.{IsChange, change_bytes, change_of}
use Rattle.data_queue.specs.Log.{HasLog, IsLog, Posted, QueueState, Takes, TakesBefore, with_entry}
use Rattle.data_queue.specs.Places.{queue_of}

-- What a queue stands for, from one call to the next.

-- the phase tag of the next entry
phase_next : (n m : ℕ) → 0 < n → phase_of n (m + 1) ≡ cond (((m + 1) % n) == 0) (not (phase_of n m)) (phase_of n m)
phase_next n m some = ⊎_elim
    (λ wraps. phase_of-wrapped n m some wraps ∙ sym (ap (λ (b : Bool). cond b (not (phase_of n m)) (phase_of n m)) (eq-eqb ((m + 1) % n) 0 wraps)))
    (λ goes. phase_of-kept n m some goes ∙ sym (ap (λ (b : Bool). cond b (not (phase_of n m)) (phase_of n m)) (ne_eqb ((m + 1) % n) 0 goes)))
    (cases_eq ((m + 1) % n) 0)

-- Head, next place and number of entries agree after a post, and after so many entries were taken.

pub agree_more : (n head next waiting : ℕ) → next ≡ (head + waiting) % n → (next + 1) % n ≡ (head + (waiting + 1)) % n
agree_more n head next waiting agree = ap (λ m. (m + 1) % n) agree ∙ mod-add-mod (head + waiting) n 1 ∙ ap (λ m. m % n) (omega arith)

pub agree_less : (n head next waiting k left : ℕ) → next ≡ (head + waiting) % n → left + k ≡ waiting → next ≡ ((head + k) % n + left) % n
agree_less n head next waiting k left agree sum = agree ∙ ap (λ m. m % n) (omega (arith, sum)) ∙ sym (mod-add-mod (head + k) n left)

-- an entry more
pub log_more : (q : QueueState) (posted : List Change) (taken : ℕ) (c : Change) → 0 < length q.cells → q.waiting < length q.cells → IsChange c →
    IsLog q posted taken → IsLog (with_entry c q) (posted ++ c ∷ []) taken
log_more q posted taken c some room change log =
    let entry = change_bytes c q.phase in
    let size : length (slice_set q.cells q.next entry) ≡ length q.cells = length-set q.cells q.next entry in
    let count = length_push posted c in
    let after : (q.next + 1) % length q.cells ≡ (length posted + 1) % length q.cells =
    ap (λ n. (n + 1) % length q.cells) log.next ∙ next_place-mod (length q.cells) (length posted) in
    let n = length q.cells in
    let below = mod-lt (length posted) some in
    let next_in : q.next < n = omega (arith, log.next, below) in
    record {
      order = omega (arith, count, log.order);
      few = omega (arith, size, room);
      head = log.head ∙ ap (λ k. taken % k) (sym size);
      next = after ∙ ap (λ k. (length posted + 1) % k) (sym size) ∙ ap (λ k. k % length (slice_set q.cells q.next entry)) (sym count);
      phase = ap (λ k. cond (k == 0) (not q.phase) q.phase) after
          ∙ ap (λ b. cond (((length posted + 1) % n) == 0) (not b) b) log.phase
          ∙ sym (phase_next n (length posted) some)
          ∙ ap (λ k. phase_of n k) (sym count)
          ∙ ap (λ k. phase_of k (length (posted ++ c ∷ []))) (sym size);
      changes = λ m x there. ⊎_elim (λ old. log.changes m x old) (λ last. subst IsChange last.1 change) (slice_get-push_cases posted c x m there);
      written = λ m x there late. rw size (⊎_elim
          (λ old.
          let before = slice_get_within posted m x old in
          get_or-set_other q.cells q.next (m % n) entry [] (λ same. mods-apart n m (length posted) before (omega (arith, late, count, size)) (same ∙ log.next))
          ∙ log.written m x old (omega (arith, late, count, size)))
          (λ last.
          get_or-set_at q.cells q.next (m % n) entry [] (ap (λ k. k % n) last.0 ∙ sym log.next) next_in
          ∙ rw (last.0, ← last.1) (ap (change_bytes c) log.phase))
          (slice_get-push_cases posted c x m there));
      unwritten = λ m late within.
          let here : length posted % n ≡ length posted = mod-eq_of_lt (omega (arith, late, count, within, size)) in
          get_or-set_other q.cells q.next m entry [] (λ same. omega (arith, late, count, same, log.next, here))
          ∙ log.unwritten m (omega (arith, late, count)) (omega (arith, within, size));
    }

-- entries fewer
pub log_less : (q new : QueueState) (posted : List Change) (taken k : ℕ) → new.cells ≡ q.cells → new.next ≡ q.next → new.phase ≡ q.phase → new.waiting + k ≡ q.waiting →
    new.head ≡ (q.head + k) % length q.cells → IsLog q posted taken → IsLog new posted (taken + k)
log_less q new posted taken k cells next phase waiting head log =
    let size = ap length cells in
    record {
      order = omega (arith, waiting, log.order);
      few = omega (arith, size, waiting, log.few);
      head = head ∙ ap (λ h. (h + k) % length q.cells) log.head ∙ mod-add-mod taken (length q.cells) k ∙ ap (λ n. (taken + k) % n) (sym size);
      next = next ∙ log.next ∙ ap (λ n. length posted % n) (sym size);
      phase = phase ∙ log.phase ∙ ap (λ n. phase_of n (length posted)) (sym size);
      changes = log.changes;
      written = λ m x there late. rw cells (log.written m x there (omega (arith, late, size)));
      unwritten = λ m late within. rw cells (log.unwritten m late (omega (arith, within, size)));
    }

-- the oldest entry stands at the head
pub log_oldest : (q : QueueState) (posted : List Change) (taken : ℕ) → 0 < q.waiting → IsLog q posted taken →
    (c : Change) × (slice_get posted taken ≡ Some c) × IsChange c × (slice_index_or q.cells q.head [] ≡ change_bytes c (phase_of (length q.cells) taken))
log_oldest q posted taken some log =
    let none : Change = record { span = record { first = 0; count = 0 } } in
    let c = get_or posted taken none in
    let there : slice_get posted taken ≡ Some c = slice_get-get_or posted taken none (omega (arith, some, log.order)) in
    (c, there, log.changes taken c there, ap (λ h. slice_index_or q.cells h []) log.head ∙ log.written taken c there (omega (arith, log.order, log.few)))

-- A queue that stands for a list does so after each call.

pub has_posted : {old new : QueueState} {c : Change} → Posted old c new → HasLog old → HasLog new
has_posted is log = record { posted = _; taken = log.taken; is = is.log log.posted log.taken log.is }

pub has_taken : {old new : QueueState} (result : Option Change) → Takes result old new → HasLog old → HasLog new
has_taken None is log = subst HasLog (sym is.1) log
has_taken (Some c) is log = record { posted = log.posted; taken = log.taken + 1; is = (is.log log.posted log.taken log.is).1 }

pub has_passed : (cells : List (List ℕ)) (value : ℕ) (old new : Places) (result : Result (Unit {0}) BadHead) → OnErr result (new ≡ old) →
    OnOk result (TakesBefore value (queue_of old cells) (queue_of new cells)) → HasLog (queue_of old cells) → HasLog (queue_of new cells)
has_passed cells value old new (Ok done) same is log = record { posted = log.posted; taken = _; is = is.log log.posted log.taken log.is }
has_passed cells value old new (Err e) same is log = subst (λ (p : Places). HasLog (queue_of p cells)) (sym same) log

-- an entry's change is read back
pub change_back : (c : Change) (phase : Bool) → IsChange c → change_of (change_bytes c phase) ≡ c
change_back c phase is =
    ap₂ (λ (first count : ℕ). record { span = record { first = first; count = count } })
    (from_le_bytes-to_le_bytes_4 c.span.first (omega (arith, is.first))) (from_le_bytes-to_le_bytes_4 c.span.count (omega (arith, is.few)))

-- an entry's change and phase tag are read back
pub entry_back : (c : Change) (phase : Bool) (b : List ℕ) → IsChange c → change_bytes c phase ≡ b → (change_of b ≡ c) × ((slice_index_or b 31 0 == 1) ≡ phase)
entry_back c phase b is same = subst (λ (b : List ℕ). (change_of b ≡ c) × ((slice_index_or b 31 0 == 1) ≡ phase)) same (change_back c phase is, tag phase)
  where
    tag : (phase : Bool) → (slice_index_or (change_bytes c phase) 31 0 == 1) ≡ phase
    tag true = refl
    tag false = refl
