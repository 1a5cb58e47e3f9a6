use Rattle.std.proofs.Common.{◌≡◌, ◌≢◌, ℕ, suc, ◌+◌, ◌-◌, ◌*◌, ◌%◌, ◌<◌, ◌≤◌, inl, inr, Bool, true, false, not, if◌then◌else◌, Some, None, List, [], ◌∷◌, ◌++◌, length, slice_get, replicate, refl, sym, ap, ◌∙◌, subst, arith, get_or}
use Rattle.std.proofs.Math.Nat.{mod-add-mod, mod-lt, mod-eq_of_lt, add-mod_right}
use Rattle.std.proofs.lemmas.Bool.{cases_lt, cases_eq, eq-eqb, ne_eqb, true≢false, false≢true}
use Rattle.std.proofs.lemmas.List.{length_push}
use Rattle.std.proofs.lemmas.Option.{slice_get_within, slice_get-get_or, slice_get_past, none-some}
use Rattle.mig_base.proofs.ListLemmas.{slice_get-push_cases}
use Rattle.nvm_values.specs.declared.sqe.Sqe.{Sqe}
use Rattle.nvm_values.specs.Sqe.{sqe_of}
use Rattle.nvm_values.specs.Cqe.{CqeFields, cqe_of}
use Rattle.nvm_model.specs.declared.ring.RingState.{RingState}
use Rattle.nvm_model.specs.Event.{phase_of}
use Rattle.nvm_model.specs.Memory.{written, zero_page}
use Rattle.nvm_model.specs.Ring.{cell, next_place, places_between, IsSqRing, IsCqPage, CqState, IsCqRing, GuestCqState, IsGuestCq}
use Rattle.nvm_model.proofs.PlaceLemmas.{places_between-cases, tail-from_count, places_between-tail_more, places_between-head_more, places_between-none, head-tail-from_none, mods-apart, places_between-mods, next_place-mod, phase_of-wrapped, phase_of-kept, phase_of-add, phase_of-first}
use Rattle.nvm_model.proofs.CellLemmas.{cell-written, cell-written_other, cell-zero_page}
use Rattle.nvm_ring.specs.Moves.{phase_at, after_fetch, after_submit, after_post, after_reap, with_phase}
use Rattle.nvm_ring.specs.Stands.{Fetched, CountsFree, Reaped}

-- What a ring stands for, from one call to the next.

-- a ring whose head is its tail has no entry
pub sq_ring-none : (ring : RingState) (page : List ℕ) (entries : List Sqe) → IsSqRing ring page entries → ring.head ≡ ring.tail → entries ≡ []
sq_ring-none ring page [] h e = refl
sq_ring-none ring page (x ∷ entries) h e =
    absurd (omega (arith, h.count, places_between-none ring.size ring.head ring.tail h.head h.tail e))

-- a ring that stands for an entry and others: its head isn't its tail, the entry stands at its head, and the others are
-- what it stands for after its head moved on
pub sq_ring-some : (ring : RingState) (page : List ℕ) (e : Sqe) (rest : List Sqe) → IsSqRing ring page (e ∷ rest) → ring.head ≢ ring.tail
sq_ring-some ring page e rest h same =
    omega (arith, h.count, places_between-none ring.size ring.head ring.tail h.head h.tail same)

pub sq_ring-oldest : (ring : RingState) (page : List ℕ) (e : Sqe) (rest : List Sqe) → IsSqRing ring page (e ∷ rest) → sqe_of (cell 64 ring.head page) ≡ e
sq_ring-oldest ring page e rest h =
    let at : (ring.head + 0) % ring.size ≡ ring.head = ap (λ n. n % ring.size) (omega arith) ∙ mod-eq_of_lt h.head in
    ap (λ n. sqe_of (cell 64 n page)) (sym at) ∙ h.cells 0 e refl

pub sq_ring-rest : (ring : RingState) (page : List ℕ) (e : Sqe) (rest : List Sqe) → IsSqRing ring page (e ∷ rest) → IsSqRing (after_fetch ring) page rest
sq_ring-rest ring page e rest h =
    let pos : 0 < ring.size = omega (arith, h.head) in
    let less = places_between-head_more ring.size ring.head ring.tail h.head h.tail (sq_ring-some ring page e rest h) in
    record {
      head = mod-lt (ring.head + 1) pos;
      tail = h.tail;
      count = omega (arith, less, h.count);
      cells = λ i x g.
          let at : (next_place ring.size ring.head + i) % ring.size ≡ (ring.head + suc i) % ring.size =
          mod-add-mod (ring.head + 1) ring.size i ∙ ap (λ n. n % ring.size) (omega arith) in
          ap (λ n. sqe_of (cell 64 n page)) at ∙ h.cells (suc i) x g;
    }

-- what a fetch of the cell at the head gives
pub fetched-some : (ring seen new : RingState) (page : List ℕ) (e : Sqe) (entries : List Sqe) → ring ≡ seen → seen.head ≢ seen.tail → e ≡ sqe_of (cell 64 seen.head page) → new ≡ after_fetch seen → IsSqRing ring page entries → Fetched ring new page (Some e) entries
fetched-some ring seen new page e [] same ne at moved h =
    let P : RingState → Type 0 = λ r. IsSqRing r page [] in
    let g = subst P same h in
    absurd (ne (head-tail-from_none seen.size seen.head seen.tail g.head g.tail (sym g.count)))
fetched-some ring seen new page e (x ∷ rest) same ne at moved h =
    let P : RingState → Type 0 = λ r. IsSqRing r page (x ∷ rest) in
    let Q : RingState → Type 0 = λ r. IsSqRing r page rest in
    let g = subst P same h in
    (ap Some (at ∙ sq_ring-oldest seen page x rest g), subst Q (sym moved) (sq_ring-rest seen page x rest g))

-- one entry more is written into the cell at the tail
pub sq_ring-push : (ring : RingState) (page bytes : List ℕ) (entries : List Sqe) (e : Sqe) → IsSqRing ring page entries → ring.size ≤ 64 → length page ≡ 4096 → length bytes ≡ 64 → sqe_of bytes ≡ e → length entries + 1 < ring.size
    → IsSqRing (after_submit ring) (written page (64 * ring.tail) bytes) (entries ++ e ∷ [])
sq_ring-push ring page bytes entries e h few size full back room =
    let pos : 0 < ring.size = omega arith in
    let end : (ring.head + length entries) % ring.size ≡ ring.tail =
    ap (λ n. (ring.head + n) % ring.size) h.count ∙ tail-from_count ring.size ring.head ring.tail h.head h.tail in
    let within : 64 * ring.tail ≤ length page = omega (arith, h.tail, size) in
    record {
      head = h.head;
      tail = mod-lt (ring.tail + 1) pos;
      count = length_push entries e ∙ places_between-tail_more ring.size ring.head ring.tail (length entries) h.head h.tail h.count room;
      cells = λ i x g. elim (slice_get-push_cases entries e x i g) [
        | inl old ↦
            let inside : i < length entries = slice_get_within entries i x old in
            let before : ring.head + i < ring.head + length entries = omega arith in
            let near : ring.head + length entries < ring.head + i + ring.size = omega arith in
            let other : (ring.head + i) % ring.size ≢ ring.tail = λ same. mods-apart ring.size (ring.head + i) (ring.head + length entries) before near (same ∙ sym end) in
            ap sqe_of (cell-written_other 64 ring.tail ((ring.head + i) % ring.size) page bytes full within other) ∙ h.cells i x old
        | inr last ↦
            let at : (ring.head + i) % ring.size ≡ ring.tail = ap (λ n. (ring.head + n) % ring.size) last.0 ∙ end in
            ap (λ n. sqe_of (cell 64 n (written page (64 * ring.tail) bytes))) at
            ∙ ap sqe_of (cell-written 64 ring.tail page bytes full within)
            ∙ back
            ∙ last.1
      ];
    }

-- an empty submission ring at the start
pub sq_ring-start : (size : ℕ) (page : List ℕ) → 0 < size → IsSqRing (record { size = size; head = 0; tail = 0 }) page []
sq_ring-start size page p = record {
  head = p;
  tail = p;
  count = sym (places_between-none size 0 0 p p refl);
  cells = λ i x g. absurd (none-some x g);
}

-- the phase tag of the next number, at its place
pub phase_of-next : (n m : ℕ) → 0 < n → phase_of n (m + 1) ≡ phase_at ((m + 1) % n) (phase_of n m)
phase_of-next n m p =
    elim (cases_eq ((m + 1) % n) 0) [
      | inl e ↦ phase_of-wrapped n m p e ∙ sym (ap (λ (b : Bool). if b then not (phase_of n m) else phase_of n m) (eq-eqb ((m + 1) % n) 0 e))
      | inr ne ↦ phase_of-kept n m p ne ∙ sym (ap (λ (b : Bool). if b then not (phase_of n m) else phase_of n m) (ne_eqb ((m + 1) % n) 0 ne))
    ]

-- one completion more is written into the cell that is due to its number
pub cq_page_is-push : (size : ℕ) (page bytes : List ℕ) (posted : List CqeFields) (c : CqeFields) → IsCqPage size page posted → 0 < size → size ≤ 256 → length page ≡ 4096 → length bytes ≡ 16 → cqe_of bytes ≡ c → c.phase ≡ phase_of size (length posted)
    → IsCqPage size (written page (16 * (length posted % size)) bytes) (posted ++ c ∷ [])
cq_page_is-push size page bytes posted c h p few whole full back phase =
    let there : length posted % size < size = mod-lt (length posted) p in
    let within : 16 * (length posted % size) ≤ length page = omega (arith, there, whole) in
    let more = length_push posted c in
    record {
      written = λ m x g l. elim (slice_get-push_cases posted c x m g) [
        | inl old ↦
            let before : m < length posted = slice_get_within posted m x old in
            let near : length posted < m + size = omega (arith, more, l) in
            let close : length posted ≤ m + size = omega (arith, near) in
            ap cqe_of (cell-written_other 16 (length posted % size) (m % size) page bytes full within (mods-apart size m (length posted) before near)) ∙ h.written m x old close
        | inr last ↦
            ap (λ n. cqe_of (cell 16 (n % size) (written page (16 * (length posted % size)) bytes))) last.0
            ∙ ap cqe_of (cell-written 16 (length posted % size) page bytes full within)
            ∙ back
            ∙ last.1
      ];
      unwritten = λ m l below.
          let after : length posted < m = omega (arith, more, l) in
          let near : m < length posted + size = omega arith in
          let still : length posted ≤ m = omega (arith, after) in
          let other : m ≢ length posted % size = λ same. mods-apart size (length posted) m after near (sym same ∙ sym (mod-eq_of_lt below)) in
          cell-written_other 16 (length posted % size) m page bytes full within other ∙ h.unwritten m still below;
      phases = λ m x g. elim (slice_get-push_cases posted c x m g) [
        | inl old ↦ h.phases m x old
        | inr last ↦ ap (λ (y : CqeFields). y.phase) (sym last.1) ∙ phase ∙ ap (phase_of size) (sym last.0)
      ];
    }

pub cq_ring-push : (cq : CqState) (page bytes : List ℕ) (posted : List CqeFields) (reaped : ℕ) (c : CqeFields) → IsCqRing cq page posted reaped → cq.ring.size ≤ 256 → length page ≡ 4096 → length bytes ≡ 16 → cqe_of bytes ≡ c → c.phase ≡ cq.phase
    → length posted + 1 < reaped + cq.ring.size → IsCqRing (after_post cq) (written page (16 * cq.ring.tail) bytes) (posted ++ c ∷ []) reaped
cq_ring-push cq page bytes posted reaped c h few whole full back phase room =
    let size : ℕ = cq.ring.size in
    let pos : 0 < cq.ring.size = omega (arith, room, h.order) in
    let more = length_push posted c in
    let next : next_place cq.ring.size cq.ring.tail ≡ (length posted + 1) % cq.ring.size = ap (next_place cq.ring.size) h.tail ∙ next_place-mod cq.ring.size (length posted) in
    let page_is : IsCqPage cq.ring.size (written page (16 * (length posted % cq.ring.size)) bytes) (posted ++ c ∷ []) =
    cq_page_is-push cq.ring.size page bytes posted c h.page_is pos few whole full back (phase ∙ h.phase) in
    record {
      page_is = let P : ℕ → Type 0 = λ n. IsCqPage cq.ring.size (written page (16 * n) bytes) (posted ++ c ∷ []) in subst P (sym h.tail) page_is;
      tail = next ∙ ap (λ n. n % cq.ring.size) (sym more);
      head = h.head;
      phase =
          ap (λ n. phase_at n cq.phase) next
          ∙ ap (phase_at ((length posted + 1) % cq.ring.size)) h.phase
          ∙ sym (phase_of-next cq.ring.size (length posted) pos)
          ∙ ap (phase_of cq.ring.size) (sym more);
      order = omega (arith, more, h.order);
      few = omega (arith, more, room);
    }

-- a ring with room for one completion more isn't full
pub cq_ring-not_full : (cq : CqState) (page : List ℕ) (posted : List CqeFields) (reaped : ℕ) → IsCqRing cq page posted reaped → length posted + 1 < reaped + cq.ring.size → next_place cq.ring.size cq.ring.tail ≢ cq.ring.head
cq_ring-not_full cq page posted reaped h room same =
    let before : reaped < length posted + 1 = omega (arith, h.order) in
    mods-apart cq.ring.size reaped (length posted + 1) before room (sym h.head ∙ sym same ∙ ap (next_place cq.ring.size) h.tail ∙ next_place-mod cq.ring.size (length posted))

-- how many completions aren't reaped
pub cq_ring-unreaped : (cq : CqState) (page : List ℕ) (posted : List CqeFields) (reaped : ℕ) → IsCqRing cq page posted reaped → places_between cq.ring.size cq.ring.head cq.ring.tail ≡ length posted - reaped
cq_ring-unreaped cq page posted reaped h =
    ap (λ n. places_between cq.ring.size n cq.ring.tail) h.head
    ∙ ap (places_between cq.ring.size (reaped % cq.ring.size)) h.tail
    ∙ places_between-mods cq.ring.size reaped (length posted) h.order h.few

-- the places up to that of a completion that may be reaped by now
pub cq_ring-reaped_since : (cq : CqState) (page : List ℕ) (posted : List CqeFields) (reaped now value : ℕ) → IsCqRing cq page posted reaped → reaped ≤ now → now ≤ length posted → value ≡ now % cq.ring.size → places_between cq.ring.size cq.ring.head value ≡ now - reaped
cq_ring-reaped_since cq page posted reaped now value h l g e =
    let near : now < reaped + cq.ring.size = omega (arith, h.few) in
    ap (λ n. places_between cq.ring.size n value) h.head
    ∙ ap (places_between cq.ring.size (reaped % cq.ring.size)) e
    ∙ places_between-mods cq.ring.size reaped now l near

pub cq_ring-head : (cq : CqState) (page : List ℕ) (posted : List CqeFields) (reaped now value : ℕ) → IsCqRing cq page posted reaped → reaped ≤ now → now ≤ length posted → value ≡ now % cq.ring.size
    → IsCqRing (record { ring = record cq.ring { head = value }; phase = cq.phase }) page posted now
cq_ring-head cq page posted reaped now value h l g e = record {
  page_is = h.page_is;
  tail = h.tail;
  head = e;
  phase = h.phase;
  order = g;
  few = omega (arith, h.few);
}

-- the completion that is due is in its cell, with the guest's phase tag
pub guest_cq-due : (cq : GuestCqState) (page : List ℕ) (posted : List CqeFields) (reaped : ℕ) → IsGuestCq cq page posted reaped → (c : CqeFields) → slice_get posted reaped ≡ Some c → cqe_of (cell 16 cq.head page) ≡ c
guest_cq-due cq page posted reaped h c g =
    let close : length posted ≤ reaped + cq.size = omega (arith, h.few) in
    ap (λ n. cqe_of (cell 16 n page)) h.head ∙ h.page_is.written reaped c g close

pub guest_cq-due_phase : (cq : GuestCqState) (page : List ℕ) (posted : List CqeFields) (reaped : ℕ) → IsGuestCq cq page posted reaped → reaped < length posted → (cqe_of (cell 16 cq.head page)).phase ≡ cq.phase
guest_cq-due_phase cq page posted reaped h l =
    let c : CqeFields = get_or posted reaped (cqe_of []) in
    let g : slice_get posted reaped ≡ Some c = slice_get-get_or posted reaped (cqe_of []) l in
    ap (λ (x : CqeFields). x.phase) (guest_cq-due cq page posted reaped h c g) ∙ h.page_is.phases reaped c g ∙ sym h.phase

not-same : (b : Bool) → not b ≡ b → ⊥
not-same true e = false≢true e
not-same false e = true≢false e

-- where all are reaped, the cell at the guest's place has the phase tag of the pass before
pub guest_cq-none_due : (cq : GuestCqState) (page : List ℕ) (posted : List CqeFields) (reaped : ℕ) → IsGuestCq cq page posted reaped → length posted ≤ reaped → (cqe_of (cell 16 cq.head page)).phase ≢ cq.phase
guest_cq-none_due cq page posted reaped h l e =
    let all : reaped ≡ length posted = omega (arith, h.order) in
    let pos : 0 < cq.size = omega (arith, h.few, h.order) in
    elim (cases_lt reaped cq.size) [
      | inl first ↦
          let at : cq.head ≡ reaped = h.head ∙ mod-eq_of_lt first in
          let zeroes : cell 16 cq.head page ≡ replicate 16 0 = ap (λ n. cell 16 n page) at ∙ h.page_is.unwritten reaped l first in
          let old : (cqe_of (cell 16 cq.head page)).phase ≡ false = ap (λ bytes. (cqe_of bytes).phase) zeroes in
          false≢true (sym old ∙ e ∙ h.phase ∙ phase_of-first cq.size reaped first)
      | inr later ↦
          let before : ℕ = reaped - cq.size in
          let inside : reaped - cq.size < length posted = omega arith in
          let whole : reaped - cq.size + cq.size ≡ reaped = omega arith in
          let c : CqeFields = get_or posted (reaped - cq.size) (cqe_of []) in
          let g : slice_get posted (reaped - cq.size) ≡ Some c = slice_get-get_or posted (reaped - cq.size) (cqe_of []) inside in
          let close : length posted ≤ reaped - cq.size + cq.size = omega (arith, whole, l) in
          let at : (reaped - cq.size) % cq.size ≡ cq.head = sym (add-mod_right (reaped - cq.size) cq.size) ∙ ap (λ n. n % cq.size) whole ∙ sym h.head in
          let same : cqe_of (cell 16 cq.head page) ≡ c = ap (λ n. cqe_of (cell 16 n page)) (sym at) ∙ h.page_is.written (reaped - cq.size) c g close in
          let old : cq.phase ≡ phase_of cq.size (reaped - cq.size) = sym e ∙ ap (λ (x : CqeFields). x.phase) same ∙ h.page_is.phases (reaped - cq.size) c g in
          let new : cq.phase ≡ not (phase_of cq.size (reaped - cq.size)) = h.phase ∙ ap (phase_of cq.size) (sym whole) ∙ phase_of-add cq.size (reaped - cq.size) pos in
          not-same (phase_of cq.size (reaped - cq.size)) (sym new ∙ old)
    ]

-- one completion more is reaped
pub guest_cq-more : (cq : GuestCqState) (page : List ℕ) (posted : List CqeFields) (reaped : ℕ) → IsGuestCq cq page posted reaped → reaped < length posted → IsGuestCq (after_reap cq) page posted (reaped + 1)
guest_cq-more cq page posted reaped h l =
    let pos : 0 < cq.size = omega (arith, h.few, h.order) in
    let next : next_place cq.size cq.head ≡ (reaped + 1) % cq.size = ap (next_place cq.size) h.head ∙ next_place-mod cq.size reaped in
    record {
      page_is = h.page_is;
      head = next;
      phase =
          ap (λ n. phase_at n cq.phase) next
          ∙ ap (phase_at ((reaped + 1) % cq.size)) h.phase
          ∙ sym (phase_of-next cq.size reaped pos);
      order = omega arith;
      few = omega (arith, h.few);
    }

-- the guest's end stands for the completions that the controller has posted since, where it rang for no more than it
-- reaped
pub guest_cq-posted : (guest : GuestCqState) (cq : CqState) (page new_page : List ℕ) (posted new_posted : List CqeFields) (reaped rung : ℕ) → IsGuestCq guest page posted reaped → IsCqRing cq new_page new_posted rung → guest.size ≡ cq.ring.size → rung ≤ reaped → length posted ≤ length new_posted
    → IsGuestCq guest new_page new_posted reaped
guest_cq-posted guest cq page new_page posted new_posted reaped rung h k size l g =
    let P : ℕ → Type 0 = λ n. IsCqPage n new_page new_posted in
    record {
      page_is = subst P (sym size) k.page_is;
      head = h.head;
      phase = h.phase;
      order = omega (arith, h.order, g);
      few = omega (arith, k.few, size, l);
    }

-- a zeroed page stands for no completion
pub cq_page_is-start : (size : ℕ) → size ≤ 256 → IsCqPage size zero_page []
cq_page_is-start size few = record {
  written = λ m x g l. absurd (none-some x g);
  unwritten = λ m l below. cell-zero_page 16 m (omega arith);
  phases = λ m x g. absurd (none-some x g);
}

pub cq_ring-start : (ring : RingState) (phase : Bool) → 0 < ring.size → ring.size ≤ 256 → ring.head ≡ 0 → ring.tail ≡ 0 → phase ≡ true → IsCqRing (record { ring = ring; phase = phase }) zero_page [] 0
cq_ring-start ring phase p few head tail new = record {
  page_is = cq_page_is-start ring.size few;
  tail = tail ∙ sym (mod-eq_of_lt p);
  head = head ∙ sym (mod-eq_of_lt p);
  phase = new ∙ sym (phase_of-first ring.size 0 p);
  order = omega arith;
  few = omega arith;
}

pub guest_cq-start : (size : ℕ) → 0 < size → size ≤ 256 → IsGuestCq (record { size = size; head = 0; phase = true }) zero_page [] 0
guest_cq-start size p few = record {
  page_is = cq_page_is-start size few;
  head = sym (mod-eq_of_lt p);
  phase = sym (phase_of-first size 0 p);
  order = omega arith;
  few = omega arith;
}

-- What each call does, by what its end showed before and what it shows then.

pub counted-free : (cq seen : CqState) (free : ℕ) → cq ≡ seen → free ≡ seen.ring.size - 1 - places_between seen.ring.size seen.ring.head seen.ring.tail → CountsFree cq free
counted-free cq seen free same is page posted reaped h =
    let P : CqState → Type 0 = λ q. IsCqRing q page posted reaped in
    let g = subst P same h in
    let sizes : cq.ring.size ≡ seen.ring.size = ap (λ (q : CqState). q.ring.size) same in
    omega (arith, is, sizes, cq_ring-unreaped seen page posted reaped g, g.few, g.order)

pub taken-in_order : (cq seen : CqState) (value : ℕ) (page : List ℕ) (posted : List CqeFields) (reaped now : ℕ) → cq ≡ seen → places_between seen.ring.size seen.ring.head seen.ring.tail < places_between seen.ring.size seen.ring.head value
    → IsCqRing cq page posted reaped → reaped ≤ now → now ≤ length posted → value ≡ now % cq.ring.size → ⊥
taken-in_order cq seen value page posted reaped now same past h l g e =
    let P : CqState → Type 0 = λ q. IsCqRing q page posted reaped in
    let k = subst P same h in
    let at : value ≡ now % seen.ring.size = e ∙ ap (λ (q : CqState). now % q.ring.size) same in
    omega (arith, past, cq_ring-unreaped seen page posted reaped k, cq_ring-reaped_since seen page posted reaped now value k l g at, l, g)

-- the head moves on towards the tail
pub rung_frees : (n h t v : ℕ) → h < n → t < n → v < n → places_between n h v ≤ places_between n h t → places_between n v t ≤ places_between n h t
rung_frees n h t v p q r l = omega (arith, l, places_between-cases n h t p q, places_between-cases n h v p r, places_between-cases n v t r q)

pub posted-newest : (cq seen new : CqState) (page new_page bytes : List ℕ) (c : CqeFields) (posted : List CqeFields) (reaped : ℕ) → cq ≡ seen → seen.ring.size ≤ 256 → length page ≡ 4096 → length bytes ≡ 16 → cqe_of bytes ≡ with_phase seen.phase c
    → new_page ≡ written page (16 * seen.ring.tail) bytes → new ≡ after_post seen → IsCqRing cq page posted reaped → length posted + 1 < reaped + cq.ring.size
    → IsCqRing new new_page (posted ++ with_phase (phase_of cq.ring.size (length posted)) c ∷ []) reaped
posted-newest cq seen new page new_page bytes c posted reaped same few whole full back wrote moved h room =
    let P : CqState → Type 0 = λ q. IsCqRing q page posted reaped in
    let g = subst P same h in
    let sizes : cq.ring.size ≡ seen.ring.size = ap (λ (q : CqState). q.ring.size) same in
    let phase : phase_of cq.ring.size (length posted) ≡ seen.phase = ap (λ n. phase_of n (length posted)) sizes ∙ sym g.phase in
    let entry : with_phase seen.phase c ≡ with_phase (phase_of cq.ring.size (length posted)) c = ap (λ b. with_phase b c) (sym phase) in
    let left : length posted + 1 < reaped + seen.ring.size = omega (arith, room, sizes) in
    let all : IsCqRing (after_post seen) (written page (16 * seen.ring.tail) bytes) (posted ++ with_phase (phase_of cq.ring.size (length posted)) c ∷ []) reaped =
    cq_ring-push seen page bytes posted reaped (with_phase (phase_of cq.ring.size (length posted)) c) g few whole full (back ∙ entry) phase left in
    let Q : CqState → Type 0 = λ q. IsCqRing q (written page (16 * seen.ring.tail) bytes) (posted ++ with_phase (phase_of cq.ring.size (length posted)) c ∷ []) reaped in
    let R : List ℕ → Type 0 = λ p. IsCqRing new p (posted ++ with_phase (phase_of cq.ring.size (length posted)) c ∷ []) reaped in
    subst R (sym wrote) (subst Q (sym moved) all)

pub posted-room : (cq seen : CqState) (page : List ℕ) (posted : List CqeFields) (reaped : ℕ) → cq ≡ seen → next_place seen.ring.size seen.ring.tail ≡ seen.ring.head → IsCqRing cq page posted reaped → length posted + 1 < reaped + cq.ring.size → ⊥
posted-room cq seen page posted reaped same full h room =
    let P : CqState → Type 0 = λ q. IsCqRing q page posted reaped in
    let sizes : cq.ring.size ≡ seen.ring.size = ap (λ (q : CqState). q.ring.size) same in
    cq_ring-not_full seen page posted reaped (subst P same h) (omega (arith, room, sizes)) full

pub submitted-newest : (guest seen : RingState) (page new_page bytes : List ℕ) (e : Sqe) (ring : RingState) (entries : List Sqe) → guest ≡ seen → seen.size ≤ 64 → length page ≡ 4096 → length bytes ≡ 64 → sqe_of bytes ≡ e
    → new_page ≡ written page (64 * seen.tail) bytes → ring.size ≡ guest.size → ring.tail ≡ guest.tail → IsSqRing ring page entries → length entries + 1 < guest.size
    → IsSqRing (after_submit ring) new_page (entries ++ e ∷ [])
submitted-newest guest seen page new_page bytes e ring entries same few whole full back wrote size tail h room =
    let sizes : ring.size ≡ seen.size = size ∙ ap (λ (r : RingState). r.size) same in
    let tails : ring.tail ≡ seen.tail = tail ∙ ap (λ (r : RingState). r.tail) same in
    let there : new_page ≡ written page (64 * ring.tail) bytes = wrote ∙ ap (λ n. written page (64 * n) bytes) (sym tails) in
    let P : List ℕ → Type 0 = λ p. IsSqRing (after_submit ring) p (entries ++ e ∷ []) in
    subst P (sym there) (sq_ring-push ring page bytes entries e h (omega (arith, sizes, few)) whole full back (omega (arith, room, size)))

pub reaped-none : (cq seen new : GuestCqState) (page : List ℕ) (posted : List CqeFields) (reaped : ℕ) → cq ≡ seen → (cqe_of (cell 16 seen.head page)).phase ≢ seen.phase → new ≡ cq → IsGuestCq cq page posted reaped → Reaped cq new page posted reaped None
reaped-none cq seen new page posted reaped same old still h =
    let P : GuestCqState → Type 0 = λ q. IsGuestCq q page posted reaped in
    let all : length posted ≤ reaped =
    elim (cases_lt reaped (length posted)) [
      | inl l ↦ absurd (old (guest_cq-due_phase seen page posted reaped (subst P same h) l))
      | inr g ↦ g
    ] in
    record {
      oldest = sym (slice_get_past posted reaped all);
      one_more = λ l. absurd (omega (arith, l, all));
      none_left = λ l. still;
    }

pub reaped-some : (cq seen new : GuestCqState) (page : List ℕ) (c : CqeFields) (posted : List CqeFields) (reaped : ℕ) → cq ≡ seen → c ≡ cqe_of (cell 16 seen.head page) → (cqe_of (cell 16 seen.head page)).phase ≡ seen.phase → new ≡ after_reap seen → IsGuestCq cq page posted reaped
    → Reaped cq new page posted reaped (Some c)
reaped-some cq seen new page c posted reaped same at phase moved h =
    let P : GuestCqState → Type 0 = λ q. IsGuestCq q page posted reaped in
    let Q : GuestCqState → Type 0 = λ q. IsGuestCq q page posted (reaped + 1) in
    let g = subst P same h in
    let some : reaped < length posted =
    elim (cases_lt reaped (length posted)) [
      | inl l ↦ l
      | inr l ↦ absurd (guest_cq-none_due seen page posted reaped g l phase)
    ] in
    let there = slice_get-get_or posted reaped (cqe_of []) some in
    record {
      oldest = ap Some (at ∙ guest_cq-due seen page posted reaped g (get_or posted reaped (cqe_of [])) there) ∙ sym there;
      one_more = λ l. subst Q (sym moved) (guest_cq-more seen page posted reaped g l);
      none_left = λ l. absurd (omega (arith, l, some));
    }
