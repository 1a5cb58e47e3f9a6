use Rattle.std.proofs.Common.{◌≡◌, ℕ, zero, suc, ◌+◌, ◌-◌, ◌%◌, ◌<◌, ◌≤◌, ◌==◌, if◌then◌else◌, inl, inr, Bool, true, List, [], ◌∷◌, ◌++◌, Some, drop, get_or, length, slice_get, refl, sym, ap, subst, ◌∙◌, add-one, arith, eq-eqb, ne_eqb}
use Rattle.std.proofs.Math.Nat.{zero-mod}
use Rattle.std.proofs.lemmas.Bool.{cases_eq}
use Rattle.std.proofs.lemmas.List.{drop_more, length-map, length_push}
use Rattle.std.proofs.lemmas.Option.{slice_get-get_or, slice_get_within}
use Rattle.mig_base.proofs.ListLemmas.{slice_get-push_cases, slice_get_before}
use Rattle.nvm_values.specs.declared.sqe.Sqe.{Sqe}
use Rattle.nvm_model.specs.declared.command.Command.{Command}
use Rattle.nvm_model.specs.declared.command.Completion.{Completion}
use Rattle.nvm_model.specs.declared.ring.RingState.{RingState}
use Rattle.nvm_model.specs.declared.script.Head.{Head}
use Rattle.nvm_model.specs.declared.script.LaneSet.{LaneSet}
use Rattle.nvm_model.specs.Event.{head_of_last, phase_of}
use Rattle.nvm_model.specs.Memory.{page_at}
use Rattle.nvm_model.specs.Ring.{CqState, IsCqRing, IsSqRing, completion_entry, cq_page, lane_window, sq_page}
use Rattle.nvm_model.specs.World.{Lane, set_of}
use Rattle.nvm_model.proofs.PlaceLemmas.{next_place-mod}
use Rattle.nvm_ring.specs.Moves.{after_fetch, after_post, phase_at}
use Rattle.nvm_ring.specs.Queues.{HasEnds, HasWindow, IsOrdered, TellsHeads, posted_entries, sq_of}
use Rattle.nvm_ring.proofs.RingLemmas.{phase_of-next}

-- What the queues of a lane tell.

-- Heads.

-- the head that a completion tells is the guest's, once it was reaped
pub head_of_next : (posted : List Completion) (n : ℕ) (c : Completion) → slice_get posted n ≡ Some c → head_of_last posted (n + 1) ≡ c.head
head_of_next posted n c is = rw (add-one, is)

-- a completion that is posted later doesn't change it
pub head_of_earlier : (posted : List Completion) (c : Completion) (n : ℕ) → n ≤ length posted → head_of_last (posted ++ c ∷ []) n ≡ head_of_last posted n
head_of_earlier posted c zero few = refl
head_of_earlier posted c (suc n) few = rw (slice_get_before posted c n (omega arith))

-- it is the place of as many entries as were told
pub head_told : {size fetched : ℕ} {posted : List Completion} {told : ℕ → ℕ} → TellsHeads size posted fetched told → (n : ℕ) → n ≤ length posted → head_of_last posted n ≡ told n % size
head_told {size} tells zero few = sym (ap (λ (t : ℕ). t % size) tells.none ∙ zero-mod size)
head_told {size} {posted = posted} {told} tells (suc n) few =
    let next : n + 1 ≡ suc n = omega arith in
    let here = slice_get-get_or posted n (record { cid = 0; status = (0, 0); head = 0; phase = true }) (omega arith) in
    ap (head_of_last posted) (sym next) ∙ head_of_next posted n _ here ∙ tells.heads n _ here ∙ ap (λ (m : ℕ). told m % size) next

-- and never more than were fetched
pub told_few : {size fetched : ℕ} {posted : List Completion} {told : ℕ → ℕ} → TellsHeads size posted fetched told → (n : ℕ) → n ≤ length posted → told n ≤ fetched
told_few {posted = posted} tells n few = let more = tells.rising n (length posted) few (omega arith) in omega (arith, more, tells.few)

-- where nothing runs, the last completion told all that were fetched
pub last_told : {set : LaneSet} {lane : Lane} → IsOrdered set lane → length lane.posted ≡ lane.fetched → head_of_last lane.posted lane.fetched ≡ lane.fetched % set.sq
last_told {set} {lane} ordered all =
    let o = ordered.tells in
    ap (head_of_last lane.posted) (sym all) ∙ head_told o (length lane.posted) (omega arith) ∙ ap (λ (n : ℕ). n % set.sq) (o.last all)

-- more entries are fetched, whose commands run
tells_fetched : {size fetched now : ℕ} {posted : List Completion} {told : ℕ → ℕ} → fetched ≤ now → length posted < now → TellsHeads size posted fetched told → TellsHeads size posted now told
tells_fetched more running tells = record {
  none = tells.none;
  heads = tells.heads;
  rising = tells.rising;
  few = omega (arith, more, tells.few);
  last = λ all. absurd (omega (arith, all, running));
}

-- one completion more is posted
abbrev told_more : ℕ → ℕ → (ℕ → ℕ) → ℕ → ℕ
told_more count fetched told n = if n == count + 1 then fetched else told n

told_before : (count fetched n : ℕ) (told : ℕ → ℕ) → n ≤ count → told_more count fetched told n ≡ told n
told_before count fetched n told before = ap (λ (b : Bool). if b then fetched else told n) (ne_eqb n (count + 1) (λ is. absurd (omega (arith, is, before))))

told_last : (count fetched n : ℕ) (told : ℕ → ℕ) → n ≡ count + 1 → told_more count fetched told n ≡ fetched
told_last count fetched n told is = ap (λ (b : Bool). if b then fetched else told n) (eq-eqb n (count + 1) is)

tells_posted : {size fetched : ℕ} {posted : List Completion} {told : ℕ → ℕ} (c : Completion) → c.head ≡ fetched % size → TellsHeads size posted fetched told →
    TellsHeads size (posted ++ c ∷ []) fetched (told_more (length posted) fetched told)
tells_posted {size} {fetched} {posted} {told} c head tells =
    let count = length posted in
    let more = length_push posted c in
    let end = told_last count fetched (length (posted ++ c ∷ [])) told more in
    record {
      none = told_before count fetched 0 told (omega arith) ∙ tells.none;
      heads = λ m d is. elim (slice_get-push_cases posted c d m is) [
        | inl old ↦
            let inside = slice_get_within posted m d old in
            tells.heads m d old ∙ ap (λ (n : ℕ). n % size) (sym (told_before count fetched (m + 1) told (omega (arith, inside))))
        | inr last ↦
            let number : m + 1 ≡ count + 1 = omega (arith, last.0) in
            ap (λ (x : Completion). x.head) (sym last.1) ∙ head ∙ ap (λ (n : ℕ). n % size) (sym (told_last count fetched (m + 1) told number))
      ];
      rising = λ m n low high. elim (cases_eq n (count + 1)) [
        | inl last ↦
            elim (cases_eq m (count + 1)) [
              | inl both ↦ omega (arith, told_last count fetched m told both, told_last count fetched n told last)
              | inr before ↦
                  let inside : m ≤ count = omega (arith, before, low, last) in
                  omega (arith, told_before count fetched m told inside, told_few tells m inside, told_last count fetched n told last)
            ]
        | inr before ↦
            let inside : n ≤ count = omega (arith, before, high, more) in
            let first : m ≤ count = omega (arith, low, inside) in
            omega (arith, told_before count fetched m told first, told_before count fetched n told inside, tells.rising m n low inside)
      ];
      few = omega (arith, end);
      last = λ all. end;
    }

-- The completion ring.

-- the controller's end stands for all completions that were posted
pub cq_stands : {k : ℕ} {set : LaneSet} {pages : List (List ℕ)} {lane : Lane} {sq : RingState} {cq : CqState} → HasWindow k set pages lane → IsOrdered set lane → HasEnds set sq cq lane →
    IsCqRing cq (page_at pages 1) (posted_entries k lane.posted) lane.reaped
cq_stands {k} {set} {pages} {lane} window ordered ends =
    let count : length (posted_entries k lane.posted) ≡ length lane.posted = length-map lane.posted (completion_entry k) in
    subst (λ (q : CqState). IsCqRing q (page_at pages 1) (posted_entries k lane.posted) lane.reaped) (sym ends.cq_is) (record {
      page_is = window.completions;
      tail = ap (λ (n : ℕ). n % set.cq) (sym count);
      head = refl;
      phase = ap (phase_of set.cq) (sym count);
      order = omega (arith, count, ordered.reaped);
      few = omega (arith, count, ordered.posted, ordered.in_flight);
    })

-- the places and the phase tag after one more completion
pub ring_after : (size head count : ℕ) → 0 < size →
    after_post (record { ring = record { size = size; head = head; tail = count % size }; phase = phase_of size count }) ≡ record { ring = record { size = size; head = head; tail = (count + 1) % size }; phase = phase_of size (count + 1) }
ring_after size head count pos =
    ap (λ (t : ℕ). record { ring = record { size = size; head = head; tail = t }; phase = phase_at t (phase_of size count) }) (next_place-mod size count)
    ∙ ap (λ (b : Bool). record { ring = record { size = size; head = head; tail = (count + 1) % size }; phase = b }) (sym (phase_of-next size count pos))

-- One entry or completion more.

-- from an element of a list on there are that one and those after it
some_element : {X : Type 0} (xs : List X) (n : ℕ) → n < length xs → (x : X) × (slice_get xs n ≡ Some x) × (drop n xs ≡ x ∷ drop (n + 1) xs)
some_element [] n some = absurd (omega arith)
some_element (y ∷ xs) n some = let x = get_or (y ∷ xs) n y in (x, slice_get-get_or (y ∷ xs) n y some, drop_more (y ∷ xs) n y some)

-- the oldest entry of those that aren't fetched, and the ring that stands for it and the others
pub oldest_entry : {k : ℕ} {set : LaneSet} {pages : List (List ℕ)} {l : Lane} {sq : RingState} {cq : CqState} → HasWindow k set pages l → HasEnds set sq cq l → l.fetched < length l.submitted →
    (e : Sqe) × (slice_get l.submitted l.fetched ≡ Some e) × IsSqRing sq (page_at pages 0) (e ∷ drop (l.fetched + 1) l.submitted)
oldest_entry {pages = pages} {l} {sq} window ends some =
    let first = some_element l.submitted l.fetched some in
    let ring : IsSqRing sq (page_at pages 0) (drop l.fetched l.submitted) = subst (λ (r : RingState). IsSqRing r (page_at pages 0) (drop l.fetched l.submitted)) (sym ends.sq_is) window.entries in
    (first.0, first.1, subst (λ (es : List Sqe). IsSqRing sq (page_at pages 0) es) first.2 ring)

-- the controller's place after one more entry was fetched
pub sq_fetched : {set : LaneSet} {l : Lane} {sq : RingState} {cq : CqState} → HasEnds set sq cq l → after_fetch sq ≡ sq_of set (record l { fetched = l.fetched + 1 })
sq_fetched {set} {l} ends = ap after_fetch ends.sq_is ∙ ap (λ (h : ℕ). record { size = set.sq; head = h; tail = length l.submitted % set.sq }) (next_place-mod set.sq l.fetched)

-- the queues are in order where the oldest entry was fetched, whose command runs
pub ordered_fetched : {set : LaneSet} {l : Lane} (command : Command) → l.fetched < length l.submitted → length l.running + (length l.posted - l.reaped) < set.cq - 1 → IsOrdered set l →
    IsOrdered set (record l { fetched = l.fetched + 1; running = l.running ++ command ∷ [] })
ordered_fetched {l = l} command some free o =
    let more : length (l.running ++ command ∷ []) ≡ length l.running + 1 = length_push l.running command in
    record {
      submitted = o.submitted;
      fetched = omega (arith, some);
      posted = omega (arith, o.posted, more);
      reaped = o.reaped;
      in_flight = omega (arith, free, o.posted, o.reaped);
      told = o.told;
      tells = tells_fetched (omega arith) (omega (arith, o.posted)) o.tells;
      untold = o.untold;
    }

-- and where the completion of the oldest command that runs was posted
pub ordered_posted : {set : LaneSet} {l : Lane} (command : Command) (others : List Command) (c : Completion) → l.running ≡ command ∷ others → c.head ≡ l.fetched % set.sq → IsOrdered set l →
    IsOrdered set (record l { running = others; posted = l.posted ++ c ∷ [] })
ordered_posted {l = l} command others c oldest head o =
    let more : length (l.posted ++ c ∷ []) ≡ length l.posted + 1 = length_push l.posted c in
    record {
      submitted = o.submitted;
      fetched = o.fetched;
      posted = omega (arith, o.posted, more, ap length oldest);
      reaped = omega (arith, o.reaped, more);
      in_flight = o.in_flight;
      told = told_more (length l.posted) l.fetched o.told;
      tells = tells_posted c head o.tells;
      untold = omega (arith, told_before (length l.posted) l.fetched l.reaped o.told o.reaped, o.untold);
    }

-- A whole window.

-- two pages and the others
two_and_rest : (pages : List (List ℕ)) → 2 ≤ length pages → pages ≡ page_at pages 0 ∷ page_at pages 1 ∷ drop 2 pages
two_and_rest [] some = absurd (omega arith)
two_and_rest (a ∷ []) some = absurd (omega arith)
two_and_rest (a ∷ b ∷ pages) some = refl

-- a lane's window has its queues' pages and its memory, and nothing else
pub window_whole : (head : Head) (k : ℕ) {pages : List (List ℕ)} {lane : Lane} → HasWindow k (set_of head k) pages lane → pages ≡ lane_window head k lane
window_whole head k {pages} {lane} w =
    let set = set_of head k in
    two_and_rest pages (omega (arith, w.size)) ∙ ap (λ p. p ∷ page_at pages 1 ∷ drop 2 pages) w.sq ∙ ap (λ p. sq_page set.sq lane.submitted ∷ p ∷ drop 2 pages) w.cq
    ∙ ap (λ ps. sq_page set.sq lane.submitted ∷ cq_page k set.cq lane.posted ∷ ps) (sym w.memory)
