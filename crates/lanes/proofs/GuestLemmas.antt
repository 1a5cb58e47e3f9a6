use Rattle.std.proofs.Common.{◌≡◌, ◌≢◌, ℕ, zero, suc, ◌+◌, ◌-◌, ◌*◌, ◌%◌, ◌^◌, ◌<◌, ◌≤◌, Bool, if◌then◌else◌, ⊎_elim, List, [], ◌∷◌, ◌++◌, Option, Some, None, drop, take, length, map, min, refl, sym, ap, subst, ◌∙◌, length-append, length-set, drop-set-lt, get_or-set_same, get_or-set_other, lt-ltb, arith}
use Rattle.std.proofs.Math.Nat.{add-mod_right, mod-lt}
use Rattle.std.proofs.lemmas.Bool.{cases_lt}
use Rattle.std.proofs.lemmas.List.{drop-append-le, length-drop, length-map}
use Rattle.std.proofs.lemmas.Option.{slice_get_within}
use Rattle.std.specs.List.{slice_get}
use Rattle.nvm_values.specs.declared.sqe.Sqe.{Sqe}
use Rattle.nvm_values.specs.Cqe.{CqeFields}
use Rattle.mig_base.proofs.ListLemmas.{empty_list}
use Rattle.nvm_values.specs.Sqe.{sqe_bytes, sqe_of}
use Rattle.nvm_values.proofs.SqeLemmas.{length-sqe_bytes}
use Rattle.nvm_model.specs.declared.ring.RingState.{RingState}
use Rattle.nvm_model.specs.declared.script.LaneSet.{LaneSet}
use Rattle.nvm_model.specs.declared.script.Act.{Act}
use Rattle.nvm_model.specs.declared.script.Act.TheVariants.{Fill, Poke, List as PrpList, Submit, Raw, Wait, Idle}
use Rattle.nvm_model.specs.Event.{MayDo, head_of_last, phase_of, submitted_by, untold_entries}
use Rattle.nvm_model.specs.Memory.{page_at, with_bytes, written}
use Rattle.nvm_ring.specs.Queues.{HasWindow, IsOrdered, posted_entries, sq_of}
use Rattle.nvm_model.specs.Ring.{GuestCqState, IsCqPage, IsGuestCq, IsSqRing, completion_entry, next_place}
use Rattle.nvm_model.specs.ScriptText.{IsSet}
use Rattle.nvm_model.specs.World.{IsQuiet, Lane}
use Rattle.nvm_model.proofs.CellLemmas.{length-sq_page, sq_page-push}
use Rattle.nvm_model.proofs.PlaceLemmas.{mods-apart, next_place-mod, places_between-mod, places_between-mods}
use Rattle.nvm_ring.specs.Moves.{after_learn, after_reap, after_submit, phase_at}
use Rattle.nvm_ring.specs.Stands.{Reaped as TakesOldest}
use Rattle.nvm_ring.proofs.QueueLemmas.{head_of_next, head_told, told_few}
use Rattle.nvm_ring.proofs.RingLemmas.{phase_of-next, reaped-none, reaped-some, sq_ring-push}
use Rattle.guest_ram.specs.Window.{WindowState, data_pages}
use Rattle.lanes.specs.declared.guest.ActAnswer.TheVariants.{Done, Rang}
use Rattle.lanes.specs.Guest.{CanDo, GuestState, HasDone, Reaped, Reaps, Stands, Submits, TakesNext, after_completion, written_pages}
use Rattle.lanes.specs.Parts.{IsSameButData}

-- What a guest's acts and reaps do to the lane for which it stands.

-- Free places.

-- a ring of which so many entries are known to be fetched has a place for one more where it isn't full
free_place : (size told count : ℕ) → count < told + size → next_place size (count % size) ≢ told % size → count + 1 < told + size
free_place size told count few other = ⊎_elim
    (λ free. free)
    (λ full.
    let last : count + 1 ≡ told + size = omega arith in
    absurd (other (next_place-mod size count ∙ ap (λ n. n % size) last ∙ add-mod_right told size)))
    (cases_lt (count + 1) (told + size))

-- and where it has one, it isn't full
not_full : (size told count : ℕ) → told ≤ count → count + 1 < told + size → next_place size (count % size) ≢ told % size
not_full size told count order free full = mods-apart size told (count + 1) (omega arith) free (sym full ∙ next_place-mod size count)

-- the guest knows of no more entries than it submitted
known_few : {set : LaneSet} {lane : Lane} (ordered : IsOrdered set lane) → ordered.told lane.reaped ≤ length lane.submitted
known_few {lane = lane} o = let few = told_few o.tells lane.reaped o.reaped in omega (arith, few, o.fetched)

-- how many entries the guest doesn't know to be fetched
untold_is : {set : LaneSet} {lane : Lane} → IsSet set → (ordered : IsOrdered set lane) → untold_entries set.sq lane ≡ length lane.submitted - ordered.told lane.reaped
untold_is {set} {lane} is o =
    let told = o.told lane.reaped in
    let below : told % set.sq < set.sq = mod-lt told (omega (arith, is.0)) in
    ap (λ (h : ℕ). (length lane.submitted + set.sq - h) % set.sq) (head_told o.tells lane.reaped o.reaped)
    ∙ sym (places_between-mod set.sq (told % set.sq) (length lane.submitted) (omega (arith, below)))
    ∙ places_between-mods set.sq told (length lane.submitted) (known_few o) o.untold

-- the place after the guest's tail by the number of entries
next_is : {set : LaneSet} {guest : GuestState} {window : WindowState} {lane : Lane} → Stands set guest window lane → next_place guest.sq.size guest.sq.tail ≡ next_place set.sq (length lane.submitted % set.sq)
next_is stands = ap (λ (r : RingState). next_place r.size r.tail) stands.ends.sq_is

-- and its head by the number that it stands for
head_is : {set : LaneSet} {guest : GuestState} {window : WindowState} {lane : Lane} (stands : Stands set guest window lane) → guest.sq.head ≡ stands.ordered.told lane.reaped % set.sq
head_is {lane = lane} stands = ap (λ (r : RingState). r.head) stands.ends.sq_is ∙ head_told stands.ordered.tells lane.reaped stands.ordered.reaped

-- the guest's ring that isn't full has a free place
has_free : {set : LaneSet} {guest : GuestState} {window : WindowState} {lane : Lane} (stands : Stands set guest window lane) → next_place guest.sq.size guest.sq.tail ≢ guest.sq.head → length lane.submitted + 1 < stands.ordered.told lane.reaped + set.sq
has_free {set} {lane = lane} stands other = free_place set.sq (stands.ordered.told lane.reaped) (length lane.submitted) stands.ordered.untold (λ full. other (next_is stands ∙ full ∙ sym (head_is stands)))

-- where the guest's ring isn't full, it may submit
free_known : {set : LaneSet} {guest : GuestState} {window : WindowState} {lane : Lane} → IsSet set → Stands set guest window lane → next_place guest.sq.size guest.sq.tail ≢ guest.sq.head → untold_entries set.sq lane < set.sq - 1
free_known is stands other =
    let o = stands.ordered in
    omega (arith, untold_is is o, has_free stands other, known_few o)

-- and where it may, the ring isn't full
known_free : {set : LaneSet} {guest : GuestState} {window : WindowState} {lane : Lane} → IsSet set → Stands set guest window lane → untold_entries set.sq lane < set.sq - 1 → next_place guest.sq.size guest.sq.tail ≢ guest.sq.head
known_free {set} {lane = lane} is stands free full =
    let o = stands.ordered in
    not_full set.sq (o.told lane.reaped) (length lane.submitted) (known_few o) (omega (arith, untold_is is o, free, known_few o)) (sym (next_is stands) ∙ full ∙ head_is stands)

-- the guest reaped a completion of each entry exactly where nothing of the lane is under way
all_quiet : {set : LaneSet} {guest : GuestState} {window : WindowState} {lane : Lane} → Stands set guest window lane → guest.waiting ≡ 0 → IsQuiet lane
all_quiet {lane = lane} stands none =
    let o = stands.ordered in
    record {
      all_fetched = omega (arith, none, stands.ends.waits, o.fetched, o.posted, o.reaped);
      none_running = empty_list lane.running (omega (arith, none, stands.ends.waits, o.fetched, o.posted, o.reaped));
      all_reaped = omega (arith, none, stands.ends.waits, o.fetched, o.posted, o.reaped);
    }

none_waits : {set : LaneSet} {guest : GuestState} {window : WindowState} {lane : Lane} → Stands set guest window lane → IsQuiet lane → guest.waiting ≡ 0
none_waits stands quiet = let none = ap length quiet.none_running in omega (arith, none, quiet.all_fetched, quiet.all_reaped, stands.ends.waits, stands.ordered.posted)

-- the guest can do an act exactly where the model allows it
pub may_do : {set : LaneSet} {guest : GuestState} {window : WindowState} {lane : Lane} (act : Act) → IsSet set → Stands set guest window lane → CanDo guest act → MayDo set act lane
may_do (Submit cid op slba count p1 p2) is stands can = free_known is stands can
may_do (Raw entry) is stands can = free_known is stands can
may_do Wait is stands can = all_quiet stands can
may_do (Fill page byte) is stands can = tt
may_do (Poke page at bytes used) is stands can = tt
may_do (PrpList page pages used) is stands can = tt
may_do Idle is stands can = tt

pub can_do : {set : LaneSet} {guest : GuestState} {window : WindowState} {lane : Lane} (act : Act) → IsSet set → Stands set guest window lane → MayDo set act lane → CanDo guest act
can_do (Submit cid op slba count p1 p2) is stands may = known_free is stands may
can_do (Raw entry) is stands may = known_free is stands may
can_do Wait is stands may = none_waits stands may
can_do (Fill page byte) is stands may = tt
can_do (Poke page at bytes used) is stands may = tt
can_do (PrpList page pages used) is stands may = tt
can_do Idle is stands may = tt

-- an act that submits an entry can be done where the ring has a free place alone
pub has_place : (guest : GuestState) (entry : Sqe) (k : ℕ) (act : Act) → entry ∷ [] ≡ submitted_by k act → CanDo guest act → next_place guest.sq.size guest.sq.tail ≢ guest.sq.head
has_place guest entry k (Submit cid op slba count p1 p2) is can = can
has_place guest entry k (Raw bytes) is can = can
has_place guest entry k (Fill page byte) is can = absurd cc
has_place guest entry k (Poke page at bytes used) is can = absurd cc
has_place guest entry k (PrpList page pages used) is can = absurd cc
has_place guest entry k Wait is can = absurd cc
has_place guest entry k Idle is can = absurd cc

-- Acts.

-- so few entries wait for the guest's reap
pub waits_few : {set : LaneSet} {guest : GuestState} {window : WindowState} {lane : Lane} → IsSet set → Stands set guest window lane → guest.waiting < 320
waits_few {lane = lane} is stands =
    let o = stands.ordered in
    omega (arith, is, o.untold, told_few o.tells lane.reaped o.reaped, o.in_flight, stands.ends.waits)

-- an act was counted, and data pages were written
pub written_stands : {set : LaneSet} {guest : GuestState} {window new : WindowState} {lane : Lane} → Stands set guest window lane → IsSameButData window new → Stands set guest new (record lane { pages = data_pages new; acts = lane.acts + 1 })
written_stands {set} {guest} {lane = lane} stands same =
    let w = stands.window_is in
    let o = stands.ordered in
    record {
      number = same.lane ∙ stands.number;
      window_is = record {
        size = same.size ∙ w.size;
        sq = same.sq ∙ w.sq;
        cq = same.cq ∙ w.cq;
        memory = refl;
        entries = subst (λ (p : List ℕ). IsSqRing (sq_of set lane) p (drop lane.fetched lane.submitted)) (sym same.sq) w.entries;
        completions = subst (λ (p : List ℕ). IsCqPage set.cq p (posted_entries guest.lane lane.posted)) (sym same.cq) w.completions;
      };
      ordered = record {
        submitted = omega (arith, o.submitted);
        fetched = o.fetched;
        posted = o.posted;
        reaped = o.reaped;
        in_flight = o.in_flight;
        told = o.told;
        tells = o.tells;
        untold = o.untold;
      };
      ends = record { sq_is = stands.ends.sq_is; cq_is = stands.ends.cq_is; waits = stands.ends.waits };
    }

-- the act is counted before its entry is
pub counted : {set : LaneSet} {guest : GuestState} {window : WindowState} {lane : Lane} → Stands set guest window lane → length lane.submitted < lane.acts + 1
counted stands = let few = stands.ordered.submitted in omega arith

-- what differs in data pages alone has the first two pages still
two_first : (pages : List (List ℕ)) → 2 ≤ length pages → (take 2 pages ≡ page_at pages 0 ∷ page_at pages 1 ∷ []) × (pages ≡ page_at pages 0 ∷ page_at pages 1 ∷ drop 2 pages)
two_first [] some = absurd (omega arith)
two_first (a ∷ []) some = absurd (omega arith)
two_first (a ∷ b ∷ rest) some = (refl, refl)

pub two_kept : {old new : WindowState} (rest : List (List ℕ)) → IsSameButData old new → 2 ≤ length old.pages → data_pages new ≡ rest → new.pages ≡ take 2 old.pages ++ rest
two_kept {old} {new} rest same some is =
    (two_first new.pages (omega (arith, some, same.size))).1
    ∙ ap (λ (a : List ℕ). a ∷ page_at new.pages 1 ∷ drop 2 new.pages) same.sq
    ∙ ap (λ (b : List ℕ). page_at old.pages 0 ∷ b ∷ drop 2 new.pages) same.cq
    ∙ ap (λ (others : List (List ℕ)). page_at old.pages 0 ∷ page_at old.pages 1 ∷ others) is
    ∙ ap (λ (front : List (List ℕ)). front ++ rest) (sym (two_first old.pages some).0)

-- an act was done that submits nothing, and one that submits an entry
pub done_none : {guest : GuestState} {window new : WindowState} (act : Act) → CanDo guest act → [] ≡ submitted_by guest.lane act → IsSameButData window new → new.pages ≡ written_pages guest.lane act window.pages →
    HasDone act guest guest window new Done
done_none {guest} {window} {new} act can none same pages = record {
  can = can;
  lane = same.lane;
  submits = subst (λ (es : List Sqe). Submits es (written_pages guest.lane act window.pages) guest guest new.pages Done) none (refl, refl, pages);
}

pub done_entry : {guest new : GuestState} {window mid new_window : WindowState} (act : Act) (entry : Sqe) (tail : ℕ) → CanDo guest act → entry ∷ [] ≡ submitted_by guest.lane act → IsSameButData window mid → mid.pages ≡ written_pages guest.lane act window.pages →
    new_window.lane ≡ mid.lane → new_window.pages ≡ with_bytes mid.pages 0 (64 * guest.sq.tail) (sqe_bytes entry) → tail ≡ new.sq.tail →
    new ≡ record guest { sq = after_submit guest.sq; waiting = min (guest.waiting + 1) (2 ^ 32 - 1) } → HasDone act guest new window new_window (Rang tail)
done_entry {guest} {new} {window} {mid} {new_window} act entry tail can one same pages lane put tail_is new_is = record {
  can = can;
  lane = lane ∙ same.lane;
  submits = subst (λ (es : List Sqe). Submits es (written_pages guest.lane act window.pages) guest new new_window.pages (Rang tail)) one
      (ap Rang tail_is, new_is, put ∙ ap (λ (ps : List (List ℕ)). with_bytes ps 0 (64 * guest.sq.tail) (sqe_bytes entry)) pages);
}

-- the place after one more entry
more_place : (size : ℕ) (submitted : List Sqe) (e : Sqe) → next_place size (length submitted % size) ≡ length (submitted ++ e ∷ []) % size
more_place size submitted e = next_place-mod size (length submitted) ∙ ap (λ n. n % size) (sym (length-append submitted (e ∷ [])))

-- the window after an entry was put into its place
entry_window : {set : LaneSet} {guest : GuestState} {window : WindowState} {lane : Lane} (new_window : WindowState) (e : Sqe) → IsSet set → Stands set guest window lane → next_place guest.sq.size guest.sq.tail ≢ guest.sq.head →
    new_window.pages ≡ with_bytes window.pages 0 (64 * guest.sq.tail) (sqe_bytes e) → sqe_of (sqe_bytes e) ≡ e → HasWindow guest.lane set new_window.pages (record lane { submitted = lane.submitted ++ e ∷ [] })
entry_window {set} {guest} {window} {lane} new_window e is stands other pages back =
    let w = stands.window_is in
    let o = stands.ordered in
    let size = set.sq in
    let bytes = written (page_at window.pages 0) (64 * guest.sq.tail) (sqe_bytes e) in
    let some : 0 < length window.pages = omega (arith, w.size) in
    let guest_tail : guest.sq.tail ≡ length lane.submitted % size = ap (λ (r : RingState). r.tail) stands.ends.sq_is in
    let second : page_at new_window.pages 1 ≡ page_at window.pages 1 =
    ap (λ (ps : List (List ℕ)). page_at ps 1) pages ∙ get_or-set_other window.pages 0 1 bytes [] (λ is. absurd (omega (arith, is))) in
    let first : page_at new_window.pages 0 ≡ written (page_at window.pages 0) (64 * (length lane.submitted % size)) (sqe_bytes e) =
    ap (λ (ps : List (List ℕ)). page_at ps 0) pages ∙ get_or-set_same window.pages 0 bytes [] some ∙ ap (λ (t : ℕ). written (page_at window.pages 0) (64 * t) (sqe_bytes e)) guest_tail in
    let told = told_few o.tells lane.reaped o.reaped in
    let few : length (drop lane.fetched lane.submitted) + 1 < size = omega (arith, length-drop lane.fetched lane.submitted, has_free stands other, told, o.fetched) in
    let whole : length (page_at window.pages 0) ≡ 4096 = ap length w.sq ∙ length-sq_page size lane.submitted is.1 in
    let after : IsSqRing (after_submit (sq_of set lane)) (page_at new_window.pages 0) (drop lane.fetched lane.submitted ++ e ∷ []) =
    subst (λ (p : List ℕ). IsSqRing (after_submit (sq_of set lane)) p (drop lane.fetched lane.submitted ++ e ∷ [])) (sym first)
    (sq_ring-push (sq_of set lane) (page_at window.pages 0) (sqe_bytes e) (drop lane.fetched lane.submitted) e w.entries is.1 whole (length-sqe_bytes e) back few) in
    record {
      size = ap length pages ∙ length-set window.pages 0 bytes ∙ w.size;
      sq = first ∙ ap (λ (p : List ℕ). written p (64 * (length lane.submitted % size)) (sqe_bytes e)) w.sq ∙ sym (sq_page-push size lane.submitted e (omega (arith, is.0)));
      cq = second ∙ w.cq;
      memory = w.memory ∙ sym (ap (drop 2) pages ∙ drop-set-lt 2 window.pages 0 bytes (omega arith));
      entries = subst (λ (es : List Sqe). IsSqRing (sq_of set (record lane { submitted = lane.submitted ++ e ∷ [] })) (page_at new_window.pages 0) es) (sym (drop-append-le lane.fetched lane.submitted (e ∷ []) o.fetched))
          (subst (λ (t : ℕ). IsSqRing (record { size = size; head = lane.fetched % size; tail = t }) (page_at new_window.pages 0) (drop lane.fetched lane.submitted ++ e ∷ [])) (more_place size lane.submitted e) after);
      completions = subst (λ (p : List ℕ). IsCqPage set.cq p (posted_entries guest.lane lane.posted)) (sym second) w.completions;
    }

-- an entry was submitted
pub submit_stands : {set : LaneSet} {guest : GuestState} {window new_window : WindowState} {lane : Lane} (e : Sqe) (sq : RingState) (waiting : ℕ) → IsSet set → Stands set guest window lane → length lane.submitted < lane.acts →
    next_place guest.sq.size guest.sq.tail ≢ guest.sq.head → new_window.lane ≡ window.lane → new_window.pages ≡ with_bytes window.pages 0 (64 * guest.sq.tail) (sqe_bytes e) → sqe_of (sqe_bytes e) ≡ e →
    sq ≡ after_submit guest.sq → waiting ≡ guest.waiting + 1 →
    (sq.tail ≡ length (lane.submitted ++ e ∷ []) % set.sq) × Stands set (record guest { sq = sq; waiting = waiting }) new_window (record lane { submitted = lane.submitted ++ e ∷ [] })
submit_stands {set} {guest} {window} {new_window} {lane} e sq waiting is stands counted other number pages back moved waits =
    let o = stands.ordered in
    let ends = stands.ends in
    let more : length (lane.submitted ++ e ∷ []) ≡ length lane.submitted + 1 = length-append lane.submitted (e ∷ []) in
    let sq_is : sq ≡ record { size = set.sq; head = head_of_last lane.posted lane.reaped; tail = length (lane.submitted ++ e ∷ []) % set.sq } =
    moved ∙ ap after_submit ends.sq_is ∙ ap (λ (t : ℕ). record { size = set.sq; head = head_of_last lane.posted lane.reaped; tail = t }) (more_place set.sq lane.submitted e) in (
      ap (λ (r : RingState). r.tail) sq_is,
      record {
        number = number ∙ stands.number;
        window_is = entry_window new_window e is stands other pages back;
        ordered = record {
          submitted = omega (arith, counted, more);
          fetched = omega (arith, o.fetched, more);
          posted = o.posted;
          reaped = o.reaped;
          in_flight = o.in_flight;
          told = o.told;
          tells = o.tells;
          untold = omega (arith, has_free stands other, more);
        };
        ends = record { sq_is = sq_is; cq_is = ends.cq_is; waits = omega (arith, waits, ends.waits, more) };
      },
    )

-- Reaps.

-- the guest's end of the completion ring stands for all completions that were posted
pub guest_of : {set : LaneSet} {guest : GuestState} {window : WindowState} {lane : Lane} → Stands set guest window lane → IsGuestCq guest.cq (page_at window.pages 1) (posted_entries guest.lane lane.posted) lane.reaped
guest_of {set} {guest} {window} {lane} stands =
    let o = stands.ordered in
    let count : length (posted_entries guest.lane lane.posted) ≡ length lane.posted = length-map lane.posted (completion_entry guest.lane) in
    subst (λ (q : GuestCqState). IsGuestCq q (page_at window.pages 1) (posted_entries guest.lane lane.posted) lane.reaped) (sym stands.ends.cq_is) (record {
      page_is = stands.window_is.completions;
      head = refl;
      phase = refl;
      order = omega (arith, count, o.reaped);
      few = omega (arith, count, o.posted, o.in_flight);
    })

-- what stands at a place of a list that a function was mapped over
element_of_map : {X Y : Type 0} (f : X → Y) (xs : List X) (n : ℕ) (y : Y) → Some y ≡ slice_get (map f xs) n → (x : X) × (slice_get xs n ≡ Some x) × (y ≡ f x)
element_of_map f [] n y is = cc
element_of_map f (x ∷ xs) zero y is = (x, refl, cc)
element_of_map f (x ∷ xs) (suc n) y is = element_of_map f xs n y is

-- and a place at which nothing stands is past its end
none_of_map : {X Y : Type 0} (f : X → Y) (xs : List X) (n : ℕ) → None ≡ slice_get (map f xs) n → length xs ≤ n
none_of_map f [] n is = omega arith
none_of_map f (x ∷ xs) zero is = cc
none_of_map f (x ∷ xs) (suc n) is = let rest = none_of_map f xs n is in omega arith

-- the guest's place and phase tag after one more completion
reap_after : (size count : ℕ) → 0 < size → after_reap (record { size = size; head = count % size; phase = phase_of size count }) ≡ record { size = size; head = (count + 1) % size; phase = phase_of size (count + 1) }
reap_after size count pos =
    ap (λ (t : ℕ). record { size = size; head = t; phase = phase_at t (phase_of size count) }) (next_place-mod size count)
    ∙ ap (λ (b : Bool). record { size = size; head = (count + 1) % size; phase = b }) (sym (phase_of-next size count pos))

-- a head that is a place of the ring is learnt
learnt_is : (head : ℕ) (ring : RingState) → head < ring.size → after_learn head ring ≡ record ring { head = head }
learnt_is head ring below = ap (λ (b : Bool). if b then record ring { head = head } else ring) (lt-ltb head ring.size below)

-- the guest reaped its oldest completion, and learnt the head that it tells
reap_stands : {set : LaneSet} {guest : GuestState} {window : WindowState} {lane : Lane} (page : List ℕ) (taken : CqeFields) → IsSet set → Stands set guest window lane →
    TakesOldest guest.cq (after_reap guest.cq) page (posted_entries guest.lane lane.posted) lane.reaped (Some taken) → Reaped set guest (after_completion taken guest) window lane taken
reap_stands {set} {guest} {window} {lane} page taken is stands takes =
    let w = stands.window_is in
    let o = stands.ordered in
    let ends = stands.ends in
    let found = element_of_map (completion_entry guest.lane) lane.posted lane.reaped taken takes.oldest in
    let c = found.0 in
    let there = slice_get_within lane.posted lane.reaped c found.1 in
    let next = head_of_next lane.posted lane.reaped c found.1 in
    let head : taken.sqhd ≡ c.head = ap (λ (e : CqeFields). e.sqhd) found.2 in
    let told : c.head ≡ o.told (lane.reaped + 1) % set.sq = o.tells.heads lane.reaped c found.1 in
    let size : guest.sq.size ≡ set.sq = ap (λ (r : RingState). r.size) ends.sq_is in
    let below : o.told (lane.reaped + 1) % set.sq < set.sq = mod-lt (o.told (lane.reaped + 1)) (omega (arith, is.0)) in
    let later = o.tells.rising lane.reaped (lane.reaped + 1) (omega arith) (omega (arith, there)) in
    record {
      completion = c;
      oldest = found.1;
      cqe_is = found.2;
      stands = record {
        number = stands.number;
        window_is = record { size = w.size; sq = w.sq; cq = w.cq; memory = w.memory; entries = w.entries; completions = w.completions };
        ordered = record {
          submitted = o.submitted;
          fetched = o.fetched;
          posted = o.posted;
          reaped = omega (arith, there);
          in_flight = omega (arith, o.in_flight);
          told = o.told;
          tells = o.tells;
          untold = omega (arith, o.untold, later);
        };
        ends = record {
          sq_is = learnt_is taken.sqhd guest.sq (omega (arith, head, told, size, below)) ∙ ap (λ (r : RingState). record r { head = taken.sqhd }) ends.sq_is
              ∙ ap (λ (h : ℕ). record { size = set.sq; head = h; tail = length lane.submitted % set.sq }) (head ∙ sym next);
          cq_is = ap after_reap ends.cq_is ∙ reap_after set.cq lane.reaped (omega (arith, is.2));
          waits = omega (arith, ends.waits, there, o.posted, o.fetched);
        };
      };
    }

-- what a reap is for a lane
pub reap_leads : {set : LaneSet} {guest : GuestState} {window : WindowState} {lane : Lane} (new : GuestState) (result : Option CqeFields) → IsSet set → Stands set guest window lane → TakesNext (page_at window.pages 1) guest new result → Reaps set guest new window lane result
reap_leads {guest = guest} {window} {lane} new None is stands takes =
    let none = none_of_map (completion_entry guest.lane) lane.posted lane.reaped
    (reaped-none guest.cq guest.cq guest.cq (page_at window.pages 1) (posted_entries guest.lane lane.posted) lane.reaped refl takes.0 refl (guest_of stands)).oldest in
    (omega (arith, none, stands.ordered.reaped), takes.1)
reap_leads {set} {guest} {window} {lane} new (Some taken) is stands takes =
    subst (λ (g : GuestState). Reaped set guest g window lane taken) (sym takes.2)
    (reap_stands (page_at window.pages 1) taken is stands
    (reaped-some guest.cq guest.cq (after_reap guest.cq) (page_at window.pages 1) taken (posted_entries guest.lane lane.posted) lane.reaped refl takes.1 takes.0 refl (guest_of stands)))
