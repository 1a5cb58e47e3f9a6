use Rattle.std.proofs.Common.{◌≡◌, ◌≢◌, ℕ, zero, suc, ◌+◌, ◌*◌, ◌/◌, ◌%◌, ◌<◌, Bool, cond, List, [], ◌++◌, length, take, refl, sym, ap, ◌∙◌, add-one, arith, ne_eqb}
use Rattle.std.specs.List.{flat_map, range_with_len}
use Rattle.std.proofs.Math.Seq.{take-add, take-length}
use Rattle.std.proofs.lemmas.List.{length-take-le}
use Rattle.adm_values.specs.declared.command.AdminCpl.{AdminCpl}
use Rattle.adm_values.specs.declared.command.What.TheVariants.{Suspend, Resume}
use Rattle.ctl_state.specs.Parts.{kept}
use Rattle.ctl_state.specs.declared.phase.Phase.TheVariants.{Running}
use Rattle.ctl_state.specs.Admin.{state_bytes}
use Rattle.ctl_state.specs.Controller.{ControllerState}
use Rattle.manager.specs.declared.side.Side.{Side}
use Rattle.manager.specs.declared.side.Side.TheVariants.{From, To}
use Rattle.manager.specs.Asks.{Ask, part_asks, state_asks}
use Rattle.manager.specs.Parts.{Begins, DoesResume, DoesSuspend, GetsPart, HandsOver, HandsPart, HasFed, Sends, SetsPart, part_length, size_of, with_fed}
use Rattle.manager.specs.Port.{IsAnswered, IsPortCall, PortCall, PortState, SideState, with_controller}
use Rattle.manager.specs.Port.PortCall.{Mark}
use Rattle.manager.proofs.AskLemmas.{asked_call, asked_more}
use Rattle.manager.proofs.StateLemmas.{part_taken, state_size}

-- The parts of a cutover.

pub suspends : {I : Type 0} {moves : I → PortCall → I → Type 0} {t : ℕ} {bytes new_bytes : List ℕ} {cpl : AdminCpl} {old mid new : PortState I} → old.from.controller.phase ≡ Running
    → Sends moves From Suspend bytes cpl new_bytes old mid → IsPortCall moves mid (Mark (3 * t + 1)) new → DoesSuspend moves t old new
suspends {t = t} {old = old} running s m = record {
  asked = asked_more s.asked (asked_call (Mark (3 * t + 1)) m);
  from_is = m.does.0 ∙ s.sides.0 ∙ ap (λ (c : ControllerState). with_controller c old.from) (rw running at s.does.0).1;
  to_is = m.does.1 ∙ s.sides.1;
}

still_answered : {I : Type 0} (side : Side) (old mid new : PortState I) (c : ControllerState) → new.from ≡ mid.from → new.to ≡ mid.to → IsAnswered side old c mid → IsAnswered side old c new
still_answered From old mid new c from to is = (from ∙ is.0, to ∙ is.1)
still_answered To old mid new c from to is = (from ∙ is.0, to ∙ is.1)

pub resumes : {I : Type 0} {moves : I → PortCall → I → Type 0} {side : Side} {t : ℕ} {bytes new_bytes : List ℕ} {cpl : AdminCpl} {old mid new : PortState I}
    → Sends moves side Resume bytes cpl new_bytes old mid → IsPortCall moves mid (Mark (3 * t + 2)) new → DoesResume moves side t old new
resumes {side = side} {t} {old = old} {mid} {new} s m = record {
  asked = asked_more s.asked (asked_call (Mark (3 * t + 2)) m);
  controller = s.controller;
  result = s.result;
  resumes = s.does.0;
  sides = still_answered side old mid new s.controller m.does.0 m.does.1 s.sides;
}

-- The parts of the state.

pub hands_part : {I : Type 0} {moves : I → PortCall → I → Type 0} {part : List ℕ} {count : ℕ} {old mid new : PortState I} (i : ℕ) → Begins old → 64 * i < size_of old.from.controller
    → kept (64 * i) old.to.controller.fed.bytes ≡ take (64 * i) (state_bytes old.from.controller) → length part ≡ 64
    → GetsPart moves (64 * i) part count old mid → SetsPart moves (64 * i) (take count part) mid new → HandsPart moves i old new
hands_part {part = part} {count} {old} {mid} {new} i b there follows long get set =
    let c : ControllerState = old.from.controller in
    let state = state_bytes c in
    let count_is : count ≡ part_length i c = get.count_is in
    let sent : length (take count part) ≡ part_length i c = length-take-le count part (omega (arith, count_is, long)) ∙ count_is in
    let kept_long = ap length follows ∙ length-take-le (64 * i) state (omega (arith, state_size c b.image, there)) in
    let front : kept (64 * i) old.to.controller.fed.bytes ++ take count part ≡ take (64 * i + length (take count part)) state
    = (λ k. follows k ++ get.front k) ∙ sym (take-add (64 * i) count state) ∙ ap (λ n. take (64 * i + n) state) (count_is ∙ sym sent) in
    let taken = part_taken c old.to.controller set.controller b.image (64 * i) (take count part) set.result b.fed kept_long front old.to.controller.phase b.waiting (rw get.to_is at set.sets) in
    record {
      asked = asked_more get.asked (rw sent at set.asked);
      from_is = set.from_is ∙ get.from_is;
      to_is = set.to_is ∙ (λ k. with_controller (taken k) (get.to_is k)) ∙ ap (λ n. with_fed (take (64 * i + n) state) old.to) sent;
    }

-- Whole parts, one after another: the sides are as the next one needs them.
pub begins_on : {I : Type 0} {moves : I → PortCall → I → Type 0} {n : ℕ} {old new : PortState I} → Begins old → HasFed moves n old new → Begins new
begins_on b h = record {
  suspended = rw h.from_is b.suspended;
  waiting = h.waiting;
  image = rw h.from_is b.image;
  fed = ap (λ (s : SideState). s.controller.fed.lanes) (h.to_fed []) ∙ rw h.from_is b.fed;
  from_quiet = rw h.from_is b.from_quiet;
  to_quiet = rw (ap (λ (s : SideState). s.controller.pairs) (h.to_fed [])) b.to_quiet;
}

kept_some : (offset : ℕ) (bytes : List ℕ) → 0 < offset → kept offset bytes ≡ bytes
kept_some offset bytes some = ap (λ (b : Bool). cond b [] bytes) (ne_eqb offset 0 (λ none. absurd (omega (arith, some, none))))

-- a whole part more
parts_more : (a n i : ℕ) → a + n ≡ i → flat_map (λ (j : ℕ). part_asks j 64) (range_with_len a (suc n)) ≡ flat_map (λ (j : ℕ). part_asks j 64) (range_with_len a n) ++ part_asks i 64
parts_more a zero i is = let same : a ≡ i = omega (arith, is) in ap (λ j. part_asks j 64) same
parts_more a (suc n) i is = ap (λ (asks : List Ask). part_asks a 64 ++ asks) (parts_more (a + 1) n i (omega (arith, is)))

pub length-whole_parts : (a n : ℕ) → length (flat_map (λ (i : ℕ). part_asks i 64) (range_with_len a n)) ≡ 2 * n
length-whole_parts a zero = refl
length-whole_parts a (suc n) = omega (arith, length-whole_parts (a + 1) n)

pub fed_next : {I : Type 0} {moves : I → PortCall → I → Type 0} {old mid new : PortState I} (n : ℕ) → HasFed moves n old mid → HandsPart moves n mid new → part_length n mid.from.controller ≡ 64 → HasFed moves (n + 1) old new
fed_next {old = old} {mid} n h p whole = record {
  asked = rw (add-one, parts_more 0 n n (omega arith)) (asked_more h.asked (rw whole at p.asked));
  from_is = p.from_is ∙ h.from_is;
  to_fed = λ bytes. ap (with_fed bytes) p.to_is ∙ h.to_fed bytes;
  waiting = rw p.to_is (λ running. cc);
  bytes = rw p.to_is (kept_some (64 * (n + 1)) _ (omega arith) ∙ ap (λ m. take m (state_bytes mid.from.controller)) (omega (arith, whole)) ∙ ap (λ (s : SideState). take (64 * (n + 1)) (state_bytes s.controller)) h.from_is);
}

pub size_kept : {I : Type 0} {moves : I → PortCall → I → Type 0} {n : ℕ} {old new : PortState I} → HasFed moves n old new → size_of new.from.controller ≡ size_of old.from.controller
size_kept h = ap (λ (s : SideState). size_of s.controller) h.from_is

-- and the last one
pub fed_last : {I : Type 0} {moves : I → PortCall → I → Type 0} {old mid new : PortState I} (n : ℕ) → Begins mid → 64 * n < size_of mid.from.controller → HasFed moves n old mid → HandsPart moves n mid new → part_length n mid.from.controller ≢ 64
    → HandsOver moves (state_asks (size_of old.from.controller)) old new
fed_last {old = old} {mid} {new} n b there h p last =
    let size : ℕ = size_of mid.from.controller in
    let quotient : n ≡ size / 64 = omega (arith, last, there) in
    let rest : part_length n mid.from.controller ≡ size % 64 = omega (arith, last, quotient, there) in
    let all : 64 * n + part_length n mid.from.controller ≡ length (state_bytes mid.from.controller) = omega (arith, last, state_size mid.from.controller b.image, there) in
    record {
      asked = rw (sym (size_kept h), ← quotient) (asked_more h.asked (rw rest at p.asked));
      from_is = p.from_is ∙ h.from_is;
      to_is = p.to_is ∙ h.to_fed _ ∙ ap (λ bytes. with_fed bytes old.to) (ap (λ m. take m (state_bytes mid.from.controller)) all ∙ take-length (state_bytes mid.from.controller) ∙ ap (λ (s : SideState). state_bytes s.controller) h.from_is);
    }
