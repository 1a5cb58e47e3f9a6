use Rattle.std.proofs.Common.{◌≡◌, ℕ, suc, ◌+◌, ◌-◌, ◌<◌, ◌≤◌, Bool, true, false, not, inl, inr, ⊎_elim, List, [], ◌∷◌, ◌++◌, Some, get_or, length, set, take, slice_get, slice_index_or, refl, sym, ap, subst, ◌∙◌, arith, append_assoc}
use Rattle.std.proofs.lemmas.Bool.{cases_lt, false≢true}
use Rattle.std.proofs.lemmas.Grind.{drop_more_same}
use Rattle.std.proofs.lemmas.List.{drop-set-lt, get_or-drop, length-append, length-take-le, take_all, take_more, take_more_set, append-nil}
use Rattle.std.proofs.lemmas.Option.{same_Some, slice_get_within}
use Rattle.mig_base.proofs.ListLemmas.{all_append}
use Rattle.nvm_model.specs.declared.command.Completion.{Completion}
use Rattle.nvm_model.specs.declared.line.Line.{Line}
use Rattle.nvm_model.specs.declared.line.Line.TheVariants as line
use Rattle.nvm_model.specs.declared.script.Act.{Act}
use Rattle.nvm_model.specs.declared.script.Act.TheVariants.{Idle}
use Rattle.nvm_model.specs.declared.script.Head.{Head}
use Rattle.nvm_model.specs.declared.script.Script.{Script}
use Rattle.nvm_model.specs.Ring.{lane_window, lane_windows}
use Rattle.nvm_model.specs.Event.{DoesAct, MayDo, pages_after_act, submitted_by}
use Rattle.nvm_model.specs.ScriptText.{IsSet}
use Rattle.nvm_model.specs.Turn.{ActsOn, InLanes, IsIdle, NoneLegal}
use Rattle.nvm_model.specs.Turn.Kind.{Act as ActKind}
use Rattle.nvm_model.specs.World.{Lane, acts_of, new_lane, set_of}
use Rattle.nvm_model.proofs.LaneLemmas.{lane_events_more}
use Rattle.turns.specs.Frame.{AreAtRest, AreServed, IsAtRest}
use Rattle.turns.specs.Parts.{ActsSome, ReapsSome, SoFar, Stops, Leads}
use Rattle.turns.proofs.FrameLemmas.{lanes_more}

-- The parts of a turn, one after another.

-- Events.

pub leads_none : {X : Type 0} {Part : X → List Line → X → Type 0} {Stood : X → Type 0} (x : X) (events : List Line) → Stood x → Part x [] x → Leads Part Stood x events events
leads_none x events stands part = record { new = x; added = []; part = part; stands = stands; events_are = sym (append-nil events) }

-- one part, and then another
pub leads_more : {X : Type 0} {First Second Both : X → List Line → X → Type 0} {Stood Then : X → Type 0} {x : X} {a b c : List Line} → ((y z : X) (first second : List Line) → First x first y → Second y second z → Both x (first ++ second) z) →
    Leads First Stood x a b → ((y : X) → Stood y → Leads Second Then y b c) → Leads Both Then x a c
leads_more {a = a} join one step =
    let two = step one.new one.stands in
    record {
      new = two.new;
      added = one.added ++ two.added;
      part = join one.new two.new one.added two.added one.part two.part;
      stands = two.stands;
      events_are = two.events_are ∙ ap (λ (es : List Line). es ++ two.added) one.events_are ∙ append_assoc a one.added two.added;
    }

-- as many events more as were added
pub added_count : {X : Type 0} {Part : X → List Line → X → Type 0} {Stood : X → Type 0} {x : X} {a b : List Line} → (to : Leads Part Stood x a b) → length b ≡ length a + length to.added
added_count {a = a} to = ap length to.events_are ∙ length-append a to.added

-- Reaps.

pub reaps_none : {left : Bool} {s : Script} {k : ℕ} (l : Lane) → (left ≡ false → l.reaped ≡ length l.posted) → ReapsSome left s k l [] l
reaps_none l all =
    let same : l.reaped ≡ l.reaped + 0 = omega arith in
    record { are = tt; steps = refl; after = ap (λ (n : ℕ). record l { reaped = n }) same; all = all }

-- the oldest completion
pub reaps_one : {s : Script} {k : ℕ} (l : Lane) (c : Completion) → slice_get l.posted l.reaped ≡ Some c → ReapsSome true s k l (line.Reap k c.cid c.status c.head c.phase ∷ []) (record l { reaped = l.reaped + 1 })
reaps_one l c oldest = record {
  are = ((tt, refl), tt);
  steps = (record l { reaped = l.reaped + 1 }, λ blocks. (refl, record { oldest = oldest; after = refl }), refl);
  after = refl;
  all = λ never. absurd (false≢true (sym never));
}

pub reaps_more : {left : Bool} {s : Script} {k : ℕ} {a b c : Lane} {first second : List Line} → ReapsSome true s k a first b → ReapsSome left s k b second c → ReapsSome left s k a (first ++ second) c
reaps_more {s = s} {a = a} {b} {c} {first} {second} x y =
    let parts = length-append first second in
    let count : a.reaped + length first + length second ≡ a.reaped + length (first ++ second) = omega (arith, parts) in
    record {
      are = all_append _ first second x.are y.are;
      steps = lane_events_more s first second a b c x.steps y.steps;
      after = y.after ∙ ap (λ (l : Lane). record l { reaped = l.reaped + length second }) x.after ∙ ap (λ (n : ℕ). record a { reaped = n }) count;
      all = y.all;
    }

-- Acts.

-- no act can be done
none_legal : (s : Script) (k : ℕ) (lane : Lane) → ((n : ℕ) (new : Lane) → DoesAct s k n lane new → ⊥) → NoneLegal s ActKind k lane
none_legal s k lane none (line.Act j n) blocks new_blocks new kind at step = none n new (subst (λ (i : ℕ). DoesAct s i n lane new) at step.1)
none_legal s k lane none _ blocks new_blocks new kind at step = absurd kind

acts_none : {on : Bool} {s : Script} {k : ℕ} (l : Lane) → Stops on s k l l → ActsSome on s k l [] l
acts_none l stops = record { are = tt; steps = refl; forward = omega arith; none_behind = λ n past below idle. omega (arith, past, below); stops = stops }

pub acts_start : {s : Script} {k : ℕ} (l : Lane) → ActsSome true s k l [] l
acts_start l = acts_none l (λ more idle. omega (arith, more))

-- all acts of the lane were done
pub acts_all : {s : Script} {k : ℕ} (l : Lane) → l.acts ≡ length (acts_of k s.acts) → ActsSome false s k l [] l
acts_all {s} {k} l all = acts_none l (inr (none_legal s k l (λ n new does. let more = slice_get_within (acts_of k s.acts) l.acts does.act does.due in omega (arith, more, all))))

-- the next act can't be done yet
pub act_refused : {s : Script} {k : ℕ} (l : Lane) (act : Act) → slice_get (acts_of k s.acts) l.acts ≡ Some act → (MayDo (set_of s.head k) act l → ⊥) → ActsSome false s k l [] l
act_refused {s} {k} l act due never = acts_none l (inr (none_legal s k l (λ n new does.
    never (subst (λ (x : Act). MayDo (set_of s.head k) x l) (same_Some does.act act (sym does.due ∙ due)) does.may))))

-- whether acts go on behind an act
act_stops : (idle : Bool) (s : Script) (k : ℕ) (l new : Lane) (act : Act) → slice_get (acts_of k s.acts) l.acts ≡ Some act → new.acts ≡ l.acts + 1 → (idle ≡ true → act ≡ Idle) → (idle ≡ false → act ≡ Idle → ⊥) → Stops (not idle) s k l new
act_stops false s k l new act due next is_idle other = λ more is.
    let here : new.acts - 1 ≡ l.acts = omega (arith, next) in
    other refl (same_Some act Idle (sym due ∙ sym (ap (slice_get (acts_of k s.acts)) here) ∙ is))
act_stops true s k l new act due next is_idle other =
    let here : new.acts - 1 ≡ l.acts = omega (arith, next) in
    inl (omega (arith, next), ap (slice_get (acts_of k s.acts)) here ∙ due ∙ ap (λ (x : Act). Some x) (is_idle refl))

-- the lane after an act
abbrev pub after_act : ℕ → Act → Lane → Lane
after_act k act l = record l { pages = pages_after_act k act l.pages; acts = l.acts + 1; submitted = l.submitted ++ submitted_by k act }

-- the next act was done
pub act_done : (idle : Bool) {s : Script} {k : ℕ} (l : Lane) (act : Act) → slice_get (acts_of k s.acts) l.acts ≡ Some act → MayDo (set_of s.head k) act l → (idle ≡ true → act ≡ Idle) → (idle ≡ false → act ≡ Idle → ⊥) →
    ActsSome (not idle) s k l (line.Act k (l.acts + 1) ∷ []) (after_act k act l)
act_done idle {s} {k} l act due may is_idle other = record {
  are = ((tt, refl), tt);
  steps = (after_act k act l, λ blocks. (refl, record { act = act; due = due; number = refl; may = may; after = refl }), refl);
  forward = refl;
  none_behind = λ n past below is. omega (arith, past, below);
  stops = act_stops idle s k l (after_act k act l) act due refl is_idle other;
}

-- whether acts go on behind more acts
stops_more : (on : Bool) (s : Script) (k : ℕ) (a b c : Lane) → a.acts ≤ b.acts → b.acts ≤ c.acts → Stops true s k a b → Stops on s k b c → Stops on s k a c
stops_more true s k a b c first second not_first not_second = λ more idle. ⊎_elim
    (λ (some : b.acts < c.acts). not_second some idle)
    (λ (none : c.acts ≤ b.acts).
    let same : c.acts ≡ b.acts = omega (arith, none, second) in
    not_first (omega (arith, more, same)) (subst (λ (n : ℕ). IsIdle s k n) same idle))
    (cases_lt b.acts c.acts)
stops_more false s k a b c first second not_first stops = ⊎_elim (λ idle. let past = idle.0 in inl (omega (arith, first, past), idle.1)) (λ none. inr none) stops

-- none before was `idle`
behind_more : (s : Script) (k : ℕ) (a b c : Lane) → ((n : ℕ) → a.acts < n → n < b.acts → IsIdle s k n → ⊥) → Stops true s k a b → ((n : ℕ) → b.acts < n → n < c.acts → IsIdle s k n → ⊥) →
    (n : ℕ) → a.acts < n → n < c.acts → IsIdle s k n → ⊥
behind_more s k a b c first at second n past below idle = ⊎_elim
    (λ (early : n < b.acts). first n past early idle)
    (λ (late : b.acts ≤ n). ⊎_elim
    (λ (later : b.acts < n). second n later below idle)
    (λ (no_later : n ≤ b.acts).
    let same : n ≡ b.acts = omega (arith, late, no_later) in
    at (omega (arith, past, same)) (subst (λ (m : ℕ). IsIdle s k m) same idle))
    (cases_lt b.acts n))
    (cases_lt n b.acts)

pub acts_more : {on : Bool} {s : Script} {k : ℕ} {a b c : Lane} {first second : List Line} → ActsSome true s k a first b → ActsSome on s k b second c → ActsSome on s k a (first ++ second) c
acts_more {on} {s} {k} {a} {b} {c} {first} {second} x y =
    let parts = length-append first second in
    record {
      are = all_append _ first second x.are y.are;
      steps = lane_events_more s first second a b c x.steps y.steps;
      forward = omega (arith, parts, x.forward, y.forward);
      none_behind = behind_more s k a b c x.none_behind x.stops y.none_behind;
      stops = stops_more on s k a b c (omega (arith, x.forward)) (omega (arith, y.forward)) x.stops y.stops;
    }

-- as many acts were done as the burst allows
pub acts_full : {on : Bool} {s : Script} {k : ℕ} {a b : Lane} {events : List Line} → length events ≡ s.head.burst → ActsSome on s k a events b → ActsOn s k a events b
acts_full full x = record { are = x.are; steps = x.steps; few = omega (arith, full); none_behind = x.none_behind; stops = inl full }

-- or they stopped before
pub acts_stop : {s : Script} {k : ℕ} {a b : Lane} {events : List Line} → length events ≤ s.head.burst → ActsSome false s k a events b → ActsOn s k a events b
acts_stop few x = record { are = x.are; steps = x.steps; few = few; none_behind = x.none_behind; stops = inr x.stops }

-- some acts of a turn are all of them
pub acts_are : {on : Bool} {s : Script} {k : ℕ} {l : Lane} {Stood : Lane → Type 0} {a b : List Line} (to : Leads (ActsSome on s k) Stood l a b) → ActsOn s k l to.added to.new → Leads (ActsOn s k) Stood l a b
acts_are to on = record { new = to.new; added = to.added; part = on; stands = to.stands; events_are = to.events_are }

-- Lane after lane.

pub none_yet : (Part : ℕ → Lane → List Line → Lane → Type 0) (lanes : List Lane) → SoFar Part 0 lanes [] lanes
none_yet Part lanes = record { parts = (refl, refl); others = refl }

pub all_did : {Part : ℕ → Lane → List Line → Lane → Type 0} {n : ℕ} {lanes new : List Lane} {events : List Line} → length lanes ≤ n → length new ≤ n → SoFar Part n lanes events new → InLanes Part 1 lanes events new
all_did {Part} {n} {lanes} {new} {events} few new_few x =
    subst (λ (ls : List Lane). InLanes Part 1 ls events new) (take_all n lanes few)
    (subst (λ (ls : List Lane). InLanes Part 1 (take n lanes) events ls) (take_all n new new_few) x.parts)

-- all lanes led
pub all_led : {Part : ℕ → Lane → List Line → Lane → Type 0} {Stood : List Lane → Type 0} {n : ℕ} {lanes : List Lane} {a b : List Line} (led : Leads (SoFar Part n) Stood lanes a b) → length lanes ≤ n → length led.new ≤ n → Leads (InLanes Part 1) Stood lanes a b
all_led led few new_few = record { new = led.new; added = led.added; part = all_did few new_few led.part; stands = led.stands; events_are = led.events_are }

-- the next lane did its part too
pub one_did : {Part : ℕ → Lane → List Line → Lane → Type 0} {lanes new : List Lane} {events more : List Line} (i : ℕ) (d lane : Lane) → i < length lanes → i < length new → SoFar Part i lanes events new → Part (i + 1) (get_or new i d) more lane →
    SoFar Part (i + 1) lanes (events ++ more) (set new i lane)
one_did {Part} {lanes} {new} {events} {more} i d lane there in_new x part =
    let l = get_or new i d in
    let zero_more : i + 0 ≡ i = omega arith in
    let same_lane : get_or lanes i d ≡ l =
    sym (ap (λ (j : ℕ). get_or lanes j d) zero_more) ∙ sym (get_or-drop i lanes 0 d) ∙ sym (ap (λ (ls : List Lane). get_or ls 0 d) x.others) ∙ get_or-drop i new 0 d ∙ ap (λ (j : ℕ). get_or new j d) zero_more in
    let front : take (i + 1) lanes ≡ take i lanes ++ l ∷ [] = take_more lanes i d there ∙ ap (λ (y : Lane). take i lanes ++ y ∷ []) same_lane in
    let taken = length-take-le i lanes (omega (arith, there)) in
    let number : i + 1 ≡ 1 + length (take i lanes) = omega (arith, taken) in
    let all = lanes_more Part 1 (take i lanes) events (take i new) l more lane x.parts (subst (λ (j : ℕ). Part j l more lane) number part) in
    record {
      parts = subst (λ (ls : List Lane). InLanes Part 1 ls (events ++ more) (take (i + 1) (set new i lane))) (sym front)
          (subst (λ (ls : List Lane). InLanes Part 1 (take i lanes ++ l ∷ []) (events ++ more) ls) (sym (take_more_set new i lane in_new)) all);
      others = drop-set-lt (i + 1) new i lane (omega arith) ∙ drop_more_same new lanes i x.others;
    }

-- A fact of each lane by its number is one of the list, whose first lane has number k.

pub first_of : {X : Type 0} (k : ℕ) (x : X) (xs : List X) (d : X) → slice_index_or (x ∷ xs) (k - k) d ≡ x
first_of k x xs d = let none : k - k ≡ 0 = omega arith in ap (λ (i : ℕ). slice_index_or (x ∷ xs) i d) none

pub later_of : {X : Type 0} (k j : ℕ) (x : X) (xs : List X) (d : X) → k + 1 ≤ j → slice_index_or (x ∷ xs) (j - k) d ≡ slice_index_or xs (j - (k + 1)) d
later_of k j x xs d later = let next : j - k ≡ suc (j - (k + 1)) = omega (arith, later) in ap (λ (i : ℕ). slice_index_or (x ∷ xs) i d) next

pub at_rest_from : (s : Script) (k : ℕ) (lanes : List Lane) → ((j : ℕ) → k ≤ j → j < k + length lanes → IsAtRest s j (slice_index_or lanes (j - k) (new_lane 0))) → AreAtRest s k lanes
at_rest_from s k [] each = tt
at_rest_from s k (lane ∷ lanes) each = (
  subst (λ (l : Lane). IsAtRest s k l) (first_of k lane lanes (new_lane 0)) (each k (omega arith) (omega arith)),
  at_rest_from s (k + 1) lanes (λ j later there. subst (λ (l : Lane). IsAtRest s j l) (later_of k j lane lanes (new_lane 0) later) (each j (omega (arith, later)) (omega (arith, there)))),
)

pub served_from : (s : Script) (k : ℕ) (lanes : List Lane) → ((j : ℕ) → k ≤ j → j < k + length lanes → IsSet (set_of s.head j)) → AreServed s k lanes
served_from s k [] each = tt
served_from s k (lane ∷ lanes) each = (record { set = each k (omega arith) (omega arith) }, served_from s (k + 1) lanes (λ j later there. each j (omega (arith, later)) (omega (arith, there))))

pub windows_from : (head : Head) (k : ℕ) (windows : List (List (List ℕ))) (lanes : List Lane) → length windows ≡ length lanes →
    ((j : ℕ) → k ≤ j → j < k + length lanes → slice_index_or windows (j - k) [] ≡ lane_window head j (slice_index_or lanes (j - k) (new_lane 0))) → windows ≡ lane_windows head k lanes
windows_from head k [] [] same each = refl
windows_from head k [] (lane ∷ lanes) same each = absurd (omega (arith, same))
windows_from head k (window ∷ windows) [] same each = absurd (omega (arith, same))
windows_from head k (window ∷ windows) (lane ∷ lanes) same each =
    let first : window ≡ lane_window head k lane = sym (first_of k window windows []) ∙ each k (omega arith) (omega arith) ∙ ap (lane_window head k) (first_of k lane lanes (new_lane 0)) in
    let others = windows_from head (k + 1) windows lanes (omega (arith, same)) (λ j later there.
    sym (later_of k j window windows [] later) ∙ each j (omega (arith, later)) (omega (arith, there)) ∙ ap (lane_window head j) (later_of k j lane lanes (new_lane 0) later)) in
    ap (λ (pages : List (List ℕ)). pages ∷ windows) first ∙ ap (λ (all : List (List (List ℕ))). lane_window head k lane ∷ all) others
