use Rattle.std.proofs.Common.{◌≡◌, ℕ, zero, suc, ◌+◌, ◌-◌, ◌%◌, ◌<◌, ◌≤◌, ◌⊎◌, inl, inr, ⊎_elim, List, [], ◌∷◌, ◌++◌, Option, Some, None, length, slice_get, refl, sym, ap, subst, ◌∙◌, arith, cond}
use Rattle.std.specs.List.{AllByRecursion}
use Rattle.std.proofs.lemmas.Bool.{cases_lt, cases_eq}
use Rattle.std.proofs.lemmas.List.Sums.{sum_by-append}
use Rattle.std.proofs.lemmas.Option.{slice_get_cases}
use Rattle.mig_base.proofs.ListLemmas.{all_append}
use Rattle.nvm_values.specs.declared.sqe.Sqe.{Sqe}
use Rattle.nvm_model.specs.declared.command.Command.{Command}
use Rattle.nvm_model.specs.declared.command.Completion.{Completion}
use Rattle.nvm_model.specs.declared.line.Line.{Line}
use Rattle.nvm_model.specs.declared.line.Line.TheVariants as line
use Rattle.nvm_model.specs.declared.script.Act.{Act}
use Rattle.nvm_model.specs.declared.script.Act.TheVariants.{Fill, Poke, List as PrpList, Submit, Raw, Wait, Idle}
use Rattle.nvm_model.specs.declared.script.LaneSet.{LaneSet}
use Rattle.nvm_model.specs.declared.script.Script.{Script}
use Rattle.nvm_model.specs.Check.{checked_command}
use Rattle.nvm_model.specs.Event.{DoesAct, Fetches, MayDo, pages_after_act, submitted_by, untold_entries, phase_of}
use Rattle.nvm_model.specs.History.{faults_shown, shows_fault}
use Rattle.nvm_model.specs.Piece.{pieces_left}
use Rattle.nvm_model.specs.Turn.{AreOf, IsIdle, LaneEvents, NoneLegal, Plans, PostsAll, ReapsAll, Act as Acting, Fetch as Fetching}
use Rattle.nvm_model.specs.World.{Lane, set_of, acts_of, IsQuiet}
use Rattle.turns.proofs.CommandLemmas.{HasNewWork, checked_is_new}

-- What one lane does in a turn but for its pieces: its events are there, whatever the lane is like.

-- Lists and numbers.

-- one number is below another, or not
below_or_not : (a b : ℕ) → (a < b) ⊎ (a < b → ⊥)
below_or_not a b = ⊎_elim (λ below. inl below) (λ past. inr (λ below. omega (arith, past, below))) (cases_lt a b)

-- a list is empty, or not
empty_or_not : {X : Type 0} (xs : List X) → (xs ≡ []) ⊎ (xs ≡ [] → ⊥)
empty_or_not [] = inl refl
empty_or_not (x ∷ xs) = inr (λ e. cc)

-- an option has one value
pub one_value : {X : Type 0} {o : Option X} {x y : X} → o ≡ Some x → o ≡ Some y → x ≡ y
one_value is other = cc

-- an option without a value has none
no_value : {X : Type 0} {o : Option X} {x : X} → o ≡ None → o ≡ Some x → ⊥
no_value none some = cc

-- events that show no fault, and then more of them
pub calm_more : (es fs : List Line) → faults_shown es ≡ 0 → faults_shown fs ≡ 0 → faults_shown (es ++ fs) ≡ 0
calm_more es fs first second = rw (sum_by-append (λ l. cond (shows_fault l) 1 0) es fs) (omega (arith, first, second))

-- Reaps.

-- completions are reaped until none is left
record HasReaps (s : Script) (k : ℕ) (lane : Lane) : Type 0 where
  events : List Line
  new : Lane
  reaping : ReapsAll s k lane events new
  running : new.running ≡ lane.running
  calm : faults_shown events ≡ 0

-- one completion, and then the others
then_reap : (s : Script) (k : ℕ) (lane : Lane) (c : Completion) → slice_get lane.posted lane.reaped ≡ Some c → HasReaps s k (record lane { reaped = lane.reaped + 1 }) → HasReaps s k lane
then_reap s k lane c oldest later = record {
  events = line.Reap k c.cid c.status c.head c.phase ∷ later.events;
  new = later.new;
  reaping = record {
    are = ((tt, refl), later.reaping.are);
    steps = (record lane { reaped = lane.reaped + 1 }, λ b. (refl, record { oldest = oldest; after = refl }), later.reaping.steps);
    all = later.reaping.all;
  };
  running = later.running;
  calm = later.calm;
}

-- so many completions are reaped
has_reaps : (s : Script) (k n : ℕ) (lane : Lane) → lane.reaped + n ≡ length lane.posted → HasReaps s k lane
has_reaps s k zero lane left = record { events = []; new = lane; reaping = record { are = tt; steps = refl; all = omega (arith, left) }; running = refl; calm = refl }
has_reaps s k (suc n) lane left =
    ⊎_elim (λ due. then_reap s k lane due.0 due.2 (has_reaps s k n (record lane { reaped = lane.reaped + 1 }) (omega (arith, left)))) (λ past. absurd (omega (arith, past.0, left)))
    (slice_get_cases lane.posted lane.reaped).1

-- Acts.

-- a lane is quiet, or not
pub quiet_or_not : (lane : Lane) → IsQuiet lane ⊎ (IsQuiet lane → ⊥)
quiet_or_not lane =
    ⊎_elim (λ fetched. ⊎_elim (λ none. ⊎_elim (λ reaped. inl (record { all_fetched = fetched; none_running = none; all_reaped = reaped })) (λ more. inr (λ quiet. more quiet.all_reaped))
    (cases_eq lane.reaped (length lane.posted))) (λ more. inr (λ quiet. more quiet.none_running)) (empty_or_not lane.running)) (λ more. inr (λ quiet. more quiet.all_fetched))
    (cases_eq lane.fetched (length lane.submitted))

-- an act can be done, or not
may_or_not : (set : LaneSet) (act : Act) (lane : Lane) → MayDo set act lane ⊎ (MayDo set act lane → ⊥)
may_or_not set (Submit cid op slba count p1 p2) lane = below_or_not (untold_entries set.sq lane) (set.sq - 1)
may_or_not set (Raw entry) lane = below_or_not (untold_entries set.sq lane) (set.sq - 1)
may_or_not set Wait lane = quiet_or_not lane
may_or_not set (Fill page byte) lane = inl tt
may_or_not set (Poke page at bytes used) lane = inl tt
may_or_not set (PrpList page named used) lane = inl tt
may_or_not set Idle lane = inl tt

-- an act is `idle`, or not
idle_or_not : (act : Act) → (act ≡ Idle) ⊎ (act ≡ Idle → ⊥)
idle_or_not Idle = inl refl
idle_or_not (Submit cid op slba count p1 p2) = inr (λ e. cc)
idle_or_not (Raw entry) = inr (λ e. cc)
idle_or_not Wait = inr (λ e. cc)
idle_or_not (Fill page byte) = inr (λ e. cc)
idle_or_not (Poke page at bytes used) = inr (λ e. cc)
idle_or_not (PrpList page named used) = inr (λ e. cc)

-- no event of this kind is legal where no act can be done
no_act : (s : Script) (k : ℕ) (lane : Lane) → ((n : ℕ) (new : Lane) → DoesAct s k n lane new → ⊥) → NoneLegal s Acting k lane
no_act s k lane none (line.Act j n) blocks new_blocks new kind at step = none n new (subst (λ (i : ℕ). DoesAct s i n lane new) at step.1)
no_act s k lane none _ blocks new_blocks new kind at step = absurd kind

-- the lane with its next act done
abbrev after_act : ℕ → Act → Lane → Lane
after_act k act lane = record lane { pages = pages_after_act k act lane.pages; acts = lane.acts + 1; submitted = lane.submitted ++ submitted_by k act }

-- acts, at most m of them
record HasActs (s : Script) (k m : ℕ) (lane : Lane) : Type 0 where
  events : List Line
  new : Lane
  are : AreOf Acting k events
  steps : LaneEvents s lane events new
  few : length events ≤ m
  none_behind : (n : ℕ) → lane.acts < n → n < new.acts → IsIdle s k n → ⊥
  stops : (length events ≡ m) ⊎ ((lane.acts < new.acts) × IsIdle s k new.acts) ⊎ NoneLegal s Acting k new
  later : lane.acts ≤ new.acts
  running : new.running ≡ lane.running
  calm : faults_shown events ≡ 0

-- no act
acts_end : (s : Script) (k m : ℕ) (lane : Lane) → (0 ≡ m) ⊎ NoneLegal s Acting k lane → HasActs s k m lane
acts_end s k m lane why = record {
  events = [];
  new = lane;
  are = tt;
  steps = refl;
  few = omega arith;
  none_behind = λ n past below idle. omega (arith, past, below);
  stops = ⊎_elim (λ all. inl all) (λ none. inr (inr none)) why;
  later = omega arith;
  running = refl;
  calm = refl;
}

-- an `idle`, behind which there is none
then_idle : (s : Script) (k m : ℕ) (lane : Lane) → slice_get (acts_of k s.acts) lane.acts ≡ Some Idle → HasActs s k (suc m) lane
then_idle s k m lane due =
    let here : lane.acts + 1 - 1 ≡ lane.acts = omega arith in
    record {
      events = line.Act k (lane.acts + 1) ∷ [];
      new = after_act k Idle lane;
      are = ((tt, refl), tt);
      steps = (after_act k Idle lane, λ b. (refl, record { act = Idle; due = due; number = refl; may = tt; after = refl }), refl);
      few = omega arith;
      none_behind = λ n past below idle. omega (arith, past, below);
      stops = inr (inl (omega arith, ap (slice_get (acts_of k s.acts)) here ∙ due));
      later = omega arith;
      running = refl;
      calm = refl;
    }

-- another act, and then more
then_act : (s : Script) (k m : ℕ) (lane : Lane) (act : Act) → slice_get (acts_of k s.acts) lane.acts ≡ Some act → MayDo (set_of s.head k) act lane → (act ≡ Idle → ⊥) →
    HasActs s k m (after_act k act lane) → HasActs s k (suc m) lane
then_act s k m lane act due may other more = record {
  events = line.Act k (lane.acts + 1) ∷ more.events;
  new = more.new;
  are = ((tt, refl), more.are);
  steps = (after_act k act lane, λ b. (refl, record { act = act; due = due; number = refl; may = may; after = refl }), more.steps);
  few = omega (arith, more.few);
  none_behind = λ n past below idle. ⊎_elim (λ here.
      let place : n - 1 ≡ lane.acts = omega (arith, here) in
      other (one_value due (ap (slice_get (acts_of k s.acts)) (sym place) ∙ idle)))
      (λ apart. more.none_behind n (omega (arith, past, apart)) below idle) (cases_eq n (lane.acts + 1));
  stops = ⊎_elim (λ all. inl (omega (arith, all))) (⊎_elim (λ idle. inr (inl (omega (arith, idle.0), idle.1))) (λ none. inr (inr none))) more.stops;
  later = omega (arith, more.later);
  running = more.running;
  calm = more.calm;
}

-- acts until the burst is done, an `idle` is done, or none can be done
has_acts : (s : Script) (k m : ℕ) (lane : Lane) → HasActs s k m lane
has_acts s k zero lane = acts_end s k zero lane (inl refl)
has_acts s k (suc m) lane = ⊎_elim (λ due.
    ⊎_elim (λ may. ⊎_elim (λ idle. then_idle s k m lane (due.2 ∙ ap (λ (act : Act). Some act) idle)) (λ other. then_act s k m lane due.0 due.2 may other (has_acts s k m (after_act k due.0 lane))) (idle_or_not due.0))
    (λ may_not. acts_end s k (suc m) lane (inr (no_act s k lane (λ n new does. may_not (subst (λ (act : Act). MayDo (set_of s.head k) act lane) (one_value does.due due.2) does.may)))))
    (may_or_not (set_of s.head k) due.0 lane))
    (λ past. acts_end s k (suc m) lane (inr (no_act s k lane (λ n new does. no_value past.1 does.due))))
    (slice_get_cases (acts_of k s.acts) lane.acts).1

-- Fetches.

-- no event of this kind is legal where nothing can be fetched
no_fetch : (s : Script) (k : ℕ) (lane : Lane) → ((e : Sqe) → slice_get lane.submitted lane.fetched ≡ Some e → length lane.running + (length lane.posted - lane.reaped) < (set_of s.head k).cq - 1 → ⊥) →
    NoneLegal s Fetching k lane
no_fetch s k lane none (line.Fetch j cid status pieces) blocks new_blocks new kind at step =
    let does : Fetches s k cid status pieces lane new = subst (λ (i : ℕ). Fetches s i cid status pieces lane new) at step.1 in
    none does.entry does.oldest does.room
no_fetch s k lane none _ blocks new_blocks new kind at step = absurd kind

-- the lane with its next entry fetched
abbrev after_fetch : Script → ℕ → Sqe → Lane → Lane
after_fetch s k e lane = record lane { fetched = lane.fetched + 1; running = lane.running ++ checked_command s.head.blocks k lane.pages lane.running e ∷ [] }

-- fetches, at most m of them
record HasFetches (s : Script) (k m : ℕ) (lane : Lane) : Type 0 where
  events : List Line
  new : Lane
  are : AreOf Fetching k events
  steps : LaneEvents s lane events new
  few : length events ≤ m
  stops : (length events ≡ m) ⊎ NoneLegal s Fetching k new
  new_work : AllByRecursion HasNewWork new.running
  calm : faults_shown events ≡ 0

-- no fetch
fetches_end : (s : Script) (k m : ℕ) (lane : Lane) → AllByRecursion HasNewWork lane.running → (0 ≡ m) ⊎ NoneLegal s Fetching k lane → HasFetches s k m lane
fetches_end s k m lane new_work why = record { events = []; new = lane; are = tt; steps = refl; few = omega arith; stops = why; new_work = new_work; calm = refl }

-- one fetch, and then more
then_fetch : (s : Script) (k m : ℕ) (lane : Lane) (e : Sqe) → slice_get lane.submitted lane.fetched ≡ Some e → length lane.running + (length lane.posted - lane.reaped) < (set_of s.head k).cq - 1 →
    HasFetches s k m (after_fetch s k e lane) → HasFetches s k (suc m) lane
then_fetch s k m lane e oldest room more =
    let command : Command = checked_command s.head.blocks k lane.pages lane.running e in
    record {
      events = line.Fetch k command.cid command.status (pieces_left s.head.shelf command) ∷ more.events;
      new = more.new;
      are = ((tt, refl), more.are);
      steps = (
        after_fetch s k e lane,
        λ b. (refl, record { entry = e; command = command; oldest = oldest; room = room; checked = refl; cid_is = refl; status_is = refl; pieces_is = refl; after = refl }),
        more.steps,
      );
      few = omega (arith, more.few);
      stops = ⊎_elim (λ all. inl (omega (arith, all))) (λ none. inr none) more.stops;
      new_work = more.new_work;
      calm = more.calm;
    }

-- fetches until the burst is done, or nothing can be fetched
has_fetches : (s : Script) (k m : ℕ) (lane : Lane) → AllByRecursion HasNewWork lane.running → HasFetches s k m lane
has_fetches s k zero lane new_work = fetches_end s k zero lane new_work (inl refl)
has_fetches s k (suc m) lane new_work = ⊎_elim (λ due.
    ⊎_elim (λ room. then_fetch s k m lane due.0 due.2 room (has_fetches s k m (after_fetch s k due.0 lane)
    (all_append HasNewWork lane.running (checked_command s.head.blocks k lane.pages lane.running due.0 ∷ []) new_work (checked_is_new s.head.blocks k lane.pages lane.running due.0, tt))))
    (λ full. fetches_end s k (suc m) lane new_work (inr (no_fetch s k lane (λ e oldest room. full room))))
    (below_or_not (length lane.running + (length lane.posted - lane.reaped)) ((set_of s.head k).cq - 1)))
    (λ past. fetches_end s k (suc m) lane new_work (inr (no_fetch s k lane (λ e oldest room. no_value past.1 oldest))))
    (slice_get_cases lane.submitted lane.fetched).1

-- The plan.

-- what one lane does before the pieces
pub record HasPlan (s : Script) (k : ℕ) (lane : Lane) : Type 0 where
  pub events : List Line
  pub new : Lane
  pub plans : Plans s k lane events new
  pub new_work : AllByRecursion HasNewWork new.running
  pub calm : faults_shown events ≡ 0

-- a lane that runs no command has a plan
pub has_plan : (s : Script) (k : ℕ) (lane : Lane) → lane.running ≡ [] → lane.reaped ≤ length lane.posted → HasPlan s k lane
has_plan s k lane none order =
    let reaps = has_reaps s k (length lane.posted - lane.reaped) lane (omega (arith, order)) in
    let acts = has_acts s k s.head.burst reaps.new in
    let fetches = has_fetches s k s.head.burst acts.new (subst (AllByRecursion HasNewWork) (sym (acts.running ∙ reaps.running ∙ none)) tt) in
    let events = reaps.events ++ (acts.events ++ fetches.events) in
    record {
      events = events;
      new = fetches.new;
      plans = record {
        reaps = reaps.events;
        acts = acts.events;
        fetches = fetches.events;
        events_are = refl {a = events};
        reaped = reaps.new;
        acted = acts.new;
        reaping = reaps.reaping;
        acting = record { are = acts.are; steps = acts.steps; few = acts.few; none_behind = acts.none_behind; stops = acts.stops };
        fetching = record { are = fetches.are; steps = fetches.steps; few = fetches.few; stops = fetches.stops };
      };
      new_work = fetches.new_work;
      calm = calm_more reaps.events (acts.events ++ fetches.events) reaps.calm (calm_more acts.events fetches.events acts.calm fetches.calm);
    }

-- Posts.

-- all commands of one lane are posted
pub record HasPosts (s : Script) (k : ℕ) (lane : Lane) : Type 0 where
  pub events : List Line
  pub new : Lane
  pub posting : PostsAll s k lane events new
  pub calm : faults_shown events ≡ 0

-- the lane with its oldest command posted
abbrev after_post : Script → ℕ → Command → List Command → Lane → Lane
after_post s k command others lane = record lane {
  running = others;
  posted = lane.posted ++ record { cid = command.cid; status = command.status; head = lane.fetched % (set_of s.head k).sq; phase = phase_of (set_of s.head k).cq (length lane.posted) } ∷ [];
}

-- commands of which no piece is left are posted
pub has_posts : (s : Script) (k : ℕ) (running : List Command) (lane : Lane) → lane.running ≡ running → AllByRecursion (λ (c : Command). pieces_left s.head.shelf c ≡ 0) running → HasPosts s k lane
has_posts s k [] lane is finished = record { events = []; new = lane; posting = record { are = tt; steps = refl; all = is }; calm = refl }
has_posts s k (command ∷ others) lane is finished =
    let more = has_posts s k others (after_post s k command others lane) refl finished.1 in
    record {
      events = line.Post k command.cid command.status ∷ more.events;
      new = more.new;
      posting = record {
        are = ((tt, refl), more.posting.are);
        steps = (
          after_post s k command others lane,
          λ b. (refl, record { command = command; others = others; oldest = is; finished = finished.0; cid_is = refl; status_is = refl; after = refl }),
          more.posting.steps,
        );
        all = more.posting.all;
      };
      calm = more.calm;
    }
