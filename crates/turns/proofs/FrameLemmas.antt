use Rattle.std.proofs.Common.{◌≡◌, ℕ, zero, suc, ◌+◌, ◌-◌, ◌*◌, ◌/◌, ◌%◌, ◌<◌, ◌≤◌, ⊎_elim, List, [], ◌∷◌, ◌++◌, Option, Some, length, map, sum, slice_get, slice_index_or, slice_set, refl, sym, ap, subst, ◌∙◌, arith, add-one, append_assoc, append-nil}
use Rattle.std.specs.Prelude.{IsTrue}
use Rattle.std.specs.List.{AllByRecursion}
use Rattle.std.proofs.Math.Nat.{mul-mod_left}
use Rattle.std.proofs.Math.Seq.{get_or-append_seam, set-append_seam}
use Rattle.std.proofs.lemmas.Grind.{flat_map-append}
use Rattle.std.proofs.lemmas.List.{length-append, length-set, map-append}
use Rattle.std.proofs.lemmas.List.Sums.{sum_by-append}
use Rattle.std.proofs.lemmas.Option.{slice_get_cases, slice_get_within}
use Rattle.mig_base.proofs.ListLemmas.{slice_get_last}
use Rattle.nvm_values.specs.declared.sqe.Sqe.{Sqe}
use Rattle.nvm_values.specs.Status.{StatusPair}
use Rattle.nvm_model.specs.declared.command.Command.{Command}
use Rattle.nvm_model.specs.declared.command.Completion.{Completion}
use Rattle.nvm_model.specs.declared.command.Outcome.{Outcome}
use Rattle.nvm_model.specs.declared.line.Line.{Line}
use Rattle.nvm_model.specs.declared.line.Line.TheVariants as line
use Rattle.nvm_model.specs.declared.script.Act.{Act}
use Rattle.nvm_model.specs.declared.script.Act.TheVariants.{Fill, Poke, List as PrpList, Submit, Raw, Wait, Idle}
use Rattle.nvm_model.specs.declared.script.LaneSet.{LaneSet}
use Rattle.nvm_model.specs.declared.script.Script.{Script}
use Rattle.nvm_model.specs.Check.{checked_command}
use Rattle.nvm_model.specs.Event.{LaneStep, One, lane_number, head_of_last, phase_of, MayDo, untold_entries, submitted_by, DoesAct, Reaps, Fetches, Posts}
use Rattle.nvm_model.specs.History.{is_event, AreEvents, Steps, Complete, IsLaneComplete}
use Rattle.nvm_model.specs.Piece.{pieces_left}
use Rattle.nvm_model.specs.Turn.{Kind, Reap, Act as ActKind, Fetch, Piece, Post, IsKind, AreOf, LaneEvents, NoneLegal, ActsOn, FetchesOn, PostsAll, Plans, InLanes, Turn, Turns, events_in, piece_number, pieces_in}
use Rattle.nvm_model.specs.World.{Lane, World, lane_of, new_lane, set_of, acts_of, IsQuiet}
use Rattle.turns.specs.Frame.{IsServed, IsAtRest, AreServed, AreAtRest, work_left, total_left, IsSameQueue, AreSameQueues, Frame}

-- What every turn leaves, and that turns are steps.

-- A lane within a turn.

-- a lane's queues are in order
record IsFit (s : Script) (k : ℕ) (lane : Lane) : Type 0 where
  acts : lane.acts ≤ length (acts_of k s.acts)
  fetched : lane.fetched ≤ length lane.submitted
  posted : length lane.posted + length lane.running ≡ lane.fetched
  reaped : lane.reaped ≤ length lane.posted
  -- where no command is under way, the last completion tells the head
  told : length lane.running ≡ 0 → head_of_last lane.posted (length lane.posted) ≡ lane.fetched % (set_of s.head k).sq

-- a lane after n events, each of which lowered what is left
record Falls (s : Script) (k : ℕ) (lane : Lane) (n : ℕ) (new : Lane) : Type 0 where
  fit : IsFit s k new
  less : work_left s k new + n ≤ work_left s k lane

-- a lane at rest is in order
rest_is_fit : {s : Script} {k : ℕ} {lane : Lane} → IsAtRest s k lane → IsFit s k lane
rest_is_fit {s} {k} {lane} rest =
    let none : length lane.running ≡ 0 = ap length rest.none in
    record {
      acts = rest.acts;
      fetched = rest.fetched;
      posted = omega (arith, none, rest.posted);
      reaped = rest.reaped;
      told = λ _. subst (λ (n : ℕ). head_of_last lane.posted n ≡ lane.fetched % (set_of s.head k).sq) (sym rest.posted) rest.told;
    }

-- a lane in order whose commands are all posted is at rest
fit_rests : {s : Script} {k : ℕ} {lane : Lane} → IsFit s k lane → lane.running ≡ [] → IsAtRest s k lane
fit_rests {s} {k} {lane} fit none =
    let nothing : length lane.running ≡ 0 = ap length none in
    let posted : length lane.posted ≡ lane.fetched = omega (arith, nothing, fit.posted) in
    record {
      acts = fit.acts;
      none = none;
      fetched = fit.fetched;
      posted = posted;
      reaped = fit.reaped;
      told = subst (λ (n : ℕ). head_of_last lane.posted n ≡ lane.fetched % (set_of s.head k).sq) posted (fit.told nothing);
    }

-- a completion that is reaped
reap_falls : (s : Script) (k : ℕ) (c : Completion) (lane new : Lane) → IsFit s k lane → Reaps c lane new → Falls s k lane 1 new
reap_falls s k c lane new fit h =
    let due : lane.reaped < length lane.posted = slice_get_within lane.posted lane.reaped c h.oldest in
    subst (λ (l : Lane). Falls s k lane 1 l) (sym h.after)
    (record { fit = record { acts = fit.acts; fetched = fit.fetched; posted = fit.posted; reaped = omega (arith, due); told = fit.told }; less = omega (arith, due, fit.posted, fit.fetched) })

-- an act submits one entry at most
submits_one : (k : ℕ) (act : Act) → length (submitted_by k act) ≤ 1
submits_one k (Submit cid op slba count p1 p2) = omega arith
submits_one k (Raw entry) = omega arith
submits_one k Wait = omega arith
submits_one k (Fill page byte) = omega arith
submits_one k (Poke page at bytes used) = omega arith
submits_one k (PrpList page named used) = omega arith
submits_one k Idle = omega arith

-- an act that is done
act_falls : (s : Script) (k n : ℕ) (lane new : Lane) → IsFit s k lane → DoesAct s k n lane new → Falls s k lane 1 new
act_falls s k n lane new fit h =
    let few : length (submitted_by k h.act) ≤ 1 = submits_one k h.act in
    let more : length (lane.submitted ++ submitted_by k h.act) ≡ length lane.submitted + length (submitted_by k h.act) = length-append lane.submitted (submitted_by k h.act) in
    let due : lane.acts < length (acts_of k s.acts) = slice_get_within (acts_of k s.acts) lane.acts h.act h.due in
    subst (λ (l : Lane). Falls s k lane 1 l) (sym h.after)
    (record {
      fit = record { acts = omega (arith, due, h.number); fetched = omega (arith, more, fit.fetched); posted = fit.posted; reaped = fit.reaped; told = fit.told };
      less = omega (arith, due, few, more, h.number, fit.fetched, fit.posted, fit.reaped);
    })

-- an entry that is fetched
fetch_falls : (s : Script) (k cid : ℕ) (status : StatusPair) (pieces : ℕ) (lane new : Lane) → IsFit s k lane → Fetches s k cid status pieces lane new → Falls s k lane 1 new
fetch_falls s k cid status pieces lane new fit h =
    let more : length (lane.running ++ h.command ∷ []) ≡ length lane.running + 1 = length-append lane.running (h.command ∷ []) in
    let due : lane.fetched < length lane.submitted = slice_get_within lane.submitted lane.fetched h.entry h.oldest in
    subst (λ (l : Lane). Falls s k lane 1 l) (sym h.after)
    (record {
      fit = record { acts = fit.acts; fetched = omega (arith, due); posted = omega (arith, more, fit.posted); reaped = fit.reaped; told = λ none. absurd (omega (arith, more, none)) };
      less = omega (arith, due, more);
    })

-- the completion that was posted last tells the head
told_last : (posted : List Completion) (c : Completion) → head_of_last (posted ++ c ∷ []) (length posted + 1) ≡ c.head
told_last posted c = rw (add-one, slice_get_last posted c)

-- a command that is posted
post_falls : (s : Script) (k cid : ℕ) (status : StatusPair) (lane new : Lane) → IsFit s k lane → Posts s k cid status lane new → Falls s k lane 1 new
post_falls s k cid status lane new fit h =
    let set = set_of s.head k in
    let c : Completion = record { cid = cid; status = status; head = lane.fetched % set.sq; phase = phase_of set.cq (length lane.posted) } in
    let more : length (lane.posted ++ c ∷ []) ≡ length lane.posted + 1 = length-append lane.posted (c ∷ []) in
    let fewer : length lane.running ≡ suc (length h.others) = ap length h.oldest in
    subst (λ (l : Lane). Falls s k lane 1 l) (sym h.after)
    (record {
      fit = record {
        acts = fit.acts;
        fetched = fit.fetched;
        posted = omega (arith, more, fewer, fit.posted);
        reaped = omega (arith, more, fit.reaped);
        told = λ _. ap (head_of_last (lane.posted ++ c ∷ [])) more ∙ told_last lane.posted c;
      };
      less = omega (arith, fewer);
    })

-- the kinds of events but pieces
abbrev IsPlain : Kind → Type 0
IsPlain Reap = Unit {0}
IsPlain ActKind = Unit {0}
IsPlain Fetch = Unit {0}
IsPlain Piece = ⊥
IsPlain Post = Unit {0}

-- they are no pieces
no_piece : (kind : Kind) (k cid first count : ℕ) (outcome : Outcome) (digest : Option (List ℕ)) → IsPlain kind → IsKind kind (line.Piece k cid first count outcome digest) → ⊥
no_piece Reap k cid first count outcome digest plain is = is
no_piece ActKind k cid first count outcome digest plain is = is
no_piece Fetch k cid first count outcome digest plain is = is
no_piece Piece k cid first count outcome digest plain is = plain
no_piece Post k cid first count outcome digest plain is = is

-- each event but a piece lowers what is left
step_falls : (s : Script) (k : ℕ) (kind : Kind) (e : Line) (blocks : List (List ℕ)) (lane new : Lane) → IsPlain kind → IsKind kind e → lane_number e ≡ k → IsFit s k lane → LaneStep s e blocks lane blocks new → Falls s k lane 1 new
step_falls s k kind (line.Act j n) blocks lane new plain is at fit h = act_falls s k n lane new fit (subst (λ (i : ℕ). DoesAct s i n lane new) at h.1)
step_falls s k kind (line.Reap j cid status head phase) blocks lane new plain is at fit h = reap_falls s k _ lane new fit h.1
step_falls s k kind (line.Fetch j cid status pieces) blocks lane new plain is at fit h = fetch_falls s k cid status pieces lane new fit (subst (λ (i : ℕ). Fetches s i cid status pieces lane new) at h.1)
step_falls s k kind (line.Piece j cid first count outcome digest) blocks lane new plain is at fit h = absurd (no_piece kind j cid first count outcome digest plain is)
step_falls s k kind (line.Post j cid status) blocks lane new plain is at fit h = post_falls s k cid status lane new fit (subst (λ (i : ℕ). Posts s i cid status lane new) at h.1)
step_falls s k kind line.Title blocks lane new plain is at fit h = absurd h
step_falls s k kind line.Ready blocks lane new plain is at fit h = absurd h
step_falls s k kind line.Migrate blocks lane new plain is at fit h = absurd h
step_falls s k kind line.Restart blocks lane new plain is at fit h = absurd h
step_falls s k kind (line.Round owed pages) blocks lane new plain is at fit h = absurd h
step_falls s k kind line.Suspend blocks lane new plain is at fit h = absurd h
step_falls s k kind (line.Pause owed pages) blocks lane new plain is at fit h = absurd h
step_falls s k kind line.ResumeTo blocks lane new plain is at fit h = absurd h
step_falls s k kind line.GiveUp blocks lane new plain is at fit h = absurd h
step_falls s k kind line.End blocks lane new plain is at fit h = absurd h

-- so do all events of such a kind
events_fall : (s : Script) (k : ℕ) (kind : Kind) (events : List Line) (lane new : Lane) → IsPlain kind → AreOf kind k events → LaneEvents s lane events new → IsFit s k lane → Falls s k lane (length events) new
events_fall s k kind [] lane new plain are steps fit = subst (λ (l : Lane). Falls s k lane 0 l) (sym steps) (record { fit = fit; less = omega arith })
events_fall s k kind (e ∷ events) lane new plain are steps fit =
    let one = step_falls s k kind e [] lane steps.0 plain are.0.0 are.0.1 fit (steps.1 []) in
    let others = events_fall s k kind events steps.0 new plain are.1 steps.2 one.fit in
    record { fit = others.fit; less = omega (arith, one.less, others.less) }

-- pieces lower nothing
same_falls : (s : Script) (k : ℕ) (old new : Lane) → IsSameQueue old new → IsFit s k old → Falls s k old 0 new
same_falls s k old new same fit =
    let submitted : length new.submitted ≡ length old.submitted = ap length same.submitted in
    let posted : length new.posted ≡ length old.posted = ap length same.posted in
    record {
      fit = record {
        acts = rw same.acts fit.acts;
        fetched = omega (arith, submitted, same.fetched, fit.fetched);
        posted = omega (arith, posted, same.running, same.fetched, fit.posted);
        reaped = omega (arith, posted, same.reaped, fit.reaped);
        told = λ none. rw (same.posted, same.fetched) (fit.told (sym same.running ∙ none));
      };
      less = omega (arith, submitted, same.running, same.acts, same.fetched, same.reaped);
    }

-- so does what a lane does before the pieces
plan_falls : (s : Script) (k : ℕ) (lane new : Lane) (events : List Line) → Plans s k lane events new → IsFit s k lane → Falls s k lane (length events) new
plan_falls s k lane new events plan fit =
    let first = events_fall s k Reap plan.reaps lane plan.reaped tt plan.reaping.are plan.reaping.steps fit in
    let second = events_fall s k ActKind plan.acts plan.reaped plan.acted tt plan.acting.are plan.acting.steps first.fit in
    let third = events_fall s k Fetch plan.fetches plan.acted new tt plan.fetching.are plan.fetching.steps second.fit in
    let all : length events ≡ length (plan.reaps ++ (plan.acts ++ plan.fetches)) = ap length plan.events_are in
    let a = length-append plan.reaps (plan.acts ++ plan.fetches) in
    let b = length-append plan.acts plan.fetches in
    record { fit = third.fit; less = omega (arith, first.less, second.less, third.less, all, a, b) }

-- what a turn leaves of a lane
record Rests (s : Script) (k : ℕ) (lane : Lane) (n : ℕ) (new : Lane) : Type 0 where
  rest : IsAtRest s k new
  less : work_left s k new + n ≤ work_left s k lane

lane_rests : (s : Script) (k : ℕ) (lane planned worked new : Lane) (plan posts : List Line) → IsAtRest s k lane → Plans s k lane plan planned → IsSameQueue planned worked → PostsAll s k worked posts new → Rests s k lane (length plan) new
lane_rests s k lane planned worked new plan posts rest plans same all =
    let first = plan_falls s k lane planned plan plans (rest_is_fit rest) in
    let second = same_falls s k planned worked same first.fit in
    let third = events_fall s k Post posts worked new tt all.are all.steps second.fit in
    record { rest = fit_rests third.fit all.all; less = omega (arith, first.less, second.less, third.less) }

-- what a turn leaves of all lanes
record AllRest (s : Script) (k : ℕ) (lanes : List Lane) (n : ℕ) (new : List Lane) : Type 0 where
  rest : AreAtRest s k new
  served : AreServed s k new
  less : total_left s k new + n ≤ total_left s k lanes

-- lane after lane
lanes_rest : (s : Script) (k : ℕ) (lanes : List Lane) (plan : List Line) (planned worked : List Lane) (posts : List Line) (new : List Lane) →
    AreAtRest s k lanes → AreServed s k lanes → InLanes (Plans s) k lanes plan planned → AreSameQueues planned worked → InLanes (PostsAll s) k worked posts new → AllRest s k lanes (length plan) new
lanes_rest s k [] plan planned [] posts new rest served planning kept posting =
    let none : length plan ≡ 0 = ap length planning.0 in
    subst (λ (ls : List Lane). AllRest s k [] (length plan) ls) (sym posting.1) (record { rest = tt; served = tt; less = omega (arith, none) })
lanes_rest s k [] plan planned (w ∷ worked) posts new rest served planning kept posting = absurd (subst (λ (ls : List Lane). AreSameQueues ls (w ∷ worked)) planning.1 kept)
lanes_rest s k (lane ∷ lanes) plan planned [] posts new rest served planning kept posting = absurd (subst (λ (ls : List Lane). AreSameQueues ls []) planning.5 kept)
lanes_rest s k (lane ∷ lanes) plan planned (w ∷ worked) posts new rest served planning kept posting =
    let same : AreSameQueues (planning.2 ∷ planning.3) (w ∷ worked) = subst (λ (ls : List Lane). AreSameQueues ls (w ∷ worked)) planning.5 kept in
    let first = lane_rests s k lane planning.2 w posting.2 planning.0 posting.0 rest.0 planning.6 same.0 posting.6 in
    let others = lanes_rest s (k + 1) lanes planning.1 planning.3 worked posting.1 posting.3 rest.1 served.1 planning.7 same.1 posting.7 in
    let all : length plan ≡ length (planning.0 ++ planning.1) = ap length planning.4 in
    let both = length-append planning.0 planning.1 in
    subst (λ (ls : List Lane). AllRest s k (lane ∷ lanes) (length plan) ls) (sym posting.5)
    (record { rest = (first.rest, others.rest); served = (served.0, others.served); less = omega (arith, first.less, others.less, all, both) })

-- what a frame leaves
frame_leaves : {s : Script} {lanes : List Lane} {plan : List Line} {planned worked : List Lane} {posts : List Line} {new : List Lane} →
    AreAtRest s 1 lanes → AreServed s 1 lanes → Frame s lanes plan planned worked posts new → AllRest s 1 lanes (length plan) new
frame_leaves {s} {lanes} {plan} {planned} {worked} {posts} {new} rest served frame = lanes_rest s 1 lanes plan planned worked posts new rest served frame.planning frame.kept frame.posting

-- a turn leaves its lanes at rest
pub frame_rest : {s : Script} {lanes : List Lane} {plan : List Line} {planned worked : List Lane} {posts : List Line} {new : List Lane} →
    AreAtRest s 1 lanes → AreServed s 1 lanes → Frame s lanes plan planned worked posts new → AreAtRest s 1 new × AreServed s 1 new
frame_rest rest served frame = let all = frame_leaves rest served frame in (all.rest, all.served)

-- A plan with no event.

-- of no elements, none come first
pub no_first : {X : Type 0} (xs ys : List X) → xs ++ ys ≡ [] → xs ≡ []
no_first [] ys none = refl
no_first (x ∷ xs) ys none = let more : suc (length (xs ++ ys)) ≡ 0 = ap length none in absurd (omega (arith, more))

-- and none come second
no_second : {X : Type 0} (xs ys : List X) → xs ++ ys ≡ [] → ys ≡ []
no_second [] ys none = none
no_second (x ∷ xs) ys none = let more : suc (length (xs ++ ys)) ≡ 0 = ap length none in absurd (omega (arith, more))

-- no event leaves a lane as it is
none_changes : (s : Script) (events : List Line) (lane new : Lane) → events ≡ [] → LaneEvents s lane events new → new ≡ lane
none_changes s events lane new none steps = subst (λ (es : List Line). LaneEvents s lane es new) none steps

-- an entry that is due can be fetched
fetch_is_legal : (s : Script) (k : ℕ) (lane : Lane) (e : Sqe) → IsServed s k → IsAtRest s k lane → lane.reaped ≡ length lane.posted → slice_get lane.submitted lane.fetched ≡ Some e → NoneLegal s Fetch k lane → ⊥
fetch_is_legal s k lane e served rest reaped oldest none =
    let command : Command = checked_command s.head.blocks k lane.pages lane.running e in
    let nothing : length lane.running ≡ 0 = ap length rest.none in
    none (line.Fetch k command.cid command.status (pieces_left s.head.shelf command)) [] [] _ tt refl (
      refl,
      record {
        entry = e;
        command = command;
        oldest = oldest;
        room = omega (arith, nothing, reaped, served.set);
        checked = refl;
        cid_is = refl;
        status_is = refl;
        pieces_is = refl;
        after = refl;
      },
    )

-- a queue whose every entry was told of has room
none_untold : (n sq : ℕ) → 2 ≤ sq → (n + sq - n % sq) % sq < sq - 1
none_untold n sq some =
    let turns : n + sq - n % sq ≡ (n / sq + 1) * sq = omega arith in
    let none : (n / sq + 1) * sq % sq ≡ 0 = mul-mod_left (n / sq + 1) sq in
    rw (turns, none) (omega arith)

-- the guest of a quiet lane was told everything
has_room : (s : Script) (k : ℕ) (lane : Lane) → IsServed s k → IsAtRest s k lane → IsQuiet lane → untold_entries (set_of s.head k).sq lane < (set_of s.head k).sq - 1
has_room s k lane served rest quiet =
    let sq = (set_of s.head k).sq in
    let here : lane.reaped ≡ lane.fetched = omega (arith, rest.posted, quiet.all_reaped) in
    let told : head_of_last lane.posted lane.reaped ≡ length lane.submitted % sq =
    ap (head_of_last lane.posted) here ∙ rest.told ∙ ap (λ (n : ℕ). n % sq) quiet.all_fetched in
    rw told (none_untold (length lane.submitted) sq served.set.0)

-- a quiet guest with room can do any act
may_do : (set : LaneSet) (act : Act) (lane : Lane) → IsQuiet lane → untold_entries set.sq lane < set.sq - 1 → MayDo set act lane
may_do set (Submit cid op slba count p1 p2) lane quiet room = room
may_do set (Raw entry) lane quiet room = room
may_do set Wait lane quiet room = quiet
may_do set (Fill page byte) lane quiet room = tt
may_do set (Poke page at bytes used) lane quiet room = tt
may_do set (PrpList page named used) lane quiet room = tt
may_do set Idle lane quiet room = tt

-- an act that is due can be done
act_is_legal : (s : Script) (k : ℕ) (lane : Lane) (act : Act) → IsServed s k → IsAtRest s k lane → IsQuiet lane → slice_get (acts_of k s.acts) lane.acts ≡ Some act → NoneLegal s ActKind k lane → ⊥
act_is_legal s k lane act served rest quiet due none =
    none (line.Act k (lane.acts + 1)) [] [] _ tt refl (refl, record { act = act; due = due; number = refl; may = may_do (set_of s.head k) act lane quiet (has_room s k lane served rest quiet); after = refl })

-- where nothing was fetched, nothing could be
none_to_fetch : (s : Script) (k : ℕ) (lane new : Lane) (events : List Line) → 1 ≤ s.head.burst → events ≡ [] → new ≡ lane → FetchesOn s k lane events new → NoneLegal s Fetch k lane
none_to_fetch s k lane new events burst none same on = ⊎_elim (λ full. let empty : length events ≡ 0 = ap length none in absurd (omega (arith, full, empty, burst))) (subst (NoneLegal s Fetch k) same) on.stops

-- where no act was done, none could be
none_to_do : (s : Script) (k : ℕ) (lane new : Lane) (events : List Line) → 1 ≤ s.head.burst → events ≡ [] → new ≡ lane → ActsOn s k lane events new → NoneLegal s ActKind k lane
none_to_do s k lane new events burst none same on =
    ⊎_elim (λ full. let empty : length events ≡ 0 = ap length none in absurd (omega (arith, full, empty, burst)))
    (⊎_elim (λ idle. let acts : new.acts ≡ lane.acts = ap (λ (l : Lane). l.acts) same in absurd (omega (arith, idle.0, acts))) (subst (NoneLegal s ActKind k) same))
    on.stops

-- a lane is complete where its plan has no event
lane_is_complete : (s : Script) (k : ℕ) (lane new : Lane) (events : List Line) → 1 ≤ s.head.burst → IsServed s k → IsAtRest s k lane → Plans s k lane events new → events ≡ [] → IsLaneComplete s k lane
lane_is_complete s k lane new events burst served rest plan none =
    let all : plan.reaps ++ (plan.acts ++ plan.fetches) ≡ [] = sym plan.events_are ∙ none in
    let later : plan.acts ++ plan.fetches ≡ [] = no_second plan.reaps _ all in
    let first : plan.reaped ≡ lane = none_changes s plan.reaps lane plan.reaped (no_first plan.reaps _ all) plan.reaping.steps in
    let second : plan.acted ≡ plan.reaped = none_changes s plan.acts plan.reaped plan.acted (no_first plan.acts _ later) plan.acting.steps in
    let third : new ≡ plan.acted = none_changes s plan.fetches plan.acted new (no_second plan.acts _ later) plan.fetching.steps in
    let reaped : lane.reaped ≡ length lane.posted = subst (λ (l : Lane). l.reaped ≡ length l.posted) first plan.reaping.all in
    let no_fetch : NoneLegal s Fetch k lane = subst (NoneLegal s Fetch k) (second ∙ first) (none_to_fetch s k plan.acted new plan.fetches burst (no_second plan.acts _ later) third plan.fetching) in
    let no_act : NoneLegal s ActKind k lane = subst (NoneLegal s ActKind k) first (none_to_do s k plan.reaped plan.acted plan.acts burst (no_first plan.acts _ later) second plan.acting) in
    ⊎_elim (λ entry. absurd (fetch_is_legal s k lane entry.0 served rest reaped entry.2 no_fetch))
    (λ past.
    let quiet : IsQuiet lane = record { all_fetched = omega (arith, past.0, rest.fetched); none_running = rest.none; all_reaped = reaped } in
    ⊎_elim (λ act. absurd (act_is_legal s k lane act.0 served rest quiet act.2 no_act)) (λ done. record { acts = omega (arith, done.0, rest.acts); quiet = quiet }) (slice_get_cases (acts_of k s.acts) lane.acts).1)
    (slice_get_cases lane.submitted lane.fetched).1

-- the lane at a place is complete where no plan has an event
lanes_are_complete : (s : Script) (k : ℕ) (lanes : List Lane) (plan : List Line) (planned : List Lane) (i : ℕ) → 1 ≤ s.head.burst → AreServed s k lanes → AreAtRest s k lanes → InLanes (Plans s) k lanes plan planned → plan ≡ [] →
    i < length lanes → IsLaneComplete s (k + i) (slice_index_or lanes i (new_lane 0))
lanes_are_complete s k [] plan planned i burst served rest planning none below = absurd (omega (arith, below))
lanes_are_complete s k (lane ∷ lanes) plan planned zero burst served rest planning none below =
    let here : k ≡ k + 0 = omega arith in
    subst (λ (j : ℕ). IsLaneComplete s j lane) here (lane_is_complete s k lane planning.2 planning.0 burst served.0 rest.0 planning.6 (no_first planning.0 planning.1 (sym planning.4 ∙ none)))
lanes_are_complete s k (lane ∷ lanes) plan planned (suc i) burst served rest planning none below =
    let later : k + 1 + i ≡ k + suc i = omega arith in
    subst (λ (j : ℕ). IsLaneComplete s j (slice_index_or lanes i (new_lane 0))) later
    (lanes_are_complete s (k + 1) lanes planning.1 planning.3 i burst served.1 rest.1 planning.7 (no_second planning.0 planning.1 (sym planning.4 ∙ none)) (omega (arith, below)))

-- where a lane isn't complete, its plan has an event
pub frame_some : {s : Script} {lanes : List Lane} {plan : List Line} {planned worked : List Lane} {posts : List Line} {new : List Lane} →
    1 ≤ s.head.burst → AreAtRest s 1 lanes → AreServed s 1 lanes → (Complete s (record { blocks = []; lanes = lanes }) → ⊥) → Frame s lanes plan planned worked posts new → plan ≡ [] → ⊥
frame_some {s} {lanes} {plan} {planned} burst rest served due frame none = due (λ k there.
    let place : 1 + (k - 1) ≡ k = omega (arith, there.0) in
    subst (λ (j : ℕ). IsLaneComplete s j (slice_index_or lanes (k - 1) (new_lane 0))) place (lanes_are_complete s 1 lanes plan planned (k - 1) burst served rest frame.planning none (omega (arith, there.0, there.1))))

-- and less is left afterwards
pub frame_less : {s : Script} {lanes : List Lane} {plan : List Line} {planned worked : List Lane} {posts : List Line} {new : List Lane} →
    1 ≤ s.head.burst → AreAtRest s 1 lanes → AreServed s 1 lanes → (Complete s (record { blocks = []; lanes = lanes }) → ⊥) → Frame s lanes plan planned worked posts new → total_left s 1 new < total_left s 1 lanes
frame_less {s} {lanes} {plan} {planned} {worked} {posts} {new} burst rest served due frame = falls plan (frame_leaves rest served frame) (frame_some burst rest served due frame)
  where
    falls : (events : List Line) → AllRest s 1 lanes (length events) new → (events ≡ [] → ⊥) → total_left s 1 new < total_left s 1 lanes
    falls [] all some = absurd (some refl)
    falls (e ∷ events) all some = omega (arith, all.less)

-- Pieces keep the queues.

-- a lane keeps its own queue
same_queue : (lane : Lane) → IsSameQueue lane lane
same_queue lane = record { acts = refl; submitted = refl; fetched = refl; posted = refl; reaped = refl; running = refl }

-- lanes keep their own queues
pub same_queues : (lanes : List Lane) → AreSameQueues lanes lanes
same_queues [] = tt
same_queues (lane ∷ lanes) = (same_queue lane, same_queues lanes)

-- what is kept twice is kept
pub same_queue_more : {a b c : Lane} → IsSameQueue a b → IsSameQueue b c → IsSameQueue a c
same_queue_more x y = record {
  acts = y.acts ∙ x.acts;
  submitted = y.submitted ∙ x.submitted;
  fetched = y.fetched ∙ x.fetched;
  posted = y.posted ∙ x.posted;
  reaped = y.reaped ∙ x.reaped;
  running = y.running ∙ x.running;
}

-- the same of lanes
pub same_queues_more : (a b c : List Lane) → AreSameQueues a b → AreSameQueues b c → AreSameQueues a c
same_queues_more [] [] [] x y = tt
same_queues_more [] [] (l ∷ c) x y = absurd y
same_queues_more [] (l ∷ b) c x y = absurd x
same_queues_more (l ∷ a) [] c x y = absurd x
same_queues_more (l ∷ a) (m ∷ b) [] x y = absurd y
same_queues_more (l ∷ a) (m ∷ b) (n ∷ c) x y = (same_queue_more x.0 y.0, same_queues_more a b c x.1 y.1)

-- one lane is set
pub set_same_queues : (lanes : List Lane) (i : ℕ) (d new : Lane) → IsSameQueue (slice_index_or lanes i d) new → AreSameQueues lanes (slice_set lanes i new)
set_same_queues [] i d new same = tt
set_same_queues (lane ∷ lanes) zero d new same = (same, same_queues lanes)
set_same_queues (lane ∷ lanes) (suc i) d new same = (same_queue lane, set_same_queues lanes i d new same)

-- a piece changes its lane's memory and running commands alone
piece_keeps : (s : Script) (e : Line) (blocks : List (List ℕ)) (lane : Lane) (new_blocks : List (List ℕ)) (new : Lane) → IsKind Piece e → LaneStep s e blocks lane new_blocks new → IsSameQueue lane new
piece_keeps s (line.Piece k cid first count outcome digest) blocks lane new_blocks new is h = subst (IsSameQueue lane) (sym h.after) (record { acts = refl; submitted = refl; fetched = refl; posted = refl; reaped = refl; running = length-set lane.running h.place _ })
piece_keeps s (line.Act k n) blocks lane new_blocks new is h = absurd is
piece_keeps s (line.Reap k cid status head phase) blocks lane new_blocks new is h = absurd is
piece_keeps s (line.Fetch k cid status pieces) blocks lane new_blocks new is h = absurd is
piece_keeps s (line.Post k cid status) blocks lane new_blocks new is h = absurd is
piece_keeps s line.Title blocks lane new_blocks new is h = absurd h
piece_keeps s line.Ready blocks lane new_blocks new is h = absurd h
piece_keeps s line.Migrate blocks lane new_blocks new is h = absurd h
piece_keeps s line.Restart blocks lane new_blocks new is h = absurd h
piece_keeps s (line.Round owed pages) blocks lane new_blocks new is h = absurd h
piece_keeps s line.Suspend blocks lane new_blocks new is h = absurd h
piece_keeps s (line.Pause owed pages) blocks lane new_blocks new is h = absurd h
piece_keeps s line.ResumeTo blocks lane new_blocks new is h = absurd h
piece_keeps s line.GiveUp blocks lane new_blocks new is h = absurd h
piece_keeps s line.End blocks lane new_blocks new is h = absurd h

-- so do pieces one after another
pieces_keep : (s : Script) (events : List Line) (w v : World) → AllByRecursion (IsKind Piece) events → Steps s w events v → AreSameQueues w.lanes v.lanes
pieces_keep s [] w v are steps = subst (λ (u : World). AreSameQueues w.lanes u.lanes) (sym steps) (same_queues w.lanes)
pieces_keep s (e ∷ events) w v are steps =
    let u = steps.0 in
    let one = steps.1 in
    let kept = piece_keeps s e w.blocks (lane_of w (lane_number e)) one.blocks one.lane are.0 one.step in
    let first : AreSameQueues w.lanes u.lanes = subst (λ (x : World). AreSameQueues w.lanes x.lanes) (sym one.after) (set_same_queues w.lanes (lane_number e - 1) (new_lane 0) one.lane kept) in
    same_queues_more w.lanes u.lanes v.lanes first (pieces_keep s events u v are.1 steps.2)

-- a turn is such a frame
pub turn_frame : {s : Script} {w : World} {events : List Line} {v : World} → (t : Turn s w events v) → Frame s w.lanes t.plan t.planned t.worked.lanes t.posts v.lanes
turn_frame {s} {w} t = record { planning = t.planning; kept = pieces_keep s t.pieces (record { blocks = w.blocks; lanes = t.planned }) t.worked t.working.are t.working.steps; posting = t.posting }

-- Turns are steps.

-- steps, and then further steps
pub steps_more : (s : Script) (w u v : World) (a b : List Line) → Steps s w a u → Steps s u b v → Steps s w (a ++ b) v
steps_more s w u v [] b first second = subst (λ (x : World). Steps s x b v) first second
steps_more s w u v (e ∷ a) b first second = (first.0, first.1, steps_more s first.0 u v a b first.2 second)

-- events of lane k that touch no block
abbrev KeepsBlocks : Script → ℕ → Lane → List Line → Lane → Type 0
KeepsBlocks s k lane [] new = new ≡ lane
KeepsBlocks s k lane (e ∷ events) new = (mid : Lane) × (lane_number e ≡ k) × ((blocks : List (List ℕ)) → LaneStep s e blocks lane blocks mid) × KeepsBlocks s k mid events new

-- events, and then further events
keeps_more : (s : Script) (k : ℕ) (lane mid new : Lane) (a b : List Line) → KeepsBlocks s k lane a mid → KeepsBlocks s k mid b new → KeepsBlocks s k lane (a ++ b) new
keeps_more s k lane mid new [] b first second = subst (λ (l : Lane). KeepsBlocks s k l b new) first second
keeps_more s k lane mid new (e ∷ a) b first second = (first.0, first.1, first.2, keeps_more s k first.0 mid new a b first.3 second)

-- events of one kind
lane_keeps : (s : Script) (kind : Kind) (k : ℕ) (lane new : Lane) (events : List Line) → AreOf kind k events → LaneEvents s lane events new → KeepsBlocks s k lane events new
lane_keeps s kind k lane new [] are steps = steps
lane_keeps s kind k lane new (e ∷ events) are steps = (steps.0, are.0.1, steps.1, lane_keeps s kind k steps.0 new events are.1 steps.2)

-- what a lane does before the pieces touches no block
plan_keeps : (s : Script) (k : ℕ) (lane : Lane) (events : List Line) (new : Lane) → Plans s k lane events new → KeepsBlocks s k lane events new
plan_keeps s k lane events new plan =
    subst (λ (es : List Line). KeepsBlocks s k lane es new) (sym plan.events_are)
    (keeps_more s k lane plan.reaped new plan.reaps (plan.acts ++ plan.fetches) (lane_keeps s Reap k lane plan.reaped plan.reaps plan.reaping.are plan.reaping.steps)
    (keeps_more s k plan.reaped plan.acted new plan.acts plan.fetches (lane_keeps s ActKind k plan.reaped plan.acted plan.acts plan.acting.are plan.acting.steps)
    (lane_keeps s Fetch k plan.acted new plan.fetches plan.fetching.are plan.fetching.steps)))

-- and its posts don't
posts_keep : (s : Script) (k : ℕ) (lane : Lane) (events : List Line) (new : Lane) → PostsAll s k lane events new → KeepsBlocks s k lane events new
posts_keep s k lane events new posts = lane_keeps s Post k lane new events posts.are posts.steps

-- a world with a lane between others
abbrev among : List (List ℕ) → List Lane → Lane → List Lane → World
among blocks done lane rest = record { blocks = blocks; lanes = done ++ lane ∷ rest }

-- what an event does to a lane, it does to the world
one_among : (s : Script) (blocks : List (List ℕ)) (done rest : List Lane) (k : ℕ) (e : Line) (lane new : Lane) → k ≡ length done + 1 → lane_number e ≡ k → LaneStep s e blocks lane blocks new → One s (among blocks done lane rest) e (among blocks done new rest)
one_among s blocks done rest k e lane new at number step =
    let all : length (done ++ lane ∷ rest) ≡ length done + suc (length rest) = length-append done (lane ∷ rest) in
    let place : lane_number e - 1 ≡ length done = omega (arith, at, number) in
    let here : lane ≡ lane_of (among blocks done lane rest) (lane_number e) = sym (ap (λ (i : ℕ). slice_index_or (done ++ lane ∷ rest) i (new_lane 0)) place ∙ get_or-append_seam done lane rest (new_lane 0)) in
    record {
      there = (omega (arith, at, number), omega (arith, at, number, all));
      blocks = blocks;
      lane = new;
      step = subst (λ (l : Lane). LaneStep s e blocks l blocks new) here step;
      after = ap (λ (ls : List Lane). record { blocks = blocks; lanes = ls }) (sym (ap (λ (i : ℕ). slice_set (done ++ lane ∷ rest) i new) place ∙ set-append_seam done lane rest new));
    }

-- the same of events one after another
all_among : (s : Script) (blocks : List (List ℕ)) (done rest : List Lane) (k : ℕ) (lane new : Lane) (events : List Line) → k ≡ length done + 1 → KeepsBlocks s k lane events new → Steps s (among blocks done lane rest) events (among blocks done new rest)
all_among s blocks done rest k lane new [] at steps = ap (λ (l : Lane). among blocks done l rest) steps
all_among s blocks done rest k lane new (e ∷ events) at steps =
    (among blocks done steps.0 rest, one_among s blocks done rest k e lane steps.0 at steps.1 (steps.2 blocks), all_among s blocks done rest k steps.0 new events at steps.3)

-- parts of lanes are steps, one lane after another
parts_are_steps : (s : Script) (Part : ℕ → Lane → List Line → Lane → Type 0) → ((k : ℕ) (lane : Lane) (events : List Line) (new : Lane) → Part k lane events new → KeepsBlocks s k lane events new) →
    (blocks : List (List ℕ)) (done lanes : List Lane) (k : ℕ) (events : List Line) (new : List Lane) → k ≡ length done + 1 → InLanes Part k lanes events new → Steps s (record { blocks = blocks; lanes = done ++ lanes }) events (record { blocks = blocks; lanes = done ++ new })
parts_are_steps s Part keeps blocks done [] k events new at parts =
    subst (λ (es : List Line). Steps s (record { blocks = blocks; lanes = done ++ [] }) es (record { blocks = blocks; lanes = done ++ new })) (sym parts.0) (ap (λ (ls : List Lane). record { blocks = blocks; lanes = done ++ ls }) parts.1)
parts_are_steps s Part keeps blocks done (lane ∷ lanes) k events new at parts =
    let first = parts.0 in
    let others = parts.1 in
    let l = parts.2 in
    let ls = parts.3 in
    let longer : length (done ++ l ∷ []) ≡ length done + 1 = length-append done (l ∷ []) in
    let world : List Lane → World = λ (all : List Lane). record { blocks = blocks; lanes = all } in
    let later : Steps s (world ((done ++ l ∷ []) ++ lanes)) others (world ((done ++ l ∷ []) ++ ls)) = parts_are_steps s Part keeps blocks (done ++ l ∷ []) lanes (k + 1) others ls (omega (arith, at, longer)) parts.7 in
    let from : Steps s (world (done ++ l ∷ lanes)) others (world ((done ++ l ∷ []) ++ ls)) = subst (λ (all : List Lane). Steps s (world all) others (world ((done ++ l ∷ []) ++ ls))) (append_assoc done (l ∷ []) lanes) later in
    let to : Steps s (world (done ++ l ∷ lanes)) others (world (done ++ l ∷ ls)) = subst (λ (all : List Lane). Steps s (world (done ++ l ∷ lanes)) others (world all)) (append_assoc done (l ∷ []) ls) from in
    let both : Steps s (world (done ++ lane ∷ lanes)) (first ++ others) (world (done ++ l ∷ ls)) =
    steps_more s _ (world (done ++ l ∷ lanes)) _ first others (all_among s blocks done lanes k lane l first at (keeps k lane first l parts.6)) to in
    let right : Steps s (world (done ++ lane ∷ lanes)) events (world (done ++ l ∷ ls)) = subst (λ (es : List Line). Steps s (world (done ++ lane ∷ lanes)) es (world (done ++ l ∷ ls))) (sym parts.4) both in
    subst (λ (all : List Lane). Steps s (world (done ++ lane ∷ lanes)) events (world (done ++ all))) (sym parts.5) right

-- a turn's events are steps
-- the steps of a turn's plan, and of its posts
pub turn_parts : {s : Script} {w : World} {events : List Line} {v : World} → (t : Turn s w events v) → Steps s w t.plan (record { blocks = w.blocks; lanes = t.planned }) × Steps s t.worked t.posts v
turn_parts {s} {w} {events} {v} t = (
  parts_are_steps s (Plans s) (plan_keeps s) w.blocks [] w.lanes 1 t.plan t.planned refl t.planning,
  subst (λ (blocks : List (List ℕ)). Steps s t.worked t.posts (record { blocks = blocks; lanes = v.lanes })) (sym t.blocks)
      (parts_are_steps s (PostsAll s) (posts_keep s) t.worked.blocks [] t.worked.lanes 1 t.posts v.lanes refl t.posting),
)

pub turn_steps : {s : Script} {w : World} {events : List Line} {v : World} → Turn s w events v → Steps s w events v
turn_steps {s} {w} {events} {v} t =
    let planned : World = record { blocks = w.blocks; lanes = t.planned } in
    let plan : Steps s w t.plan planned = parts_are_steps s (Plans s) (plan_keeps s) w.blocks [] w.lanes 1 t.plan t.planned refl t.planning in
    let posts : Steps s t.worked t.posts (record { blocks = t.worked.blocks; lanes = v.lanes }) = parts_are_steps s (PostsAll s) (posts_keep s) t.worked.blocks [] t.worked.lanes 1 t.posts v.lanes refl t.posting in
    let to : Steps s t.worked t.posts v = subst (λ (blocks : List (List ℕ)). Steps s t.worked t.posts (record { blocks = blocks; lanes = v.lanes })) (sym t.blocks) posts in
    subst (λ (es : List Line). Steps s w es v) (sym t.events_are) (steps_more s w planned v t.plan (t.pieces ++ t.posts) plan (steps_more s planned t.worked v t.pieces t.posts t.working.steps to))

-- so are the events of turns
pub turns_steps : (s : Script) (n : ℕ) (w : World) (turns : List (List Line)) (v : World) → Turns s n w turns v → Steps s w (events_in turns) v
turns_steps s n w [] v h = h
turns_steps s n w (turn ∷ turns) v h = steps_more s w h.0 v turn (events_in turns) (turn_steps h.1.turn) (turns_steps s (n + pieces_in turn) h.0 turns v h.2)

-- a line that does something to a lane is an event
pub step_is_event : (s : Script) (e : Line) (blocks : List (List ℕ)) (lane : Lane) (new_blocks : List (List ℕ)) (new : Lane) → LaneStep s e blocks lane new_blocks new → IsTrue (is_event e)
step_is_event s (line.Act k n) blocks lane new_blocks new h = refl
step_is_event s (line.Reap k cid status head phase) blocks lane new_blocks new h = refl
step_is_event s (line.Fetch k cid status pieces) blocks lane new_blocks new h = refl
step_is_event s (line.Piece k cid first count outcome digest) blocks lane new_blocks new h = refl
step_is_event s (line.Post k cid status) blocks lane new_blocks new h = refl
step_is_event s line.Title blocks lane new_blocks new h = absurd h
step_is_event s line.Ready blocks lane new_blocks new h = absurd h
step_is_event s line.Migrate blocks lane new_blocks new h = absurd h
step_is_event s line.Restart blocks lane new_blocks new h = absurd h
step_is_event s (line.Round owed pages) blocks lane new_blocks new h = absurd h
step_is_event s line.Suspend blocks lane new_blocks new h = absurd h
step_is_event s (line.Pause owed pages) blocks lane new_blocks new h = absurd h
step_is_event s line.ResumeTo blocks lane new_blocks new h = absurd h
step_is_event s line.GiveUp blocks lane new_blocks new h = absurd h
step_is_event s line.End blocks lane new_blocks new h = absurd h

-- steps are events
pub steps_are_events : (s : Script) (w : World) (events : List Line) (v : World) → Steps s w events v → AreEvents events
steps_are_events s w [] v h = tt
steps_are_events s w (e ∷ events) v h = (step_is_event s e w.blocks (lane_of w (lane_number e)) h.1.blocks h.1.lane h.1.step, steps_are_events s h.0 events v h.2)

-- steps keep the number of lanes
steps_lanes : (s : Script) (w : World) (events : List Line) (v : World) → Steps s w events v → length v.lanes ≡ length w.lanes
steps_lanes s w [] v h = ap (λ (u : World). length u.lanes) h
steps_lanes s w (e ∷ events) v h = steps_lanes s h.0 events v h.2 ∙ ap (λ (u : World). length u.lanes) h.1.after ∙ length-set w.lanes (lane_number e - 1) h.1.lane

-- as many lanes as before
pub turns_lanes : (s : Script) (n : ℕ) (w : World) (turns : List (List Line)) (v : World) → Turns s n w turns v → length v.lanes ≡ length w.lanes
turns_lanes s n w turns v h = steps_lanes s w (events_in turns) v (turns_steps s n w turns v h)

-- Further turns.

-- the events of turns and of further turns
pub events_in_more : (a b : List (List Line)) → events_in (a ++ b) ≡ events_in a ++ events_in b
events_in_more a b = flat_map-append (λ (turn : List Line). turn) a b

-- the pieces among events and further events
pub pieces_in_more : (a b : List Line) → pieces_in (a ++ b) ≡ pieces_in a + pieces_in b
pieces_in_more a b = ap sum (map-append piece_number a b) ∙ sum_by-append (λ (n : ℕ). n) (map piece_number a) (map piece_number b)

-- turns, and then further turns
pub turns_more : (s : Script) (n : ℕ) (w : World) (a b : List (List Line)) (u v : World) → Turns s n w a u → Turns s (n + pieces_in (events_in a)) u b v → Turns s n w (a ++ b) v
turns_more s n w [] b u v first second =
    let same : n + 0 ≡ n = omega arith in
    subst (λ (x : World). Turns s n x b v) first (subst (λ (m : ℕ). Turns s m u b v) same second)
turns_more s n w (turn ∷ a) b u v first second =
    let pieces : pieces_in (turn ++ events_in a) ≡ pieces_in turn + pieces_in (events_in a) = pieces_in_more turn (events_in a) in
    let same : n + pieces_in (turn ++ events_in a) ≡ n + pieces_in turn + pieces_in (events_in a) = omega (arith, pieces) in
    (first.0, first.1, turns_more s (n + pieces_in turn) first.0 a b u v first.2 (subst (λ (m : ℕ). Turns s m u b v) same second))

-- parts of lanes: one lane more behind
pub lanes_more : (Part : ℕ → Lane → List Line → Lane → Type 0) (k : ℕ) (lanes : List Lane) (events : List Line) (new : List Lane) (lane : Lane) (more : List Line) (last : Lane) → InLanes Part k lanes events new → Part (k + length lanes) lane more last → InLanes Part k (lanes ++ lane ∷ []) (events ++ more) (new ++ last ∷ [])
lanes_more Part k [] events new lane more last parts part =
    let here : k + 0 ≡ k = omega arith in
    (more, [], last, [], ap (λ (es : List Line). es ++ more) parts.0 ∙ sym (append-nil more), ap (λ (ls : List Lane). ls ++ last ∷ []) parts.1, subst (λ (j : ℕ). Part j lane more last) here part, (refl, refl))
lanes_more Part k (l ∷ lanes) events new lane more last parts part =
    let later : k + suc (length lanes) ≡ k + 1 + length lanes = omega arith in (
      parts.0,
      parts.1 ++ more,
      parts.2,
      parts.3 ++ last ∷ [],
      ap (λ (es : List Line). es ++ more) parts.4 ∙ append_assoc parts.0 parts.1 more,
      ap (λ (ls : List Lane). ls ++ last ∷ []) parts.5,
      parts.6,
      lanes_more Part (k + 1) lanes parts.1 parts.3 lane more last parts.7 (subst (λ (j : ℕ). Part j lane more last) later part),
    )
