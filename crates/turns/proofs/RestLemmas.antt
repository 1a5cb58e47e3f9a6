use Rattle.std.proofs.Common.{◌≡◌, ℕ, zero, suc, ◌+◌, ◌-◌, ◌<◌, ◌≤◌, ◌⊎◌, inl, inr, ⊎_elim, List, [], ◌∷◌, ◌++◌, length, slice_index_or, sum, refl, subst, arith, Bool, true, false}
use Rattle.std.specs.List.{AllByRecursion, flat_map}
use Rattle.std.proofs.lemmas.Bool.{cases_eq, cases_lt}
use Rattle.nvm_model.specs.declared.command.Command.{Command}
use Rattle.nvm_model.specs.declared.line.Line.{Line}
use Rattle.nvm_model.specs.declared.line.Line.TheVariants as line
use Rattle.nvm_model.specs.declared.script.Script.{Script}
use Rattle.nvm_model.specs.History.{Complete, IsLaneComplete, Steps, faults_shown}
use Rattle.nvm_model.specs.Owed.{Owed, Written, changes_of, owed_after, restarted_if, written_by}
use Rattle.nvm_model.specs.Rounds.{InRounds, MovingTurn, RoundText, Wrote, copies_due, picked_pieces, round_text, work_at}
use Rattle.nvm_model.specs.Run.{IsCutDue, IsLost, restart_line}
use Rattle.nvm_model.specs.Told.{serial}
use Rattle.nvm_model.specs.Piece.{pieces_left}
use Rattle.nvm_model.specs.Turn.{InLanes, Plans, PostsAll, SerialTurn, Turn, Turns, events_in, lefts, pieces_in}
use Rattle.nvm_model.specs.World.{Lane, World, acts_of, new_lane}
use Rattle.turns.specs.Frame.{AreAtRest, AreServed, EndsInTurns, total_left}
use Rattle.turns.proofs.FrameLemmas.{frame_less, frame_rest, frame_some, turn_frame, turn_steps}
use Rattle.turns.proofs.OrderLemmas.{IsNewLane, has_mixed, has_works}
use Rattle.turns.proofs.PlanLemmas.{calm_more, has_plan, has_posts, quiet_or_not}

-- From a world at rest the run can be brought to its end turn by turn, with no fault.

-- Whether a world is complete.

-- a lane is complete, or not
lane_complete_or_not : (s : Script) (k : ℕ) (lane : Lane) → IsLaneComplete s k lane ⊎ (IsLaneComplete s k lane → ⊥)
lane_complete_or_not s k lane =
    ⊎_elim (λ acts. ⊎_elim (λ quiet. inl (record { acts = acts; quiet = quiet })) (λ more. inr (λ is. more is.quiet)) (quiet_or_not lane)) (λ more. inr (λ is. more is.acts))
    (cases_eq lane.acts (length (acts_of k s.acts)))

-- something holds at each place, or not
each_or_not : {X : Type 0} (P : ℕ → X → Type 0) → ((i : ℕ) (x : X) → P i x ⊎ (P i x → ⊥)) → (xs : List X) (d : X) →
    ((i : ℕ) → i < length xs → P i (slice_index_or xs i d)) ⊎ (((i : ℕ) → i < length xs → P i (slice_index_or xs i d)) → ⊥)
each_or_not P decide [] d = inl (λ i within. absurd (omega (arith, within)))
each_or_not P decide (x ∷ xs) d =
    ⊎_elim (λ here. ⊎_elim (λ others. inl (both here others)) (λ more. inr (λ all. more (λ i within. all (suc i) (omega (arith, within))))) (each_or_not (λ i. P (suc i)) (λ i. decide (suc i)) xs d))
    (λ more. inr (λ all. more (all 0 (omega arith)))) (decide 0 x)
  where
    both : P 0 x → ((i : ℕ) → i < length xs → P (suc i) (slice_index_or xs i d)) → (i : ℕ) → i < length (x ∷ xs) → P i (slice_index_or (x ∷ xs) i d)
    both here others zero within = here
    both here others (suc i) within = others i (omega (arith, within))

-- a world is complete, or not
pub complete_or_not : (s : Script) (w : World) → AreAtRest s 1 w.lanes → Complete s w ⊎ (Complete s w → ⊥)
complete_or_not s w rest = ⊎_elim (λ all. inl (λ k there.
    let here : k - 1 + 1 ≡ k = omega (arith, there.0) in
    subst (λ (j : ℕ). IsLaneComplete s j (slice_index_or w.lanes (k - 1) (new_lane 0))) here (all (k - 1) (omega (arith, there.0, there.1)))))
    (λ more. inr (λ complete. more (λ i within.
    let here : i + 1 - 1 ≡ i = omega arith in
    subst (λ (j : ℕ). IsLaneComplete s (i + 1) (slice_index_or w.lanes j (new_lane 0))) here (complete (i + 1) (omega arith, omega (arith, within))))))
    (each_or_not (λ i lane. IsLaneComplete s (i + 1) lane) (λ i lane. lane_complete_or_not s (i + 1) lane) w.lanes (new_lane 0))

-- A turn.

-- what these lanes do before the pieces
record HasPlans (s : Script) (k : ℕ) (lanes : List Lane) : Type 0 where
  events : List Line
  new : List Lane
  planning : InLanes (Plans s) k lanes events new
  new_work : AllByRecursion IsNewLane new
  calm : faults_shown events ≡ 0

-- lanes at rest have plans
has_plans : (s : Script) (k : ℕ) (lanes : List Lane) → AreAtRest s k lanes → HasPlans s k lanes
has_plans s k [] rest = record { events = []; new = []; planning = (refl, refl); new_work = tt; calm = refl }
has_plans s k (lane ∷ lanes) rest =
    let first = has_plan s k lane rest.0.none rest.0.reaped in
    let others = has_plans s (k + 1) lanes rest.1 in
    record {
      events = first.events ++ others.events;
      new = first.new ∷ others.new;
      planning = (first.events, others.events, first.new, others.new, refl, refl, first.plans, others.planning);
      new_work = (first.new_work, others.new_work);
      calm = calm_more first.events others.events first.calm others.calm;
    }

-- all commands of these lanes are posted
record ArePosted (s : Script) (k : ℕ) (lanes : List Lane) : Type 0 where
  events : List Line
  new : List Lane
  posting : InLanes (PostsAll s) k lanes events new
  calm : faults_shown events ≡ 0

-- where no piece is left, all commands can be posted
are_posted : (s : Script) (k : ℕ) (lanes : List Lane) → AllByRecursion (λ (lane : Lane). AllByRecursion (λ (c : Command). pieces_left s.head.shelf c ≡ 0) lane.running) lanes → ArePosted s k lanes
are_posted s k [] finished = record { events = []; new = []; posting = (refl, refl); calm = refl }
are_posted s k (lane ∷ lanes) finished =
    let first = has_posts s k lane.running lane refl finished.0 in
    let others = are_posted s (k + 1) lanes finished.1 in
    record {
      events = first.events ++ others.events;
      new = first.new ∷ others.new;
      posting = (first.events, others.events, first.new, others.new, refl, refl, first.posting, others.posting);
      calm = calm_more first.events others.events first.calm others.calm;
    }

-- a list with no element has no first part
none_first : (xs ys : List Line) → xs ++ ys ≡ [] → xs ≡ []
none_first [] ys none = refl
none_first (x ∷ xs) ys none = cc

-- a turn can be done from a world at rest that isn't complete, with no fault, and leaves less to do
pub record CanTurn (s : Script) (n : ℕ) (w : World) : Type 0 where
  pub events : List Line
  pub v : World
  pub serial : SerialTurn s n w events v
  pub calm : faults_shown events ≡ 0
  pub rest : AreAtRest s 1 v.lanes
  pub served : AreServed s 1 v.lanes
  pub less : total_left s 1 v.lanes < total_left s 1 w.lanes

-- so there is a turn: the plans, the pieces and the posts
pub can_turn : (s : Script) (n : ℕ) (w : World) → 1 ≤ s.head.burst → AreAtRest s 1 w.lanes → AreServed s 1 w.lanes → (Complete s w → ⊥) → CanTurn s n w
can_turn s n w burst rest served due =
    let plans = has_plans s 1 w.lanes rest in
    let mid : World = record { blocks = w.blocks; lanes = plans.new } in
    let works = has_works s (sum (lefts s mid)) n mid refl plans.new_work in
    let posts = are_posted s 1 works.v.lanes works.working.all in
    let events = plans.events ++ (works.events ++ posts.events) in
    let v : World = record { blocks = works.v.blocks; lanes = posts.new } in
    let turn : Turn s w events v = record {
      plan = plans.events;
      pieces = works.events;
      posts = posts.events;
      events_are = refl;
      planned = plans.new;
      worked = works.v;
      planning = plans.planning;
      working = works.working;
      posting = posts.posting;
      blocks = refl;
    } in
    let frame = turn_frame turn in
    let after = frame_rest rest served frame in
    record {
      events = events;
      v = v;
      serial = record { turn = turn; order = works.order; due = due; some = λ none. frame_some burst rest served due frame (none_first plans.events (works.events ++ posts.events) none) };
      calm = calm_more plans.events (works.events ++ posts.events) plans.calm (calm_more works.events posts.events works.calm posts.calm);
      rest = after.0;
      served = after.1;
      less = frame_less burst rest served due frame;
    }

-- Turns.

-- a turn before the end
then_ends : {s : Script} {n : ℕ} {w : World} → (turn : CanTurn s n w) → EndsInTurns s (n + pieces_in turn.events) turn.v → EndsInTurns s n w
then_ends turn more = record {
  turns = turn.events ∷ more.turns;
  v = more.v;
  are = (turn.v, turn.serial, more.are);
  complete = more.complete;
  calm = calm_more turn.events (events_in more.turns) turn.calm more.calm;
}

-- it can where less than a bound is left
ends_below : (s : Script) (n bound : ℕ) (w : World) → 1 ≤ s.head.burst → AreAtRest s 1 w.lanes → AreServed s 1 w.lanes → total_left s 1 w.lanes < bound → EndsInTurns s n w
ends_below s n zero w burst rest served below = absurd (omega (arith, below))
ends_below s n (suc bound) w burst rest served below =
    ⊎_elim (λ complete. record { turns = []; v = w; are = refl; complete = complete; calm = refl }) (λ due.
    let turn = can_turn s n w burst rest served due in
    then_ends turn (ends_below s (n + pieces_in turn.events) bound turn.v burst turn.rest turn.served (omega (arith, below, turn.less))))
    (complete_or_not s w rest)

-- from a world at rest the run can be brought to its end
pub ends_in_turns : (s : Script) (n : ℕ) (w : World) → 1 ≤ s.head.burst → AreAtRest s 1 w.lanes → AreServed s 1 w.lanes → EndsInTurns s n w
ends_in_turns s n w burst rest served = ends_below s n (total_left s 1 w.lanes + 1) w burst rest served (omega arith)

-- so many turns can be done, or fewer where the world is complete before
pub record TurnsUpTo (s : Script) (n limit : ℕ) (w : World) : Type 0 where
  pub turns : List (List Line)
  pub v : World
  pub are : Turns s n w turns v
  pub rest : AreAtRest s 1 v.lanes
  pub served : AreServed s 1 v.lanes
  pub calm : faults_shown (events_in turns) ≡ 0
  pub few : length turns ≤ limit
  pub stops : (length turns ≡ limit) ⊎ Complete s v

-- a turn, and then fewer
then_turns : {s : Script} {n limit : ℕ} {w : World} → (turn : CanTurn s n w) → TurnsUpTo s (n + pieces_in turn.events) limit turn.v → TurnsUpTo s n (suc limit) w
then_turns turn more = record {
  turns = turn.events ∷ more.turns;
  v = more.v;
  are = (turn.v, turn.serial, more.are);
  rest = more.rest;
  served = more.served;
  calm = calm_more turn.events (events_in more.turns) turn.calm more.calm;
  few = omega (arith, more.few);
  stops = ⊎_elim (λ all. inl (omega (arith, all))) (λ complete. inr complete) more.stops;
}

-- turn after turn until the limit or the end
pub turns_up_to : (s : Script) (n limit : ℕ) (w : World) → 1 ≤ s.head.burst → AreAtRest s 1 w.lanes → AreServed s 1 w.lanes → TurnsUpTo s n limit w
turns_up_to s n zero w burst rest served = record { turns = []; v = w; are = refl; rest = rest; served = served; calm = refl; few = omega arith; stops = inl refl }
turns_up_to s n (suc limit) w burst rest served =
    ⊎_elim (λ complete. record { turns = []; v = w; are = refl; rest = rest; served = served; calm = refl; few = omega arith; stops = inr complete }) (λ due.
    let turn = can_turn s n w burst rest served due in
    then_turns turn (turns_up_to s (n + pieces_in turn.events) limit turn.v burst turn.rest turn.served))
    (complete_or_not s w rest)

-- Rounds.

-- a turn of a migration can be done from a world at rest, with no fault
pub record CanMove (s : Script) (n copies : ℕ) (w : World) : Type 0 where
  pub events : List Line
  pub v : World
  pub turn : MovingTurn s n copies w events v
  pub calm : faults_shown events ≡ 0
  pub rest : AreAtRest s 1 v.lanes
  pub served : AreServed s 1 v.lanes

pub can_move : (s : Script) (n copies : ℕ) (w : World) → 1 ≤ s.head.burst → AreAtRest s 1 w.lanes → AreServed s 1 w.lanes → CanMove s n copies w
can_move s n copies w burst rest served =
    let plans = has_plans s 1 w.lanes rest in
    let mid : World = record { blocks = w.blocks; lanes = plans.new } in
    let works = has_mixed s (sum (lefts s mid) + copies) n copies mid refl plans.new_work in
    let pieces = picked_pieces works.picks in
    let posts = are_posted s 1 works.v.lanes works.working.all in
    let events = plans.events ++ (pieces ++ posts.events) in
    let v : World = record { blocks = works.v.blocks; lanes = posts.new } in
    let turn : Turn s w events v = record {
      plan = plans.events;
      pieces = pieces;
      posts = posts.events;
      events_are = refl;
      planned = plans.new;
      worked = works.v;
      planning = plans.planning;
      working = works.working;
      posting = posts.posting;
      blocks = refl;
    } in
    let frame = turn_frame turn in
    let after = frame_rest rest served frame in
    record {
      events = events;
      v = v;
      turn = record {
        turn = turn;
        picks = works.picks;
        pieces = refl;
        order = works.order;
        some = λ none. ⊎_elim (λ complete. complete) (λ due. absurd (frame_some burst rest served due frame (none_first plans.events (pieces ++ posts.events) none))) (complete_or_not s w rest);
      };
      calm = calm_more plans.events (pieces ++ posts.events) plans.calm (calm_more pieces posts.events works.calm posts.calm);
      rest = after.0;
      served = after.1;
    }

-- what steps wrote
pub record HasWritten (s : Script) (w : World) (events : List Line) (v : World) : Type 0 where
  pub written : List Written
  pub wrote : Wrote s w events written v

pub has_written : (s : Script) (w : World) (events : List Line) (v : World) → Steps s w events v → HasWritten s w events v
has_written s w [] v steps = record { written = []; wrote = (steps, refl) }
has_written s w (e ∷ events) v steps =
    let rest = has_written s steps.0 events v steps.2 in
    record { written = written_by s (work_at s w e) e ∷ rest.written; wrote = (steps.0, rest.written, steps.1, refl, rest.wrote) }

-- a queue may have lost a change exactly where there are more changes than cells
pub record MayLose (s : Script) (changes copies : ℕ) : Type 0 where
  pub lost : Bool
  pub is : IsLost (serial s) changes copies lost

may_lose : (s : Script) (changes copies : ℕ) → MayLose s changes copies
may_lose s changes copies =
    ⊎_elim (λ more. record { lost = true; is = record { only = λ is. more; always = λ is. refl; serial = λ a b c. refl } })
    (λ few. record { lost = false; is = record { only = λ is. absurd cc; always = λ many. absurd (omega (arith, few, many)); serial = λ a b many. absurd (omega (arith, few, many)) } })
    (cases_lt s.head.change changes)

due_or_not : (s : Script) (owed : Owed) (k : ℕ) → IsCutDue s.head owed k ⊎ (IsCutDue s.head owed k → ⊥)
due_or_not s owed k =
    ⊎_elim (λ waits. ⊎_elim (λ many. inr (λ due. ⊎_elim (λ few. absurd (omega (arith, many, few.0))) (λ past. absurd (omega (arith, waits, past))) due))
    (λ blocks. ⊎_elim (λ many. inr (λ due. ⊎_elim (λ few. absurd (omega (arith, many, few.1))) (λ past. absurd (omega (arith, waits, past))) due)) (λ pages. inl (inl (blocks, pages))) (cases_lt s.head.pages (length owed.pages))) (cases_lt s.head.small (length owed.blocks)))
    (λ past. inl (inr past)) (cases_lt k s.head.patience)

-- rounds after which a suspension is due
pub record EndsInRounds (s : Script) (n k : ℕ) (w : World) (owed : Owed) : Type 0 where
  pub rounds : List RoundText
  pub v : World
  pub left : Owed
  pub drawn : ℕ
  pub are : InRounds (serial s) n k w owed rounds v left drawn
  pub due : IsCutDue s.head left (k + length rounds)
  pub rest : AreAtRest s 1 v.lanes
  pub served : AreServed s 1 v.lanes
  pub calm : faults_shown (flat_map round_text rounds) ≡ 0

restart_calm : (lost : Bool) (blocks pages : ℕ) → faults_shown (restart_line lost ++ line.Round blocks pages ∷ []) ≡ 0
restart_calm true blocks pages = refl
restart_calm false blocks pages = refl

pub ends_in_rounds : (s : Script) (fuel n k : ℕ) (w : World) (owed : Owed) → 1 ≤ s.head.burst → AreAtRest s 1 w.lanes → AreServed s 1 w.lanes → s.head.patience ≤ k + fuel → EndsInRounds s n k w owed
ends_in_rounds s zero n k w owed burst rest served few = record { rounds = []; v = w; left = owed; drawn = n; are = (refl, refl, refl); due = inr (omega (arith, few)); rest = rest; served = served; calm = refl }
ends_in_rounds s (suc fuel) n k w owed burst rest served few =
    ⊎_elim
    (λ due. record { rounds = []; v = w; left = owed; drawn = n; are = (refl, refl, refl); due = subst (λ (i : ℕ). IsCutDue s.head owed i) (omega arith) due; rest = rest; served = served; calm = refl })
    (λ not.
    let copies = copies_due s owed in
    let move = can_move s n copies w burst rest served in
    let wrote = has_written s w move.events move.v (turn_steps move.turn.turn) in
    let lose = may_lose s (changes_of wrote.written) copies in
    let then = restarted_if lose.lost s.head (owed_after s.head wrote.written owed) in
    let r : RoundText = record { events = move.events; restarted = lose.lost; owed = then } in
    let more = ends_in_rounds s fuel (n + pieces_in move.events + copies) (k + 1) move.v then burst move.rest move.served (omega (arith, few)) in
    let tail = restart_line lose.lost ++ line.Round (length then.blocks) (length then.pages) ∷ [] in
    record {
      rounds = r ∷ more.rounds;
      v = more.v;
      left = more.left;
      drawn = more.drawn;
      are = (move.v, record { not_due = not; turn = move.turn; written = wrote.written; wrote = wrote.wrote; lost = lose.is; owed_is = refl }, more.are);
      due = subst (λ (i : ℕ). IsCutDue s.head more.left i) (omega arith) more.due;
      rest = more.rest;
      served = more.served;
      calm = calm_more (move.events ++ tail) (flat_map round_text more.rounds) (calm_more move.events tail move.calm (restart_calm lose.lost (length then.blocks) (length then.pages))) more.calm;
    })
    (due_or_not s owed k)
