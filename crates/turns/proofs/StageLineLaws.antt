use Rattle.std.proofs.Common.{◌≡◌, ◌⊎◌, ℕ, ◌+◌, inl, inr, Bool, true, false, List, [], ◌∷◌, ◌++◌, Option, Some, None, refl, sym, ap, subst, ◌∙◌, append_assoc, append-nil, map}
use Rattle.std.proofs.lemmas.Bool.{false≢true}
use Rattle.nvm_model.specs.declared.line.Line.{Line}
use Rattle.nvm_model.specs.declared.line.Line.TheVariants as line
use Rattle.nvm_model.specs.declared.run.RunPhase.{RunPhase}
use Rattle.nvm_model.specs.declared.run.RunPhase.TheVariants.{New, Running, Moving, Suspended, Stopped, Over}
use Rattle.nvm_model.specs.declared.run.Side.TheVariants.{Source}
use Rattle.nvm_model.specs.declared.script.Script.{Script}
use Rattle.nvm_model.specs.declared.trace.Step.{Step}
use Rattle.nvm_model.specs.Chain.{Chain}
use Rattle.nvm_model.specs.History.{AreEvents, AreRounds, IsEnding, IsMigration, IsWhole, Migrates}
use Rattle.nvm_model.specs.Medium.{MediumState}
use Rattle.nvm_model.specs.Run.{Here, IsStage, IsTurn, PieceCalled, Snapshot, Stage, Task, TurnDone, lines_in, lines_of, piece_line, pieces_of, restart_line, turn_lines}
use Rattle.nvm_model.specs.Run.Stage.{Title, Turn, Begin, Round, Broken, Suspend, Resume, Stop, GiveUp, End}
use Rattle.nvm_model.specs.Turn.{InLanes, LaneEvents, Plans, PostsAll}
use Rattle.nvm_model.specs.World.{Lane}
use Rattle.turns.proofs.AskedLaws.{run_asks}
use Rattle.turns.proofs.FrameLemmas.{step_is_event}
use Rattle.turns.proofs.WholeLaws.{events_rounds, restart_rounds}

-- The lines of a run that came to its end are a whole transcript, whatever the media tell.

-- The lines of a turn are events.

both : (a b : List Line) → AreEvents a → AreEvents b → AreEvents (a ++ b)
both [] b first second = second
both (e ∷ a) b first second = (first.0, both a b first.1 second)

lane_events : (s : Script) (lane : Lane) (events : List Line) (new : Lane) → LaneEvents s lane events new → AreEvents events
lane_events s lane [] new h = tt
lane_events s lane (e ∷ events) new h = (step_is_event s e [] lane [] h.0 (h.1 []), lane_events s h.0 events new h.2)

in_lanes : (Part : ℕ → Lane → List Line → Lane → Type 0) → ((k : ℕ) (lane : Lane) (events : List Line) (new : Lane) → Part k lane events new → AreEvents events) →
    (k : ℕ) (lanes : List Lane) (events : List Line) (new : List Lane) → InLanes Part k lanes events new → AreEvents events
in_lanes Part each k [] events new h = subst AreEvents (sym h.0) tt
in_lanes Part each k (lane ∷ lanes) events new h =
    subst AreEvents (sym h.4) (both h.0 h.1 (each k lane h.0 h.2 h.6) (in_lanes Part each (k + 1) lanes h.1 h.3 h.7))

piece_events : (pieces : List PieceCalled) → AreEvents (map piece_line pieces)
piece_events [] = tt
piece_events (p ∷ pieces) = (refl, piece_events pieces)

plan_events : (s : Script) (k : ℕ) (lane : Lane) (events : List Line) (new : Lane) → Plans s k lane events new → AreEvents events
plan_events s k lane events new p =
    subst AreEvents (sym p.events_are) (both p.reaps (p.acts ++ p.fetches) (lane_events s lane p.reaps p.reaped p.reaping.steps)
    (both p.acts p.fetches (lane_events s p.reaped p.acts p.acted p.acting.steps) (lane_events s p.acted p.fetches new p.fetching.steps)))

turn_events : {M I : Type 0} {state : M → MediumState I} {moves : I → Step → Bool → I → Type 0} (task : Task) (due : List ℕ) (old : Here M) (t : TurnDone) (new : Here M) → IsTurn state moves task due old t new → AreEvents (turn_lines t)
turn_events task due old t new r =
    let pieces = pieces_of t.items in
    both t.plan (map piece_line pieces ++ t.posts) (in_lanes (Plans task.script) (plan_events task.script) 1 old.lanes t.plan r.planned r.planning)
    (both (map piece_line pieces) t.posts (piece_events pieces)
    (in_lanes (PostsAll task.script) (λ k lane events v p. lane_events task.script lane events v p.steps) 1 r.worked t.posts new.lanes r.posting))

-- Rounds.

both_rounds : (a b : List Line) → AreRounds a → AreRounds b → AreRounds (a ++ b)
both_rounds [] b first second = second
both_rounds (line.Restart ∷ []) b first second = absurd first.0
both_rounds (line.Restart ∷ line.Round owed pages ∷ a) b first second = (tt, both_rounds a b first.1 second)
both_rounds (line.Restart ∷ _ ∷ a) b first second = absurd first.0
both_rounds (line.Round owed pages ∷ a) b first second = both_rounds a b first second
both_rounds (line.Act k n ∷ a) b first second = (first.0, both_rounds a b first.1 second)
both_rounds (line.Reap k cid status head phase ∷ a) b first second = (first.0, both_rounds a b first.1 second)
both_rounds (line.Fetch k cid status pieces ∷ a) b first second = (first.0, both_rounds a b first.1 second)
both_rounds (line.Piece k cid from count outcome digest ∷ a) b first second = (first.0, both_rounds a b first.1 second)
both_rounds (line.Post k cid status ∷ a) b first second = (first.0, both_rounds a b first.1 second)
both_rounds (_ ∷ a) b first second = absurd (false≢true first.0)

round_rounds : (events : List Line) (lost : Bool) (blocks pages : ℕ) → AreEvents events → AreRounds (events ++ (restart_line lost ++ line.Round blocks pages ∷ []))
round_rounds events lost blocks pages are =
    let tail = restart_line lost ++ line.Round blocks pages ∷ [] in
    events_rounds events tail are (subst AreRounds (append-nil tail) (restart_rounds lost blocks pages [] tt))

-- A migration was begun: `migrate`, rounds, and what follows them.
pub record Begun (tried : Bool) (lines more : List Line) : Type 0 where
  pub tried_is : tried ≡ true
  pub before : List Line
  pub rounds : List Line
  pub lines_are : lines ≡ line.Title ∷ line.Ready ∷ before ++ (line.Migrate ∷ rounds ++ more)
  pub before_events : AreEvents before
  pub are_rounds : AreRounds rounds

-- How far the lines of a run are, by its phase and whether its migration was begun.
abbrev Lined : RunPhase → Bool → List Line → Type 0
Lined New tried lines = (lines ≡ []) × (tried ≡ false)
Lined Running false lines = (before : List Line) × (lines ≡ line.Title ∷ line.Ready ∷ before) × AreEvents before
Lined Running true lines = (before : List Line) × (migration : List Line) × (after : List Line) × (lines ≡ line.Title ∷ line.Ready ∷ before ++ (migration ++ after))
    × AreEvents before × Migrates migration × AreEvents after
Lined Moving tried lines = Begun tried lines []
Lined Suspended tried lines = Begun tried lines (line.Suspend ∷ [])
Lined Stopped tried lines = Begun tried lines [] ⊎ Begun tried lines (line.Suspend ∷ [])
Lined Over false lines = (before : List Line) × (lines ≡ line.Title ∷ line.Ready ∷ before ++ line.End ∷ []) × AreEvents before
Lined Over true lines = (before : List Line) × (migration : List Line) × (after : List Line) × (lines ≡ line.Title ∷ line.Ready ∷ before ++ (migration ++ (after ++ line.End ∷ [])))
    × AreEvents before × Migrates migration × AreEvents after

turned : (tried : Bool) (lines events : List Line) → AreEvents events → Lined Running tried lines → Lined Running tried (lines ++ events)
turned false lines events are h = (h.0 ++ events, ap (λ (ls : List Line). ls ++ events) h.1, both h.0 events h.2 are)
turned true lines events are (before, migration, after, is, first, migrates, second) = (
  before,
  migration,
  after ++ events,
  ap (λ (ls : List Line). ls ++ events) is ∙ ap (λ (ls : List Line). line.Title ∷ line.Ready ∷ ls) (append_assoc before (migration ++ after) events ∙ ap (λ (ls : List Line). before ++ ls) (append_assoc migration after events)),
  first,
  migrates,
  both after events second are,
)

begun : (lines : List Line) → Lined Running false lines → Begun true (lines ++ line.Migrate ∷ []) []
begun lines (before, is, are) = record {
  tried_is = refl;
  before = before;
  rounds = [];
  lines_are = ap (λ (ls : List Line). ls ++ line.Migrate ∷ []) is;
  before_events = are;
  are_rounds = tt;
}

-- lines behind the rounds, of which the first are one more round
more_lines : (before rounds more others : List Line) → (line.Title ∷ line.Ready ∷ before ++ (line.Migrate ∷ rounds ++ more)) ++ others ≡ line.Title ∷ line.Ready ∷ before ++ (line.Migrate ∷ rounds ++ (more ++ others))
more_lines before rounds more others =
    ap (λ (ls : List Line). line.Title ∷ line.Ready ∷ ls) (append_assoc before (line.Migrate ∷ rounds ++ more) others ∙ ap (λ (ls : List Line). before ++ (line.Migrate ∷ ls)) (append_assoc rounds more others))

rounded : (tried : Bool) (lines round : List Line) → AreRounds round → Begun tried lines [] → Begun tried (lines ++ round) []
rounded tried lines round are b = record {
  tried_is = b.tried_is;
  before = b.before;
  rounds = b.rounds ++ round;
  lines_are = ap (λ (ls : List Line). ls ++ round) b.lines_are ∙ more_lines b.before b.rounds [] round ∙ ap (λ (ls : List Line). line.Title ∷ line.Ready ∷ b.before ++ (line.Migrate ∷ ls)) (sym (append-nil (b.rounds ++ round)));
  before_events = b.before_events;
  are_rounds = both_rounds b.rounds round b.are_rounds are;
}

suspended : (tried : Bool) (lines : List Line) → Begun tried lines [] → Begun tried (lines ++ line.Suspend ∷ []) (line.Suspend ∷ [])
suspended tried lines b = record {
  tried_is = b.tried_is;
  before = b.before;
  rounds = b.rounds;
  lines_are = ap (λ (ls : List Line). ls ++ line.Suspend ∷ []) b.lines_are ∙ more_lines b.before b.rounds [] (line.Suspend ∷ []);
  before_events = b.before_events;
  are_rounds = b.are_rounds;
}

-- the guests go on, with these lines behind
went_on : (tried : Bool) (lines more rest : List Line) → IsEnding (more ++ rest) → Begun tried lines more → Lined Running true (lines ++ rest)
went_on tried lines more rest ending b =
    let moved = line.Migrate ∷ b.rounds ++ (more ++ rest) in (
      b.before,
      moved,
      [],
      ap (λ (ls : List Line). ls ++ rest) b.lines_are ∙ more_lines b.before b.rounds more rest ∙ ap (λ (ls : List Line). line.Title ∷ line.Ready ∷ b.before ++ ls) (sym (append-nil moved)),
      b.before_events,
      record { rounds = b.rounds; ending = more ++ rest; lines_are = refl; are_rounds = b.are_rounds; is_ending = ending },
      tt,
    )

ended : (tried : Bool) (lines : List Line) → Lined Running tried lines → Lined Over tried (lines ++ line.End ∷ [])
ended false lines h = (h.0, ap (λ (ls : List Line). ls ++ line.End ∷ []) h.1, h.2)
ended true lines (before, migration, after, is, first, migrates, second) = (
  before,
  migration,
  after,
  ap (λ (ls : List Line). ls ++ line.End ∷ []) is ∙ ap (λ (ls : List Line). line.Title ∷ line.Ready ∷ ls) (append_assoc before (migration ++ after) (line.End ∷ []) ∙ ap (λ (ls : List Line). before ++ ls) (append_assoc migration after (line.End ∷ []))),
  first,
  migrates,
  second,
)

-- the same phase and the same answer, by other words
as_in : (p q : RunPhase) (a b : Bool) (lines : List Line) → p ≡ q → a ≡ b → Lined p a lines → Lined q b lines
as_in p q a b lines phase tried h = subst (λ (r : RunPhase). Lined r b lines) phase (subst (λ (c : Bool). Lined p c lines) tried h)

-- what the next phase is, and whether the migration was begun, by the snapshot
to_next : (p q : RunPhase) (a b : Bool) (lines : List Line) → q ≡ p → b ≡ a → Lined p a lines → Lined q b lines
to_next p q a b lines phase tried h = as_in p q a b lines (sym phase) (sym tried) h

gave_up : (tried : Bool) (lines : List Line) → Lined Stopped tried lines → (tried ≡ true) × Lined Running true (lines ++ line.GiveUp ∷ [])
gave_up tried lines (inl b) = (b.tried_is, went_on tried lines [] (line.GiveUp ∷ []) tt b)
gave_up tried lines (inr b) = (b.tried_is, went_on tried lines (line.Suspend ∷ []) (line.GiveUp ∷ []) tt b)

stage_lined : {M I : Type 0} (state : M → MediumState I) (moves : I → Step → Bool → I → Type 0) (x : Snapshot M) (stage : Stage) (y : Snapshot M) (lines : List Line) →
    IsStage state moves x stage y → Lined x.phase x.tried lines → Lined y.phase y.tried (lines ++ lines_of stage)
stage_lined {M} state moves x Title y lines r h =
    let was = as_in x.phase New x.tried x.tried lines r.was refl h in
    to_next Running y.phase false y.tried (lines ++ line.Title ∷ line.Ready ∷ []) (ap (λ (z : Snapshot M). z.phase) r.after) (ap (λ (z : Snapshot M). z.tried) r.after ∙ was.1)
    ([], ap (λ (ls : List Line). ls ++ line.Title ∷ line.Ready ∷ []) was.0, tt)
stage_lined {M} state moves x (Turn side t) y lines r h =
    to_next Running y.phase x.tried y.tried (lines ++ turn_lines t) (ap (λ (z : Snapshot M). z.phase) r.after ∙ r.was) (ap (λ (z : Snapshot M). z.tried) r.after)
    (turned x.tried lines (turn_lines t) (turn_events _ _ _ t _ r.turn) (as_in x.phase Running x.tried x.tried lines r.was refl h))
stage_lined {M} state moves x Begin y lines r h =
    to_next Moving y.phase true y.tried (lines ++ line.Migrate ∷ []) (ap (λ (z : Snapshot M). z.phase) r.after) (ap (λ (z : Snapshot M). z.tried) r.after)
    (begun lines (as_in x.phase Running x.tried false lines r.was r.due.untried h))
stage_lined {M} state moves x (Round side n t lost blocks pages) y lines r h =
    let text = lines_of (Round side n t lost blocks pages) in
    to_next Moving y.phase x.tried y.tried (lines ++ text) (ap (λ (z : Snapshot M). z.phase) r.after ∙ r.moving.was) (ap (λ (z : Snapshot M). z.tried) r.after)
    (rounded x.tried lines text (round_rounds (turn_lines t) lost blocks pages (turn_events _ _ _ t _ r.moving.turn)) (as_in x.phase Moving x.tried x.tried lines r.moving.was refl h))
stage_lined {M} state moves x (Broken side n t) y lines r h =
    to_next Stopped y.phase x.tried y.tried (lines ++ turn_lines t) (ap (λ (z : Snapshot M). z.phase) r.after) (ap (λ (z : Snapshot M). z.tried) r.after)
    (inl (rounded x.tried lines (turn_lines t) (subst AreRounds (append-nil (turn_lines t)) (events_rounds (turn_lines t) [] (turn_events _ _ _ t _ r.moving.turn) tt)) (as_in x.phase Moving x.tried x.tried lines r.moving.was refl h)))
stage_lined {M} state moves x Suspend y lines r h =
    to_next Suspended y.phase x.tried y.tried (lines ++ line.Suspend ∷ []) (ap (λ (z : Snapshot M). z.phase) r.after) (ap (λ (z : Snapshot M). z.tried) r.after)
    (suspended x.tried lines (as_in x.phase Moving x.tried x.tried lines r.was refl h))
stage_lined {M} state moves x (Resume side n copies pages) y lines r h =
    let was = as_in x.phase Suspended x.tried x.tried lines r.was refl h in
    let text = lines_of (Resume side n copies pages) in
    to_next Running y.phase true y.tried (lines ++ text) (ap (λ (z : Snapshot M). z.phase) r.after) (ap (λ (z : Snapshot M). z.tried) r.after ∙ was.tried_is)
    (went_on x.tried lines (line.Suspend ∷ []) text tt was)
stage_lined {M} state moves x (Stop side n copies) y lines r h =
    to_next Stopped y.phase x.tried y.tried (lines ++ []) (ap (λ (z : Snapshot M). z.phase) r.after) (ap (λ (z : Snapshot M). z.tried) r.after)
    (subst (Lined Stopped x.tried) (sym (append-nil lines)) (inr (as_in x.phase Suspended x.tried x.tried lines r.was refl h)))
stage_lined {M} state moves x (GiveUp n) y lines r h =
    let went = gave_up x.tried lines (as_in x.phase Stopped x.tried x.tried lines r.was refl h) in
    to_next Running y.phase true y.tried (lines ++ line.GiveUp ∷ []) (ap (λ (z : Snapshot M). z.phase) r.after) (ap (λ (z : Snapshot M). z.tried) r.after ∙ went.0) went.1
stage_lined {M} state moves x End y lines r h =
    to_next Over y.phase x.tried y.tried (lines ++ line.End ∷ []) (ap (λ (z : Snapshot M). z.phase) r.after) (ap (λ (z : Snapshot M). z.tried) r.after)
    (ended x.tried lines (as_in x.phase Running x.tried x.tried lines r.was refl h))

run_lined : {M I : Type 0} (state : M → MediumState I) (moves : I → Step → Bool → I → Type 0) (x : Snapshot M) (stages : List Stage) (y : Snapshot M) (lines : List Line) →
    Chain (IsStage state moves) x stages y → Lined x.phase x.tried lines → Lined y.phase y.tried (lines ++ lines_in stages)
run_lined {M} state moves x [] y lines c h =
    subst (λ (ls : List Line). Lined y.phase y.tried ls) (sym (append-nil lines)) (subst (λ (z : Snapshot M). Lined z.phase z.tried lines) (sym c) h)
run_lined {M} state moves x (stage ∷ stages) y lines c h =
    subst (λ (ls : List Line). Lined y.phase y.tried ls) (append_assoc lines (lines_of stage) (lines_in stages))
    (run_lined state moves c.0 stages y (lines ++ lines_of stage) c.2 (stage_lined state moves x stage c.0 lines c.1 h))

no_migration : (asked : Option ℕ) → ((turn : ℕ) → asked ≡ Some turn → ⊥) → IsMigration asked []
no_migration None none = refl
no_migration (Some turn) none = absurd (none turn refl)

whole_by : (s : Script) (tried : Bool) (lines : List Line) → (tried ≡ true → (turn : ℕ) × (s.head.migrate ≡ Some turn)) → (tried ≡ false → (turn : ℕ) → s.head.migrate ≡ Some turn → ⊥) → Lined Over tried lines → IsWhole s lines
whole_by s true lines asked none (before, migration, after, is, first, migrates, second) = record {
  before = before;
  migration = migration;
  after = after;
  lines_are = is;
  before_events = first;
  is_migration = subst (λ (wish : Option ℕ). IsMigration wish migration) (sym (asked refl).1) migrates;
  after_events = second;
}
whole_by s false lines asked none h = record {
  before = h.0;
  migration = [];
  after = [];
  lines_are = h.1;
  before_events = h.2;
  is_migration = no_migration s.head.migrate (none refl);
  after_events = tt;
}

-- a run from its start to its end
pub run_is_whole : {M I : Type 0} (state : M → MediumState I) (moves : I → Step → Bool → I → Type 0) (old : Snapshot M) (stages : List Stage) (new : Snapshot M) →
    old.phase ≡ New → old.tried ≡ false → old.side ≡ Source → new.phase ≡ Over → Chain (IsStage state moves) old stages new → IsWhole old.task.script (lines_in stages)
run_is_whole {M} state moves old stages new phase tried side over run =
    let s = old.task.script in
    let asks = run_asks state moves old stages new phase tried side run in
    let same : new.task.script.head.migrate ≡ s.head.migrate = ap (λ (k : Task). k.script.head.migrate) asks.same in
    let lined = run_lined state moves old stages new [] run (as_in New old.phase false old.tried [] (sym phase) (sym tried) (refl, refl)) in
    whole_by s new.tried (lines_in stages) (λ t. let a = asks.asked t in (a.0, sym same ∙ a.1)) (λ t turn is. asks.over over t turn (same ∙ is))
    (as_in new.phase Over new.tried new.tried (lines_in stages) over refl lined)
