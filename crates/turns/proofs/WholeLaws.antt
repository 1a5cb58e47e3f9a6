use Rattle.std.proofs.Common.{◌≡◌, ◌||◌, ℕ, ◌+◌, ◌≤◌, Bool, true, false, cond, List, [], ◌∷◌, ◌++◌, Option, Some, None, drop, filter, length, refl, sym, ap, subst, ◌∙◌, append_assoc, append-nil, arith}
use Rattle.std.specs.List.{AllByRecursion, flat_map, range_with_len}
use Rattle.std.proofs.lemmas.Bool.{false≢true}
use Rattle.std.proofs.lemmas.List.{length-drop}
use Rattle.std.proofs.lemmas.List.FromFn.{length-range_with_len}
use Rattle.mig_base.proofs.ListLemmas.{all_append}
use Rattle.nvm_model.specs.declared.line.Line.{Line}
use Rattle.nvm_model.specs.declared.line.Line.TheVariants as line
use Rattle.nvm_model.specs.declared.script.Script.{Script}
use Rattle.nvm_model.specs.History.{AreEvents, AreRounds, Complete, IsEnding, IsMigration, IsWhole, Migrates, Reaches, Steps, events_of}
use Rattle.nvm_model.specs.Owed.{Owed, Written, all_owed, blocks_of, either_of, is_among, owed_after, pages_of, restarted_if}
use Rattle.nvm_model.specs.Rounds.{Ending, Ends, InRounds, Moves, MovesInRounds, RoundText, RunsInRounds, copies_due, ending_text, round_text}
use Rattle.nvm_model.specs.Rounds.Ending.{Moved, Halted, Broke}
use Rattle.nvm_model.specs.Run.{Task, restart_line}
use Rattle.nvm_model.specs.ScriptText.{IsHead, IsScript}
use Rattle.nvm_model.specs.Text.{IsLine}
use Rattle.nvm_model.specs.Told.{serial}
use Rattle.nvm_model.specs.Turn.{Begins, Turns, events_in, pieces_in}
use Rattle.nvm_model.specs.World.{World, start_world, window_pages}
use Rattle.turns.specs.Range.{AreInRange}
use Rattle.turns.proofs.FrameLemmas.{steps_are_events, steps_more, turn_steps, turns_steps}
use Rattle.turns.proofs.LineLaws.{all_events, events_more}
use Rattle.turns.proofs.PieceLaws.{Blocks}
use Rattle.turns.proofs.RangeLaws.{start_in_range, steps_are_lines, turns_are_lines}
use Rattle.turns.proofs.ScriptLaws.{few_pages, start_count}

-- A whole run: turns, the lines of a migration if one is asked for, and turns.

-- how a migration ended, where one was asked for
abbrev pub way_of : (task : Task) (wish : Option ℕ) (n : ℕ) (w : World) (lines : List Line) (v : World) (drawn : ℕ) → Moves task wish n w lines v drawn → Option Ending
way_of task None n w lines v drawn m = None
way_of task (Some turn) n w lines v drawn m = Some m.ending

pub record Whole (s : Script) (blocks : Blocks) (way : Option Ending) (w : World) : Type 0 where
  pub before : List (List Line)
  pub mid : World
  pub are_before : Turns s 0 (start_world s.head blocks) before mid
  pub begins : Begins s s.head.migrate (length before) mid
  pub migration : List Line
  pub moved : World
  pub drawn : ℕ
  pub moving : Moves (serial s) s.head.migrate (pieces_in (events_in before)) mid migration moved drawn
  pub way_is : way_of (serial s) s.head.migrate (pieces_in (events_in before)) mid migration moved drawn moving ≡ way
  pub after : List (List Line)
  pub are_after : Turns s drawn moved after w
  pub complete : Complete s w

abbrev pub whole_lines : {s : Script} {blocks : Blocks} {way : Option Ending} {w : World} → Whole s blocks way w → List Line
whole_lines r = line.Title ∷ line.Ready ∷ events_in r.before ++ (r.migration ++ (events_in r.after ++ line.End ∷ []))

-- The events of a migration.

abbrev pub ending_events : Ending → List Line
ending_events Moved = []
ending_events Halted = []
ending_events (Broke events) = events

abbrev pub round_events : List RoundText → List Line
round_events rounds = flat_map (λ (r : RoundText). r.events) rounds

pub rounds_steps : (s : Script) (n k : ℕ) (w : World) (owed : Owed) (rounds : List RoundText) (v : World) (new : Owed) (drawn : ℕ) → InRounds (serial s) n k w owed rounds v new drawn → Steps s w (round_events rounds) v
rounds_steps s n k w owed [] v new drawn are = are.0
rounds_steps s n k w owed (r ∷ rounds) v new drawn are =
    steps_more s w are.0 v r.events (round_events rounds) (turn_steps are.1.turn.turn) (rounds_steps s (n + pieces_in r.events + copies_due s owed) (k + 1) are.0 r.owed rounds v new drawn are.2)

pub ends_steps : (s : Script) (n k : ℕ) (w : World) (owed : Owed) (ending : Ending) (v : World) (drawn : ℕ) → Ends (serial s) n k w owed ending v drawn → Steps s w (ending_events ending) v
ends_steps s n k w owed Moved v drawn e = e.1
ends_steps s n k w owed Halted v drawn e = e.1
ends_steps s n k w owed (Broke events) v drawn e = turn_steps e.1

pub moving_steps : (s : Script) (n : ℕ) (w : World) (lines : List Line) (v : World) (drawn : ℕ) → (m : MovesInRounds (serial s) n w lines v drawn) → Steps s w (round_events m.rounds ++ ending_events m.ending) v
moving_steps s n w lines v drawn m =
    steps_more s w m.mid v (round_events m.rounds) (ending_events m.ending) (rounds_steps s n 0 w (all_owed s.head) m.rounds m.mid m.owed m.words m.in_rounds) (ends_steps s m.words (length m.rounds) m.mid m.owed m.ending v drawn m.ends)

-- a round's lines are events and lines that aren't
restart_events : (lost : Bool) (blocks pages : ℕ) → events_of (restart_line lost ++ line.Round blocks pages ∷ []) ≡ []
restart_events true blocks pages = refl
restart_events false blocks pages = refl

round_text_events : (r : RoundText) → AreEvents r.events → events_of (round_text r) ≡ r.events
round_text_events r are =
    events_more r.events (restart_line r.restarted ++ line.Round (length r.owed.blocks) (length r.owed.pages) ∷ [])
    ∙ ap (λ (es : List Line). es ++ events_of (restart_line r.restarted ++ line.Round (length r.owed.blocks) (length r.owed.pages) ∷ [])) (all_events r.events are)
    ∙ ap (λ (es : List Line). r.events ++ es) (restart_events r.restarted (length r.owed.blocks) (length r.owed.pages)) ∙ append-nil r.events

-- each round's are events
abbrev pub EachEvents : List RoundText → Type 0
EachEvents [] = Unit {0}
EachEvents (r ∷ rounds) = AreEvents r.events × EachEvents rounds

pub each_round : (s : Script) (n k : ℕ) (w : World) (owed : Owed) (rounds : List RoundText) (v : World) (new : Owed) (drawn : ℕ) → InRounds (serial s) n k w owed rounds v new drawn → EachEvents rounds
each_round s n k w owed [] v new drawn are = tt
each_round s n k w owed (r ∷ rounds) v new drawn are =
    (steps_are_events s w r.events are.0 (turn_steps are.1.turn.turn), each_round s (n + pieces_in r.events + copies_due s owed) (k + 1) are.0 r.owed rounds v new drawn are.2)

pub rounds_events : (rounds : List RoundText) → EachEvents rounds → events_of (flat_map round_text rounds) ≡ round_events rounds
rounds_events [] are = refl
rounds_events (r ∷ rounds) are = events_more (round_text r) (flat_map round_text rounds) ∙ ap (λ (es : List Line). es ++ events_of (flat_map round_text rounds)) (round_text_events r are.0) ∙ ap (λ (es : List Line). r.events ++ es) (rounds_events rounds are.1)

pub ending_are : (owed : Owed) (ending : Ending) → AreEvents (ending_events ending) → events_of (ending_text owed ending) ≡ ending_events ending
ending_are owed Moved are = refl
ending_are owed Halted are = refl
ending_are owed (Broke events) are = events_more events (line.GiveUp ∷ []) ∙ append-nil (events_of events) ∙ all_events events are

pub last_events : (s : Script) (n k : ℕ) (w : World) (owed : Owed) (ending : Ending) (v : World) (drawn : ℕ) → Ends (serial s) n k w owed ending v drawn → AreEvents (ending_events ending)
last_events s n k w owed ending v drawn e = steps_are_events s w (ending_events ending) v (ends_steps s n k w owed ending v drawn e)

pub moving_each : (s : Script) (n : ℕ) (w : World) (lines : List Line) (v : World) (drawn : ℕ) → (m : MovesInRounds (serial s) n w lines v drawn) → EachEvents m.rounds × AreEvents (ending_events m.ending)
moving_each s n w lines v drawn m = (each_round s n 0 w (all_owed s.head) m.rounds m.mid m.owed m.words m.in_rounds, last_events s m.words (length m.rounds) m.mid m.owed m.ending v drawn m.ends)

pub moving_events : (s : Script) (n : ℕ) (w : World) (lines : List Line) (v : World) (drawn : ℕ) → (m : MovesInRounds (serial s) n w lines v drawn) → events_of lines ≡ round_events m.rounds ++ ending_events m.ending
moving_events s n w lines v drawn m =
    ap events_of m.lines_are ∙ events_more (flat_map round_text m.rounds) (ending_text m.owed m.ending)
    ∙ ap (λ (es : List Line). es ++ events_of (ending_text m.owed m.ending)) (rounds_events m.rounds (each_round s n 0 w (all_owed s.head) m.rounds m.mid m.owed m.words m.in_rounds))
    ∙ ap (λ (es : List Line). round_events m.rounds ++ es) (ending_are m.owed m.ending (last_events s m.words (length m.rounds) m.mid m.owed m.ending v drawn m.ends))

-- It is a migration.

pub events_rounds : (es others : List Line) → AreEvents es → AreRounds others → AreRounds (es ++ others)
events_rounds [] others are rounds = rounds
events_rounds (line.Act k n ∷ es) others are rounds = (are.0, events_rounds es others are.1 rounds)
events_rounds (line.Reap k cid status head phase ∷ es) others are rounds = (are.0, events_rounds es others are.1 rounds)
events_rounds (line.Fetch k cid status pieces ∷ es) others are rounds = (are.0, events_rounds es others are.1 rounds)
events_rounds (line.Piece k cid first count outcome digest ∷ es) others are rounds = (are.0, events_rounds es others are.1 rounds)
events_rounds (line.Post k cid status ∷ es) others are rounds = (are.0, events_rounds es others are.1 rounds)
events_rounds (_ ∷ es) others are rounds = absurd (false≢true are.0)

pub restart_rounds : (lost : Bool) (blocks pages : ℕ) (others : List Line) → AreRounds others → AreRounds ((restart_line lost ++ line.Round blocks pages ∷ []) ++ others)
restart_rounds true blocks pages others are = (tt, are)
restart_rounds false blocks pages others are = are

are_rounds : (rounds : List RoundText) (last : List Line) → EachEvents rounds → AreEvents last → AreRounds (flat_map round_text rounds ++ last)
are_rounds [] last each are = subst AreRounds (append-nil last) (events_rounds last [] are tt)
are_rounds (r ∷ rounds) last each are =
    let tail = restart_line r.restarted ++ line.Round (length r.owed.blocks) (length r.owed.pages) ∷ [] in
    let others = flat_map round_text rounds ++ last in
    subst AreRounds (sym (append_assoc (r.events ++ tail) (flat_map round_text rounds) last ∙ append_assoc r.events tail others))
    (events_rounds r.events (tail ++ others) each.0 (restart_rounds r.restarted (length r.owed.blocks) (length r.owed.pages) others (are_rounds rounds last each.1 are)))

-- the lines that end it
abbrev pub last_lines : Owed → Ending → List Line
last_lines owed Moved = line.Suspend ∷ line.Pause (length owed.blocks) (length owed.pages) ∷ line.ResumeTo ∷ []
last_lines owed Halted = line.Suspend ∷ line.GiveUp ∷ []
last_lines owed (Broke events) = line.GiveUp ∷ []

pub text_is : (owed : Owed) (ending : Ending) → ending_text owed ending ≡ ending_events ending ++ last_lines owed ending
text_is owed Moved = refl
text_is owed Halted = refl
text_is owed (Broke events) = refl

ends_right : (owed : Owed) (ending : Ending) → IsEnding (last_lines owed ending)
ends_right owed Moved = tt
ends_right owed Halted = tt
ends_right owed (Broke events) = tt

migrates : (s : Script) (n : ℕ) (w : World) (lines : List Line) (v : World) (drawn : ℕ) → MovesInRounds (serial s) n w lines v drawn → Migrates lines
migrates s n w lines v drawn m = record {
  rounds = flat_map round_text m.rounds ++ ending_events m.ending;
  ending = last_lines m.owed m.ending;
  lines_are = m.lines_are ∙ ap (λ (ls : List Line). line.Migrate ∷ ls) (ap (λ (ls : List Line). flat_map round_text m.rounds ++ ls) (text_is m.owed m.ending) ∙ sym (append_assoc (flat_map round_text m.rounds) (ending_events m.ending) (last_lines m.owed m.ending)));
  are_rounds = are_rounds m.rounds (ending_events m.ending) (each_round s n 0 w (all_owed s.head) m.rounds m.mid m.owed m.words m.in_rounds) (last_events s m.words (length m.rounds) m.mid m.owed m.ending v drawn m.ends);
  is_ending = ends_right m.owed m.ending;
}

pub is_migration : (s : Script) (wish : Option ℕ) (n : ℕ) (w : World) (lines : List Line) (v : World) (drawn : ℕ) → Moves (serial s) wish n w lines v drawn → IsMigration wish lines
is_migration s None n w lines v drawn m = m.0
is_migration s (Some turn) n w lines v drawn m = migrates s n w lines v drawn m

-- Its lines are lines.

filter_few : {X : Type 0} (p : X → Bool) (xs : List X) → length (filter p xs) ≤ length xs
filter_few p [] = omega arith
filter_few p (x ∷ xs) = by (p x) (filter_few p xs)
  where
    by : (b : Bool) → length (filter p xs) ≤ length xs → length (cond b (x ∷ filter p xs) (filter p xs)) ≤ length (x ∷ xs)
    by true few = omega (arith, few)
    by false few = omega (arith, few)

few_either : (bound : ℕ) (xs ys : List ℕ) → length (either_of bound xs ys) ≤ bound
few_either bound xs ys = omega (arith, filter_few (λ (n : ℕ). is_among n xs || is_among n ys) (range_with_len 0 bound), length-range_with_len 0 bound)

record AreFew (s : Script) (owed : Owed) : Type 0 where
  blocks : length owed.blocks ≤ s.head.blocks
  pages : length owed.pages ≤ window_pages s.head

all_few : (s : Script) → AreFew s (all_owed s.head)
all_few s = record { blocks = omega (arith, length-range_with_len 0 s.head.blocks); pages = omega (arith, length-range_with_len 0 (window_pages s.head)) }

few_after : (s : Script) (lost : Bool) (written : List Written) (owed : Owed) → AreFew s (restarted_if lost s.head (owed_after s.head written owed))
few_after s true written owed =
    let kept = either_of (window_pages s.head) owed.pages (pages_of written) in
    record { blocks = omega (arith, length-range_with_len 0 s.head.blocks); pages = omega (arith, length-drop s.head.pages kept, few_either (window_pages s.head) owed.pages (pages_of written)) }
few_after s false written owed =
    let kept = either_of (window_pages s.head) owed.pages (pages_of written) in
    record {
      blocks = few_either s.head.blocks (drop s.head.slice owed.blocks) (blocks_of written);
      pages = omega (arith, length-drop s.head.pages kept, few_either (window_pages s.head) owed.pages (pages_of written));
    }

-- lines from a world on, and where they lead
record AreLines (s : Script) (lines : List Line) (v : World) : Type 0 where
  all : AllByRecursion IsLine lines
  range : AreInRange s v.lanes
  count : length v.lanes ≡ s.head.lanes

restart_is_line : (lost : Bool) (others : List Line) → AllByRecursion IsLine others → AllByRecursion IsLine (restart_line lost ++ others)
restart_is_line true others all = (tt, all)
restart_is_line false others all = all

rounds_are_lines : (s : Script) (n k : ℕ) (w : World) (owed : Owed) (rounds : List RoundText) (v : World) (new : Owed) (drawn : ℕ) → IsScript s → length w.lanes ≡ s.head.lanes → AreInRange s w.lanes → AreFew s owed → InRounds (serial s) n k w owed rounds v new drawn →
    AreLines s (flat_map round_text rounds) v × AreFew s new
rounds_are_lines s n k w owed [] v new drawn script count range few are = (
  subst (λ (u : World). AreLines s [] u) (sym are.0) (record { all = tt; range = range; count = count }),
  subst (λ (o : Owed). AreFew s o) (sym are.1) few,
)
rounds_are_lines s n k w owed (r ∷ rounds) v new drawn script count range few are =
    let one = steps_are_lines s w r.events are.0 script count range (turn_steps are.1.turn.turn) in
    let then : AreFew s r.owed = subst (λ (o : Owed). AreFew s o) (sym are.1.owed_is) (few_after s r.restarted are.1.written owed) in
    let rest = rounds_are_lines s (n + pieces_in r.events + copies_due s owed) (k + 1) are.0 r.owed rounds v new drawn script one.2 one.1 then are.2 in
    let tail = line.Round (length r.owed.blocks) (length r.owed.pages) ∷ [] in
    let text = all_append IsLine r.events (restart_line r.restarted ++ tail) one.0
    (restart_is_line r.restarted tail ((omega (arith, then.blocks, script.head.blocks.1), omega (arith, then.pages, few_pages s.head script.head)), tt)) in
    (record { all = all_append IsLine (round_text r) (flat_map round_text rounds) text rest.0.all; range = rest.0.range; count = rest.0.count }, rest.1)

ending_lines : (s : Script) (owed : Owed) (ending : Ending) → IsHead s.head → AreFew s owed → AllByRecursion IsLine (last_lines owed ending)
ending_lines s owed Moved head few = (tt, ((omega (arith, few.blocks, head.blocks.1), omega (arith, few.pages, few_pages s.head head)), (tt, tt)))
ending_lines s owed Halted head few = (tt, (tt, tt))
ending_lines s owed (Broke events) head few = (tt, tt)

moving_lines : (s : Script) (wish : Option ℕ) (n : ℕ) (w : World) (lines : List Line) (v : World) (drawn : ℕ) → IsScript s → length w.lanes ≡ s.head.lanes → AreInRange s w.lanes → Moves (serial s) wish n w lines v drawn → AreLines s lines v
moving_lines s None n w lines v drawn script count range m =
    subst (λ (ls : List Line). AreLines s ls v) (sym m.0) (subst (λ (u : World). AreLines s [] u) (sym m.1) (record { all = tt; range = range; count = count }))
moving_lines s (Some turn) n w lines v drawn script count range m =
    let rounds = rounds_are_lines s n 0 w (all_owed s.head) m.rounds m.mid m.owed m.words script count range (all_few s) m.in_rounds in
    let last = steps_are_lines s m.mid (ending_events m.ending) v script rounds.0.count rounds.0.range (ends_steps s m.words (length m.rounds) m.mid m.owed m.ending v drawn m.ends) in
    let ending = all_append IsLine (ending_events m.ending) (last_lines m.owed m.ending) last.0 (ending_lines s m.owed m.ending script.head rounds.1) in
    record {
      all = subst (AllByRecursion IsLine) (sym m.lines_are) (tt, all_append IsLine (flat_map round_text m.rounds) (ending_text m.owed m.ending) rounds.0.all (subst (AllByRecursion IsLine) (sym (text_is m.owed m.ending)) ending));
      range = last.1;
      count = last.2;
    }

-- What a whole run is.

pub before_events : {s : Script} {blocks : Blocks} {way : Option Ending} {w : World} → (r : Whole s blocks way w) → AreEvents (events_in r.before)
before_events {s} {blocks} r = steps_are_events s (start_world s.head blocks) (events_in r.before) r.mid (turns_steps s 0 (start_world s.head blocks) r.before r.mid r.are_before)

pub after_events : {s : Script} {blocks : Blocks} {way : Option Ending} {w : World} → (r : Whole s blocks way w) → AreEvents (events_in r.after)
after_events {s} {w = w} r = steps_are_events s r.moved (events_in r.after) w (turns_steps s r.drawn r.moved r.after w r.are_after)

pub is_whole : {s : Script} {blocks : Blocks} {way : Option Ending} {w : World} → (r : Whole s blocks way w) → IsWhole s (whole_lines r)
is_whole {s} r = record {
  before = events_in r.before;
  migration = r.migration;
  after = events_in r.after;
  lines_are = refl;
  before_events = before_events r;
  is_migration = is_migration s s.head.migrate (pieces_in (events_in r.before)) r.mid r.migration r.moved r.drawn r.moving;
  after_events = after_events r;
}

abbrev pub in_turns : {s : Script} {blocks : Blocks} {way : Option Ending} {w : World} → (r : Whole s blocks way w) → RunsInRounds (serial s) blocks (whole_lines r) w
in_turns r = record {
  before = r.before;
  migration = r.migration;
  after = r.after;
  lines_are = refl;
  mid = r.mid;
  turns_before = r.are_before;
  begins = r.begins;
  moved = r.moved;
  drawn = r.drawn;
  moving = r.moving;
  turns_after = r.are_after;
}

-- the steps of what is asked for
wished_steps : (s : Script) (wish : Option ℕ) (n : ℕ) (w : World) (lines : List Line) (v : World) (drawn : ℕ) → Moves (serial s) wish n w lines v drawn → Steps s w (events_of lines) v
wished_steps s None n w lines v drawn m = subst (λ (ls : List Line). Steps s w (events_of ls) v) (sym m.0) m.1
wished_steps s (Some turn) n w lines v drawn m = subst (λ (es : List Line). Steps s w es v) (sym (moving_events s n w lines v drawn m)) (moving_steps s n w lines v drawn m)

-- the events up to where the migration ended, and after it
pub reaches_moved : {s : Script} {blocks : Blocks} {way : Option Ending} {w : World} → (r : Whole s blocks way w) → Reaches s blocks (events_in r.before ++ events_of r.migration) r.moved
reaches_moved {s} {blocks} r =
    steps_more s (start_world s.head blocks) r.mid r.moved (events_in r.before) (events_of r.migration) (turns_steps s 0 (start_world s.head blocks) r.before r.mid r.are_before)
    (wished_steps s s.head.migrate (pieces_in (events_in r.before)) r.mid r.migration r.moved r.drawn r.moving)

pub whole_events : {s : Script} {blocks : Blocks} {way : Option Ending} {w : World} → (r : Whole s blocks way w) → events_of (whole_lines r) ≡ (events_in r.before ++ events_of r.migration) ++ events_in r.after
whole_events r =
    events_more (events_in r.before) (r.migration ++ (events_in r.after ++ line.End ∷ [])) ∙ ap (λ (es : List Line). es ++ events_of (r.migration ++ (events_in r.after ++ line.End ∷ []))) (all_events (events_in r.before) (before_events r))
    ∙ ap (λ (es : List Line). events_in r.before ++ es) (events_more r.migration (events_in r.after ++ line.End ∷ [])
    ∙ ap (λ (es : List Line). events_of r.migration ++ es) (events_more (events_in r.after) (line.End ∷ []) ∙ append-nil (events_of (events_in r.after)) ∙ all_events (events_in r.after) (after_events r)))
    ∙ sym (append_assoc (events_in r.before) (events_of r.migration) (events_in r.after))

pub is_legal : {s : Script} {blocks : Blocks} {way : Option Ending} {w : World} → (r : Whole s blocks way w) → Reaches s blocks (events_of (whole_lines r)) w
is_legal {s} {blocks} {way} {w} r =
    subst (λ (es : List Line). Reaches s blocks es w) (sym (whole_events r))
    (steps_more s (start_world s.head blocks) r.moved w (events_in r.before ++ events_of r.migration) (events_in r.after) (reaches_moved r) (turns_steps s r.drawn r.moved r.after w r.are_after))

pub whole_are_lines : {s : Script} {blocks : Blocks} {way : Option Ending} {w : World} → IsScript s → (r : Whole s blocks way w) → AllByRecursion IsLine (whole_lines r)
whole_are_lines {s} {blocks} {way} {w} script r =
    let first = turns_are_lines s 0 (start_world s.head blocks) r.before r.mid script (start_count s script.head) (start_in_range s) r.are_before in
    let middle = moving_lines s s.head.migrate (pieces_in (events_in r.before)) r.mid r.migration r.moved r.drawn script first.2 first.1 r.moving in
    let second = turns_are_lines s r.drawn r.moved r.after w script middle.count middle.range r.are_after in (
      tt,
      (
        tt,
        all_append IsLine (events_in r.before) (r.migration ++ (events_in r.after ++ line.End ∷ [])) first.0
            (all_append IsLine r.migration (events_in r.after ++ line.End ∷ []) middle.all (all_append IsLine (events_in r.after) (line.End ∷ []) second.0 (tt, tt))),
      ),
    )
