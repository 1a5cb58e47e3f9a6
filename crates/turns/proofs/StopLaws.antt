use Rattle.std.proofs.Common.{◌≡◌, ◌⊎◌, ◌||◌, ℕ, ◌+◌, inl, inr, ⊎_elim, Bool, true, false, List, [], ◌∷◌, ◌++◌, Option, Some, None, length, refl, sym, ap, subst, ◌∙◌, append_assoc, append-nil, arith}
use Rattle.std.specs.Prelude.{slice_get}
use Rattle.std.specs.List.{flat_map, list_any}
use Rattle.std.proofs.lemmas.List.Folds.{list_any-append}
use Rattle.std.specs.Option.{option_map}
use Rattle.std.proofs.Math.Seq.{get_or-append_seam}
use Rattle.std.proofs.lemmas.List.{length-append, map-append}
use Rattle.std.proofs.lemmas.Option.{slice_get-get_or}
use Rattle.mig_base.specs.Count.{RiseBy}
use Rattle.mig_base.specs.Stream.{IsCut, with_more}
use Rattle.mig_base.proofs.ListLemmas.{all_append}
use Rattle.nvm_model.specs.declared.line.Line.{Line}
use Rattle.nvm_model.specs.declared.line.Line.TheVariants as line
use Rattle.nvm_model.specs.declared.script.Script.{Script}
use Rattle.nvm_model.specs.declared.trace.Step.{Step}
use Rattle.nvm_model.specs.Chain.{Chain}
use Rattle.nvm_model.specs.History.{AreEvents, Reaches, Steps, events_of, faults_shown, lines_before_resume}
use Rattle.nvm_model.specs.Medium.{MediumState}
use Rattle.nvm_model.specs.Owed.{all_owed}
use Rattle.nvm_model.specs.Rounds.{Ending, RoundText, ending_text, last_turn, round_text, turns_in}
use Rattle.nvm_model.specs.Rounds.Ending.{Moved, Halted, Broke}
use Rattle.nvm_model.specs.ScriptText.{IsScript}
use Rattle.nvm_model.specs.Stop.{EndOneTurn, IsPart}
use Rattle.nvm_model.specs.Text.{text_of}
use Rattle.nvm_model.specs.Turn.{Turns, events_in, pieces_in}
use Rattle.nvm_model.specs.World.{World, start_world}
use Rattle.nvm_model.specs.declared.run.RunPhase.TheVariants.{New, Running, Moving, Suspended, Stopped}
use Rattle.nvm_model.specs.declared.run.Side.{Side}
use Rattle.nvm_model.specs.declared.run.Side.TheVariants.{Source, Destination}
use Rattle.nvm_model.specs.Run.{IsStage, IsTitle, IsWritten, Snapshot, Stage, TakesTurn, TurnDone, Went, lines_in, lines_of, restart_line, turn_lines}
use Rattle.nvm_model.specs.Run.Stage.{Title, Turn, Begin, Round, Broken, Suspend, Resume, Stop, GiveUp, End}
use Rattle.nvm_model.specs.Told.{HasStopped, have_resumed, Holds, IsUntouched, resumes, SideHolds, Tells, faults_of, is_migrate}
use Rattle.turns.proofs.CalmLaws.{faults_more}
use Rattle.turns.proofs.EndLaws.{ArePlain, IsPlain, events_plain, finish, holds_behind, holds_here, is_untouched, none_plain, plain_later, rounds_plain}
use Rattle.turns.proofs.FrameLemmas.{steps_are_events, steps_more, turn_steps, turns_steps}
use Rattle.turns.proofs.LineLaws.{all_events, events_front, events_more, front_unresumed, no_events_front, none_resumed}
use Rattle.turns.proofs.MediaLaws.{owed_fault, run_rises}
use Rattle.turns.proofs.OnwardLaws.{Onward, course_turns, goes_onward, halts_onward, round_turns, suspended_onward, tried_onward, untried_onward}
use Rattle.turns.proofs.PieceLaws.{Blocks}
use Rattle.turns.proofs.RoundLaws.{next_broken, next_round}
use Rattle.turns.proofs.RunLaws.{lines_in_more}
use Rattle.turns.proofs.TextLaws.{part_longer, split_cut, split_text}
use Rattle.turns.proofs.ToldLaws.{Behind, Course, Ended, Goes, Halts, StandsAt, Tried, Untried, at_phase, begin, broken, course_lines, end, ending_front, give_up, next_turn, or_right, resume, round, run_stands, side_of, stop, suspend, title, tried_end, tried_turn, untried_end, untried_turn}
use Rattle.turns.proofs.WholeLaws.{EachEvents, each_round, ending_are, ending_events, ends_steps, in_turns, is_legal, is_whole, last_events, round_events, rounds_events, rounds_steps, whole_are_lines, whole_lines}

-- A run that stopped where the sink failed: its last stage was done, and a front of that stage's lines was written.

-- The events of what was done.

turns_events : (s : Script) (n : ℕ) (w : World) (turns : List (List Line)) (v : World) → Turns s n w turns v → AreEvents (events_in turns)
turns_events s n w turns v are = steps_are_events s w (events_in turns) v (turns_steps s n w turns v are)

untried_legal : {M I : Type 0} {state : M → MediumState I} {s : Script} {blocks : Blocks} {old x : Snapshot M} {lines : List Line} → (u : Untried state s blocks old x lines) → Reaches s blocks (events_of lines) u.turned.world
untried_legal {s = s} {blocks} u =
    let f = u.turned in
    let start = start_world s.head blocks in
    subst (λ (es : List Line). Reaches s blocks es f.world) (sym (ap events_of u.lines_are ∙ all_events (events_in f.turns) (turns_events s 0 start f.turns f.world f.are))) (turns_steps s 0 start f.turns f.world f.are)

-- those of a course
course_steps : {s : Script} {blocks : Blocks} → (c : Course s blocks) → Reaches s blocks (events_in c.before ++ round_events c.rounds) c.world
course_steps {s} {blocks} c =
    let start = start_world s.head blocks in
    steps_more s start c.mid c.world (events_in c.before) (round_events c.rounds) (turns_steps s 0 start c.before c.mid c.are_before)
    (rounds_steps s (pieces_in (events_in c.before)) 0 c.mid (all_owed s.head) c.rounds c.world c.owed c.words c.in_rounds)

course_each : {s : Script} {blocks : Blocks} → (c : Course s blocks) → EachEvents c.rounds
course_each {s} c = each_round s (pieces_in (events_in c.before)) 0 c.mid (all_owed s.head) c.rounds c.world c.owed c.words c.in_rounds

before_are : {s : Script} {blocks : Blocks} → (c : Course s blocks) → AreEvents (events_in c.before)
before_are {s} {blocks} c = turns_events s 0 (start_world s.head blocks) c.before c.mid c.are_before

course_events : {s : Script} {blocks : Blocks} → (c : Course s blocks) → events_of (course_lines c) ≡ events_in c.before ++ round_events c.rounds
course_events c =
    let rounds = flat_map round_text c.rounds in
    events_more (events_in c.before) (line.Migrate ∷ rounds) ∙ ap (λ (es : List Line). es ++ events_of rounds) (all_events (events_in c.before) (before_are c)) ∙ ap (λ (es : List Line). events_in c.before ++ es) (rounds_events c.rounds (course_each c))

-- lines behind a course, and the steps that they tell
course_legal : {s : Script} {blocks : Blocks} → (c : Course s blocks) → (lines more es : List Line) (v : World) → lines ≡ course_lines c ++ more → events_of more ≡ es → Steps s c.world es v → Reaches s blocks (events_of lines) v
course_legal {s} {blocks} c lines more es v is events steps =
    subst (λ (all : List Line). Reaches s blocks all v)
    (sym (ap events_of is ∙ events_more (course_lines c) more ∙ ap (λ (xs : List Line). xs ++ events_of more) (course_events c) ∙ ap (λ (xs : List Line). (events_in c.before ++ round_events c.rounds) ++ xs) events))
    (steps_more s (start_world s.head blocks) c.world v (events_in c.before ++ round_events c.rounds) es (course_steps c) steps)

goes_legal : {M I : Type 0} {state : M → MediumState I} {s : Script} {blocks : Blocks} {old x : Snapshot M} {lines more : List Line} → (g : Goes state s blocks old x lines more) → events_of more ≡ [] → Reaches s blocks (events_of lines) g.course.world
goes_legal {lines = lines} {more} g none = course_legal g.course lines more [] g.course.world g.lines_are none refl

front_events : (ending : Ending) → AreEvents (ending_events ending) → events_of (ending_front ending) ≡ ending_events ending
front_events Moved are = refl
front_events Halted are = refl
front_events (Broke events) are = all_events events are

halts_legal : {M I : Type 0} {state : M → MediumState I} {s : Script} {blocks : Blocks} {x : Snapshot M} {lines : List Line} → (h : Halts state s blocks x lines) → Reaches s blocks (events_of lines) h.world
halts_legal {s = s} {lines = lines} h =
    let c = h.course in
    let are = last_events s c.words (length c.rounds) c.world c.owed h.ending h.world h.drawn h.ends in
    course_legal c lines (ending_front h.ending) (ending_events h.ending) h.world h.lines_are (front_events h.ending are) (ends_steps s c.words (length c.rounds) c.world c.owed h.ending h.world h.drawn h.ends)

tried_legal : {M I : Type 0} {state : M → MediumState I} {s : Script} {blocks : Blocks} {x : Snapshot M} {lines : List Line} → (u : Tried state s blocks x lines) → Reaches s blocks (events_of lines) u.world
tried_legal {s = s} {lines = lines} u =
    let c = u.course in
    let ending = u.ending in
    let after = events_in u.after in
    let are = last_events s c.words (length c.rounds) c.world c.owed ending u.moved u.drawn u.ends in
    course_legal c lines (ending_text c.owed ending ++ after) (ending_events ending ++ after) u.world u.lines_are
    (events_more (ending_text c.owed ending) after ∙ ap (λ (es : List Line). es ++ events_of after) (ending_are c.owed ending are) ∙ ap (λ (es : List Line). ending_events ending ++ es) (all_events after (turns_events s u.drawn u.moved u.after u.world u.are_after)))
    (steps_more s c.world u.moved u.world (ending_events ending) after (ends_steps s c.words (length c.rounds) c.world c.owed ending u.moved u.drawn u.ends) (turns_steps s u.drawn u.moved u.after u.world u.are_after))

-- Which side holds the world.

-- the source does, where `resume to` isn't among the lines
source_holds : {M I : Type 0} {state : M → MediumState I} {s : Script} {new : Snapshot M} {w : World} (front piece : List Line) → lines_before_resume (front ++ piece) ≡ None → Holds state s Source new w →
    (written rest : List Line) → piece ≡ written ++ rest → SideHolds state s (lines_before_resume (front ++ written)) new w
source_holds {M} {I} {state} {s} {new} {w} front piece none holds written rest is =
    let none_written = front_unresumed (front ++ written) rest (ap lines_before_resume (append_assoc front written rest ∙ ap (λ (ls : List Line). front ++ ls) (sym is)) ∙ none) in
    subst (λ (o : Option (List Line)). SideHolds state s o new w) (sym none_written) holds

both_hold : {M I : Type 0} {state : M → MediumState I} {s : Script} {new : Snapshot M} {w : World} (o : Option (List Line)) → Holds state s Source new w → Holds state s Destination new w → SideHolds state s o new w
both_hold None source destination = source
both_hold (Some before) source destination = destination

-- Lines that tell no end of a migration.

plain_unresumed : (front piece : List Line) → ArePlain front → lines_before_resume piece ≡ None → lines_before_resume (front ++ piece) ≡ None
plain_unresumed front piece are none = plain_later front piece are ∙ ap (option_map (λ (b : List Line). front ++ b)) none

course_plain : {s : Script} {blocks : Blocks} → (c : Course s blocks) → ArePlain (course_lines c)
course_plain c = (tt, (tt, all_append IsPlain (events_in c.before) (line.Migrate ∷ flat_map round_text c.rounds) (events_plain (events_in c.before) (before_are c)) (tt, rounds_plain c.rounds (course_each c))))

untried_plain : {M I : Type 0} {state : M → MediumState I} {s : Script} {blocks : Blocks} {old x : Snapshot M} {front : List Line} → Untried state s blocks old x front → ArePlain front
untried_plain {s = s} {blocks} u =
    let f = u.turned in
    subst ArePlain (sym u.lines_are) (tt, (tt, events_plain (events_in f.turns) (turns_events s 0 (start_world s.head blocks) f.turns f.world f.are)))

goes_plain : {M I : Type 0} {state : M → MediumState I} {s : Script} {blocks : Blocks} {old x : Snapshot M} {front more : List Line} → Goes state s blocks old x front more → ArePlain more → ArePlain front
goes_plain {more = more} g plain = subst ArePlain (sym g.lines_are) (all_append IsPlain (course_lines g.course) more (course_plain g.course) plain)

halts_plain : {M I : Type 0} {state : M → MediumState I} {s : Script} {blocks : Blocks} {x : Snapshot M} {front : List Line} → Halts state s blocks x front → ArePlain front
halts_plain {s = s} h =
    let c = h.course in
    subst ArePlain (sym h.lines_are) (all_append IsPlain (course_lines c) (ending_front h.ending) (course_plain c) (by h.ending (last_events s c.words (length c.rounds) c.world c.owed h.ending h.world h.drawn h.ends)))
  where
    by : (ending : Ending) → AreEvents (ending_events ending) → ArePlain (ending_front ending)
    by Moved are = (tt, tt)
    by Halted are = (tt, tt)
    by (Broke events) are = events_plain events are

-- lines behind an ending
ending_holds : {M I : Type 0} {state : M → MediumState I} {s : Script} {blocks : Blocks} {new : Snapshot M} {w : World} → (c : Course s blocks) → (ending : Ending) (after front piece : List Line) → front ≡ course_lines c ++ (ending_text c.owed ending ++ after) → AreEvents (ending_events ending) → AreEvents after →
    lines_before_resume piece ≡ None → Holds state s (side_of ending) new w → (written rest : List Line) → piece ≡ written ++ rest → SideHolds state s (lines_before_resume (front ++ written)) new w
ending_holds {M} {I} {state} {s} {blocks} {new} {w} c Moved after front piece lines_are last second none holds written rest is =
    subst (λ (o : Option (List Line)). SideHolds state s o new w)
    (sym (ap (λ (ls : List Line). lines_before_resume (ls ++ written)) lines_are ∙ ap lines_before_resume (append_assoc (course_lines c) (ending_text c.owed Moved ++ after) written) ∙ plain_later (course_lines c) ((ending_text c.owed Moved ++ after) ++ written) (course_plain c))) holds
ending_holds {M} {I} {state} {s} {blocks} {new} {w} c Halted after front piece lines_are last second none holds written rest is =
    source_holds front piece
    (ap (λ (ls : List Line). lines_before_resume (ls ++ piece)) lines_are ∙ ap lines_before_resume (append_assoc (course_lines c) (ending_text c.owed Halted ++ after) piece)
    ∙ plain_unresumed (course_lines c) (line.Suspend ∷ line.GiveUp ∷ after ++ piece) (course_plain c)
    (ap (λ (o : Option (List Line)). option_map (λ (b : List Line). line.Suspend ∷ b) (option_map (λ (b : List Line). line.GiveUp ∷ b) o)) (none_resumed after piece second none))) holds written rest is
ending_holds {M} {I} {state} {s} {blocks} {new} {w} c (Broke events) after front piece lines_are last second none holds written rest is =
    source_holds front piece
    (ap (λ (ls : List Line). lines_before_resume (ls ++ piece)) lines_are ∙ ap lines_before_resume (append_assoc (course_lines c) ((events ++ line.GiveUp ∷ []) ++ after) piece)
    ∙ plain_unresumed (course_lines c) (((events ++ line.GiveUp ∷ []) ++ after) ++ piece) (course_plain c)
    (ap lines_before_resume (append_assoc (events ++ line.GiveUp ∷ []) after piece ∙ append_assoc events (line.GiveUp ∷ []) (after ++ piece))
    ∙ none_resumed events (line.GiveUp ∷ after ++ piece) last (ap (option_map (λ (b : List Line). line.GiveUp ∷ b)) (none_resumed after piece second none)))) holds written rest is

tried_holds : {M I : Type 0} {state : M → MediumState I} {s : Script} {blocks : Blocks} {x new : Snapshot M} {front : List Line} {w : World} → (u : Tried state s blocks x front) → (piece : List Line) → lines_before_resume piece ≡ None → Holds state s (side_of u.ending) new w →
    (written rest : List Line) → piece ≡ written ++ rest → SideHolds state s (lines_before_resume (front ++ written)) new w
tried_holds {s = s} {blocks} {front = front} u piece none holds =
    let c = u.course in
    ending_holds c u.ending (events_in u.after) front piece u.lines_are (last_events s c.words (length c.rounds) c.world c.owed u.ending u.moved u.drawn u.ends) (turns_events s u.drawn u.moved u.after u.world u.are_after) none holds

-- Whether the migration was begun.

or_true : (b : Bool) → (b || true) ≡ true
or_true true = refl
or_true false = refl

migrate_in : (es others : List Line) → list_any is_migrate (es ++ (line.Migrate ∷ others)) ≡ true
migrate_in [] others = refl
migrate_in (e ∷ es) others = ap (λ (b : Bool). is_migrate e || b) (migrate_in es others) ∙ or_true (is_migrate e)

or_more : (b c d : Bool) → (c ≡ true → d ≡ true) → (b || c) ≡ true → (b || d) ≡ true
or_more true c d f h = refl
or_more false c d f h = f h

migrate_more : (a b : List Line) → list_any is_migrate a ≡ true → list_any is_migrate (a ++ b) ≡ true
migrate_more [] b h = cc
migrate_more (l ∷ a) b h = or_more (is_migrate l) (list_any is_migrate a) (list_any is_migrate (a ++ b)) (migrate_more a b) h

course_migrate : {s : Script} {blocks : Blocks} → (c : Course s blocks) → (front more : List Line) → front ≡ course_lines c ++ more → list_any is_migrate front ≡ true
course_migrate c front more is = ap (list_any is_migrate) is ∙ migrate_more (course_lines c) more (migrate_in (events_in c.before) (flat_map round_text c.rounds))

untried_untouched : {M I : Type 0} {state : M → MediumState I} {s : Script} {blocks : Blocks} {old x : Snapshot M} {lines : List Line} {resumed : Bool} → Tells state s blocks resumed old → Untried state s blocks old x lines → IsUntouched old x
untried_untouched {M} {old = old} {x} t u = let f = u.turned in is_untouched old x (ap (λ (z : Snapshot M). z.side) t.start) f.side f.other f.left

-- Where a run stands after the stage whose lines are cut.

-- the events of its lines come first, and are the last ones of a turn
record Point {M I : Type 0} (state : M → MediumState I) (s : Script) (blocks : Blocks) (old new : Snapshot M) (front piece : List Line) : Type 0 where
  turns : List (List Line)
  owed : ℕ
  owed_is : owed ≡ owed_fault new.phase
  onward : Onward s blocks owed turns (front ++ piece)
  world : World
  legal : Reaches s blocks (events_of (front ++ piece)) world
  holds : (written rest : List Line) → piece ≡ written ++ rest → SideHolds state s (lines_before_resume (front ++ written)) new world
  untouched : (list_any is_migrate front ≡ true) ⊎ IsUntouched old new
  events : List Line
  tail : List Line
  piece_is : piece ≡ events ++ tail
  are : AreEvents events
  none : events_of tail ≡ []
  kind : (events ≡ []) ⊎ ((before : List (List Line)) × (turns ≡ before ++ events ∷ []))

title_point : {M I : Type 0} {state : M → MediumState I} {s : Script} {blocks : Blocks} {old new : Snapshot M} {resumed : Bool} → Tells state s blocks resumed old → IsTitle old new → Point state s blocks old new [] (line.Title ∷ line.Ready ∷ [])
title_point {M} t r =
    let v = title t r in
    record {
      turns = v.turned.turns;
      owed = 0;
      owed_is = ap (λ (z : Snapshot M). owed_fault z.phase) (sym r.after);
      onward = untried_onward t.script v;
      world = v.turned.world;
      legal = untried_legal v;
      holds = source_holds [] (line.Title ∷ line.Ready ∷ []) refl (holds_here Source v.turned.side v.turned.stands);
      untouched = inr (untried_untouched t v);
      events = [];
      tail = line.Title ∷ line.Ready ∷ [];
      piece_is = refl;
      are = tt;
      none = refl;
      kind = inl refl;
    }

turn_point : {M I : Type 0} {state : M → MediumState I} {moves : I → Step → Bool → I → Type 0} {s : Script} {blocks : Blocks} {old x : Snapshot M} {side : Side} {d : TurnDone} {new : Snapshot M} {front : List Line} {resumed : Bool} → Tells state s blocks resumed old → TakesTurn state moves x side d new →
    Untried state s blocks old x front ⊎ Tried state s blocks x front → Point state s blocks old new front (turn_lines d)
turn_point {M} {I} {state} {moves} {s} {blocks} {old} {x} {side} {d} {new} {front} t r (inl u) =
    let v = untried_turn r u in
    let n = next_turn r u.turned.stands in
    let are = steps_are_events s u.turned.world (turn_lines d) n.v (turn_steps n.serial_turn.turn) in
    record {
      turns = v.0.turned.turns;
      owed = 0;
      owed_is = sym (ap (λ (z : Snapshot M). owed_fault z.phase) r.after ∙ ap owed_fault r.was);
      onward = untried_onward t.script v.0;
      world = v.0.turned.world;
      legal = untried_legal v.0;
      holds = source_holds front (turn_lines d) (plain_unresumed front (turn_lines d) (untried_plain u) (none_plain (turn_lines d) (events_plain (turn_lines d) are))) (holds_here Source v.0.turned.side v.0.turned.stands);
      untouched = inr (untried_untouched t v.0);
      events = turn_lines d;
      tail = [];
      piece_is = sym (append-nil (turn_lines d));
      are = are;
      none = refl;
      kind = inr (u.turned.turns, v.1);
    }
turn_point {M} {I} {state} {moves} {s} {blocks} {old} {x} {side} {d} {new} {front} t r (inr u) =
    let v = tried_turn r u in
    let n = next_turn r u.stands in
    let are = steps_are_events s u.world (turn_lines d) n.v (turn_steps n.serial_turn.turn) in
    let c = v.0.course in
    let first = course_turns c in
    let last = last_turn v.0.ending in
    record {
      turns = first ++ (last ++ v.0.after);
      owed = 0;
      owed_is = sym (ap (λ (z : Snapshot M). owed_fault z.phase) r.after ∙ ap owed_fault r.was);
      onward = tried_onward t.script v.0;
      world = v.0.world;
      legal = tried_legal v.0;
      holds = tried_holds u (turn_lines d) (none_plain (turn_lines d) (events_plain (turn_lines d) are)) (holds_here (side_of u.ending) (ap (λ (z : Snapshot M). z.side) r.after ∙ u.side) v.0.stands);
      untouched = inl (course_migrate u.course front _ u.lines_are);
      events = turn_lines d;
      tail = [];
      piece_is = sym (append-nil (turn_lines d));
      are = are;
      none = refl;
      kind = inr (first ++ (last ++ u.after), ap (λ (ts : List (List Line)). first ++ (last ++ ts)) v.1 ∙ ap (λ (ts : List (List Line)). first ++ ts) (sym (append_assoc last u.after (turn_lines d ∷ []))) ∙ sym (append_assoc first (last ++ u.after) (turn_lines d ∷ [])));
    }

-- the lines behind a round's events
round_tail : (lost : Bool) (b p : ℕ) → (events_of (restart_line lost ++ line.Round b p ∷ []) ≡ []) × ArePlain (restart_line lost ++ line.Round b p ∷ [])
round_tail true b p = (refl, (tt, (tt, tt)))
round_tail false b p = (refl, (tt, tt))

push_turn : (before : List (List Line)) (rounds old : List RoundText) (text : RoundText) (events : List Line) → text.events ≡ events → rounds ≡ old ++ text ∷ [] → before ++ round_turns rounds ≡ (before ++ round_turns old) ++ events ∷ []
push_turn before rounds old text events is more =
    ap (λ (rs : List RoundText). before ++ round_turns rs) more ∙ ap (λ (ts : List (List Line)). before ++ ts) (map-append (λ (r : RoundText). r.events) old (text ∷ []) ∙ ap (λ (es : List Line). round_turns old ++ es ∷ []) is) ∙ sym (append_assoc before (round_turns old) (events ∷ []))

stage_point : {M I : Type 0} (state : M → MediumState I) (moves : I → Step → Bool → I → Type 0) (s : Script) (blocks : Blocks) (old x : Snapshot M) (stage : Stage) (new : Snapshot M) (front : List Line) {resumed : Bool} → Tells state s blocks resumed old → (resumes stage ≡ true → resumed ≡ true) → IsStage state moves x stage new →
    StandsAt state s blocks old x.phase x front → Point state s blocks old new front (lines_of stage)
stage_point {M} state moves s blocks old x Title new front t m r h =
    let was = at_phase state s blocks old x front New r.was h in
    subst (λ (ls : List Line). Point state s blocks old new ls (lines_of Title)) (sym was.1) (title_point t (subst (λ (z : Snapshot M). IsTitle z new) was.0 r))
stage_point state moves s blocks old x (Turn side d) new front t m r h = turn_point t r (at_phase state s blocks old x front Running r.was h)
stage_point {M} state moves s blocks old x Begin new front t m r h = by (at_phase state s blocks old x front Running r.was h)
  where
    by : Untried state s blocks old x front ⊎ Tried state s blocks x front → Point state s blocks old new front (line.Migrate ∷ [])
    by (inr u) = let untried = r.due.untried in let tried = u.tried in absurd cc
    by (inl u) =
        let v = begin r u in
        let f = u.turned in
        record {
          turns = course_turns v.course;
          owed = 0;
          owed_is = sym (ap (λ (z : Snapshot M). owed_fault z.phase) r.after);
          onward = goes_onward t.script v;
          world = v.course.world;
          legal = goes_legal v refl;
          holds = source_holds front (line.Migrate ∷ []) (plain_unresumed front (line.Migrate ∷ []) (untried_plain u) refl) (holds_here Source v.side v.stands);
          untouched = inr (is_untouched old new (ap (λ (z : Snapshot M). z.side) t.start) v.side (ap (λ (z : Snapshot M). z.other) r.after ∙ f.other) (ap (λ (z : Snapshot M). z.left) r.after ∙ f.left));
          events = [];
          tail = line.Migrate ∷ [];
          piece_is = refl;
          are = tt;
          none = refl;
          kind = inl refl;
        }
stage_point {M} state moves s blocks old x (Round side n d lost b p) new front t m r h =
    let u = at_phase state s blocks old x front Moving r.moving.was h in
    let v = round r u in
    let next = next_round state moves s x side n d lost b p new u.course.world r u.stands in
    let are = steps_are_events s u.course.world (turn_lines d) next.v (turn_steps next.is.turn.turn) in
    let tail = restart_line lost ++ line.Round b p ∷ [] in
    let plain = all_append IsPlain (turn_lines d) tail (events_plain (turn_lines d) are) (round_tail lost b p).1 in
    record {
      turns = course_turns v.0.course;
      owed = 0;
      owed_is = sym (ap (λ (z : Snapshot M). owed_fault z.phase) r.after ∙ ap owed_fault r.moving.was);
      onward = goes_onward t.script v.0;
      world = v.0.course.world;
      legal = goes_legal v.0 refl;
      holds = source_holds front (turn_lines d ++ tail) (plain_unresumed front (turn_lines d ++ tail) (goes_plain u tt) (none_plain (turn_lines d ++ tail) plain)) (holds_here Source v.0.side v.0.stands);
      untouched = inl (course_migrate u.course front _ u.lines_are);
      events = turn_lines d;
      tail = tail;
      piece_is = refl;
      are = are;
      none = (round_tail lost b p).0;
      kind = inr (v.0.course.before ++ round_turns u.course.rounds, push_turn v.0.course.before v.0.course.rounds u.course.rounds v.1 (turn_lines d) v.2 v.3);
    }
stage_point {M} state moves s blocks old x (Broken side n d) new front t m r h =
    let u = at_phase state s blocks old x front Moving r.moving.was h in
    let v = broken r u in
    let next = next_broken state moves s x side n d new u.course.world r.moving u.stands in
    let are = steps_are_events s u.course.world (turn_lines d) next.v (turn_steps next.turn) in
    let turns = course_turns v.0.course in
    record {
      turns = turns ++ last_turn v.0.ending;
      owed = 1;
      owed_is = sym (ap (λ (z : Snapshot M). owed_fault z.phase) r.after);
      onward = halts_onward t.script v.0;
      world = v.0.world;
      legal = halts_legal v.0;
      holds = source_holds front (turn_lines d) (plain_unresumed front (turn_lines d) (goes_plain u tt) (none_plain (turn_lines d) (events_plain (turn_lines d) are))) (holds_here Source v.0.side v.0.stands);
      untouched = inl (course_migrate u.course front _ u.lines_are);
      events = turn_lines d;
      tail = [];
      piece_is = sym (append-nil (turn_lines d));
      are = are;
      none = refl;
      kind = inr (turns, ap (λ (e : Ending). turns ++ last_turn e) v.1);
    }
stage_point {M} state moves s blocks old x Suspend new front t m r h =
    let u = at_phase state s blocks old x front Moving r.was h in
    let v = suspend r u in
    record {
      turns = course_turns v.0.course;
      owed = 0;
      owed_is = sym (ap (λ (z : Snapshot M). owed_fault z.phase) r.after);
      onward = suspended_onward t.script v.0 v.1;
      world = v.0.course.world;
      legal = goes_legal v.0 refl;
      holds = source_holds front (line.Suspend ∷ []) (plain_unresumed front (line.Suspend ∷ []) (goes_plain u tt) refl) (holds_here Source v.0.side v.0.stands);
      untouched = inl (course_migrate u.course front _ u.lines_are);
      events = [];
      tail = line.Suspend ∷ [];
      piece_is = refl;
      are = tt;
      none = refl;
      kind = inl refl;
    }
stage_point {M} state moves s blocks old x (Resume side n copies pages) new front t m r h =
    let u = at_phase state s blocks old x front Suspended r.was h in
    let to = t.destination (m refl) in
    let v = resume r u.0 (u.0.owes to.0 to.1) u.1 in
    let behind : Behind state s Moved new.other new.left v.0.moved = subst (λ (e : Ending). Behind state s e new.other new.left v.0.moved) v.1 v.0.behind in
    let moved : new.side ≡ Destination = v.0.side ∙ ap side_of v.1 in
    let source = subst (λ (w : World). Holds state s Source new w) v.2 (holds_behind moved behind.0 behind.1) in
    record {
      turns = course_turns v.0.course ++ (last_turn v.0.ending ++ v.0.after);
      owed = 0;
      owed_is = sym (ap (λ (z : Snapshot M). owed_fault z.phase) r.after);
      onward = tried_onward t.script v.0;
      world = v.0.world;
      legal = tried_legal v.0;
      holds = λ written rest is. both_hold (lines_before_resume (front ++ written)) source (holds_here Destination moved v.0.stands);
      untouched = inl (course_migrate u.0.course front _ u.0.lines_are);
      events = [];
      tail = lines_of (Resume side n copies pages);
      piece_is = refl;
      are = tt;
      none = refl;
      kind = inl refl;
    }
stage_point {M} state moves s blocks old x (Stop side n copies) new front t m r h =
    let u = at_phase state s blocks old x front Suspended r.was h in
    let v = stop r u.0 u.1 in
    record {
      turns = course_turns v.course ++ last_turn v.ending;
      owed = 1;
      owed_is = sym (ap (λ (z : Snapshot M). owed_fault z.phase) r.after);
      onward = halts_onward t.script v;
      world = v.world;
      legal = halts_legal v;
      holds = source_holds front [] (plain_unresumed front [] (goes_plain u.0 (tt, tt)) refl) (holds_here Source v.side v.stands);
      untouched = inl (course_migrate u.0.course front _ u.0.lines_are);
      events = [];
      tail = [];
      piece_is = refl;
      are = tt;
      none = refl;
      kind = inl refl;
    }
stage_point {M} state moves s blocks old x (GiveUp n) new front t m r h =
    let u = at_phase state s blocks old x front Stopped r.was h in
    let v = give_up r u in
    record {
      turns = course_turns v.course ++ (last_turn v.ending ++ v.after);
      owed = 0;
      owed_is = sym (ap (λ (z : Snapshot M). owed_fault z.phase) r.after);
      onward = tried_onward t.script v;
      world = v.world;
      legal = tried_legal v;
      holds = source_holds front (line.GiveUp ∷ []) (plain_unresumed front (line.GiveUp ∷ []) (halts_plain u) refl) (holds_here Source (ap (λ (z : Snapshot M). z.side) r.after ∙ u.side) v.stands);
      untouched = inl (course_migrate u.course front _ u.lines_are);
      events = [];
      tail = line.GiveUp ∷ [];
      piece_is = refl;
      are = tt;
      none = refl;
      kind = inl refl;
    }
stage_point {M} state moves s blocks old x End new front t m r h = by (at_phase state s blocks old x front Running r.was h)
  where
    onward : Ended state s blocks old new (front ++ line.End ∷ []) → Onward s blocks 0 [] (front ++ line.End ∷ [])
    onward e =
        let whole = finish t e in
        record {
          way = whole.way;
          world = whole.world;
          run = whole.run;
          others = turns_in (in_turns whole.run);
          turns_are = refl;
          more = [];
          lines_are = sym whole.lines_are ∙ sym (append-nil (front ++ line.End ∷ []));
          calm = refl;
        }

    legal_events : events_of (front ++ line.End ∷ []) ≡ events_of front
    legal_events = events_more front (line.End ∷ []) ∙ append-nil (events_of front)

    by : Untried state s blocks old x front ⊎ Tried state s blocks x front → Point state s blocks old new front (line.End ∷ [])
    by (inl u) =
        let v = untried_end r u in
        record {
          turns = [];
          owed = 0;
          owed_is = sym (ap (λ (z : Snapshot M). owed_fault z.phase) r.after);
          onward = onward (end r (inl u));
          world = v.turned.world;
          legal = subst (λ (es : List Line). Reaches s blocks es v.turned.world) (sym legal_events) (untried_legal v);
          holds = source_holds front (line.End ∷ []) (plain_unresumed front (line.End ∷ []) (untried_plain u) refl) (holds_here Source v.turned.side v.turned.stands);
          untouched = inr (untried_untouched t v);
          events = [];
          tail = line.End ∷ [];
          piece_is = refl;
          are = tt;
          none = refl;
          kind = inl refl;
        }
    by (inr u) =
        let v = tried_end r u in
        record {
          turns = [];
          owed = 0;
          owed_is = sym (ap (λ (z : Snapshot M). owed_fault z.phase) r.after);
          onward = onward (end r (inr u));
          world = v.world;
          legal = subst (λ (es : List Line). Reaches s blocks es v.world) (sym legal_events) (tried_legal v);
          holds = tried_holds v (line.End ∷ []) refl (holds_here (side_of v.ending) v.side v.stands);
          untouched = inl (course_migrate u.course front _ u.lines_are);
          events = [];
          tail = line.End ∷ [];
          piece_is = refl;
          are = tt;
          none = refl;
          kind = inl refl;
        }

-- The cut.

-- what was done and wasn't written
record Undone (s : Script) (blocks : Blocks) (turns : List (List Line)) (front written rest more : List Line) (w : World) : Type 0 where
  done : List Line
  others : List Line
  are : rest ++ more ≡ done ++ others
  done_are : AreEvents done
  one_turn : EndOneTurn done turns
  legal : Reaches s blocks (events_of (front ++ written) ++ done) w

-- a list's element behind a front
element_at : (front : List (List Line)) (x : List Line) (back : List (List Line)) → slice_get (front ++ x ∷ back) (length front) ≡ Some x
element_at front x back =
    slice_get-get_or (front ++ x ∷ back) (length front) x (omega (arith, length-append front (x ∷ back))) ∙ ap (λ (y : List Line). Some y) (get_or-append_seam front x back x)

-- where two pieces are as one, the one ends within the other's first or its second part
abbrev SplitIn : List Line → List Line → List Line → List Line → Type 0
SplitIn events tail written rest = ((back : List Line) × (events ≡ written ++ back) × (rest ≡ back ++ tail)) ⊎ ((more : List Line) × (written ≡ events ++ more) × (tail ≡ more ++ rest))

split_in : (events tail written rest : List Line) → events ++ tail ≡ written ++ rest → SplitIn events tail written rest
split_in events tail [] rest is = inl (events, refl, sym is)
split_in [] tail (l ∷ written) rest is = inr (l ∷ written, refl, is)
split_in (e ∷ events) tail (l ∷ written) rest is = push (split_in events tail written rest cc)
  where
    same : e ≡ l
    same = cc

    push : SplitIn events tail written rest → SplitIn (e ∷ events) tail (l ∷ written) rest
    push (inl (back, a, b)) = inl (back, ap (λ (ls : List Line). e ∷ ls) a ∙ ap (λ (x : Line). x ∷ written ++ back) same, b)
    push (inr (more, a, b)) = inr (more, ap (λ (ls : List Line). l ∷ ls) a ∙ ap (λ (x : Line). x ∷ events ++ more) (sym same), b)

undone : {M I : Type 0} {state : M → MediumState I} {s : Script} {blocks : Blocks} {old new : Snapshot M} {front piece : List Line} → (p : Point state s blocks old new front piece) → (written rest : List Line) → piece ≡ written ++ rest →
    Undone s blocks (turns_in (in_turns p.onward.run)) front written rest p.onward.more p.world
undone {M} {I} {state} {s} {blocks} {old} {new} {front} {piece} p written rest is = by (split_in p.events p.tail written rest (sym p.piece_is ∙ is))
  where
    all : List (List Line)
    all = turns_in (in_turns p.onward.run)

    more : List Line
    more = p.onward.more

    -- the events of all
    events_are : events_of (front ++ piece) ≡ events_of front ++ p.events
    events_are = events_more front piece ∙ ap (λ (es : List Line). events_of front ++ es)
        (ap events_of p.piece_is ∙ events_more p.events p.tail ∙ ap (λ (es : List Line). es ++ events_of p.tail) (all_events p.events p.are) ∙ ap (λ (es : List Line). p.events ++ es) p.none ∙ append-nil p.events)

    legal : (done : List Line) → events_of written ++ done ≡ p.events → Reaches s blocks (events_of (front ++ written) ++ done) p.world
    legal done same = subst (λ (es : List Line). Reaches s blocks es p.world)
        (sym (ap (λ (es : List Line). es ++ done) (events_more front written) ∙ append_assoc (events_of front) (events_of written) done ∙ ap (λ (es : List Line). events_of front ++ es) same ∙ sym events_are)) p.legal

    one_turn : (back : List Line) → p.events ≡ written ++ back → (p.events ≡ []) ⊎ ((before : List (List Line)) × (p.turns ≡ before ++ p.events ∷ [])) → EndOneTurn back all
    one_turn back a (inl none) = inl (back_none written (sym a ∙ none))
      where
        back_none : (front : List Line) → front ++ back ≡ [] → back ≡ []
        back_none [] none = none
        back_none (l ∷ front) none = cc
    one_turn back a (inr (before, last)) =
        let turns_are : all ≡ before ++ p.events ∷ p.onward.others = p.onward.turns_are ∙ ap (λ (ts : List (List Line)). ts ++ p.onward.others) last ∙ append_assoc before (p.events ∷ []) p.onward.others in
        inr (length before, p.events, written, subst (λ (ts : List (List Line)). slice_get ts (length before) ≡ Some p.events) (sym turns_are) (element_at before p.events p.onward.others), a)

    by : SplitIn p.events p.tail written rest → Undone s blocks all front written rest more p.world
    by (inl (back, a, b)) =
        let parts = events_front written back (subst AreEvents a p.are) in
        record {
          done = back;
          others = p.tail ++ more;
          are = ap (λ (ls : List Line). ls ++ more) b ∙ append_assoc back p.tail more;
          done_are = parts.1;
          one_turn = one_turn back a p.kind;
          legal = legal back (ap (λ (es : List Line). es ++ back) (all_events written parts.0) ∙ sym a);
        }
    by (inr (extra, a, b)) =
        let none : events_of extra ≡ [] = no_events_front extra rest (ap events_of (sym b) ∙ p.none) in
        record {
          done = [];
          others = rest ++ more;
          are = refl;
          done_are = tt;
          one_turn = inl refl;
          legal = legal [] (append-nil (events_of written) ∙ ap events_of a ∙ events_more p.events extra ∙ ap (λ (es : List Line). es ++ events_of extra) (all_events p.events p.are) ∙ ap (λ (es : List Line). p.events ++ es) none ∙ append-nil p.events);
        }

stopped : {M I : Type 0} {state : M → MediumState I} {s : Script} {blocks : Blocks} {old new : Snapshot M} (front piece : List Line) → IsScript s → Point state s blocks old new front piece → IsCut (text_of piece) (with_more (text_of front) old.out.taken) new.out.taken →
    RiseBy (faults_shown (front ++ piece) + owed_fault new.phase) (faults_of state old) (faults_of state new) → HasStopped state s blocks old new
stopped {M} {I} {state} {s} {blocks} {old} {new} front piece script p cut rose =
    let o = p.onward in
    let r = o.run in
    let before = with_more (text_of front) old.out.taken in
    let x = split_cut piece before new.out.taken cut in
    let d = undone p x.written x.rest x.lines_are in
    let lines_are : whole_lines r ≡ (front ++ x.written) ++ (x.rest ++ o.more) =
    o.lines_are ∙ append_assoc front piece o.more ∙ ap (λ (ls : List Line). front ++ (ls ++ o.more)) x.lines_are ∙ ap (λ (ls : List Line). front ++ ls) (append_assoc x.written x.rest o.more) ∙ sym (append_assoc front x.written (x.rest ++ o.more)) in
    let shown : faults_shown (whole_lines r) ≡ faults_shown (front ++ piece) + owed_fault new.phase = omega (arith, ap faults_shown o.lines_are, faults_more (front ++ piece) o.more, o.calm, p.owed_is) in
    record {
      lines = whole_lines r;
      world = o.world;
      whole = is_whole r;
      are_lines = whole_are_lines script r;
      legal = is_legal r;
      turns = in_turns r;
      complete = r.complete;
      written = front ++ x.written;
      done = d.done;
      others = d.others;
      lines_are = lines_are ∙ ap (λ (ls : List Line). (front ++ x.written) ++ ls) d.are;
      part = x.part;
      part_is = subst (IsPart x.part) d.are (part_longer x.part x.rest o.more x.part_is);
      text = split_text front x.written x.part old.out.taken before new.out.taken refl x.text;
      done_are = d.done_are;
      one_turn = d.one_turn;
      reached = p.world;
      legal_so_far = d.legal;
      holds = p.holds x.written x.rest x.lines_are;
      untouched = ⊎_elim (λ begun. inl (migrate_more front x.written begun)) (λ same. inr same) p.untouched;
      rose = subst (λ (n : ℕ). RiseBy n (faults_of state old) (faults_of state new)) (sym shown) rose;
    }

-- A run whose last stage's text was cut.

chain_last : {S A : Type 0} (R : S → A → S → Type 0) (x : S) (front : List A) (a : A) (y : S) → Chain R x (front ++ a ∷ []) y → (m : S) × Chain R x front m × R m a y
chain_last R x [] a y c = (x, refl, subst (R x a) (sym c.2) c.1)
chain_last R x (b ∷ front) a y c = let others = chain_last R c.0 front a y c.2 in (others.0, (c.0, c.1, others.1), others.2)

pub run_stopped : {M I : Type 0} (state : M → MediumState I) (moves : I → Step → Bool → I → Type 0) (s : Script) (blocks : Blocks) (old new : Snapshot M) (failed : Bool) → failed ≡ true → (w : Went state moves old failed new) → Tells state s blocks (have_resumed w.stages) old → HasStopped state s blocks old new
run_stopped {M} state moves s blocks old new failed is w t =
    let script : old.task.script ≡ s = ap (λ (z : Snapshot M). z.task.script) t.start in
    let text = subst (λ (f : Bool). IsWritten w.stages old.out.taken f new.out.taken) is w.text in
    let front = text.0 in
    let last = text.1 in
    let parts = chain_last (IsStage state moves) old front last new (subst (λ (stages : List Stage). Chain (IsStage state moves) old stages new) text.2 w.run) in
    let resumed : have_resumed w.stages ≡ (have_resumed front || have_resumed (last ∷ [])) = ap have_resumed text.2 ∙ list_any-append resumes front (last ∷ []) in
    let point = stage_point state moves s blocks old parts.0 last new (lines_in front) t
    (λ now. resumed ∙ or_right (have_resumed front) (have_resumed (last ∷ [])) (ap (λ (b : Bool). b || false) now)) parts.2
    (run_stands state moves s blocks old front parts.0 t (λ before. resumed ∙ ap (λ (b : Bool). b || have_resumed (last ∷ [])) before) parts.1) in
    let rises = run_rises state moves s old w.stages new script (ap (λ (z : Snapshot M). z.phase) t.start) w.run in
    let lines : lines_in w.stages ≡ lines_in front ++ lines_of last =
    ap lines_in text.2 ∙ lines_in_more front (last ∷ []) ∙ ap (λ (ls : List Line). lines_in front ++ ls) (append-nil (lines_of last)) in
    stopped (lines_in front) (lines_of last) t.script point text.3 (subst (λ (ls : List Line). RiseBy (faults_shown ls + owed_fault new.phase) (faults_of state old) (faults_of state new)) lines rises.1)
