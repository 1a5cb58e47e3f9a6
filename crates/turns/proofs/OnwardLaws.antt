use Rattle.std.proofs.Common.{◌≡◌, ◌⊎◌, ℕ, ◌+◌, ◌-◌, ◌≤◌, inl, inr, ⊎_elim, List, [], ◌∷◌, ◌++◌, Option, Some, None, length, map, refl, sym, ap, subst, ◌∙◌, append_assoc, append-nil, arith}
use Rattle.std.specs.List.{flat_map}
use Rattle.std.proofs.lemmas.Grind.{flat_map-append}
use Rattle.std.proofs.lemmas.List.{length-append, map-append}
use Rattle.nvm_model.specs.declared.line.Line.{Line}
use Rattle.nvm_model.specs.declared.line.Line.TheVariants as line
use Rattle.nvm_model.specs.declared.script.Script.{Script}
use Rattle.nvm_model.specs.History.{Complete, faults_shown}
use Rattle.nvm_model.specs.Medium.{MediumState}
use Rattle.nvm_model.specs.Owed.{Owed, all_owed}
use Rattle.nvm_model.specs.Rounds.{Ending, Ends, InRounds, Moves, MovesInRounds, RoundText, copies_due, ending_text, last_turn, round_text, turns_in, turns_of}
use Rattle.nvm_model.specs.Rounds.Ending.{Moved, Halted, Broke}
use Rattle.nvm_model.specs.Run.{IsCutDue, Snapshot, Task}
use Rattle.nvm_model.specs.ScriptText.{IsScript}
use Rattle.nvm_model.specs.Told.{serial}
use Rattle.nvm_model.specs.Turn.{Begins, Turn, Turns, events_in, pieces_in}
use Rattle.nvm_model.specs.World.{Lane, World, start_world}
use Rattle.turns.specs.Frame.{AreAtRest, AreServed}
use Rattle.turns.proofs.CalmLaws.{faults_more}
use Rattle.turns.proofs.FrameLemmas.{events_in_more, frame_rest, turn_frame, turns_more}
use Rattle.turns.proofs.PieceLaws.{Blocks}
use Rattle.turns.proofs.PlanLemmas.{calm_more}
use Rattle.turns.proofs.RestLemmas.{EndsInRounds, ends_in_rounds, ends_in_turns, turns_up_to}
use Rattle.turns.proofs.ScriptLaws.{start_rest, start_served, turns_rest}
use Rattle.turns.proofs.ToldLaws.{Course, Goes, Halts, IsEarly, IsHalt, Tried, Untried, course_lines, ending_front}
use Rattle.turns.proofs.WholeLaws.{Whole, in_turns, way_of, whole_lines}

-- From where a run stands it can go on to its end, with no further fault.

-- a whole run that begins with these lines, and whose turns begin with these; the lines behind show the faults that were owed
pub record Onward (s : Script) (blocks : Blocks) (owed : ℕ) (turns : List (List Line)) (lines : List Line) : Type 0 where
  pub way : Option Ending
  pub world : World
  pub run : Whole s blocks way world
  pub others : List (List Line)
  pub turns_are : turns_in (in_turns run) ≡ turns ++ others
  pub more : List Line
  pub lines_are : whole_lines run ≡ lines ++ more
  pub calm : faults_shown more ≡ owed

-- one that begins with more lines and turns begins with fewer
shorter : {s : Script} {blocks : Blocks} {owed all : ℕ} {turns long : List (List Line)} {lines whole : List Line} (extra : List (List Line)) (behind : List Line) → Onward s blocks owed long whole → long ≡ turns ++ extra → whole ≡ lines ++ behind → all ≡ faults_shown behind + owed →
    Onward s blocks all turns lines
shorter {s} {blocks} {owed} {all} {turns} {long} {lines} {whole} extra behind o turns_are lines_are calm = record {
  way = o.way;
  world = o.world;
  run = o.run;
  others = extra ++ o.others;
  turns_are = o.turns_are ∙ ap (λ (ts : List (List Line)). ts ++ o.others) turns_are ∙ append_assoc turns extra o.others;
  more = behind ++ o.more;
  lines_are = o.lines_are ∙ ap (λ (ls : List Line). ls ++ o.more) lines_are ∙ append_assoc lines behind o.more;
  calm = omega (arith, calm, o.calm, faults_more behind o.more);
}

-- Lanes stay at rest.

abbrev Rested : Script → List Lane → Type 0
Rested s lanes = AreAtRest s 1 lanes × AreServed s 1 lanes

-- turns leave lanes at rest, from the start on
rest_after : (s : Script) (blocks : Blocks) (turns : List (List Line)) (w : World) → IsScript s → Turns s 0 (start_world s.head blocks) turns w → Rested s w.lanes
rest_after s blocks turns w script are = turns_rest s 0 (start_world s.head blocks) turns w are (start_rest s) (start_served s script.head)

turn_rest : {s : Script} {w : World} {events : List Line} {v : World} → Turn s w events v → Rested s w.lanes → Rested s v.lanes
turn_rest turn rest = frame_rest rest.0 rest.1 (turn_frame turn)

rounds_rest : (s : Script) (n k : ℕ) (w : World) (owed : Owed) (rounds : List RoundText) (v : World) (new : Owed) (drawn : ℕ) → InRounds (serial s) n k w owed rounds v new drawn → Rested s w.lanes → Rested s v.lanes
rounds_rest s n k w owed [] v new drawn are rest = subst (λ (u : World). Rested s u.lanes) (sym are.0) rest
rounds_rest s n k w owed (r ∷ rounds) v new drawn are rest =
    rounds_rest s (n + pieces_in r.events + copies_due s owed) (k + 1) are.0 r.owed rounds v new drawn are.2 (turn_rest are.1.turn.turn rest)

ends_rest : (s : Script) (n k : ℕ) (w : World) (owed : Owed) (ending : Ending) (v : World) (drawn : ℕ) → Ends (serial s) n k w owed ending v drawn → Rested s w.lanes → Rested s v.lanes
ends_rest s n k w owed Moved v drawn e rest = subst (λ (u : World). Rested s u.lanes) (sym e.1) rest
ends_rest s n k w owed Halted v drawn e rest = subst (λ (u : World). Rested s u.lanes) (sym e.1) rest
ends_rest s n k w owed (Broke events) v drawn e rest = turn_rest e.1 rest

course_rest : {s : Script} {blocks : Blocks} → IsScript s → (c : Course s blocks) → Rested s c.world.lanes
course_rest {s} {blocks} script c = rounds_rest s (pieces_in (events_in c.before)) 0 c.mid (all_owed s.head) c.rounds c.world c.owed c.words c.in_rounds (rest_after s blocks c.before c.mid script c.are_before)

-- A migration that came to an end.

abbrev pub round_turns : List RoundText → List (List Line)
round_turns rounds = map (λ (r : RoundText). r.events) rounds

abbrev pub course_turns : {s : Script} {blocks : Blocks} → Course s blocks → List (List Line)
course_turns c = c.before ++ round_turns c.rounds

regroup : {X : Type 0} (a b c d e : List X) → a ++ ((b ++ c) ++ (d ++ e)) ≡ ((a ++ b) ++ (c ++ d)) ++ e
regroup {X} a b c d e =
    ap (λ (xs : List X). a ++ xs) (append_assoc b c (d ++ e) ∙ ap (λ (xs : List X). b ++ xs) (sym (append_assoc c d e))) ∙ sym (append_assoc a b ((c ++ d) ++ e)) ∙ sym (append_assoc (a ++ b) (c ++ d) e)

-- further turns bring it to its end
ended_onward : {s : Script} {blocks : Blocks} → IsScript s → (c : Course s blocks) → (ending : Ending) (moved world : World) (drawn : ℕ) (after : List (List Line)) → Ends (serial s) c.words (length c.rounds) c.world c.owed ending moved drawn → Turns s drawn moved after world →
    Onward s blocks 0 (course_turns c ++ (last_turn ending ++ after)) (course_lines c ++ (ending_text c.owed ending ++ events_in after))
ended_onward {s} {blocks} script c ending moved world drawn after ends are =
    let n = pieces_in (events_in c.before) in
    let mid = ends_rest s c.words (length c.rounds) c.world c.owed ending moved drawn ends (course_rest script c) in
    let rest = turns_rest s drawn moved after world are mid.0 mid.1 in
    let more = ends_in_turns s (drawn + pieces_in (events_in after)) world script.head.burst.0 rest.0 rest.1 in
    let rounds = flat_map round_text c.rounds in
    let text = line.Migrate ∷ rounds ++ ending_text c.owed ending in
    let moves : MovesInRounds (serial s) n c.mid text moved drawn = record {
      rounds = c.rounds;
      mid = c.world;
      owed = c.owed;
      words = c.words;
      in_rounds = c.in_rounds;
      ending = ending;
      ends = ends;
      lines_are = refl;
    } in
    let moving = subst (λ (wish : Option ℕ). (m : Moves (serial s) wish n c.mid text moved drawn) × (way_of (serial s) wish n c.mid text moved drawn m ≡ Some ending) × (turns_of (serial s) wish n c.mid text moved drawn m ≡ round_turns c.rounds ++ last_turn ending))
    (sym c.asked) (moves, refl, refl) in
    let back = events_in more.turns ++ line.End ∷ [] in
    record {
      way = Some ending;
      world = more.v;
      run = record {
        before = c.before;
        mid = c.mid;
        are_before = c.are_before;
        begins = subst (λ (wish : Option ℕ). Begins s wish (length c.before) c.mid) (sym c.asked) c.begins;
        migration = text;
        moved = moved;
        drawn = drawn;
        moving = moving.0;
        way_is = moving.1;
        after = after ++ more.turns;
        are_after = turns_more s drawn moved after more.turns world more.v are more.are;
        complete = more.complete;
      };
      others = more.turns;
      turns_are = ap (λ (ts : List (List Line)). c.before ++ (ts ++ (after ++ more.turns))) moving.2 ∙ regroup c.before (round_turns c.rounds) (last_turn ending) after more.turns;
      more = back;
      lines_are = ap (λ (es : List Line). line.Title ∷ line.Ready ∷ events_in c.before ++ (text ++ es)) (ap (λ (es : List Line). es ++ line.End ∷ []) (events_in_more after more.turns) ∙ append_assoc (events_in after) (events_in more.turns) (line.End ∷ []))
          ∙ regroup (line.Title ∷ line.Ready ∷ events_in c.before) (line.Migrate ∷ rounds) (ending_text c.owed ending) (events_in after) back;
      calm = calm_more (events_in more.turns) (line.End ∷ []) more.calm refl;
    }

pub tried_onward : {M I : Type 0} {state : M → MediumState I} {s : Script} {blocks : Blocks} {x : Snapshot M} {lines : List Line} → IsScript s → (u : Tried state s blocks x lines) →
    Onward s blocks 0 (course_turns u.course ++ (last_turn u.ending ++ u.after)) lines
tried_onward {s = s} {blocks} {lines = lines} script u =
    subst (λ (ls : List Line). Onward s blocks 0 (course_turns u.course ++ (last_turn u.ending ++ u.after)) ls) (sym u.lines_are) (ended_onward script u.course u.ending u.moved u.world u.drawn u.after u.ends u.are_after)

-- One that is to be given up.

give_up_text : (owed : Owed) (ending : Ending) → IsHalt ending → ending_text owed ending ++ [] ≡ ending_front ending ++ line.GiveUp ∷ []
give_up_text owed Moved is = absurd is
give_up_text owed Halted is = refl
give_up_text owed (Broke events) is = append-nil (events ++ line.GiveUp ∷ [])

pub halts_onward : {M I : Type 0} {state : M → MediumState I} {s : Script} {blocks : Blocks} {x : Snapshot M} {lines : List Line} → IsScript s → (h : Halts state s blocks x lines) → Onward s blocks 1 (course_turns h.course ++ last_turn h.ending) lines
halts_onward {s = s} {blocks} {lines = lines} script h =
    let c = h.course in
    shorter [] (line.GiveUp ∷ []) (ended_onward script c h.ending h.world h.world h.drawn [] h.ends refl) (sym (append_assoc (course_turns c) (last_turn h.ending) []))
    (ap (λ (ls : List Line). course_lines c ++ ls) (give_up_text c.owed h.ending h.is_halt) ∙ sym (append_assoc (course_lines c) (ending_front h.ending) (line.GiveUp ∷ [])) ∙ ap (λ (ls : List Line). ls ++ line.GiveUp ∷ []) (sym h.lines_are)) refl

-- One that goes on.

-- where the guests were suspended they can be moved
suspended_on : {s : Script} {blocks : Blocks} → IsScript s → (c : Course s blocks) → IsCutDue s.head c.owed (length c.rounds) → Onward s blocks 0 (course_turns c) (course_lines c ++ line.Suspend ∷ [])
suspended_on script c due =
    let behind = line.Pause (length c.owed.blocks) (length c.owed.pages) ∷ line.ResumeTo ∷ [] in
    shorter [] behind (ended_onward script c Moved c.world c.world c.words [] (due, refl, refl) refl) refl (sym (append_assoc (course_lines c) (line.Suspend ∷ []) behind)) refl

-- rounds, and then further ones
rounds_behind : (task : Task) (n k : ℕ) (w : World) (owed : Owed) (rounds : List RoundText) (u : World) (mid : Owed) (drawn : ℕ) (others : List RoundText) (v : World) (new : Owed) (last : ℕ) → InRounds task n k w owed rounds u mid drawn → InRounds task drawn (k + length rounds) u mid others v new last →
    InRounds task n k w owed (rounds ++ others) v new last
rounds_behind task n k w owed [] u mid drawn others v new last are more =
    subst (λ (z : World). InRounds task n k z owed others v new last) are.0 (subst (λ (o : Owed). InRounds task n k u o others v new last) are.1
    (subst (λ (m : ℕ). InRounds task m k u mid others v new last) are.2 (subst (λ (m : ℕ). InRounds task drawn m u mid others v new last) (omega arith) more)))
rounds_behind task n k w owed (r ∷ rounds) u mid drawn others v new last are more =
    (are.0, are.1, rounds_behind task (n + pieces_in r.events + copies_due task.script owed) (k + 1) are.0 r.owed rounds u mid drawn others v new last are.2 (subst (λ (m : ℕ). InRounds task drawn m u mid others v new last) (omega arith) more))

all_rounds : (task : Task) (n : ℕ) (w : World) (owed : Owed) (rounds : List RoundText) (u : World) (mid : Owed) (drawn : ℕ) (others : List RoundText) (v : World) (new : Owed) (last : ℕ) → InRounds task n 0 w owed rounds u mid drawn → InRounds task drawn (length rounds) u mid others v new last →
    InRounds task n 0 w owed (rounds ++ others) v new last
all_rounds task n w owed rounds u mid drawn others v new last are more =
    rounds_behind task n 0 w owed rounds u mid drawn others v new last are (subst (λ (k : ℕ). InRounds task drawn k u mid others v new last) (omega arith) more)

abbrev further : {s : Script} {blocks : Blocks} → (c : Course s blocks) → EndsInRounds s c.words (length c.rounds) c.world c.owed → Course s blocks
further {s} c e = record {
  turn = c.turn;
  asked = c.asked;
  before = c.before;
  mid = c.mid;
  are_before = c.are_before;
  begins = c.begins;
  rounds = c.rounds ++ e.rounds;
  world = e.v;
  owed = e.left;
  words = e.drawn;
  in_rounds = all_rounds (serial s) (pieces_in (events_in c.before)) c.mid (all_owed s.head) c.rounds c.world c.owed c.words e.rounds e.v e.left e.drawn c.in_rounds e.are;
}

-- rounds bring it to where the guests are to be suspended
course_onward : {s : Script} {blocks : Blocks} → IsScript s → (c : Course s blocks) → Onward s blocks 0 (course_turns c) (course_lines c)
course_onward {s} {blocks} script c =
    let rest = course_rest script c in
    let e = ends_in_rounds s s.head.patience c.words (length c.rounds) c.world c.owed script.head.burst.0 rest.0 rest.1 (omega arith) in
    let due = subst (λ (k : ℕ). IsCutDue s.head e.left k) (sym (length-append c.rounds e.rounds)) e.due in
    let first = line.Title ∷ line.Ready ∷ events_in c.before in
    let rounds = flat_map round_text e.rounds in
    let front = flat_map round_text c.rounds in
    shorter (round_turns e.rounds) (rounds ++ line.Suspend ∷ []) (suspended_on script (further c e) due)
    (ap (λ (ts : List (List Line)). c.before ++ ts) (map-append (λ (r : RoundText). r.events) c.rounds e.rounds) ∙ sym (append_assoc c.before (round_turns c.rounds) (round_turns e.rounds)))
    (append_assoc first (line.Migrate ∷ flat_map round_text (c.rounds ++ e.rounds)) (line.Suspend ∷ [])
    ∙ ap (λ (ls : List Line). first ++ (line.Migrate ∷ ls ++ line.Suspend ∷ [])) (flat_map-append round_text c.rounds e.rounds) ∙ ap (λ (ls : List Line). first ++ (line.Migrate ∷ ls)) (append_assoc front rounds (line.Suspend ∷ []))
    ∙ sym (append_assoc first (line.Migrate ∷ front) (rounds ++ line.Suspend ∷ [])))
    (omega (arith, calm_more rounds (line.Suspend ∷ []) e.calm refl))

pub goes_onward : {M I : Type 0} {state : M → MediumState I} {s : Script} {blocks : Blocks} {old x : Snapshot M} {lines : List Line} → IsScript s → (g : Goes state s blocks old x lines []) → Onward s blocks 0 (course_turns g.course) lines
goes_onward {s = s} {blocks} script g =
    subst (λ (ls : List Line). Onward s blocks 0 (course_turns g.course) ls) (sym (g.lines_are ∙ append-nil (course_lines g.course))) (course_onward script g.course)

pub suspended_onward : {M I : Type 0} {state : M → MediumState I} {s : Script} {blocks : Blocks} {old x : Snapshot M} {lines : List Line} → IsScript s → (g : Goes state s blocks old x lines (line.Suspend ∷ [])) → IsCutDue s.head x.owed x.rounds → Onward s blocks 0 (course_turns g.course) lines
suspended_onward {s = s} {blocks} {x = x} script g due =
    subst (λ (ls : List Line). Onward s blocks 0 (course_turns g.course) ls) (sym g.lines_are)
    (suspended_on script g.course (subst (λ (k : ℕ). IsCutDue s.head g.course.owed k) g.rounds (subst (λ (o : Owed). IsCutDue s.head o x.rounds) g.owed due)))

-- No migration was begun.

-- how many more turns come before it
abbrev turns_left : Option ℕ → ℕ → ℕ
turns_left None done = 0
turns_left (Some turn) done = turn - 1 - done

begins_then : (s : Script) (turn done n : ℕ) (w : World) → done + 1 ≤ turn → n ≤ turn - 1 - done → (n ≡ turn - 1 - done) ⊎ Complete s w → Begins s (Some turn) (done + n) w
begins_then s turn done n w early few stops = (omega (arith, early, few), ⊎_elim (λ all. inl (omega (arith, early, all))) (λ complete. inr complete) stops)

-- turns from the start on, after which it can be begun or isn't asked for
planned_onward : (s : Script) (blocks : Blocks) (turns : List (List Line)) (w : World) (wish : Option ℕ) → s.head.migrate ≡ wish → IsScript s → Turns s 0 (start_world s.head blocks) turns w → IsEarly wish (length turns) → Onward s blocks 0 turns (line.Title ∷ line.Ready ∷ events_in turns)
planned_onward s blocks turns w None asked script are early =
    let rest = rest_after s blocks turns w script are in
    let n = pieces_in (events_in turns) in
    let ends = ends_in_turns s n w script.head.burst.0 rest.0 rest.1 in
    let moving = subst (λ (wish : Option ℕ). (m : Moves (serial s) wish n w [] w n) × (way_of (serial s) wish n w [] w n m ≡ None) × (turns_of (serial s) wish n w [] w n m ≡ [])) (sym asked) ((refl, refl, refl), refl, refl) in
    record {
      way = None;
      world = ends.v;
      run = record {
        before = turns;
        mid = w;
        are_before = are;
        begins = subst (λ (wish : Option ℕ). Begins s wish (length turns) w) (sym asked) tt;
        migration = [];
        moved = w;
        drawn = n;
        moving = moving.0;
        way_is = moving.1;
        after = ends.turns;
        are_after = ends.are;
        complete = ends.complete;
      };
      others = ends.turns;
      turns_are = ap (λ (ts : List (List Line)). turns ++ (ts ++ ends.turns)) moving.2;
      more = events_in ends.turns ++ line.End ∷ [];
      lines_are = refl;
      calm = calm_more (events_in ends.turns) (line.End ∷ []) ends.calm refl;
    }
planned_onward s blocks turns w (Some turn) asked script are early =
    let rest = rest_after s blocks turns w script are in
    let more = turns_up_to s (pieces_in (events_in turns)) (turn - 1 - length turns) w script.head.burst.0 rest.0 rest.1 in
    let all = turns ++ more.turns in
    let first = events_in turns in
    let second = events_in more.turns in
    let c : Course s blocks = record {
      turn = turn;
      asked = asked;
      before = all;
      mid = more.v;
      are_before = turns_more s 0 (start_world s.head blocks) turns more.turns w more.v are (subst (λ (k : ℕ). Turns s k w more.turns more.v) (omega arith) more.are);
      begins = subst (λ (k : ℕ). Begins s (Some turn) k more.v) (sym (length-append turns more.turns)) (begins_then s turn (length turns) (length more.turns) more.v (omega (arith, early)) more.few more.stops);
      rounds = [];
      world = more.v;
      owed = all_owed s.head;
      words = pieces_in (events_in all);
      in_rounds = (refl, refl, refl);
    } in
    shorter more.turns (second ++ line.Migrate ∷ []) (course_onward script c) (append-nil all)
    (ap (λ (es : List Line). line.Title ∷ line.Ready ∷ es ++ line.Migrate ∷ []) (events_in_more turns more.turns) ∙ ap (λ (es : List Line). line.Title ∷ line.Ready ∷ es) (append_assoc first second (line.Migrate ∷ [])))
    (omega (arith, calm_more second (line.Migrate ∷ []) more.calm refl))

pub untried_onward : {M I : Type 0} {state : M → MediumState I} {s : Script} {blocks : Blocks} {old x : Snapshot M} {lines : List Line} → IsScript s → (u : Untried state s blocks old x lines) → Onward s blocks 0 u.turned.turns lines
untried_onward {s = s} {blocks} script u =
    let f = u.turned in
    subst (λ (ls : List Line). Onward s blocks 0 f.turns ls) (sym u.lines_are) (planned_onward s blocks f.turns f.world s.head.migrate refl script f.are (subst (IsEarly s.head.migrate) u.count u.early))
