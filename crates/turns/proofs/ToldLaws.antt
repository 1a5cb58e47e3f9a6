use Rattle.std.proofs.Common.{◌≡◌, ◌||◌, ◌⊎◌, ℕ, ◌+◌, ◌*◌, ◌<◌, ◌≤◌, inl, inr, ⊎_elim, Bool, true, false, List, [], ◌∷◌, ◌++◌, Option, Some, None, length, refl, sym, ap, subst, ◌∙◌, append_assoc, append-nil, arith}
use Rattle.std.specs.List.{flat_map}
use Rattle.std.proofs.lemmas.Bool.{cases_eq}
use Rattle.std.proofs.lemmas.Grind.{flat_map-append}
use Rattle.std.proofs.lemmas.List.{length-append, length-map}
use Rattle.nvm_model.specs.declared.line.Line.{Line}
use Rattle.nvm_model.specs.declared.line.Line.TheVariants as line
use Rattle.nvm_model.specs.declared.script.Script.{Script}
use Rattle.nvm_model.specs.declared.trace.Step.{Step}
use Rattle.nvm_model.specs.Chain.{Chain}
use Rattle.nvm_model.specs.History.{Complete}
use Rattle.nvm_model.specs.Medium.{IsAt, MediumState}
use Rattle.nvm_model.specs.Owed.{DifferIn, Owed, all_owed}
use Rattle.nvm_model.specs.Rounds.{Ending, Ends, InRounds, IsRoundText, RoundText, copies_due, ending_text, round_text}
use Rattle.nvm_model.specs.Rounds.Ending.{Moved, Halted, Broke}
use Rattle.nvm_model.specs.ScriptText.{IsTurn as IsTurnNumber}
use Rattle.nvm_model.specs.Turn.{Begins, SerialTurn, Turns, events_in, pieces_in}
use Rattle.nvm_model.specs.World.{Lane, World, start_world}
use Rattle.nvm_model.specs.declared.run.RunPhase.{RunPhase}
use Rattle.nvm_model.specs.declared.run.RunPhase.TheVariants.{New, Running, Moving, Suspended, Stopped, Over}
use Rattle.nvm_model.specs.declared.run.Side.{Side}
use Rattle.nvm_model.specs.declared.run.Side.TheVariants.{Source, Destination}
use Rattle.nvm_model.specs.Run.{AllCopied, AreComplete, Copy, CopyEnd, Here, IsItem, Item, copies_of, due_after, IsBegin, IsBroken, IsCutDue, IsDue, IsEnd, IsGiveUp, IsResume, IsRound, IsStage, IsStop, IsSuspend, IsTitle, IsTurn, Snapshot, Stage, TakesTurn, Task, TurnDone, among, here, lines_in, lines_of, memory_of, opposite, restart_line, resume_mark, suspend_mark, turn_lines, gets_of, puts_of}
use Rattle.nvm_model.specs.Run.CopyEnd.{Copied, NotRead, NotWritten}
use Rattle.nvm_model.specs.Run.Item.{Served, Crossed}
use Rattle.nvm_model.specs.Run.Stage.{Title, Turn, Begin, Round, Broken, Suspend, Resume, Stop, GiveUp, End}
use Rattle.nvm_model.specs.Told.{have_resumed, resumes, serial, Tell, Tells}
use Rattle.turns.proofs.CoverLaws.{all_differ}
use Rattle.turns.proofs.CrossLaws.{chain_split, marks_tell, resume_same}
use Rattle.turns.proofs.MediaLaws.{after_failed}
use Rattle.turns.proofs.FrameLemmas.{events_in_more, pieces_in_more, turns_more}
use Rattle.turns.proofs.PieceLaws.{Blocks, copy_here, told_length, turn_told, world_of}
use Rattle.turns.proofs.RoundLaws.{Owes, Stands, next_broken, next_round, rounds_more}

-- What the stages of a run on one thread come to, from a start at which the media of both sides tell their blocks.

-- Where it stands.

-- turns from the start on; nothing was moved, and the destination is as it was
pub record Turned {M I : Type 0} (state : M → MediumState I) (s : Script) (blocks : Blocks) (old x : Snapshot M) : Type 0 where
  pub turns : List (List Line)
  pub world : World
  pub are : Turns s 0 (start_world s.head blocks) turns world
  pub drawn : x.drawn ≡ pieces_in (events_in turns)
  pub stands : Stands state s x world
  pub side : x.side ≡ Source
  pub other : x.other ≡ old.other
  pub left : x.left ≡ old.left

-- a migration wasn't due before so many turns were done
abbrev pub IsEarly : Option ℕ → ℕ → Type 0
IsEarly None done = Unit {0}
IsEarly (Some turn) done = done < turn

-- no migration was begun
pub record Untried {M I : Type 0} (state : M → MediumState I) (s : Script) (blocks : Blocks) (old x : Snapshot M) (lines : List Line) : Type 0 where
  pub turned : Turned state s blocks old x
  pub tried : x.tried ≡ false
  pub count : x.turns ≡ length turned.turns
  pub early : IsEarly s.head.migrate x.turns
  pub lines_are : lines ≡ line.Title ∷ line.Ready ∷ events_in turned.turns

-- A migration was begun, and these of its rounds were done.
pub record Course (s : Script) (blocks : Blocks) : Type 0 where
  pub turn : ℕ
  pub asked : s.head.migrate ≡ Some turn
  pub before : List (List Line)
  pub mid : World
  pub are_before : Turns s 0 (start_world s.head blocks) before mid
  pub begins : Begins s (Some turn) (length before) mid
  pub rounds : List RoundText
  pub world : World
  pub owed : Owed
  pub words : ℕ
  pub in_rounds : InRounds (serial s) (pieces_in (events_in before)) 0 mid (all_owed s.head) rounds world owed words

abbrev pub course_lines : {s : Script} {blocks : Blocks} → Course s blocks → List Line
course_lines c = line.Title ∷ line.Ready ∷ events_in c.before ++ (line.Migrate ∷ flat_map round_text c.rounds)

-- It goes on: the sides differ in what is owed alone, where the destination's media told their blocks at the start.
pub record Goes {M I : Type 0} (state : M → MediumState I) (s : Script) (blocks : Blocks) (old x : Snapshot M) (lines more : List Line) : Type 0 where
  pub course : Course s blocks
  pub tried : x.tried ≡ true
  pub rounds : x.rounds ≡ length course.rounds
  pub owed : x.owed ≡ course.owed
  pub drawn : x.drawn ≡ course.words
  pub stands : Stands state s x course.world
  pub owes : (others : Blocks) → Tell state s.head old.other others → Owes state s x course.world
  pub side : x.side ≡ Source
  pub lines_are : lines ≡ course_lines course ++ more

-- The lines of an ending but for the last ones.
abbrev pub ending_front : Ending → List Line
ending_front Moved = line.Suspend ∷ []
ending_front Halted = line.Suspend ∷ []
ending_front (Broke events) = events

abbrev pub IsHalt : Ending → Type 0
IsHalt Moved = ⊥
IsHalt Halted = Unit {0}
IsHalt (Broke events) = Unit {0}

-- It is to be given up.
pub record Halts {M I : Type 0} (state : M → MediumState I) (s : Script) (blocks : Blocks) (x : Snapshot M) (lines : List Line) : Type 0 where
  pub course : Course s blocks
  pub tried : x.tried ≡ true
  pub ending : Ending
  pub is_halt : IsHalt ending
  pub world : World
  pub drawn : ℕ
  pub ends : Ends (serial s) course.words (length course.rounds) course.world course.owed ending world drawn
  pub drawn_is : x.drawn ≡ drawn
  pub stands : Stands state s x world
  pub side : x.side ≡ Source
  pub lines_are : lines ≡ course_lines course ++ ending_front ending

abbrev pub side_of : Ending → Side
side_of Moved = Destination
side_of Halted = Source
side_of (Broke events) = Source

-- the side where the guests aren't, after a move: the source holds the world in which they were moved
abbrev pub Behind : {M I : Type 0} → (M → MediumState I) → Script → Ending → List M → List (List ℕ) → World → Type 0
Behind state s Moved other left mid = Tell state s.head other mid.blocks × (left ≡ memory_of s mid.lanes)
Behind state s Halted other left mid = Unit {0}
Behind state s (Broke events) other left mid = Unit {0}

-- It came to its end.
pub record Tried {M I : Type 0} (state : M → MediumState I) (s : Script) (blocks : Blocks) (x : Snapshot M) (lines : List Line) : Type 0 where
  pub course : Course s blocks
  pub tried : x.tried ≡ true
  pub ending : Ending
  pub moved : World
  pub drawn : ℕ
  pub ends : Ends (serial s) course.words (length course.rounds) course.world course.owed ending moved drawn
  pub after : List (List Line)
  pub world : World
  pub are_after : Turns s drawn moved after world
  pub drawn_is : x.drawn ≡ drawn + pieces_in (events_in after)
  pub stands : Stands state s x world
  pub side : x.side ≡ side_of ending
  pub behind : Behind state s ending x.other x.left moved
  pub lines_are : lines ≡ course_lines course ++ (ending_text course.owed ending ++ events_in after)

-- the last line was written
pub record Ended {M I : Type 0} (state : M → MediumState I) (s : Script) (blocks : Blocks) (old x : Snapshot M) (lines : List Line) : Type 0 where
  pub front : List Line
  pub lines_are : lines ≡ front ++ line.End ∷ []
  pub complete : Complete s (among x.lanes)
  pub way : (Untried state s blocks old x front × (s.head.migrate ≡ None)) ⊎ Tried state s blocks x front

abbrev pub StandsAt : {M I : Type 0} → (M → MediumState I) → Script → Blocks → Snapshot M → RunPhase → Snapshot M → List Line → Type 0
StandsAt state s blocks old New x lines = (x ≡ old) × (lines ≡ [])
StandsAt state s blocks old Running x lines = Untried state s blocks old x lines ⊎ Tried state s blocks x lines
StandsAt state s blocks old Moving x lines = Goes state s blocks old x lines []
StandsAt state s blocks old Suspended x lines = Goes state s blocks old x lines (line.Suspend ∷ []) × IsCutDue s.head x.owed x.rounds
StandsAt state s blocks old Stopped x lines = Halts state s blocks x lines
StandsAt state s blocks old Over x lines = Ended state s blocks old x lines

-- The first two lines.

early_start : (wish : Option ℕ) → IsTurnNumber wish → IsEarly wish 0
early_start None is = tt
early_start (Some turn) is = omega (arith, is.0)

pub title : {M I : Type 0} {state : M → MediumState I} {s : Script} {blocks : Blocks} {old y : Snapshot M} {resumed : Bool} → Tells state s blocks resumed old → IsTitle old y → Untried state s blocks old y (line.Title ∷ line.Ready ∷ [])
title {M} {I} {state} {s} {blocks} {old} {y} h r =
    let none : old.turns ≡ 0 = ap (λ (t : Snapshot M). t.turns) h.start in
    subst (λ (z : Snapshot M). Untried state s blocks old z (line.Title ∷ line.Ready ∷ [])) (sym r.after) (record {
      turned = record {
        turns = [];
        world = start_world s.head blocks;
        are = refl;
        drawn = ap (λ (t : Snapshot M). t.drawn) h.start;
        stands = record { task = ap (λ (t : Snapshot M). t.task) h.start; lanes = ap (λ (t : Snapshot M). t.lanes) h.start; tells = h.source };
        side = ap (λ (t : Snapshot M). t.side) h.start;
        other = refl;
        left = refl;
      };
      tried = ap (λ (t : Snapshot M). t.tried) h.start;
      count = none;
      early = subst (λ (n : ℕ). IsEarly s.head.migrate n) (sym none) (early_start s.head.migrate h.script.head.migrate);
      lines_are = refl;
    })

-- A turn.

pub record NextTurn {M I : Type 0} (state : M → MediumState I) (s : Script) (x : Snapshot M) (t : TurnDone) (y : Snapshot M) (w : World) : Type 0 where
  pub v : World
  pub serial_turn : SerialTurn s x.drawn w (turn_lines t) v
  pub lanes : y.lanes ≡ v.lanes
  pub tells : Tell state s.head y.at v.blocks
  pub drawn : y.drawn ≡ x.drawn + pieces_in (turn_lines t)

pub next_turn : {M I : Type 0} {state : M → MediumState I} {moves : I → Step → Bool → I → Type 0} {s : Script} {x : Snapshot M} {side : Side} {t : TurnDone} {y : Snapshot M} {w : World} → TakesTurn state moves x side t y → Stands state s x w → NextTurn state s x t y w
next_turn {M} {I} {state} {moves} {s} {x} {side} {t} {y} {w} r h =
    let told = turn_told state moves s [] (here x) t (here y) w.blocks (subst (λ (k : Task). IsTurn state moves k [] (here x) t (here y)) h.task r.turn) h.tells in
    let unfinished : Complete s (among x.lanes) → ⊥ = subst (λ (k : Task). Complete k.script (among x.lanes) → ⊥) h.task r.unfinished in
    let none = after_failed state moves x.task _ t.items _ r.turn.working refl in
    record {
      v = world_of told.after y.lanes;
      serial_turn = subst (λ (ls : List Lane). SerialTurn s x.drawn (world_of w.blocks ls) (turn_lines t) (world_of told.after y.lanes)) h.lanes (record { turn = told.turn; order = told.alone refl; due = unfinished; some = r.some });
      lanes = refl;
      tells = told.tells;
      drawn = omega (arith, told.drawn, ap (λ (cs : List Copy). length cs) none);
    }

turns_push : (s : Script) (n m : ℕ) (a : World) (turns : List (List Line)) (b : World) (events : List Line) (v : World) → m ≡ n + pieces_in (events_in turns) → Turns s n a turns b → SerialTurn s m b events v → Turns s n a (turns ++ events ∷ []) v
turns_push s n m a turns b events v is are turn = turns_more s n a turns (events ∷ []) b v are (v, subst (λ (k : ℕ). SerialTurn s k b events v) is turn, refl)

events_push : (turns : List (List Line)) (events : List Line) → events_in (turns ++ events ∷ []) ≡ events_in turns ++ events
events_push turns events = events_in_more turns (events ∷ []) ∙ ap (λ (es : List Line). events_in turns ++ es) (append-nil events)

pieces_push : (turns : List (List Line)) (events : List Line) → pieces_in (events_in (turns ++ events ∷ [])) ≡ pieces_in (events_in turns) + pieces_in events
pieces_push turns events = ap pieces_in (events_push turns events) ∙ pieces_in_more (events_in turns) events

-- where a migration isn't due, it isn't due one turn later
early_on : {M : Type 0} (x : Snapshot M) (wish : Option ℕ) → x.tried ≡ false → x.task.script.head.migrate ≡ wish → (IsDue x → ⊥) → IsEarly wish x.turns → IsEarly wish (x.turns + 1)
early_on x None untried asked not early = tt
early_on x (Some turn) untried asked not early =
    ⊎_elim (λ is. absurd (not (record { untried = untried; turn = turn; asked = asked; when = inl is }))) (λ other. omega (arith, early, other)) (cases_eq (x.turns + 1) turn)

pub untried_turn : {M I : Type 0} {state : M → MediumState I} {moves : I → Step → Bool → I → Type 0} {s : Script} {blocks : Blocks} {old x : Snapshot M} {side : Side} {t : TurnDone} {y : Snapshot M} {lines : List Line} →
    TakesTurn state moves x side t y → (u : Untried state s blocks old x lines) → (v : Untried state s blocks old y (lines ++ turn_lines t)) × (v.turned.turns ≡ u.turned.turns ++ turn_lines t ∷ [])
untried_turn {M} {I} {state} {moves} {s} {blocks} {old} {x} {side} {t} {y} {lines} r u =
    let f = u.turned in
    let n = next_turn r f.stands in
    let events = turn_lines t in
    let asked : x.task.script.head.migrate ≡ s.head.migrate = ap (λ (k : Task). k.script.head.migrate) f.stands.task in
    subst (λ (z : Snapshot M). (v : Untried state s blocks old z (lines ++ events)) × (v.turned.turns ≡ f.turns ++ events ∷ [])) (sym r.after) (
      record {
        turned = record {
          turns = f.turns ++ events ∷ [];
          world = n.v;
          are = turns_push s 0 x.drawn (start_world s.head blocks) f.turns f.world events n.v (omega (arith, f.drawn)) f.are n.serial_turn;
          drawn = omega (arith, n.drawn, f.drawn, pieces_push f.turns events);
          stands = record { task = f.stands.task; lanes = n.lanes; tells = n.tells };
          side = f.side;
          other = f.other;
          left = f.left;
        };
        tried = u.tried;
        count = omega (arith, u.count, length-append f.turns (events ∷ []));
        early = early_on x s.head.migrate u.tried asked r.not_due u.early;
        lines_are = ap (λ (ls : List Line). ls ++ events) u.lines_are ∙ ap (λ (es : List Line). line.Title ∷ line.Ready ∷ es) (sym (events_push f.turns events));
      },
      refl,
    )

pub tried_turn : {M I : Type 0} {state : M → MediumState I} {moves : I → Step → Bool → I → Type 0} {s : Script} {blocks : Blocks} {x : Snapshot M} {side : Side} {t : TurnDone} {y : Snapshot M} {lines : List Line} →
    TakesTurn state moves x side t y → (u : Tried state s blocks x lines) → (v : Tried state s blocks y (lines ++ turn_lines t)) × (v.after ≡ u.after ++ turn_lines t ∷ [])
tried_turn {M} {I} {state} {moves} {s} {blocks} {x} {side} {t} {y} {lines} r u =
    let n = next_turn r u.stands in
    let events = turn_lines t in
    subst (λ (z : Snapshot M). (v : Tried state s blocks z (lines ++ events)) × (v.after ≡ u.after ++ events ∷ [])) (sym r.after) (
      record {
        course = u.course;
        tried = u.tried;
        ending = u.ending;
        moved = u.moved;
        drawn = u.drawn;
        ends = u.ends;
        after = u.after ++ events ∷ [];
        world = n.v;
        are_after = turns_push s u.drawn x.drawn u.moved u.after u.world events n.v u.drawn_is u.are_after n.serial_turn;
        drawn_is = omega (arith, n.drawn, u.drawn_is, pieces_push u.after events);
        stands = record { task = u.stands.task; lanes = n.lanes; tells = n.tells };
        side = u.side;
        behind = u.behind;
        lines_are = ap (λ (ls : List Line). ls ++ events) u.lines_are ∙ append_assoc (course_lines u.course) (ending_text u.course.owed u.ending ++ events_in u.after) events
            ∙ ap (λ (ls : List Line). course_lines u.course ++ ls) (append_assoc (ending_text u.course.owed u.ending) (events_in u.after) events
            ∙ ap (λ (es : List Line). ending_text u.course.owed u.ending ++ es) (sym (events_push u.after events)));
      },
      refl,
    )

-- A migration.

pub begin : {M I : Type 0} {state : M → MediumState I} {s : Script} {blocks : Blocks} {old x y : Snapshot M} {lines : List Line} → IsBegin x y → Untried state s blocks old x lines → Goes state s blocks old y (lines ++ line.Migrate ∷ []) []
begin {M} {I} {state} {s} {blocks} {old} {x} {y} {lines} r u =
    let f = u.turned in
    let turn = r.due.turn in
    let asked : s.head.migrate ≡ Some turn = subst (λ (k : Task). k.script.head.migrate ≡ Some turn) f.stands.task r.due.asked in
    let few : x.turns < turn = subst (λ (wish : Option ℕ). IsEarly wish x.turns) asked u.early in
    let owed : x.task.script.head ≡ s.head = ap (λ (k : Task). k.script.head) f.stands.task in
    subst (λ (z : Snapshot M). Goes state s blocks old z (lines ++ line.Migrate ∷ []) []) (sym r.after) (record {
      course = record {
        turn = turn;
        asked = asked;
        before = f.turns;
        mid = f.world;
        are_before = f.are;
        begins = (
          omega (arith, few, u.count),
          ⊎_elim (λ is. inl (omega (arith, is, u.count)))
              (λ complete. inr (subst (λ (ls : List Lane). Complete s (among ls)) f.stands.lanes (subst (λ (k : Task). Complete k.script (among x.lanes)) f.stands.task complete))) r.due.when,
        );
        rounds = [];
        world = f.world;
        owed = all_owed s.head;
        words = pieces_in (events_in f.turns);
        in_rounds = (refl, refl, refl);
      };
      tried = refl;
      rounds = refl;
      owed = ap all_owed owed;
      drawn = f.drawn;
      stands = record { task = f.stands.task; lanes = f.stands.lanes; tells = f.stands.tells };
      owes = λ others told.
          let tells = subst (λ (media : List M). Tell state s.head media others) (sym f.other) told in
          record {
            others = others;
            tells = tells;
            differ = subst (λ (q : _). DifferIn s.head.blocks (all_owed q).blocks f.world.blocks others) (sym owed)
                (all_differ s.head.blocks f.world.blocks others (told_length state s.head x.at f.world.blocks f.stands.tells) (told_length state s.head x.other others tells));
          };
      side = f.side;
      lines_are = ap (λ (ls : List Line). ls ++ line.Migrate ∷ []) u.lines_are ∙ sym (append-nil (line.Title ∷ line.Ready ∷ events_in f.turns ++ line.Migrate ∷ []));
    })

round_push : (rounds : List RoundText) (r : RoundText) → flat_map round_text (rounds ++ r ∷ []) ≡ flat_map round_text rounds ++ round_text r
round_push rounds r = flat_map-append round_text rounds (r ∷ []) ∙ ap (λ (ls : List Line). flat_map round_text rounds ++ ls) (append-nil (round_text r))

pub round : {M I : Type 0} {state : M → MediumState I} {moves : I → Step → Bool → I → Type 0} {s : Script} {blocks : Blocks} {old x : Snapshot M} {side : Side} {n : ℕ} {t : TurnDone} {lost : Bool} {b p : ℕ} {y : Snapshot M} {lines : List Line} →
    IsRound state moves x side n t lost b p y → (g : Goes state s blocks old x lines []) →
    (v : Goes state s blocks old y (lines ++ lines_of (Round side n t lost b p)) []) × (text : RoundText) × (text.events ≡ turn_lines t) × (v.course.rounds ≡ g.course.rounds ++ text ∷ [])
round {M} {I} {state} {moves} {s} {blocks} {old} {x} {side} {n} {t} {lost} {b} {p} {y} {lines} r g =
    let c = g.course in
    let next = next_round state moves s x side n t lost b p y c.world r g.stands in
    let text : RoundText = record { events = turn_lines t; restarted = lost; owed = y.owed } in
    let is = subst (λ (o : Owed). IsRoundText (serial s) c.words (0 + length c.rounds) c.world o text next.v) g.owed (subst (λ (k : ℕ). IsRoundText (serial s) c.words k c.world x.owed text next.v) (omega (arith, g.rounds))
    (subst (λ (k : ℕ). IsRoundText (serial s) k x.rounds c.world x.owed text next.v) g.drawn next.is)) in
    let same : round_text text ≡ lines_of (Round side n t lost b p) = ap (λ (m : ℕ). turn_lines t ++ (restart_line lost ++ line.Round m (length y.owed.pages) ∷ [])) (sym r.told.0) ∙ ap (λ (m : ℕ). turn_lines t ++ (restart_line lost ++ line.Round b m ∷ [])) (sym r.told.1) in
    let front = line.Title ∷ line.Ready ∷ events_in c.before in (
      record {
        course = record {
          turn = c.turn;
          asked = c.asked;
          before = c.before;
          mid = c.mid;
          are_before = c.are_before;
          begins = c.begins;
          rounds = c.rounds ++ text ∷ [];
          world = next.v;
          owed = y.owed;
          words = c.words + pieces_in (turn_lines t) + copies_due s c.owed;
          in_rounds = rounds_more (serial s) (pieces_in (events_in c.before)) 0 c.mid (all_owed s.head) c.rounds c.world c.owed c.words text next.v c.in_rounds is;
        };
        tried = ap (λ (z : Snapshot M). z.tried) r.after ∙ g.tried;
        rounds = ap (λ (z : Snapshot M). z.rounds) r.after ∙ omega (arith, g.rounds, length-append c.rounds (text ∷ []));
        owed = refl;
        drawn = omega (arith, next.drawn, g.drawn, ap (λ (o : Owed). copies_due s o) g.owed);
        stands = record { task = ap (λ (z : Snapshot M). z.task) r.after ∙ g.stands.task; lanes = next.lanes; tells = next.tells };
        owes = λ others told. next.owes (g.owes others told);
        side = ap (λ (z : Snapshot M). z.side) r.after ∙ g.side;
        lines_are = ap (λ (ls : List Line). ls ++ lines_of (Round side n t lost b p)) (g.lines_are ∙ append-nil (course_lines c)) ∙ append_assoc front (line.Migrate ∷ flat_map round_text c.rounds) (lines_of (Round side n t lost b p))
            ∙ ap (λ (ls : List Line). front ++ (line.Migrate ∷ ls)) (ap (λ (ls : List Line). flat_map round_text c.rounds ++ ls) (sym same) ∙ sym (round_push c.rounds text)) ∙ sym (append-nil (front ++ (line.Migrate ∷ flat_map round_text (c.rounds ++ text ∷ []))));
      },
      text,
      refl,
      refl,
    )

-- The guests are suspended where this is due.

-- where it stands is where it stood before its text
due_on : (s : Script) (k l : Task) (o q : Owed) (m n : ℕ) → k ≡ serial s → o ≡ q → m ≡ n → IsCutDue k.script.head o m → IsCutDue s.head q n
due_on s k l o q m n task owed rounds due = subst (λ (i : ℕ). IsCutDue s.head q i) rounds (subst (λ (p : Owed). IsCutDue s.head p m) owed (subst (λ (j : Task). IsCutDue j.script.head o m) task due))

pub suspend : {M I : Type 0} {state : M → MediumState I} {s : Script} {blocks : Blocks} {old x y : Snapshot M} {lines : List Line} → IsSuspend x y → Goes state s blocks old x lines [] → Goes state s blocks old y (lines ++ line.Suspend ∷ []) (line.Suspend ∷ []) × IsCutDue s.head y.owed y.rounds
suspend {M} {I} {state} {s} {blocks} {old} {x} {y} {lines} r g =
    subst (λ (z : Snapshot M). Goes state s blocks old z (lines ++ line.Suspend ∷ []) (line.Suspend ∷ []) × IsCutDue s.head z.owed z.rounds) (sym r.after) (
      record {
        course = g.course;
        tried = g.tried;
        rounds = g.rounds;
        owed = g.owed;
        drawn = g.drawn;
        stands = record { task = g.stands.task; lanes = g.stands.lanes; tells = g.stands.tells };
        owes = λ others told. let o = g.owes others told in record { others = o.others; tells = o.tells; differ = o.differ };
        side = g.side;
        lines_are = ap (λ (ls : List Line). ls ++ line.Suspend ∷ []) (g.lines_are ∙ append-nil (course_lines g.course));
      },
      due_on s x.task x.task x.owed x.owed x.rounds x.rounds g.stands.task refl refl r.due,
    )

pub resume : {M I : Type 0} {state : M → MediumState I} {moves : I → Step → Bool → I → Type 0} {s : Script} {blocks : Blocks} {old x : Snapshot M} {side : Side} {n : ℕ} {copies : List Copy} {pages : ℕ} {y : Snapshot M} {lines : List Line} →
    IsResume state moves x side n copies pages y → (g : Goes state s blocks old x lines (line.Suspend ∷ [])) → Owes state s x g.course.world → IsCutDue s.head x.owed x.rounds →
    (v : Tried state s blocks y (lines ++ lines_of (Resume side n copies pages))) × (v.ending ≡ Moved) × (v.moved ≡ v.world)
resume {M} {I} {state} {moves} {s} {blocks} {old} {x} {side} {n} {copies} {pages} {y} {lines} r g o due =
    let c = g.course in
    let task = g.stands.task in
    let gets = subst (λ (k : Task). Chain (IsAt state moves) x.at (suspend_mark k.script n ++ (flat_map (gets_of k.script.head.shelf) copies ++ resume_mark k.script n)) y.other) task r.gets in
    let puts = subst (λ (k : Task). Chain (IsAt state moves) x.other (suspend_mark k.script n ++ (flat_map (puts_of k.script.head.shelf) copies ++ resume_mark k.script n)) y.at) task r.puts in
    let both = resume_same state moves s n s.head.blocks x.owed.blocks copies x.at x.other y.other y.at c.world.blocks o.others r.copies_all gets puts g.stands.tells o.tells o.differ in
    let count : length copies ≡ length c.owed.blocks = sym (length-map copies (λ (k : Copy). k.block)) ∙ ap (λ (bs : List ℕ). length bs) r.copies_all.each ∙ ap (λ (o : Owed). length o.blocks) g.owed in
    let few : pages ≡ length c.owed.pages = r.told ∙ ap (λ (o : Owed). length o.pages) g.owed in
    subst (λ (z : Snapshot M). (v : Tried state s blocks z (lines ++ lines_of (Resume side n copies pages))) × (v.ending ≡ Moved) × (v.moved ≡ v.world)) (sym r.after) (
      record {
        course = c;
        tried = g.tried;
        ending = Moved;
        moved = c.world;
        drawn = c.words;
        ends = (due_on s (serial s) (serial s) x.owed c.owed x.rounds (length c.rounds) refl g.owed g.rounds due, refl, refl);
        after = [];
        world = c.world;
        are_after = refl;
        drawn_is = omega (arith, g.drawn);
        stands = record { task = task; lanes = g.stands.lanes; tells = both.1 };
        side = ap opposite g.side;
        behind = (both.0, ap (λ (k : Task). memory_of k.script x.lanes) task ∙ ap (memory_of s) g.stands.lanes);
        lines_are = ap (λ (ls : List Line). ls ++ lines_of (Resume side n copies pages)) g.lines_are ∙ append_assoc (course_lines c) (line.Suspend ∷ []) (lines_of (Resume side n copies pages))
            ∙ ap (λ (m : ℕ). course_lines c ++ (line.Suspend ∷ line.Pause m pages ∷ line.ResumeTo ∷ [])) count ∙ ap (λ (m : ℕ). course_lines c ++ (line.Suspend ∷ line.Pause (length c.owed.blocks) m ∷ line.ResumeTo ∷ [])) few;
      },
      refl,
      refl,
    )

-- A copy failed.

gets_tell : {M I : Type 0} (state : M → MediumState I) (moves : I → Step → Bool → I → Type 0) (s : Script) (copies : List Copy) (from left : List M) (x : Blocks) → Chain (IsAt state moves) from (flat_map (gets_of s.head.shelf) copies) left → Tell state s.head from x → Tell state s.head left x
gets_tell {M} state moves s [] from left x g t = subst (λ (ms : List M). Tell state s.head ms x) (sym g) t
gets_tell state moves s (c ∷ copies) from left x g t =
    let both = chain_split (IsAt state moves) (gets_of s.head.shelf c) (flat_map (gets_of s.head.shelf) copies) from left g in
    gets_tell state moves s copies both.0 left x both.2 (copy_here state moves s c from both.0 x both.1 t)

pub stop : {M I : Type 0} {state : M → MediumState I} {moves : I → Step → Bool → I → Type 0} {s : Script} {blocks : Blocks} {old x : Snapshot M} {side : Side} {n : ℕ} {copies : List Copy} {y : Snapshot M} {lines : List Line} →
    IsStop state moves x side n copies y → Goes state s blocks old x lines (line.Suspend ∷ []) → IsCutDue s.head x.owed x.rounds → Halts state s blocks y (lines ++ [])
stop {M} {I} {state} {moves} {s} {blocks} {old} {x} {side} {n} {copies} {y} {lines} r g due =
    let c = g.course in
    let task = g.stands.task in
    let gets = subst (λ (k : Task). Chain (IsAt state moves) x.at (suspend_mark k.script n ++ flat_map (gets_of k.script.head.shelf) copies) y.at) task r.gets in
    let both = chain_split (IsAt state moves) (suspend_mark s n) (flat_map (gets_of s.head.shelf) copies) x.at y.at gets in
    subst (λ (z : Snapshot M). Halts state s blocks z (lines ++ [])) (sym r.after) (record {
      course = c;
      tried = g.tried;
      ending = Halted;
      is_halt = tt;
      world = c.world;
      drawn = c.words;
      ends = (due_on s (serial s) (serial s) x.owed c.owed x.rounds (length c.rounds) refl g.owed g.rounds due, refl, refl);
      drawn_is = g.drawn;
      stands = record { task = task; lanes = g.stands.lanes; tells = gets_tell state moves s copies both.0 y.at c.world.blocks both.2 (marks_tell state moves s (3 * n + 1) x.at both.0 c.world.blocks both.1 g.stands.tells) };
      side = g.side;
      lines_are = append-nil lines ∙ g.lines_are;
    })

-- no more copies than were due, and some where not all were made
few_copies : {M I : Type 0} (state : M → MediumState I) (moves : I → Step → Bool → I → Type 0) (task : Task) (x : Here M) (items : List Item) (y : Here M) → Chain (IsItem state moves task) x items y → length (copies_of items) ≤ length x.due
few_copies state moves task x [] y c = omega arith
few_copies {M} state moves task x (Served p ∷ items) y c = omega (arith, few_copies state moves task c.0 items y c.2, ap (λ (h : Here M). length h.due) c.1.after)
few_copies {M} state moves task x (Crossed k ∷ items) y c =
    omega (arith, few_copies state moves task c.0 items y c.2, ap (λ (h : Here M). length h.due) c.1.after, due_fewer k.ended (c.1.front ++ c.1.others), ap (λ (ds : List ℕ). length ds) c.1.due, length-append c.1.front (k.block ∷ c.1.others), length-append c.1.front c.1.others)
  where
    due_fewer : (ended : CopyEnd) (ds : List ℕ) → length (due_after ended ds) ≤ length ds
    due_fewer Copied ds = omega arith
    due_fewer NotRead ds = omega arith
    due_fewer NotWritten ds = omega arith

some_copies : (copies : List Copy) → (AllCopied copies → ⊥) → 1 ≤ length copies
some_copies [] not = absurd (not tt)
some_copies (c ∷ copies) not = omega arith

pub broken : {M I : Type 0} {state : M → MediumState I} {moves : I → Step → Bool → I → Type 0} {s : Script} {blocks : Blocks} {old x : Snapshot M} {side : Side} {n : ℕ} {t : TurnDone} {y : Snapshot M} {lines : List Line} →
    IsBroken state moves x side n t y → Goes state s blocks old x lines [] → (v : Halts state s blocks y (lines ++ turn_lines t)) × (v.ending ≡ Broke (turn_lines t))
broken {M} {I} {state} {moves} {s} {blocks} {old} {x} {side} {n} {t} {y} {lines} r g =
    let c = g.course in
    let task = g.stands.task in
    let next = next_broken state moves s x side n t y c.world r.moving g.stands in
    let few : length (copies_of t.items) ≤ copies_due s c.owed = subst (λ (o : Owed). length (copies_of t.items) ≤ copies_due s o) g.owed
    (subst (λ (k : Task). length (copies_of t.items) ≤ copies_due k.script x.owed) task (few_copies state moves x.task _ t.items _ r.moving.turn.working)) in
    let not : IsCutDue s.head c.owed (length c.rounds) → ⊥ = λ due. r.moving.not_due
    (subst (λ (k : Task). IsCutDue k.script.head x.owed x.rounds) (sym task) (due_on s (serial s) (serial s) c.owed x.owed (length c.rounds) x.rounds refl (sym g.owed) (sym g.rounds) due)) in (
      record {
        course = c;
        tried = ap (λ (z : Snapshot M). z.tried) r.after ∙ g.tried;
        ending = Broke (turn_lines t);
        is_halt = tt;
        world = next.v;
        drawn = y.drawn;
        ends = (
          not,
          next.turn,
          (λ none. subst (λ (ls : List Lane). Complete s (among ls)) g.stands.lanes (subst (λ (k : Task). Complete k.script (among x.lanes)) task (r.moving.some none))),
          length (copies_of t.items),
          some_copies (copies_of t.items) r.failed,
          few,
          omega (arith, next.drawn, g.drawn),
        );
        drawn_is = refl;
        stands = record { task = ap (λ (z : Snapshot M). z.task) r.after ∙ task; lanes = next.lanes; tells = next.tells };
        side = ap (λ (z : Snapshot M). z.side) r.after ∙ g.side;
        lines_are = ap (λ (ls : List Line). ls ++ turn_lines t) (g.lines_are ∙ append-nil (course_lines c));
      },
      refl,
    )

-- It is given up.

halt_text : (owed : Owed) (ending : Ending) → IsHalt ending → ending_front ending ++ line.GiveUp ∷ [] ≡ ending_text owed ending ++ []
halt_text owed Moved is = absurd is
halt_text owed Halted is = refl
halt_text owed (Broke events) is = sym (append-nil (events ++ line.GiveUp ∷ []))

halt_side : (ending : Ending) → IsHalt ending → side_of ending ≡ Source
halt_side Moved is = absurd is
halt_side Halted is = refl
halt_side (Broke events) is = refl

halt_behind : {M I : Type 0} (state : M → MediumState I) (s : Script) (ending : Ending) (other : List M) (left : List (List ℕ)) (mid : World) → IsHalt ending → Behind state s ending other left mid
halt_behind state s Moved other left mid is = absurd is
halt_behind state s Halted other left mid is = tt
halt_behind state s (Broke events) other left mid is = tt

pub give_up : {M I : Type 0} {state : M → MediumState I} {moves : I → Step → Bool → I → Type 0} {s : Script} {blocks : Blocks} {x : Snapshot M} {n : ℕ} {y : Snapshot M} {lines : List Line} → IsGiveUp state moves x n y → Halts state s blocks x lines → Tried state s blocks y (lines ++ line.GiveUp ∷ [])
give_up {M} {I} {state} {moves} {s} {blocks} {x} {n} {y} {lines} r h =
    let marked = subst (λ (k : Task). Chain (IsAt state moves) x.at (resume_mark k.script n) y.at) h.stands.task r.here_marked in
    subst (λ (z : Snapshot M). Tried state s blocks z (lines ++ line.GiveUp ∷ [])) (sym r.after) (record {
      course = h.course;
      tried = h.tried;
      ending = h.ending;
      moved = h.world;
      drawn = h.drawn;
      ends = h.ends;
      after = [];
      world = h.world;
      are_after = refl;
      drawn_is = omega (arith, h.drawn_is);
      stands = record { task = h.stands.task; lanes = h.stands.lanes; tells = marks_tell state moves s (3 * n + 2) x.at y.at h.world.blocks marked h.stands.tells };
      side = h.side ∙ sym (halt_side h.ending h.is_halt);
      behind = halt_behind state s h.ending y.other x.left h.world h.is_halt;
      lines_are = ap (λ (ls : List Line). ls ++ line.GiveUp ∷ []) h.lines_are ∙ append_assoc (course_lines h.course) (ending_front h.ending) (line.GiveUp ∷ [])
          ∙ ap (λ (ls : List Line). course_lines h.course ++ ls) (halt_text h.course.owed h.ending h.is_halt);
    })

-- The last line.

no_wish : {M : Type 0} (x : Snapshot M) (wish : Option ℕ) → x.tried ≡ false → x.task.script.head.migrate ≡ wish → (IsDue x → ⊥) → AreComplete x → wish ≡ None
no_wish x None untried asked not complete = refl
no_wish x (Some turn) untried asked not complete = absurd (not (record { untried = untried; turn = turn; asked = asked; when = inr complete }))

-- the last line changes nothing else

pub untried_end : {M I : Type 0} {state : M → MediumState I} {s : Script} {blocks : Blocks} {old x y : Snapshot M} {lines : List Line} → IsEnd x y → Untried state s blocks old x lines → Untried state s blocks old y lines
untried_end {M} {I} {state} {s} {blocks} {old} {x} {y} {lines} r u =
    subst (λ (z : Snapshot M). Untried state s blocks old z lines) (sym r.after) (record {
      turned = record {
        turns = u.turned.turns;
        world = u.turned.world;
        are = u.turned.are;
        drawn = u.turned.drawn;
        stands = record { task = u.turned.stands.task; lanes = u.turned.stands.lanes; tells = u.turned.stands.tells };
        side = u.turned.side;
        other = u.turned.other;
        left = u.turned.left;
      };
      tried = u.tried;
      count = u.count;
      early = u.early;
      lines_are = u.lines_are;
    })

pub tried_end : {M I : Type 0} {state : M → MediumState I} {s : Script} {blocks : Blocks} {x y : Snapshot M} {lines : List Line} → IsEnd x y → Tried state s blocks x lines → Tried state s blocks y lines
tried_end {M} {I} {state} {s} {blocks} {x} {y} {lines} r u =
    subst (λ (z : Snapshot M). Tried state s blocks z lines) (sym r.after) (record {
      course = u.course;
      tried = u.tried;
      ending = u.ending;
      moved = u.moved;
      drawn = u.drawn;
      ends = u.ends;
      after = u.after;
      world = u.world;
      are_after = u.are_after;
      drawn_is = u.drawn_is;
      stands = record { task = u.stands.task; lanes = u.stands.lanes; tells = u.stands.tells };
      side = u.side;
      behind = u.behind;
      lines_are = u.lines_are;
    })

complete_end : {M : Type 0} {s : Script} {x y : Snapshot M} → IsEnd x y → x.task ≡ serial s → Complete s (among y.lanes)
complete_end {M} {s} {x} {y} r task =
    subst (λ (z : Snapshot M). Complete s (among z.lanes)) (sym r.after) (subst (λ (k : Task). Complete k.script (among x.lanes)) task r.complete)

pub end : {M I : Type 0} {state : M → MediumState I} {s : Script} {blocks : Blocks} {old x y : Snapshot M} {lines : List Line} → IsEnd x y → Untried state s blocks old x lines ⊎ Tried state s blocks x lines →
    Ended state s blocks old y (lines ++ line.End ∷ [])
end {s = s} {x = x} {lines = lines} r (inl u) =
    let asked : x.task.script.head.migrate ≡ s.head.migrate = ap (λ (k : Task). k.script.head.migrate) u.turned.stands.task in
    record { front = lines; lines_are = refl; complete = complete_end r u.turned.stands.task; way = inl (untried_end r u, no_wish x s.head.migrate u.tried asked r.not_due r.complete) }
end {lines = lines} r (inr u) = record { front = lines; lines_are = refl; complete = complete_end r u.stands.task; way = inr (tried_end r u) }

-- A stage, and all.

pub at_phase : {M I : Type 0} (state : M → MediumState I) (s : Script) (blocks : Blocks) (old x : Snapshot M) (lines : List Line) (p : RunPhase) → x.phase ≡ p → StandsAt state s blocks old x.phase x lines → StandsAt state s blocks old p x lines
at_phase state s blocks old x lines p is h = subst (λ (q : RunPhase). StandsAt state s blocks old q x lines) is h

to_phase : {M I : Type 0} (state : M → MediumState I) (s : Script) (blocks : Blocks) (old x z : Snapshot M) (lines : List Line) → x ≡ z → StandsAt state s blocks old z.phase x lines → StandsAt state s blocks old x.phase x lines
to_phase {M} state s blocks old x z lines is h = subst (λ (q : RunPhase). StandsAt state s blocks old q x lines) (sym (ap (λ (t : Snapshot M). t.phase) is)) h

by_after : {M I : Type 0} (state : M → MediumState I) (s : Script) (blocks : Blocks) (old x : Snapshot M) (lines : List Line) (p : RunPhase) → x.phase ≡ p → StandsAt state s blocks old p x lines → StandsAt state s blocks old x.phase x lines
by_after state s blocks old x lines p is h = subst (λ (q : RunPhase). StandsAt state s blocks old q x lines) (sym is) h

pub stage_stands : {M I : Type 0} (state : M → MediumState I) (moves : I → Step → Bool → I → Type 0) (s : Script) (blocks : Blocks) (old x : Snapshot M) (stage : Stage) (y : Snapshot M) (lines : List Line) {resumed : Bool} → Tells state s blocks resumed old → (resumes stage ≡ true → resumed ≡ true) → IsStage state moves x stage y →
    StandsAt state s blocks old x.phase x lines → StandsAt state s blocks old y.phase y (lines ++ lines_of stage)
stage_stands {M} state moves s blocks old x Title y lines t m r h =
    let was = at_phase state s blocks old x lines New r.was h in
    let first : IsTitle old y = subst (λ (z : Snapshot M). IsTitle z y) was.0 r in
    to_phase state s blocks old y _ (lines ++ lines_of Title) r.after (inl (subst (λ (ls : List Line). Untried state s blocks old y (ls ++ lines_of Title)) (sym was.1) (title t first)))
stage_stands state moves s blocks old x (Turn side turn) y lines t m r h =
    to_phase state s blocks old y _ (lines ++ turn_lines turn) r.after
    (subst (λ (q : RunPhase). StandsAt state s blocks old q y (lines ++ turn_lines turn)) (sym r.was)
    (⊎_elim (λ u. inl (untried_turn r u).0) (λ u. inr (tried_turn r u).0) (at_phase state s blocks old x lines Running r.was h)))
stage_stands state moves s blocks old x Begin y lines t m r h =
    to_phase state s blocks old y _ (lines ++ lines_of Begin) r.after
    (⊎_elim (λ u. begin r u) (λ u. let untried = r.due.untried in let tried = u.tried in absurd cc) (at_phase state s blocks old x lines Running r.was h))
stage_stands {M} state moves s blocks old x (Round side n d lost b p) y lines t m r h =
    by_after state s blocks old y (lines ++ lines_of (Round side n d lost b p)) Moving (ap (λ (z : Snapshot M). z.phase) r.after ∙ r.moving.was) (round r (at_phase state s blocks old x lines Moving r.moving.was h)).0
stage_stands {M} state moves s blocks old x (Broken side n d) y lines t m r h =
    by_after state s blocks old y (lines ++ turn_lines d) Stopped (ap (λ (z : Snapshot M). z.phase) r.after) (broken r (at_phase state s blocks old x lines Moving r.moving.was h)).0
stage_stands {M} state moves s blocks old x Suspend y lines t m r h =
    by_after state s blocks old y (lines ++ lines_of Suspend) Suspended (ap (λ (z : Snapshot M). z.phase) r.after) (suspend r (at_phase state s blocks old x lines Moving r.was h))
stage_stands {M} state moves s blocks old x (Resume side n copies pages) y lines t m r h =
    let was = at_phase state s blocks old x lines Suspended r.was h in
    let to = t.destination (m refl) in
    by_after state s blocks old y (lines ++ lines_of (Resume side n copies pages)) Running (ap (λ (z : Snapshot M). z.phase) r.after) (inr (resume r was.0 (was.0.owes to.0 to.1) was.1).0)
stage_stands {M} state moves s blocks old x (Stop side n copies) y lines t m r h =
    let was = at_phase state s blocks old x lines Suspended r.was h in
    by_after state s blocks old y (lines ++ []) Stopped (ap (λ (z : Snapshot M). z.phase) r.after) (stop r was.0 was.1)
stage_stands {M} state moves s blocks old x (GiveUp n) y lines t m r h =
    by_after state s blocks old y (lines ++ line.GiveUp ∷ []) Running (ap (λ (z : Snapshot M). z.phase) r.after) (inr (give_up r (at_phase state s blocks old x lines Stopped r.was h)))
stage_stands state moves s blocks old x End y lines t m r h =
    to_phase state s blocks old y _ (lines ++ lines_of End) r.after (end r (at_phase state s blocks old x lines Running r.was h))

pub or_right : (a b : Bool) → b ≡ true → (a || b) ≡ true
or_right true b is = refl
or_right false b is = is

stages_stand : {M I : Type 0} (state : M → MediumState I) (moves : I → Step → Bool → I → Type 0) (s : Script) (blocks : Blocks) (old x : Snapshot M) (stages : List Stage) (y : Snapshot M) (lines : List Line) {resumed : Bool} → Tells state s blocks resumed old → (have_resumed stages ≡ true → resumed ≡ true) → Chain (IsStage state moves) x stages y →
    StandsAt state s blocks old x.phase x lines → StandsAt state s blocks old y.phase y (lines ++ lines_in stages)
stages_stand {M} state moves s blocks old x [] y lines t m c h =
    subst (λ (z : Snapshot M). StandsAt state s blocks old z.phase z (lines ++ [])) (sym c) (subst (λ (ls : List Line). StandsAt state s blocks old x.phase x ls) (sym (append-nil lines)) h)
stages_stand state moves s blocks old x (stage ∷ stages) y lines t m c h =
    subst (λ (ls : List Line). StandsAt state s blocks old y.phase y ls) (append_assoc lines (lines_of stage) (lines_in stages))
    (stages_stand state moves s blocks old c.0 stages y (lines ++ lines_of stage) t (λ later. m (or_right (resumes stage) (have_resumed stages) later)) c.2
    (stage_stands state moves s blocks old x stage c.0 lines t (λ now. m (ap (λ (b : Bool). b || have_resumed stages) now)) c.1 h))

-- from the start on
pub run_stands : {M I : Type 0} (state : M → MediumState I) (moves : I → Step → Bool → I → Type 0) (s : Script) (blocks : Blocks) (old : Snapshot M) (stages : List Stage) (new : Snapshot M) {resumed : Bool} → Tells state s blocks resumed old → (have_resumed stages ≡ true → resumed ≡ true) → Chain (IsStage state moves) old stages new →
    StandsAt state s blocks old new.phase new (lines_in stages)
run_stands {M} state moves s blocks old stages new t m c =
    stages_stand state moves s blocks old old stages new [] t m c (subst (λ (p : RunPhase). StandsAt state s blocks old p old []) (sym (ap (λ (z : Snapshot M). z.phase) t.start)) (refl, refl))
