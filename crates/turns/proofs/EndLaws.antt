use Rattle.std.proofs.Common.{◌≡◌, ◌⊎◌, ◌&&◌, ◌||◌, ℕ, inl, inr, Bool, true, false, List, [], ◌∷◌, ◌++◌, Option, Some, None, length, refl, sym, ap, subst, ◌∙◌, append_assoc, append-nil}
use Rattle.std.specs.List.{AllByRecursion, flat_map}
use Rattle.std.specs.Option.{option_map}
use Rattle.std.proofs.lemmas.Bool.{false≢true}
use Rattle.mig_base.proofs.ListLemmas.{all_append}
use Rattle.nvm_model.specs.declared.line.Line.{Line}
use Rattle.nvm_model.specs.declared.line.Line.TheVariants as line
use Rattle.nvm_model.specs.declared.script.Script.{Script}
use Rattle.nvm_model.specs.declared.trace.Step.{Step}
use Rattle.nvm_model.specs.Chain.{Chain}
use Rattle.nvm_model.specs.History.{AreEvents, Complete, Reaches, events_before_resume, events_of, has_given_up, is_give_up, lines_before_resume}
use Rattle.nvm_model.specs.Medium.{MediumState, told_in}
use Rattle.nvm_model.specs.Owed.{Owed}
use Rattle.nvm_model.specs.Rounds.{Ending, Moves, MovesInRounds, RoundText, ending_text, round_text}
use Rattle.nvm_model.specs.Rounds.Ending.{Moved, Halted, Broke}
use Rattle.nvm_model.specs.ScriptText.{IsScript}
use Rattle.nvm_model.specs.Shelf.{joined}
use Rattle.nvm_model.specs.Turn.{Begins, events_in, pieces_in}
use Rattle.nvm_model.specs.World.{Lane, World}
use Rattle.nvm_model.specs.declared.run.RunPhase.{RunPhase}
use Rattle.nvm_model.specs.declared.run.RunPhase.TheVariants.{Over}
use Rattle.nvm_model.specs.declared.run.Side.{Side}
use Rattle.nvm_model.specs.declared.run.Side.TheVariants.{Source, Destination}
use Rattle.nvm_model.specs.Run.{IsStage, Snapshot, Stage, Task, among, by_side, lines_in, memory_at, memory_of, restart_line}
use Rattle.nvm_model.specs.Told.{HasRun, have_resumed, Holds, IsUntouched, SidesHold, Tell, Tells, is_source, serial}
use Rattle.turns.proofs.LineLaws.{all_events, events_more}
use Rattle.turns.proofs.PieceLaws.{Blocks}
use Rattle.turns.proofs.RoundLaws.{Stands}
use Rattle.turns.proofs.ToldLaws.{Behind, Ended, StandsAt, Tried, Untried, course_lines, run_stands, side_of}
use Rattle.turns.proofs.WholeLaws.{EachEvents, Whole, before_events, after_events, ending_events, in_turns, is_legal, is_whole, last_lines, moving_each, reaches_moved, text_is, way_of, whole_are_lines, whole_lines}

-- A run that came to its end.

-- What a side holds.

by_same : {X : Type 0} (who : Side) (a b : X) → by_side who who a b ≡ a
by_same Source a b = refl
by_same Destination a b = refl

-- the side on which the guests stand
pub holds_here : {M I : Type 0} {state : M → MediumState I} {s : Script} {x : Snapshot M} {w : World} (who : Side) → x.side ≡ who → Stands state s x w → Holds state s who x w
holds_here {M} {I} {state} {s} {x} {w} who side h =
    let memory = memory_of x.task.script x.lanes in
    record {
      blocks = ap (λ (k : Side). joined (told_in state (by_side who k x.at x.other))) side ∙ ap (λ (media : List M). joined (told_in state media)) (by_same who x.at x.other) ∙ h.tells.told;
      memory_is = ap (λ (k : Side). by_side who k memory x.left) side ∙ by_same who memory x.left ∙ ap (λ (k : Task). memory_of k.script x.lanes) h.task ∙ ap (memory_of s) h.lanes;
    }

-- the source, where they were moved
pub holds_behind : {M I : Type 0} {state : M → MediumState I} {s : Script} {x : Snapshot M} {w : World} → x.side ≡ Destination → Tell state s.head x.other w.blocks → x.left ≡ memory_of s w.lanes → Holds state s Source x w
holds_behind {M} {I} {state} {s} {x} {w} side tells left = record {
  blocks = ap (λ (k : Side). joined (told_in state (by_side Source k x.at x.other))) side ∙ tells.told;
  memory_is = ap (λ (k : Side). by_side Source k (memory_of x.task.script x.lanes) x.left) side ∙ left;
}

-- the destination, where the guests stand at the source
memory_behind : {M : Type 0} (x : Snapshot M) → x.side ≡ Source → memory_at Destination x ≡ x.left
memory_behind x side = ap (λ (k : Side). by_side Destination k (memory_of x.task.script x.lanes) x.left) side

pub is_untouched : {M : Type 0} (old new : Snapshot M) → old.side ≡ Source → new.side ≡ Source → new.other ≡ old.other → new.left ≡ old.left → IsUntouched old new
is_untouched old new was side other left = record {
  media = ap (λ (k : Side). by_side Destination k new.at new.other) side ∙ other ∙ sym (ap (λ (k : Side). by_side Destination k old.at old.other) was);
  memory = memory_behind new side ∙ left ∙ sym (memory_behind old was);
}

-- Lines that tell no end of a migration.

abbrev pub IsPlain : Line → Type 0
IsPlain line.ResumeTo = ⊥
IsPlain line.GiveUp = ⊥
IsPlain _ = Unit {0}

abbrev pub ArePlain : List Line → Type 0
ArePlain ls = AllByRecursion IsPlain ls

plain_passes : (l : Line) (ls : List Line) → IsPlain l → (lines_before_resume (l ∷ ls) ≡ option_map (λ (b : List Line). l ∷ b) (lines_before_resume ls)) × (is_give_up l ≡ false)
plain_passes line.ResumeTo ls is = absurd is
plain_passes line.GiveUp ls is = absurd is
plain_passes _ ls is = (refl, refl)

same_option : (o : Option (List Line)) → o ≡ option_map (λ (b : List Line). b) o
same_option None = refl
same_option (Some b) = refl

option_twice : (l : Line) (ls : List Line) (o : Option (List Line)) → option_map (λ (b : List Line). l ∷ b) (option_map (λ (b : List Line). ls ++ b) o) ≡ option_map (λ (b : List Line). l ∷ (ls ++ b)) o
option_twice l ls None = refl
option_twice l ls (Some b) = refl

pub plain_later : (ls others : List Line) → ArePlain ls → lines_before_resume (ls ++ others) ≡ option_map (λ (b : List Line). ls ++ b) (lines_before_resume others)
plain_later [] others are = same_option (lines_before_resume others)
plain_later (l ∷ ls) others are = (plain_passes l (ls ++ others) are.0).0 ∙ ap (option_map (λ (b : List Line). l ∷ b)) (plain_later ls others are.1) ∙ option_twice l ls (lines_before_resume others)

plain_given : (ls others : List Line) → ArePlain ls → has_given_up (ls ++ others) ≡ has_given_up others
plain_given [] others are = refl
plain_given (l ∷ ls) others are = ap (λ (b : Bool). b || has_given_up (ls ++ others)) (plain_passes l others are.0).1 ∙ plain_given ls others are.1

pub events_plain : (es : List Line) → AreEvents es → ArePlain es
events_plain [] are = tt
events_plain (line.Act k n ∷ es) are = (tt, events_plain es are.1)
events_plain (line.Reap k cid status head phase ∷ es) are = (tt, events_plain es are.1)
events_plain (line.Fetch k cid status pieces ∷ es) are = (tt, events_plain es are.1)
events_plain (line.Piece k cid first count outcome digest ∷ es) are = (tt, events_plain es are.1)
events_plain (line.Post k cid status ∷ es) are = (tt, events_plain es are.1)
events_plain (_ ∷ es) are = absurd (false≢true are.0)

restart_plain : (lost : Bool) (blocks pages : ℕ) → ArePlain (restart_line lost ++ line.Round blocks pages ∷ [])
restart_plain true blocks pages = (tt, (tt, tt))
restart_plain false blocks pages = (tt, tt)

pub rounds_plain : (rounds : List RoundText) → EachEvents rounds → ArePlain (flat_map round_text rounds)
rounds_plain [] each = tt
rounds_plain (r ∷ rounds) each =
    let tail = restart_line r.restarted ++ line.Round (length r.owed.blocks) (length r.owed.pages) ∷ [] in
    all_append IsPlain (round_text r) (flat_map round_text rounds) (all_append IsPlain r.events tail (events_plain r.events each.0) (restart_plain r.restarted (length r.owed.blocks) (length r.owed.pages))) (rounds_plain rounds each.1)

-- How its migration ended.

abbrev pub moved_point : Option Ending → List Line → Option (List Line)
moved_point None events = None
moved_point (Some Moved) events = Some events
moved_point (Some Halted) events = None
moved_point (Some (Broke es)) events = None

abbrev pub is_given_up : Option Ending → Bool
is_given_up None = false
is_given_up (Some Moved) = false
is_given_up (Some Halted) = true
is_given_up (Some (Broke es)) = true

pub none_plain : (ls : List Line) → ArePlain ls → lines_before_resume ls ≡ None
none_plain ls are = ap lines_before_resume (sym (append-nil ls)) ∙ plain_later ls [] are

-- the lines behind the ones of an ending's last turn
end_resumes : (front after : List Line) (owed : Owed) (ending : Ending) → ArePlain front → ArePlain after →
    (option_map events_of (lines_before_resume (front ++ (last_lines owed ending ++ after))) ≡ moved_point (Some ending) (events_of front)) × (has_given_up (front ++ (last_lines owed ending ++ after)) ≡ is_given_up (Some ending))
end_resumes front after owed Moved first second = (
  ap (option_map events_of) (plain_later front (last_lines owed Moved ++ after) first)
      ∙ ap (λ (es : List Line). Some es) (events_more front (line.Suspend ∷ line.Pause (length owed.blocks) (length owed.pages) ∷ []) ∙ append-nil (events_of front)),
  plain_given front (last_lines owed Moved ++ after) first ∙ ap has_given_up (sym (append-nil after)) ∙ plain_given after [] second,
)
end_resumes front after owed Halted first second = (
  ap (option_map events_of) (plain_later front (last_lines owed Halted ++ after) first ∙ ap (λ (o : Option (List Line)). option_map (λ (b : List Line). front ++ b) (option_map (λ (b : List Line). line.Suspend ∷ b) (option_map (λ (b : List Line). line.GiveUp ∷ b) o))) (none_plain after second)),
  plain_given front (last_lines owed Halted ++ after) first,
)
end_resumes front after owed (Broke es) first second = (
  ap (option_map events_of) (plain_later front (last_lines owed (Broke es) ++ after) first ∙ ap (λ (o : Option (List Line)). option_map (λ (b : List Line). front ++ b) (option_map (λ (b : List Line). line.GiveUp ∷ b) o)) (none_plain after second)),
  plain_given front (last_lines owed (Broke es) ++ after) first,
)

no_last : (owed : Owed) (ending : Ending) → events_of (last_lines owed ending) ≡ []
no_last owed Moved = refl
no_last owed Halted = refl
no_last owed (Broke es) = refl

-- how a whole run tells it
pub wish_ends : (s : Script) (wish : Option ℕ) (n : ℕ) (w : World) (lines : List Line) (v : World) (drawn : ℕ) → (m : Moves (serial s) wish n w lines v drawn) → (before after : List Line) → AreEvents before → AreEvents after →
    (events_before_resume (line.Title ∷ line.Ready ∷ before ++ (lines ++ (after ++ line.End ∷ []))) ≡ moved_point (way_of (serial s) wish n w lines v drawn m) (before ++ events_of lines))
    × (has_given_up (line.Title ∷ line.Ready ∷ before ++ (lines ++ (after ++ line.End ∷ []))) ≡ is_given_up (way_of (serial s) wish n w lines v drawn m))
wish_ends s None n w lines v drawn m before after first second =
    let tail = after ++ line.End ∷ [] in
    let plain : ArePlain (line.Title ∷ line.Ready ∷ before ++ tail) = (tt, (tt, all_append IsPlain before tail (events_plain before first) (all_append IsPlain after (line.End ∷ []) (events_plain after second) (tt, tt)))) in
    let is = ap (λ (ls : List Line). line.Title ∷ line.Ready ∷ before ++ (ls ++ tail)) m.0 in (
      ap events_before_resume is ∙ ap (option_map events_of) (none_plain (line.Title ∷ line.Ready ∷ before ++ tail) plain),
      ap has_given_up is ∙ ap has_given_up (sym (append-nil (line.Title ∷ line.Ready ∷ before ++ tail))) ∙ plain_given (line.Title ∷ line.Ready ∷ before ++ tail) [] plain,
    )
wish_ends s (Some turn) n w lines v drawn m before after first second =
    let tail = after ++ line.End ∷ [] in
    let rounds = flat_map round_text m.rounds in
    let last = ending_events m.ending in
    let end = last_lines m.owed m.ending in
    let each = moving_each s n w lines v drawn m in
    let lines_are : lines ≡ line.Migrate ∷ (rounds ++ last) ++ end = m.lines_are ∙ ap (λ (ls : List Line). line.Migrate ∷ (rounds ++ ls)) (text_is m.owed m.ending) ∙ ap (λ (ls : List Line). line.Migrate ∷ ls) (sym (append_assoc rounds last end)) in
    let front = line.Title ∷ line.Ready ∷ before ++ (line.Migrate ∷ (rounds ++ last)) in
    let plain : ArePlain front = (tt, (tt, all_append IsPlain before (line.Migrate ∷ (rounds ++ last)) (events_plain before first) (tt, all_append IsPlain rounds last (rounds_plain m.rounds each.0) (events_plain last each.1)))) in
    let behind : ArePlain tail = all_append IsPlain after (line.End ∷ []) (events_plain after second) (tt, tt) in
    let whole : line.Title ∷ line.Ready ∷ before ++ (lines ++ tail) ≡ front ++ (end ++ tail) =
    ap (λ (ls : List Line). line.Title ∷ line.Ready ∷ before ++ (ls ++ tail)) lines_are
    ∙ ap (λ (ls : List Line). line.Title ∷ line.Ready ∷ before ++ (line.Migrate ∷ ls)) (append_assoc (rounds ++ last) end tail)
    ∙ ap (λ (ls : List Line). line.Title ∷ line.Ready ∷ ls) (sym (append_assoc before (line.Migrate ∷ (rounds ++ last)) (end ++ tail))) in
    let events : events_of front ≡ before ++ events_of lines =
    events_more before (line.Migrate ∷ (rounds ++ last)) ∙ ap (λ (es : List Line). es ++ events_of (rounds ++ last)) (all_events before first)
    ∙ ap (λ (es : List Line). before ++ es) (sym (ap events_of lines_are ∙ events_more (rounds ++ last) end ∙ ap (λ (es : List Line). events_of (rounds ++ last) ++ es) (no_last m.owed m.ending) ∙ append-nil (events_of (rounds ++ last)))) in
    let both = end_resumes front tail m.owed m.ending plain behind in
    (ap events_before_resume whole ∙ both.0 ∙ ap (moved_point (Some m.ending)) events, ap has_given_up whole ∙ both.1)

-- A whole run, and what it left.

pub record Finish {M I : Type 0} (state : M → MediumState I) (s : Script) (blocks : Blocks) (old new : Snapshot M) (lines : List Line) : Type 0 where
  pub way : Option Ending
  pub world : World
  pub run : Whole s blocks way world
  pub lines_are : lines ≡ whole_lines run
  pub sides : SidesHold state s blocks (moved_point way (events_in run.before ++ events_of run.migration)) new world
  pub gave_up : is_given_up way ≡ (new.tried && is_source new.side)
  pub untouched : new.tried ≡ false → IsUntouched old new

untried_finish : {M I : Type 0} {state : M → MediumState I} {s : Script} {blocks : Blocks} {old new : Snapshot M} {front : List Line} {resumed : Bool} → Tells state s blocks resumed old → Untried state s blocks old new front → s.head.migrate ≡ None → Complete s (among new.lanes) →
    Finish state s blocks old new (front ++ line.End ∷ [])
untried_finish {M} {I} {state} {s} {blocks} {old} {new} {front} t u none complete =
    let f = u.turned in
    let w = f.world in
    let n = pieces_in (events_in f.turns) in
    let moving = subst (λ (wish : Option ℕ). (m : Moves (serial s) wish n w [] w n) × (way_of (serial s) wish n w [] w n m ≡ None)) (sym none) ((refl, refl, refl), refl) in
    record {
      way = None;
      world = w;
      run = record {
        before = f.turns;
        mid = w;
        are_before = f.are;
        begins = subst (λ (wish : Option ℕ). Begins s wish (length f.turns) w) (sym none) tt;
        migration = [];
        moved = w;
        drawn = n;
        moving = moving.0;
        way_is = moving.1;
        after = [];
        are_after = refl;
        complete = subst (λ (ls : List Lane). Complete s (among ls)) f.stands.lanes complete;
      };
      lines_are = ap (λ (ls : List Line). ls ++ line.End ∷ []) u.lines_are;
      sides = holds_here Source f.side f.stands;
      gave_up = ap (λ (b : Bool). b && is_source new.side) (sym u.tried);
      untouched = λ is. is_untouched old new (ap (λ (z : Snapshot M). z.side) t.start) f.side f.other f.left;
    }

-- what a migration that ended so left
tried_sides : {M I : Type 0} (state : M → MediumState I) (s : Script) (blocks : Blocks) (x : Snapshot M) (events : List Line) (moved w : World) (ending : Ending) → Reaches s blocks events moved → Stands state s x w → x.side ≡ side_of ending →
    Behind state s ending x.other x.left moved → SidesHold state s blocks (moved_point (Some ending) events) x w × (is_given_up (Some ending) ≡ is_source x.side)
tried_sides state s blocks x events moved w Moved reaches stands side behind = ((moved, reaches, holds_behind side behind.0 behind.1, holds_here Destination side stands), ap is_source (sym side))
tried_sides state s blocks x events moved w Halted reaches stands side behind = (holds_here Source side stands, ap is_source (sym side))
tried_sides state s blocks x events moved w (Broke es) reaches stands side behind = (holds_here Source side stands, ap is_source (sym side))

tried_finish : {M I : Type 0} {state : M → MediumState I} {s : Script} {blocks : Blocks} {old new : Snapshot M} {front : List Line} → Tried state s blocks new front → Complete s (among new.lanes) → Finish state s blocks old new (front ++ line.End ∷ [])
tried_finish {M} {I} {state} {s} {blocks} {old} {new} {front} u complete =
    let c = u.course in
    let n = pieces_in (events_in c.before) in
    let text = line.Migrate ∷ flat_map round_text c.rounds ++ ending_text c.owed u.ending in
    let moves : MovesInRounds (serial s) n c.mid text u.moved u.drawn = record {
      rounds = c.rounds;
      mid = c.world;
      owed = c.owed;
      words = c.words;
      in_rounds = c.in_rounds;
      ending = u.ending;
      ends = u.ends;
      lines_are = refl;
    } in
    let moving = subst (λ (wish : Option ℕ). (m : Moves (serial s) wish n c.mid text u.moved u.drawn) × (way_of (serial s) wish n c.mid text u.moved u.drawn m ≡ Some u.ending)) (sym c.asked) (moves, refl) in
    let run : Whole s blocks (Some u.ending) u.world = record {
      before = c.before;
      mid = c.mid;
      are_before = c.are_before;
      begins = subst (λ (wish : Option ℕ). Begins s wish (length c.before) c.mid) (sym c.asked) c.begins;
      migration = text;
      moved = u.moved;
      drawn = u.drawn;
      moving = moving.0;
      way_is = moving.1;
      after = u.after;
      are_after = u.are_after;
      complete = subst (λ (ls : List Lane). Complete s (among ls)) u.stands.lanes complete;
    } in
    let sides = tried_sides state s blocks new (events_in c.before ++ events_of text) u.moved u.world u.ending (reaches_moved run) u.stands u.side u.behind in
    let rounds = flat_map round_text c.rounds in
    let ending = ending_text c.owed u.ending in
    let after = events_in u.after in
    record {
      way = Some u.ending;
      world = u.world;
      run = run;
      lines_are = ap (λ (ls : List Line). ls ++ line.End ∷ []) u.lines_are ∙ append_assoc (course_lines c) (ending ++ after) (line.End ∷ []) ∙ ap (λ (ls : List Line). course_lines c ++ ls) (append_assoc ending after (line.End ∷ []))
          ∙ ap (λ (ls : List Line). line.Title ∷ line.Ready ∷ ls) (append_assoc (events_in c.before) (line.Migrate ∷ rounds) (ending ++ (after ++ line.End ∷ []))
          ∙ ap (λ (ls : List Line). events_in c.before ++ (line.Migrate ∷ ls)) (sym (append_assoc rounds ending (after ++ line.End ∷ []))));
      sides = sides.0;
      gave_up = sides.1 ∙ ap (λ (b : Bool). b && is_source new.side) (sym u.tried);
      untouched = λ none. let tried = u.tried in absurd cc;
    }

pub finish : {M I : Type 0} {state : M → MediumState I} {s : Script} {blocks : Blocks} {old new : Snapshot M} {lines : List Line} {resumed : Bool} → Tells state s blocks resumed old → Ended state s blocks old new lines → Finish state s blocks old new lines
finish {M} {I} {state} {s} {blocks} {old} {new} {lines} t e = subst (λ (ls : List Line). Finish state s blocks old new ls) (sym e.lines_are) (by e.way)
  where
    by : (Untried state s blocks old new e.front × (s.head.migrate ≡ None)) ⊎ Tried state s blocks new e.front → Finish state s blocks old new (e.front ++ line.End ∷ [])
    by (inl u) = untried_finish t u.0 u.1 e.complete
    by (inr u) = tried_finish u e.complete

has_run : {M I : Type 0} {state : M → MediumState I} {s : Script} {blocks : Blocks} {old new : Snapshot M} {lines : List Line} → IsScript s → Finish state s blocks old new lines → HasRun state s blocks old new lines
has_run {M} {I} {state} {s} {blocks} {old} {new} {lines} script e =
    let r = e.run in
    let told = wish_ends s s.head.migrate (pieces_in (events_in r.before)) r.mid r.migration r.moved r.drawn r.moving (events_in r.before) (events_in r.after) (before_events r) (after_events r) in
    let events = events_in r.before ++ events_of r.migration in
    subst (λ (ls : List Line). HasRun state s blocks old new ls) (sym e.lines_are) (record {
      world = e.world;
      whole = is_whole r;
      are_lines = whole_are_lines script r;
      legal = is_legal r;
      turns = in_turns r;
      complete = r.complete;
      sides = subst (λ (o : Option (List Line)). SidesHold state s blocks o new e.world) (sym (told.0 ∙ ap (λ (way : Option Ending). moved_point way events) r.way_is)) e.sides;
      gave_up = told.1 ∙ ap is_given_up r.way_is ∙ e.gave_up;
      untouched = e.untouched;
    })

pub run_ended : {M I : Type 0} (state : M → MediumState I) (moves : I → Step → Bool → I → Type 0) (s : Script) (blocks : Blocks) (old : Snapshot M) (stages : List Stage) (new : Snapshot M) → Tells state s blocks (have_resumed stages) old → Chain (IsStage state moves) old stages new → new.phase ≡ Over →
    HasRun state s blocks old new (lines_in stages)
run_ended state moves s blocks old stages new t c over =
    has_run t.script (finish t (subst (λ (p : RunPhase). StandsAt state s blocks old p new (lines_in stages)) over (run_stands state moves s blocks old stages new t (λ r. r) c)))
