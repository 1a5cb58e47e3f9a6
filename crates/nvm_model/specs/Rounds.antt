use Rattle.std.specs.Prelude.{◌≡◌, ℕ, ◌+◌, ◌-◌, ◌==◌, ◌≤◌, Bool, cond, List, [], ◌∷◌, ◌++◌, Option, Some, None, length, map}
use Rattle.std.specs.List.{flat_map}
use Rattle.nvm_model.specs.declared.command.Command.{Command}
use Rattle.nvm_model.specs.declared.command.Work.{Work}
use Rattle.nvm_model.specs.declared.line.Line.{Line}
use Rattle.nvm_model.specs.declared.line.Line.TheVariants as line
use Rattle.nvm_model.specs.declared.script.Script.{Script}
use Rattle.nvm_model.specs.Event.{One, lane_number}
use Rattle.nvm_model.specs.History.{Complete}
use Rattle.nvm_model.specs.Owed.{Owed, Written, all_owed, changes_of, copied_of, owed_after, restarted_if, written_by}
use Rattle.nvm_model.specs.Piece.{pieces_left}
use Rattle.nvm_model.specs.Run.{IsCutDue, IsLost, Task, restart_line}
use Rattle.nvm_model.specs.Turn.{Begins, Turn, Turns, events_in, lefts, next_lane, pieces_in}
use Rattle.nvm_model.specs.World.{World, lane_of, start_world}

-- A migration as a transcript tells it: turns with a `round` line behind each, and an ending.

-- What events changed.

-- the work of the next piece of commands: that of the first of them that has one left
abbrev pub next_work : ℕ → List Command → Option Work
next_work shelf [] = None
next_work shelf (command ∷ commands) = cond (pieces_left shelf command == 0) (next_work shelf commands) command.work

-- that of an event's lane
abbrev pub work_at : Script → World → Line → Option Work
work_at s w e = next_work s.head.shelf (lane_of w (lane_number e)).running

-- events lead from one world to another, one after another, and each wrote this
abbrev pub Wrote : Script → World → List Line → List Written → World → Type 0
Wrote s w [] written v = (v ≡ w) × (written ≡ [])
Wrote s w (e ∷ events) written v = (u : World) × (others : List Written) × One s w e u × (written ≡ written_by s (work_at s w e) e ∷ others) × Wrote s u events others v

-- A turn.

-- the pieces among picks
abbrev pub picked_pieces : List (Option Line) → List Line
picked_pieces [] = []
picked_pieces (None ∷ picks) = picked_pieces picks
picked_pieces (Some e ∷ picks) = e ∷ picked_pieces picks

-- Pieces and copies from a world on, of which n were done before, with so many copies left: the next of the lanes with some
-- left, the copies behind the last one, or the one that the next word picks.
abbrev pub InMixedOrder : Script → ℕ → ℕ → World → List (Option Line) → Type 0
InMixedOrder s n copies w [] = copies ≡ 0
InMixedOrder s n copies w (None ∷ picks) = (length w.lanes + 1 ≡ next_lane s.head.mix n (lefts s w ++ copies ∷ [])) × InMixedOrder s (n + 1) (copies - 1) w picks
InMixedOrder s n copies w (Some e ∷ picks) =
    (u : World) × One s w e u × (lane_number e ≡ next_lane s.head.mix n (lefts s w ++ copies ∷ [])) × InMixedOrder s (n + 1) copies u picks

-- a turn with so many copies; a turn without events stands only where all is complete
pub record MovingTurn (s : Script) (n copies : ℕ) (w : World) (events : List Line) (v : World) : Type 0 where
  pub turn : Turn s w events v
  pub picks : List (Option Line)
  pub pieces : picked_pieces picks ≡ turn.pieces
  pub order : InMixedOrder s n copies (record { blocks = w.blocks; lanes = turn.planned }) picks
  pub some : events ≡ [] → Complete s w

-- Rounds.

-- the events of a round, whether there was a restart, and what is owed after it
pub record RoundText : Type 0 where
  pub events : List Line
  pub restarted : Bool
  pub owed : Owed

-- its lines
abbrev pub round_text : RoundText → List Line
round_text r = r.events ++ (restart_line r.restarted ++ line.Round (length r.owed.blocks) (length r.owed.pages) ∷ [])

-- how many blocks are copied
abbrev pub copies_due : Script → Owed → ℕ
copies_due s owed = length (copied_of s.head owed).blocks

-- A round, where so much was owed and so many rounds were done: no suspension was due.
pub record IsRoundText (task : Task) (n rounds : ℕ) (w : World) (owed : Owed) (r : RoundText) (v : World) : Type 0 where
  pub not_due : IsCutDue task.script.head owed rounds → ⊥
  pub turn : MovingTurn task.script n (copies_due task.script owed) w r.events v
  pub written : List Written
  pub wrote : Wrote task.script w r.events written v
  pub lost : IsLost task (changes_of written) (copies_due task.script owed) r.restarted
  pub owed_is : r.owed ≡ restarted_if r.restarted task.script.head (owed_after task.script.head written owed)

-- rounds, one after another, and how many words were drawn then
abbrev pub InRounds : Task → ℕ → ℕ → World → Owed → List RoundText → World → Owed → ℕ → Type 0
InRounds task n rounds w owed [] v new drawn = (v ≡ w) × (new ≡ owed) × (drawn ≡ n)
InRounds task n rounds w owed (r ∷ others) v new drawn =
    (u : World) × IsRoundText task n rounds w owed r u × InRounds task (n + pieces_in r.events + copies_due task.script owed) (rounds + 1) u r.owed others v new drawn

-- The ending.

-- the guests were moved; or a copy failed while they were suspended, or in a turn with these events
pub data Ending : Type 0 where
  Moved : Ending
  Halted : Ending
  Broke : List Line → Ending

abbrev pub ending_text : Owed → Ending → List Line
ending_text owed Moved = line.Suspend ∷ line.Pause (length owed.blocks) (length owed.pages) ∷ line.ResumeTo ∷ []
ending_text owed Halted = line.Suspend ∷ line.GiveUp ∷ []
ending_text owed (Broke events) = events ++ line.GiveUp ∷ []

-- how it ended, and how many words were drawn then
abbrev pub Ends : Task → ℕ → ℕ → World → Owed → Ending → World → ℕ → Type 0
Ends task n rounds w owed Moved v drawn = IsCutDue task.script.head owed rounds × (v ≡ w) × (drawn ≡ n)
Ends task n rounds w owed Halted v drawn = IsCutDue task.script.head owed rounds × (v ≡ w) × (drawn ≡ n)
Ends task n rounds w owed (Broke events) v drawn = (IsCutDue task.script.head owed rounds → ⊥) × Turn task.script w events v × (events ≡ [] → Complete task.script w)
    × (copies : ℕ) × (1 ≤ copies) × (copies ≤ copies_due task.script owed) × (drawn ≡ n + pieces_in events + copies)

-- a whole migration from a world on, where n words were drawn
pub record MovesInRounds (task : Task) (n : ℕ) (w : World) (lines : List Line) (v : World) (drawn : ℕ) : Type 0 where
  pub rounds : List RoundText
  pub mid : World
  pub owed : Owed
  pub words : ℕ
  pub in_rounds : InRounds task n 0 w (all_owed task.script.head) rounds mid owed words
  pub ending : Ending
  pub ends : Ends task words (length rounds) mid owed ending v drawn
  pub lines_are : lines ≡ line.Migrate ∷ flat_map round_text rounds ++ ending_text owed ending

-- A migration where one is asked for, from a world with so many words drawn to another.
abbrev pub Moves : Task → Option ℕ → ℕ → World → List Line → World → ℕ → Type 0
Moves task None n w lines v drawn = (lines ≡ []) × (v ≡ w) × (drawn ≡ n)
Moves task (Some turn) n w lines v drawn = MovesInRounds task n w lines v drawn

-- A whole transcript in turns, those before the migration, those of its rounds and those after it.
pub record RunsInRounds (task : Task) (blocks : List (List ℕ)) (lines : List Line) (w : World) : Type 0 where
  pub before : List (List Line)
  pub migration : List Line
  pub after : List (List Line)
  pub lines_are : lines ≡ line.Title ∷ line.Ready ∷ events_in before ++ (migration ++ (events_in after ++ line.End ∷ []))
  pub mid : World
  pub turns_before : Turns task.script 0 (start_world task.script.head blocks) before mid
  pub begins : Begins task.script task.script.head.migrate (length before) mid
  pub moved : World
  pub drawn : ℕ
  pub moving : Moves task task.script.head.migrate (pieces_in (events_in before)) mid migration moved drawn
  pub turns_after : Turns task.script drawn moved after w

-- the turns of a migration
abbrev pub last_turn : Ending → List (List Line)
last_turn Moved = []
last_turn Halted = []
last_turn (Broke events) = events ∷ []

abbrev pub moving_turns : {task : Task} {n : ℕ} {w : World} {lines : List Line} {v : World} {drawn : ℕ} → MovesInRounds task n w lines v drawn → List (List Line)
moving_turns m = map (λ (r : RoundText). r.events) m.rounds ++ last_turn m.ending

-- those of one that is asked for
abbrev pub turns_of : (task : Task) (wish : Option ℕ) (n : ℕ) (w : World) (lines : List Line) (v : World) (drawn : ℕ) → Moves task wish n w lines v drawn → List (List Line)
turns_of task None n w lines v drawn m = []
turns_of task (Some turn) n w lines v drawn m = moving_turns m

-- all turns of a whole transcript
abbrev pub turns_in : {task : Task} {blocks : List (List ℕ)} {lines : List Line} {w : World} → RunsInRounds task blocks lines w → List (List Line)
turns_in {task} r = r.before ++ (turns_of task task.script.head.migrate (pieces_in (events_in r.before)) r.mid r.migration r.moved r.drawn r.moving ++ r.after)
