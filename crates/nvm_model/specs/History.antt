use Rattle.std.specs.Prelude.{◌≡◌, ℕ, Bool, true, false, List, [], ◌∷◌, ◌++◌, Option, Some, None, IsTrue, length, filter, count_by}
use Rattle.std.specs.List.{list_any}
use Rattle.std.specs.Option.{option_map}
use Rattle.nvm_model.specs.declared.command.Outcome.{Outcome}
use Rattle.nvm_model.specs.declared.command.Outcome.TheVariants.{Done, Faulted, Differs}
use Rattle.nvm_model.specs.declared.line.Line.{Line}
use Rattle.nvm_model.specs.declared.line.Line.TheVariants as line
use Rattle.nvm_model.specs.declared.script.Script.{Script}
use Rattle.nvm_model.specs.World.{Lane, World, IsLane, lane_of, acts_of, IsQuiet, start_world}
use Rattle.nvm_model.specs.Event.{One}

-- Whole runs: what a list of lines says of one controller over one array of blocks that never moved.

-- act, reap, fetch, piece and post lines are events
abbrev pub is_event : Line → Bool
is_event (line.Act k n) = true
is_event (line.Reap k cid status head phase) = true
is_event (line.Fetch k cid status pieces) = true
is_event (line.Piece k cid first count outcome digest) = true
is_event (line.Post k cid status) = true
is_event line.Title = false
is_event line.Ready = false
is_event line.Migrate = false
is_event line.Restart = false
is_event (line.Round owed pages) = false
is_event line.Suspend = false
is_event (line.Pause blocks pages) = false
is_event line.ResumeTo = false
is_event line.GiveUp = false
is_event line.End = false

-- the events of a transcript, in order
abbrev pub events_of : List Line → List Line
events_of lines = filter is_event lines

-- every line is one
abbrev pub AreEvents : List Line → Type 0
AreEvents [] = Unit {0}
AreEvents (l ∷ lines) = IsTrue (is_event l) × AreEvents lines

-- events lead from one world to another, one after another
abbrev pub Steps : Script → World → List Line → World → Type 0
Steps s w [] v = v ≡ w
Steps s w (e ∷ events) v = (u : World) × One s w e u × Steps s u events v

-- a legal history of the script's guests over these blocks, and the world that it reaches
abbrev pub Reaches : Script → List (List ℕ) → List Line → World → Type 0
Reaches s blocks events w = Steps s (start_world s.head blocks) events w

-- they reach some world
abbrev pub Legal : Script → List (List ℕ) → List Line → Type 0
Legal s blocks events = (w : World) × Reaches s blocks events w

-- each guest has done its acts, and no command of its is under way
pub record IsLaneComplete (s : Script) (k : ℕ) (lane : Lane) : Type 0 where
  pub acts : lane.acts ≡ length (acts_of k s.acts)
  pub quiet : IsQuiet lane

-- every lane is complete
abbrev pub Complete : Script → World → Type 0
Complete s w = (k : ℕ) → IsLane w k → IsLaneComplete s k (lane_of w k)

-- A whole transcript: the two first lines, events with at most one migration among them, and the last line.

-- what stands between `migrate` and its ending: events and rounds, `restart` directly before a round alone
abbrev pub AreRounds : List Line → Type 0
AreRounds [] = Unit {0}
AreRounds (line.Restart ∷ lines) = beginsRound lines × AreRounds lines
  where
    beginsRound : List Line → Type 0
    beginsRound (line.Round owed pages ∷ lines) = Unit {0}
    beginsRound _ = ⊥
AreRounds (line.Round owed pages ∷ lines) = AreRounds lines
AreRounds (l ∷ lines) = IsTrue (is_event l) × AreRounds lines

-- how a migration ends: the source goes on, also after it was suspended, or the destination does
abbrev pub IsEnding : List Line → Type 0
IsEnding (line.GiveUp ∷ []) = Unit {0}
IsEnding (line.Suspend ∷ line.GiveUp ∷ []) = Unit {0}
IsEnding (line.Suspend ∷ line.Pause blocks pages ∷ line.ResumeTo ∷ []) = Unit {0}
IsEnding _ = ⊥

-- a migration: `migrate`, rounds, and an ending
pub record Migrates (lines : List Line) : Type 0 where
  pub rounds : List Line
  pub ending : List Line
  pub lines_are : lines ≡ line.Migrate ∷ rounds ++ ending
  pub are_rounds : AreRounds rounds
  pub is_ending : IsEnding ending

-- a script that asks for a migration has exactly one
abbrev pub IsMigration : Option ℕ → List Line → Type 0
IsMigration None lines = lines ≡ []
IsMigration (Some turn) lines = Migrates lines

-- a whole transcript of a script: the title, `ready`, events, the migration where one is asked for, events, `end`
pub record IsWhole (s : Script) (lines : List Line) : Type 0 where
  pub before : List Line
  pub migration : List Line
  pub after : List Line
  pub lines_are : lines ≡ line.Title ∷ line.Ready ∷ before ++ (migration ++ (after ++ line.End ∷ []))
  pub before_events : AreEvents before
  pub is_migration : IsMigration s.head.migrate migration
  pub after_events : AreEvents after

-- the lines before `resume to`, where there is one
abbrev pub lines_before_resume : List Line → Option (List Line)
lines_before_resume [] = None
lines_before_resume (line.ResumeTo ∷ lines) = Some []
lines_before_resume (l ∷ lines) = option_map (λ before. l ∷ before) (lines_before_resume lines)

-- the events before that: the moved point
abbrev pub events_before_resume : List Line → Option (List Line)
events_before_resume lines = option_map events_of (lines_before_resume lines)

-- whether a migration was given up
abbrev pub is_give_up : Line → Bool
is_give_up line.GiveUp = true
is_give_up _ = false

-- one of the lines is `give up`
abbrev pub has_given_up : List Line → Bool
has_given_up lines = list_any is_give_up lines

-- how many lines show a fault: pieces that a failed call of a medium stopped, and migrations that were given up
abbrev pub is_faulted : Outcome → Bool
is_faulted Done = false
is_faulted (Faulted at) = true
is_faulted (Differs at) = false

-- a line shows a fault where it is a piece that a fault stopped, or `give up`
abbrev pub shows_fault : Line → Bool
shows_fault (line.Piece k cid first count outcome digest) = is_faulted outcome
shows_fault line.GiveUp = true
shows_fault (line.Act k n) = false
shows_fault (line.Reap k cid status head phase) = false
shows_fault (line.Fetch k cid status pieces) = false
shows_fault (line.Post k cid status) = false
shows_fault line.Title = false
shows_fault line.Ready = false
shows_fault line.Migrate = false
shows_fault line.Restart = false
shows_fault (line.Round owed pages) = false
shows_fault line.Suspend = false
shows_fault (line.Pause blocks pages) = false
shows_fault line.ResumeTo = false
shows_fault line.End = false

-- how many lines do
abbrev pub faults_shown : List Line → ℕ
faults_shown lines = count_by shows_fault lines
