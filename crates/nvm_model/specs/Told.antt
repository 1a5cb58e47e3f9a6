use Rattle.std.specs.Prelude.{◌≡◌, ◌⊎◌, ℕ, ◌*◌, Bool, true, false, ◌&&◌, List, ◌++◌, Option, Some, None, length}
use Rattle.std.specs.List.{AllByRecursion, list_any}
use Rattle.mig_base.specs.Count.{RiseBy}
use Rattle.mig_base.specs.Stream.{with_more}
use Rattle.nvm_model.specs.declared.line.Line.{Line}
use Rattle.nvm_model.specs.declared.line.Line.TheVariants as line
use Rattle.nvm_model.specs.declared.script.Head.{Head}
use Rattle.nvm_model.specs.declared.script.Script.{Script}
use Rattle.nvm_model.specs.Medium.{HaveSize, MediumState, faults_in, told_in}
use Rattle.nvm_model.specs.History.{AreEvents, Complete, IsWhole, Reaches, events_before_resume, events_of, faults_shown, has_given_up, lines_before_resume}
use Rattle.nvm_model.specs.ScriptText.{IsScript}
use Rattle.nvm_model.specs.Shelf.{joined}
use Rattle.nvm_model.specs.Stop.{EndOneTurn, IsPart}
use Rattle.nvm_model.specs.Text.{IsLine, text_of}
use Rattle.nvm_model.specs.Rounds.{RunsInRounds, turns_in}
use Rattle.nvm_model.specs.World.{World}
use Rattle.nvm_model.specs.declared.run.Side.{Side}
use Rattle.nvm_model.specs.declared.run.Side.TheVariants.{Source, Destination}
use Rattle.nvm_model.specs.Run.{Snapshot, Stage, Task, media_at, memory_at, memory_of, start_of}
use Rattle.nvm_model.specs.Run.Order.{Serial}
use Rattle.nvm_model.specs.Run.Stage.{Resume}

-- What a run on one thread came to, where the media of both sides tell their blocks.

-- the script's run on one thread
abbrev pub serial : Script → Task
serial s = record { script = s; order = Serial }

-- Media of so many blocks each and so many together, which tell these.
pub record Tell {M I : Type 0} (state : M → MediumState I) (h : Head) (media : List M) (blocks : List (List ℕ)) : Type 0 where
  pub sizes : HaveSize state h.shelf media
  pub count : length media * h.shelf ≡ h.blocks
  pub told : joined (told_in state media) ≡ Some blocks

-- whether the guests went on at the other side in one of these stages
abbrev pub resumes : Stage → Bool
resumes (Resume side n copies pages) = true
resumes _ = false

abbrev pub have_resumed : List Stage → Bool
have_resumed stages = list_any resumes stages

-- A run's start, where the source's media tell these blocks, and, where the guests went on there, the destination's some.
pub record Tells {M I : Type 0} (state : M → MediumState I) (s : Script) (blocks : List (List ℕ)) (resumed : Bool) (old : Snapshot M) : Type 0 where
  pub script : IsScript s
  pub start : old ≡ start_of (serial s) old.at old.other old.out
  pub source : Tell state s.head old.at blocks
  pub destination : resumed ≡ true → (others : List (List ℕ)) × Tell state s.head old.other others

-- a side's media tell the blocks of the world, and its memory is the world's, byte for byte
pub record Holds {M I : Type 0} (state : M → MediumState I) (s : Script) (who : Side) (t : Snapshot M) (w : World) : Type 0 where
  pub blocks : joined (told_in state (media_at who t)) ≡ Some w.blocks
  pub memory_is : memory_at who t ≡ memory_of s w.lanes

-- the counts of failed calls of both sides' media
abbrev pub faults_of : {M I : Type 0} → (M → MediumState I) → Snapshot M → List ℕ
faults_of state t = faults_in state (media_at Source t) ++ faults_in state (media_at Destination t)

-- the destination is as it was before the run
pub record IsUntouched {M : Type 0} (old new : Snapshot M) : Type 0 where
  pub media : media_at Destination new ≡ media_at Destination old
  pub memory : memory_at Destination new ≡ memory_at Destination old

-- Where the guests were moved, the source holds the world that the events before reach, and the destination the world at
-- the end. Where they weren't, the source holds it.
abbrev pub SidesHold : {M I : Type 0} → (M → MediumState I) → Script → List (List ℕ) → Option (List Line) → Snapshot M → World → Type 0
SidesHold state s blocks None t w = Holds state s Source t w
SidesHold state s blocks (Some before) t w = (v : World) × Reaches s blocks before v × Holds state s Source t v × Holds state s Destination t w

-- whether a side is the source
abbrev pub is_source : Side → Bool
is_source Source = true
is_source Destination = false

-- A run that came to its end.
pub record HasRun {M I : Type 0} (state : M → MediumState I) (s : Script) (blocks : List (List ℕ)) (old new : Snapshot M) (lines : List Line) : Type 0 where
  pub world : World
  pub whole : IsWhole s lines
  pub are_lines : AllByRecursion IsLine lines
  pub legal : Reaches s blocks (events_of lines) world
  pub turns : RunsInRounds (serial s) blocks lines world
  pub complete : Complete s world
  pub sides : SidesHold state s blocks (events_before_resume lines) new world
  -- a migration was given up exactly where the guests are at the source and one was begun
  pub gave_up : has_given_up lines ≡ (new.tried && is_source new.side)
  pub untouched : new.tried ≡ false → IsUntouched old new

-- A run that stopped where the sink failed.

-- whether a line is `migrate`
abbrev pub is_migrate : Line → Bool
is_migrate line.Migrate = true
is_migrate _ = false

-- before `resume to` was written the source holds the world, and then the destination
abbrev pub SideHolds : {M I : Type 0} → (M → MediumState I) → Script → Option (List Line) → Snapshot M → World → Type 0
SideHolds state s None t w = Holds state s Source t w
SideHolds state s (Some before) t w = Holds state s Destination t w

-- Of the lines of a whole run so many were written whole, and a part of the next. What was done after these are events of
-- one turn at most. One side holds the world that all this leads to, blocks and memory. As long as `migrate` wasn't written,
-- the destination is as it was.
pub record HasStopped {M I : Type 0} (state : M → MediumState I) (s : Script) (blocks : List (List ℕ)) (old new : Snapshot M) : Type 0 where
  pub lines : List Line
  pub world : World
  pub whole : IsWhole s lines
  pub are_lines : AllByRecursion IsLine lines
  pub legal : Reaches s blocks (events_of lines) world
  pub turns : RunsInRounds (serial s) blocks lines world
  pub complete : Complete s world
  pub written : List Line
  pub done : List Line
  pub others : List Line
  pub lines_are : lines ≡ written ++ (done ++ others)
  pub part : List ℕ
  pub part_is : IsPart part (done ++ others)
  pub text : new.out.taken ≡ with_more (text_of written ++ part) old.out.taken
  pub done_are : AreEvents done
  pub one_turn : EndOneTurn done (turns_in turns)
  pub reached : World
  pub legal_so_far : Reaches s blocks (events_of written ++ done) reached
  pub holds : SideHolds state s (lines_before_resume written) new reached
  pub untouched : (list_any is_migrate written ≡ true) ⊎ IsUntouched old new
  -- each fault that these lines show was a call that failed
  pub rose : RiseBy (faults_shown lines) (faults_of state old) (faults_of state new)
