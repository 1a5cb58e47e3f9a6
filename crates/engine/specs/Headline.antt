use Rattle.std.specs.Prelude.{◌≡◌, ℕ, Bool, true, false, ◌&&◌, List, ◌++◌, Option, Some, None, Result, IfOk, is_err, length}
use Rattle.std.specs.List.{flat_map}
use Rattle.mig_base.specs.Count.{NeverFall, RiseBy}
use Rattle.nvm_model.specs.declared.line.Line.{Line}
use Rattle.nvm_model.specs.declared.script.Script.{Script}
use Rattle.nvm_model.specs.declared.trace.Step.{Step}
use Rattle.nvm_model.specs.Chain.{Chain}
use Rattle.nvm_model.specs.History.{Complete, IsWhole, Reaches, events_before_resume, events_of, faults_shown, has_given_up}
use Rattle.nvm_model.specs.Medium.{HaveSize, IsAt, MediumState, faults_in, told_in}
use Rattle.nvm_model.specs.Segment.{HaveSegments}
use Rattle.nvm_model.specs.Shelf.{joined}
use Rattle.nvm_model.specs.Text.{IsTranscript, text_of}
use Rattle.nvm_model.specs.Rounds.{RunsInRounds}
use Rattle.nvm_model.specs.World.{World}
use Rattle.guest_ram.specs.declared.host.Host.{Host}
use Rattle.guest_ram.specs.Window.{WindowState}
use Rattle.nvm_model.specs.declared.run.RunPhase.TheVariants.{Over}
use Rattle.nvm_model.specs.declared.run.Side.TheVariants.{Source, Destination}
use Rattle.turns.specs.Ran.{Ran}
use Rattle.nvm_model.specs.Run.{IsStage, IsWritten, SinkState, Snapshot, Stage, calls_at, lines_in, media_at, memory_at, start_of}
use Rattle.nvm_model.specs.Told.{HasStopped, IsUntouched, SidesHold, have_resumed, is_source, serial}
use Rattle.session.specs.declared.ending.Ending.{Ending}
use Rattle.guest_ram.specs.Ram.{all_pages}
use Rattle.session.specs.Sides.{IsEnding}
use Rattle.engine.specs.declared.status.Status.{Status}
use Rattle.engine.specs.Built.{IsTaken, Spells}
use Rattle.engine.specs.Claims.{OnEnded, OnWriteFault, is_gave_up, is_write_fault}

-- What a run over two hosts did.

-- the media of either host, the windows of its guest memory, and the sink
pub record Hosts (M : Type 0) : Type 0 where
  pub from : List M
  pub to : List M
  pub from_ram : List WindowState
  pub to_ram : List WindowState
  pub out : SinkState

-- these of two hosts and a sink
abbrev pub hosts : {M : Type 0} → Host M → Host M → SinkState → Hosts M
hosts from to out = record { from = from.shelves.items; to = to.shelves.items; from_ram = from.ram; to_ram = to.ram; out = out }

-- the script's run over these hosts, before its first stage
abbrev pub start : {M : Type 0} → Script → Hosts M → Snapshot M
start s h = start_of (serial s) h.from h.to h.out

-- the hosts and the sink are as a run left them
pub record AreLeft {M : Type 0} (end : Snapshot M) (new : Hosts M) : Type 0 where
  pub from : new.from ≡ media_at Source end
  pub to : new.to ≡ media_at Destination end
  pub from_memory : all_pages new.from_ram ≡ memory_at Source end
  pub to_memory : all_pages new.to_ram ≡ memory_at Destination end
  pub out : new.out ≡ end.out

-- the counts of failed calls of both hosts' media
abbrev pub faults_of : {M I : Type 0} → (M → MediumState I) → Hosts M → List ℕ
faults_of state h = faults_in state h.from ++ faults_in state h.to

-- of blocks of the source, where its media tell them, and, where the guests went on there, the destination's media some
abbrev pub IfTold : {M I : Type 0} → (M → MediumState I) → Bool → Hosts M → (List (List ℕ) → Type 0) → Type 0
IfTold state resumed h P =
    (blocks : List (List ℕ)) → joined (told_in state h.from) ≡ Some blocks → (resumed ≡ true → (others : List (List ℕ)) × (joined (told_in state h.to) ≡ Some others)) → P blocks

-- Each side's media, by their places, got exactly the calls of the stages on that side, in order, whether they tell their
-- blocks or not. None of them changed its size.
pub record AreCalled {M I : Type 0} (state : M → MediumState I) (moves : I → Step → Bool → I → Type 0) (s : Script) (stages : List Stage) (old new : Hosts M) : Type 0 where
  pub source : Chain (IsAt state moves) old.from (flat_map (calls_at s Source) stages) new.from
  pub destination : Chain (IsAt state moves) old.to (flat_map (calls_at s Destination) stages) new.to
  pub source_sizes : HaveSize state s.head.shelf new.from × (length new.from ≡ length old.from)
  pub destination_sizes : HaveSize state s.head.shelf new.to × (length new.to ≡ length old.to)

-- No count of failed calls fell, and each fault that a line shows, a migration that was given up too, has a failed call.
pub record HaveCauses (lines : List Line) (old new : List ℕ) : Type 0 where
  pub never_fell : NeverFall old new
  pub causes : RiseBy (faults_shown lines) old new

-- the lines are those of the format, and their events, each legal where it stands, reach the world
pub record IsHistory (s : Script) (blocks : List (List ℕ)) (lines : List Line) (w : World) : Type 0 where
  pub transcript : IsTranscript (text_of lines) lines
  pub legal : Reaches s blocks (events_of lines) w

-- A run that came to its end, from these blocks of the source, with these lines.
pub record HasEnded {M I : Type 0} (state : M → MediumState I) (s : Script) (blocks : List (List ℕ)) (lines : List Line) (end : Snapshot M) (status : Status) : Type 0 where
  pub world : World
  -- The transcript's events are a legal history of one controller over one array of blocks that never moved: each fetched
  -- command once, in its queue's order.
  pub history : IsHistory s blocks lines world
  -- The events stand in turns, whose pieces have the script's order, and the migration stands where the script asks for it.
  -- The guests are suspended exactly where this is due.
  pub turns : RunsInRounds (serial s) blocks lines world
  -- Each guest did its acts, and each of its commands was fetched, done, posted and reaped.
  pub complete : Complete s world
  -- Where the guests were moved, the source holds the blocks and the whole memory of the world then, and the destination
  -- those of the world at the end. Where they weren't, the source holds these, and the destination's memory is zeroed.
  pub hosts : SidesHold state s blocks (events_before_resume lines) end world
  -- The answer says that the migration was given up exactly where the text does.
  pub gave_up : has_given_up lines ≡ is_gave_up status

-- A run that came to its end, whatever the media tell.
pub record IsOver {M : Type 0} (s : Script) (lines : List Line) (end : Snapshot M) (status : Status) : Type 0 where
  pub over : end.phase ≡ Over
  -- The lines are a whole transcript of the script: two in front, events, the migration that it asks for, events, and the end.
  pub whole : IsWhole s lines
  -- The answer says that the migration was given up exactly where one was begun and the guests are at the source.
  pub gave_up : (end.tried && is_source end.side) ≡ is_gave_up status

-- A run of the script that the input spelled, of which all of this is said: one list of stages.
pub record IsRun {M I : Type 0} (state : M → MediumState I) (moves : I → Step → Bool → I → Type 0) (input : Option (List ℕ)) (old : Hosts M) (status : Status) (new : Hosts M) : Type 0 where
  pub script : Script
  pub taken : IsTaken script
  pub spelled : Spells input script
  pub stages : List Stage
  pub end : Snapshot M
  pub run : Chain (IsStage state moves) (start script old) stages end
  pub left : AreLeft end new
  -- the stages' text went out; where the output failed, all but a rest of the last one's
  pub text : IsWritten stages old.out.taken (is_write_fault status) new.out.taken
  -- Each medium got exactly the calls of the stages on its host, in order: for a piece those of its blocks, up to one that
  -- failed, at the medium of its shelf alone; for a move a mark at each, a get at the source and a put at the destination for
  -- each block, up to one that failed, and a mark at each. No call is made again.
  pub media : AreCalled state moves script stages old new
  -- Cut at its marks, the trace of each medium has in a round the steps of the pieces and one get or put for each of the lowest
  -- blocks that are owed, in the pause one for each that is owed, ascending, and a front of these where a copy failed. The
  -- destination gets no call before the migration begins, nor the side that the guests left behind it.
  pub segments : HaveSegments state moves script (start script old) stages
  -- No count of failed calls fell. What the lines show of faults is at most what the counts of both hosts rose by, where none
  -- stands at its type's end; so a move is given up only where a medium failed.
  pub faults : HaveCauses (lines_in stages) (faults_of state old) (faults_of state new)
  -- where no migration is asked for, the destination is as it was, with zeroed memory
  pub unmoved : script.head.migrate ≡ None → IsUntouched (start script old) end
  -- After `Done` and `GaveUp` the last stage is the end, whatever the media tell.
  pub over : OnEnded status (IsOver script (lines_in stages) end status)
  -- And where the media over which the guests went tell their blocks, all of this holds.
  pub ended : OnEnded status (IfTold state (have_resumed stages) old (λ blocks. HasEnded state script blocks (lines_in stages) end status))
  -- After `WriteFault` so does this, of what was written and of what was done.
  pub sink : OnWriteFault status (IfTold state (have_resumed stages) old (λ blocks. HasStopped state script blocks (start script old) end))

-- What is known of a run before its answer is: the result says how it ended.
pub record HasGone {M I E : Type 0} (state : M → MediumState I) (moves : I → Step → Bool → I → Type 0) (from : Snapshot M) (result : Result Ending E) (new : Hosts M) : Type 0 where
  pub end : Snapshot M
  pub ran : Ran state moves from (is_err result) end
  pub left : AreLeft end new
  pub over : is_err result ≡ false → end.phase ≡ Over
  pub ending : IfOk result (λ ending. IsEnding from.task.script.head.migrate end.side ending)
