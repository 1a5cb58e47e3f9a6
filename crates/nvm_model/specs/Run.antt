use Rattle.std.specs.Prelude.{◌≡◌, ◌⊎◌, ℕ, ◌+◌, ◌-◌, ◌*◌, ◌/◌, ◌%◌, ◌≤◌, ◌<◌, Bool, true, false, List, [], ◌∷◌, ◌++◌, Option, Some, None, length, map, slice_get, slice_set, take, All}
use Rattle.std.specs.List.{AllByRecursion, flat_map}
use Rattle.mig_base.specs.Count.{RisesIf}
use Rattle.mig_base.specs.Stream.{IsCut, with_more}
use Rattle.nvm_model.specs.declared.command.Command.{Command}
use Rattle.nvm_model.specs.declared.command.Outcome.{Outcome}
use Rattle.nvm_model.specs.declared.command.Work.{Work}
use Rattle.nvm_model.specs.declared.line.Line.{Line}
use Rattle.nvm_model.specs.declared.line.Line.TheVariants as line
use Rattle.nvm_model.specs.declared.piece.Piece.{Piece}
use Rattle.nvm_model.specs.declared.script.Head.{Head}
use Rattle.nvm_model.specs.declared.script.Script.{Script}
use Rattle.nvm_model.specs.declared.trace.Step.{Step}
use Rattle.nvm_model.specs.declared.trace.Step.TheVariants.{Get, Put}
use Rattle.nvm_model.specs.Chain.{Chain}
use Rattle.nvm_model.specs.History.{Complete}
use Rattle.nvm_model.specs.Medium.{At, IsAt, MediumState, all_at, marks_at}
use Rattle.nvm_model.specs.Memory.{page_at}
use Rattle.nvm_model.specs.Owed.{Owed, Written, all_owed, changes_of, copied_of, owed_after, restarted_if, with_written, written_by}
use Rattle.nvm_model.specs.declared.trace.Call.{Call}
use Rattle.nvm_model.specs.Piece.{after_piece, digest_after, done_blocks, piece_at, piece_count, pieces_left}
use Rattle.nvm_model.specs.Ring.{lane_windows}
use Rattle.nvm_model.specs.Shelf.{digest_bytes}
use Rattle.nvm_model.specs.Text.{text_of}
use Rattle.nvm_model.specs.Trace.{IsPieceDone, piece_calls}
use Rattle.nvm_model.specs.Turn.{InLanes, Plans, PostsAll, left_in, next_lane}
use Rattle.nvm_model.specs.declared.run.RunPhase.{RunPhase}
use Rattle.nvm_model.specs.declared.run.RunPhase.TheVariants.{New, Running, Moving, Suspended, Stopped, Over}
use Rattle.nvm_model.specs.declared.run.Side.{Side}
use Rattle.nvm_model.specs.declared.run.Side.TheVariants.{Source, Destination}
use Rattle.nvm_model.specs.World.{Lane, World, lane_of, start_world}

-- A run: guests over the media of one side, turn after turn, and their move to the other side. It is a list of stages from
-- one snapshot to the next, whatever the media are and whether they tell what they hold.

-- what is asked: a script, and in which order the pieces of a turn may be done
pub data Order : Type 0 where
  -- on one thread, as the script's stream of words says
  Serial : Order
  -- by threads, each lane's in its order
  Free : Order

-- a script, and in which order its pieces are done
pub record Task : Type 0 where
  pub script : Script
  pub order : Order

-- Pieces.

-- a piece as its line tells it, the work of which it is a part, and the calls of the media that it made
pub record PieceCalled : Type 0 where
  pub lane : ℕ
  pub cid : ℕ
  pub first : ℕ
  pub count : ℕ
  pub outcome : Outcome
  pub digest : Option (List ℕ)
  pub work : Work
  pub calls : List At

-- the line that tells it
abbrev pub piece_line : PieceCalled → Line
piece_line p = line.Piece p.lane p.cid p.first p.count p.outcome p.digest

-- the part of its command's work that it is
abbrev pub part_of : PieceCalled → Piece
part_of p = record {
  lane = p.lane;
  cid = p.cid;
  op = p.work.op;
  span = record { first = p.first; count = p.count };
  at = p.first - p.work.span.first;
  pages = p.work.pages;
}

-- What a piece does to its lane, by the bytes of its calls: it is the first piece that isn't done of the lane's first command
-- that has one, and it calls the medium of its shelf alone.
pub record PieceOnLane (s : Script) (p : PieceCalled) (lane new : Lane) : Type 0 where
  pub place : ℕ
  pub command : Command
  pub memory : List (List ℕ)
  pub moved : List (List ℕ)
  pub at_place : slice_get lane.running place ≡ Some command
  pub earlier : All (λ (c : Command). pieces_left s.head.shelf c ≡ 0) (take place lane.running)
  pub work_is : command.work ≡ Some p.work
  pub left : p.work.done < piece_count s.head.shelf p.work.span
  pub cid_is : p.cid ≡ command.cid
  pub first_is : p.first ≡ (piece_at s.head.shelf p.work.span p.work.done).first
  pub count_is : p.count ≡ (piece_at s.head.shelf p.work.span p.work.done).count
  pub done : IsPieceDone (part_of p) moved (record { outcome = p.outcome; digest = digest_bytes p.digest }) lane.pages memory
  pub digest_is : p.digest ≡ digest_after p.work.op 0 (done_blocks p.count p.outcome) moved
  pub calls_are : p.calls ≡ all_at (p.first / s.head.shelf) (piece_calls (part_of p) (p.first % s.head.shelf) lane.pages moved p.outcome)
  pub after : new ≡ record lane { pages = memory; running = slice_set lane.running place (after_piece command p.work p.outcome) }

-- Copies.

-- how the copy of a block ended
pub data CopyEnd : Type 0 where
  Copied : CopyEnd
  NotRead : CopyEnd
  NotWritten : CopyEnd

-- a block, the bytes that came if it was read, and how its copy ended
pub record Copy : Type 0 where
  pub block : ℕ
  pub bytes : List ℕ
  pub ended : CopyEnd

-- the call of a block, by its place in its shelf
abbrev pub at_block : ℕ → ℕ → (ℕ → Call) → At
at_block shelf b call = record { shelf = b / shelf; call = call (b % shelf) }

-- a get of block b of a shelf
abbrev pub get_of : List ℕ → Bool → ℕ → Call
get_of bytes failed b = record { step = Get b; bytes = bytes; failed = failed }

-- a put of block b of a shelf
abbrev pub put_of : List ℕ → Bool → ℕ → Call
put_of bytes failed b = record { step = Put b; bytes = bytes; failed = failed }

-- the calls of a copy at the side that is left, and at the other
abbrev pub gets_of : ℕ → Copy → List At
gets_of shelf c = of c.ended
  where
    of : CopyEnd → List At
    of Copied = at_block shelf c.block (get_of c.bytes false) ∷ []
    of NotRead = at_block shelf c.block (get_of [] true) ∷ []
    of NotWritten = at_block shelf c.block (get_of c.bytes false) ∷ []

-- at the other side: none where the block wasn't read
abbrev pub puts_of : ℕ → Copy → List At
puts_of shelf c = of c.ended
  where
    of : CopyEnd → List At
    of Copied = at_block shelf c.block (put_of c.bytes false) ∷ []
    of NotRead = []
    of NotWritten = at_block shelf c.block (put_of c.bytes true) ∷ []

-- no call of these copies failed
abbrev pub AllCopied : List Copy → Type 0
AllCopied copies = AllByRecursion (λ (c : Copy). c.ended ≡ Copied) copies

-- these blocks were copied, each once and in their order
pub record CopiesAll (blocks : List ℕ) (copies : List Copy) : Type 0 where
  pub each : map (λ (c : Copy). c.block) copies ≡ blocks
  pub copied : AllCopied copies

-- the first of these blocks were copied, up to one where a call failed
pub record CopiesUpTo (blocks : List ℕ) (copies : List Copy) : Type 0 where
  pub good : List Copy
  pub last : Copy
  pub others : List ℕ
  pub copies_are : copies ≡ good ++ last ∷ []
  pub each : map (λ (c : Copy). c.block) copies ++ others ≡ blocks
  pub copied : AllCopied good
  pub failed : last.ended ≡ Copied → ⊥

-- how many media a side has
abbrev pub media_count : Script → ℕ
media_count s = s.head.blocks / s.head.shelf

-- Between plan and posts.

-- What is done between the plan and the posts of a turn: a piece is served, or a block is copied to the other side.
pub data Item : Type 0 where
  Served : PieceCalled → Item
  Crossed : Copy → Item

-- Lanes over the media of the side on which they stand, and the media of the other one; how many words of the script's stream
-- were drawn since the run began; and the blocks that are still to be copied in this turn.
pub record Here (M : Type 0) : Type 0 where
  pub lanes : List Lane
  pub media : List M
  pub other : List M
  pub drawn : ℕ
  pub due : List ℕ

-- lanes as a world without blocks, for what depends on lanes alone
abbrev pub among : List Lane → World
among lanes = record { blocks = []; lanes = lanes }

-- Lane k may be the one whose piece is next. The copies of the other side count as one lane more, behind the last one.
abbrev pub MayBeNext : {M : Type 0} → Task → Here M → ℕ → Type 0
MayBeNext task h k = may task.order
  where
    may : Order → Type 0
    may Serial = k ≡ next_lane task.script.head.mix h.drawn (map (left_in task.script.head.shelf) h.lanes ++ length h.due ∷ [])
    may Free = Unit {0}

-- a piece of a lane that may be next, whose calls the media got
pub record IsPiece {M I : Type 0} (state : M → MediumState I) (moves : I → Step → Bool → I → Type 0) (task : Task) (old : Here M) (p : PieceCalled) (new : Here M) : Type 0 where
  pub there : (1 ≤ p.lane) × (p.lane ≤ length old.lanes)
  pub next : MayBeNext task old p.lane
  pub lane : Lane
  pub does : PieceOnLane task.script p (lane_of (among old.lanes) p.lane) lane
  pub called : Chain (IsAt state moves) old.media p.calls new.media
  pub after : new ≡ record old { lanes = slice_set old.lanes (p.lane - 1) lane; media = new.media; drawn = old.drawn + 1 }

-- on one thread the first of the blocks that are due is copied, and by threads any of them
abbrev pub IsFirst : Order → List ℕ → Type 0
IsFirst Serial front = front ≡ []
IsFirst Free front = Unit {0}

-- after a copy that failed no more are due
abbrev pub due_after : CopyEnd → List ℕ → List ℕ
due_after Copied others = others
due_after NotRead others = []
due_after NotWritten others = []

-- the copy of a block that is due, whose calls the media of both sides got
pub record IsCrossed {M I : Type 0} (state : M → MediumState I) (moves : I → Step → Bool → I → Type 0) (task : Task) (old : Here M) (c : Copy) (new : Here M) : Type 0 where
  pub next : MayBeNext task old (length old.lanes + 1)
  pub front : List ℕ
  pub others : List ℕ
  pub due : old.due ≡ front ++ c.block ∷ others
  pub first : IsFirst task.order front
  pub gets : Chain (IsAt state moves) old.media (gets_of task.script.head.shelf c) new.media
  pub puts : Chain (IsAt state moves) old.other (puts_of task.script.head.shelf c) new.other
  pub after : new ≡ record old { media = new.media; other = new.other; drawn = old.drawn + 1; due = due_after c.ended (front ++ others) }

-- one item leads on
abbrev pub IsItem : {M I : Type 0} → (M → MediumState I) → (I → Step → Bool → I → Type 0) → Task → Here M → Item → Here M → Type 0
IsItem state moves task old (Served p) new = IsPiece state moves task old p new
IsItem state moves task old (Crossed c) new = IsCrossed state moves task old c new

-- the pieces among items, in order
abbrev pub pieces_of : List Item → List PieceCalled
pieces_of [] = []
pieces_of (Served p ∷ items) = p ∷ pieces_of items
pieces_of (Crossed c ∷ items) = pieces_of items

-- the copies among them
abbrev pub copies_of : List Item → List Copy
copies_of [] = []
copies_of (Served p ∷ items) = copies_of items
copies_of (Crossed c ∷ items) = c ∷ copies_of items

-- the calls of an item at the side on which the guests stand, and at the other
abbrev pub here_of : ℕ → Item → List At
here_of shelf (Served p) = p.calls
here_of shelf (Crossed c) = gets_of shelf c

-- a piece makes none there
abbrev pub there_of : ℕ → Item → List At
there_of shelf (Served p) = []
there_of shelf (Crossed c) = puts_of shelf c

-- Turns.

-- what was done in a turn
pub record TurnDone : Type 0 where
  -- the reaps, acts and fetches of each lane in order
  pub plan : List Line
  pub items : List Item
  pub posts : List Line

-- its lines, in their order; a copy has none
abbrev pub turn_lines : TurnDone → List Line
turn_lines t = t.plan ++ (map piece_line (pieces_of t.items) ++ t.posts)

-- the calls of its items at one side's media, in their order
abbrev pub turn_calls : Script → TurnDone → List At
turn_calls s t = flat_map (here_of s.head.shelf) t.items

-- and at the other's
abbrev pub copy_calls : Script → TurnDone → List At
copy_calls s t = flat_map (there_of s.head.shelf) t.items

-- no piece of any lane is left
abbrev pub NoneLeft : ℕ → List Lane → Type 0
NoneLeft shelf lanes = AllByRecursion (λ (lane : Lane). AllByRecursion (λ (c : Command). pieces_left shelf c ≡ 0) lane.running) lanes

-- A turn in which these blocks are to be copied. At its end none is due: all were copied, or a copy failed.
pub record IsTurn {M I : Type 0} (state : M → MediumState I) (moves : I → Step → Bool → I → Type 0) (task : Task) (due : List ℕ) (old : Here M) (t : TurnDone) (new : Here M) : Type 0 where
  pub planned : List Lane
  pub worked : List Lane
  pub planning : InLanes (Plans task.script) 1 old.lanes t.plan planned
  pub working : Chain (IsItem state moves task) (record old { lanes = planned; due = due }) t.items (record new { lanes = worked; due = [] })
  pub all : NoneLeft task.script.head.shelf worked
  pub posting : InLanes (PostsAll task.script) 1 worked t.posts new.lanes

-- what its events wrote, one after another
abbrev pub written_in : Script → TurnDone → List Written
written_in s t = map (written_by s None) t.plan ++ (map (λ (p : PieceCalled). written_by s (Some p.work) (piece_line p)) (pieces_of t.items) ++ map (written_by s None) t.posts)

-- The queue of changes lost one, so that all is owed again: only where the pieces that changed a block are more than it has
-- cells, and always where they are more than it has if it is emptied after each copy. Where the pieces come before all copies,
-- exactly in the first case.
pub record IsLost (task : Task) (changes copies : ℕ) (lost : Bool) : Type 0 where
  pub only : lost ≡ true → task.script.head.change < changes
  pub always : task.script.head.change * (copies + 1) < changes → lost ≡ true
  pub serial : task.order ≡ Serial → task.script.head.mix ≡ 0 → task.script.head.change < changes → lost ≡ true

-- Stages.

-- the other one of the two sides
abbrev pub opposite : Side → Side
opposite Source = Destination
opposite Destination = Source

-- One stage of a run; those that make calls name the side on which the guests stand, and those of a migration the number of
-- its last turn.
pub data Stage : Type 0 where
  Title : Stage
  Turn : Side → TurnDone → Stage
  Begin : Stage
  -- a turn in which blocks are copied; whether all is owed again, and how many blocks and pages are owed after it
  Round : Side → ℕ → TurnDone → Bool → ℕ → ℕ → Stage
  -- one in which a copy failed
  Broken : Side → ℕ → TurnDone → Stage
  Suspend : Stage
  -- all that is owed was copied: these blocks, and so many pages
  Resume : Side → ℕ → List Copy → ℕ → Stage
  -- a copy failed while the guests were suspended
  Stop : Side → ℕ → List Copy → Stage
  GiveUp : ℕ → Stage
  End : Stage

-- the line of a restart, if there was one
abbrev pub restart_line : Bool → List Line
restart_line true = line.Restart ∷ []
restart_line false = []

-- the lines that a stage writes
abbrev pub lines_of : Stage → List Line
lines_of Title = line.Title ∷ line.Ready ∷ []
lines_of (Turn side t) = turn_lines t
lines_of Begin = line.Migrate ∷ []
lines_of (Round side n t lost blocks pages) = turn_lines t ++ (restart_line lost ++ line.Round blocks pages ∷ [])
lines_of (Broken side n t) = turn_lines t
lines_of Suspend = line.Suspend ∷ []
lines_of (Resume side n copies pages) = line.Pause (length copies) pages ∷ line.ResumeTo ∷ []
lines_of (Stop side n copies) = []
lines_of (GiveUp n) = line.GiveUp ∷ []
lines_of End = line.End ∷ []

-- those of several, one after another
abbrev pub lines_in : List Stage → List Line
lines_in stages = flat_map lines_of stages

-- of what stands here and there, the one of a side: the first where the guests stand on it
abbrev pub by_side : {X : Type 0} → Side → Side → X → X → X
by_side Source Source here there = here
by_side Source Destination here there = there
by_side Destination Source here there = there
by_side Destination Destination here there = here

-- The marks of a migration, one for each medium of both sides: as its turn n begins, where the guests are suspended after turn
-- n, and where they go on.
abbrev pub turn_mark : Script → ℕ → List At
turn_mark s n = marks_at (media_count s) (3 * n)

abbrev pub suspend_mark : Script → ℕ → List At
suspend_mark s n = marks_at (media_count s) (3 * n + 1)

abbrev pub resume_mark : Script → ℕ → List At
resume_mark s n = marks_at (media_count s) (3 * n + 2)

-- the calls of a stage at the media of one side
abbrev pub calls_at : Script → Side → Stage → List At
calls_at s who Title = []
calls_at s who (Turn side t) = by_side who side (turn_calls s t) (copy_calls s t)
calls_at s who Begin = []
calls_at s who (Round side n t lost blocks pages) = turn_mark s n ++ by_side who side (turn_calls s t) (copy_calls s t)
calls_at s who (Broken side n t) = turn_mark s n ++ by_side who side (turn_calls s t) (copy_calls s t)
calls_at s who Suspend = []
calls_at s who (Resume side n copies pages) =
    suspend_mark s n ++ (by_side who side (flat_map (gets_of s.head.shelf) copies) (flat_map (puts_of s.head.shelf) copies) ++ resume_mark s n)
calls_at s who (Stop side n copies) = suspend_mark s n ++ by_side who side (flat_map (gets_of s.head.shelf) copies) (flat_map (puts_of s.head.shelf) copies)
calls_at s who (GiveUp n) = resume_mark s n
calls_at s who End = []

-- Snapshots.

-- the bytes that a sink took, where it tells them, and how many of its calls failed
pub record SinkState : Type 0 where
  pub taken : Option (List ℕ)
  pub faults : ℕ

-- A run between two stages: its guests and queue pairs, whose memory is on the side on which they stand, the media of this
-- side and of the other one, the memory that stands on the other one, page for page over all lanes, and the sink.
pub record Snapshot (M : Type 0) : Type 0 where
  pub task : Task
  pub phase : RunPhase
  pub side : Side
  -- whether a migration was begun, how many of its rounds were done, and what it owes
  pub tried : Bool
  pub rounds : ℕ
  pub owed : Owed
  pub turns : ℕ
  pub drawn : ℕ
  pub lanes : List Lane
  pub at : List M
  pub other : List M
  pub left : List (List ℕ)
  pub out : SinkState

-- its lanes and the media of both sides
abbrev pub here : {M : Type 0} → Snapshot M → Here M
here t = record { lanes = t.lanes; media = t.at; other = t.other; drawn = t.drawn; due = [] }

-- the memory of the lanes' windows, page for page and byte for byte, the rings of the queue pairs included
abbrev pub memory_of : Script → List Lane → List (List ℕ)
memory_of s lanes = flat_map (λ (window : List (List ℕ)). window) (lane_windows s.head 1 lanes)

-- these pages of one memory, in the place of those of another
abbrev pub with_pages : List ℕ → List (List ℕ) → List (List ℕ) → List (List ℕ)
with_pages [] from to = to
with_pages (page ∷ pages) from to = with_pages pages from (slice_set to page (page_at from page))

-- the lanes of a script before anything was done
abbrev pub start_lanes : Script → List Lane
start_lanes s = (start_world s.head []).lanes

-- nothing is owed
abbrev pub none_owed : Owed
none_owed = record { blocks = []; pages = [] }

-- a run that hasn't begun, over the media of the source and of the destination; both memories are zeroed
abbrev pub start_of : {M : Type 0} → Task → List M → List M → SinkState → Snapshot M
start_of task from to out = record {
  task = task;
  phase = New;
  side = Source;
  tried = false;
  rounds = 0;
  owed = none_owed;
  turns = 0;
  drawn = 0;
  lanes = start_lanes task.script;
  at = from;
  other = to;
  left = memory_of task.script (start_lanes task.script);
  out = out;
}

-- each lane of the snapshot is complete
abbrev pub AreComplete : {M : Type 0} → Snapshot M → Type 0
AreComplete t = Complete t.task.script (among t.lanes)

-- A move is due before the turn with the number that the script asks for, or before an earlier one where all is complete.
pub record IsDue {M : Type 0} (t : Snapshot M) : Type 0 where
  pub untried : t.tried ≡ false
  pub turn : ℕ
  pub asked : t.task.script.head.migrate ≡ Some turn
  pub when : (t.turns + 1 ≡ turn) ⊎ AreComplete t

-- The guests are to be suspended where few enough blocks and pages are owed, or where the rounds were as many as the script
-- has patience for.
abbrev pub IsCutDue : Head → Owed → ℕ → Type 0
IsCutDue head owed rounds = ((length owed.blocks ≤ head.small) × (length owed.pages ≤ head.pages)) ⊎ (head.patience ≤ rounds)

-- What each stage does.

-- the first two lines are due
pub record IsTitle {M : Type 0} (old new : Snapshot M) : Type 0 where
  pub was : old.phase ≡ New
  pub after : new ≡ record old { phase = Running; out = new.out }

-- a turn was done on the side on which the guests stand, where no move is due; it has an event
pub record TakesTurn {M I : Type 0} (state : M → MediumState I) (moves : I → Step → Bool → I → Type 0) (old : Snapshot M) (side : Side) (t : TurnDone) (new : Snapshot M) : Type 0 where
  pub was : old.phase ≡ Running
  pub stands : side ≡ old.side
  pub not_due : IsDue old → ⊥
  pub unfinished : AreComplete old → ⊥
  pub turn : IsTurn state moves old.task [] (here old) t (here new)
  pub some : turn_lines t ≡ [] → ⊥
  pub after : new ≡ record old { turns = old.turns + 1; drawn = new.drawn; lanes = new.lanes; at = new.at; out = new.out }

-- a move that is due was begun: all is owed
pub record IsBegin {M : Type 0} (old new : Snapshot M) : Type 0 where
  pub was : old.phase ≡ Running
  pub due : IsDue old
  pub after : new ≡ record old { phase = Moving; tried = true; rounds = 0; owed = all_owed old.task.script.head; out = new.out }

-- A turn of a migration that isn't to be cut over: each medium of both sides is marked, and the lowest blocks that are owed
-- are to be copied. It has an event unless all is complete.
pub record TakesMoving {M I : Type 0} (state : M → MediumState I) (moves : I → Step → Bool → I → Type 0) (old : Snapshot M) (side : Side) (n : ℕ) (t : TurnDone) (new : Snapshot M) : Type 0 where
  pub was : old.phase ≡ Moving
  pub stands : side ≡ old.side
  pub number : n ≡ old.turns + 1
  pub not_due : IsCutDue old.task.script.head old.owed old.rounds → ⊥
  pub at : List M
  pub other : List M
  pub here_marked : Chain (IsAt state moves) old.at (turn_mark old.task.script n) at
  pub there_marked : Chain (IsAt state moves) old.other (turn_mark old.task.script n) other
  pub turn : IsTurn state moves old.task (copied_of old.task.script.head old.owed).blocks (here (record old { at = at; other = other })) t (here new)
  pub some : turn_lines t ≡ [] → AreComplete old

-- what is owed after a round
abbrev pub owed_then : Script → TurnDone → Bool → Owed → Owed
owed_then s t lost owed = restarted_if lost s.head (owed_after s.head (written_in s t) owed)

-- the pages that are copied at the end of a round
abbrev pub pages_then : Script → TurnDone → Owed → List ℕ
pages_then s t owed = take s.head.pages (with_written s.head (written_in s t) owed).pages

-- every copy was made, and then the lowest pages that are owed were copied
pub record IsRound {M I : Type 0} (state : M → MediumState I) (moves : I → Step → Bool → I → Type 0) (old : Snapshot M) (side : Side) (n : ℕ) (t : TurnDone) (lost : Bool) (blocks pages : ℕ) (new : Snapshot M) : Type 0 where
  pub moving : TakesMoving state moves old side n t new
  pub copied : AllCopied (copies_of t.items)
  pub lost_is : IsLost old.task (changes_of (written_in old.task.script t)) (length (copies_of t.items)) lost
  pub told : (blocks ≡ length new.owed.blocks) × (pages ≡ length new.owed.pages)
  pub after : new ≡ record old {
    turns = n;
    rounds = old.rounds + 1;
    owed = owed_then old.task.script t lost old.owed;
    drawn = new.drawn;
    lanes = new.lanes;
    at = new.at;
    other = new.other;
    left = with_pages (pages_then old.task.script t old.owed) (memory_of old.task.script new.lanes) old.left;
    out = new.out;
  }

-- a copy failed, and the move is to be given up
pub record IsBroken {M I : Type 0} (state : M → MediumState I) (moves : I → Step → Bool → I → Type 0) (old : Snapshot M) (side : Side) (n : ℕ) (t : TurnDone) (new : Snapshot M) : Type 0 where
  pub moving : TakesMoving state moves old side n t new
  pub failed : AllCopied (copies_of t.items) → ⊥
  pub after : new ≡ record old { phase = Stopped; turns = n; drawn = new.drawn; lanes = new.lanes; at = new.at; other = new.other; out = new.out }

-- the guests are suspended where this is due
pub record IsSuspend {M : Type 0} (old new : Snapshot M) : Type 0 where
  pub was : old.phase ≡ Moving
  pub due : IsCutDue old.task.script.head old.owed old.rounds
  pub after : new ≡ record old { phase = Suspended; out = new.out }

-- every block that was owed was copied, and every such page; the guests go on at the other side
pub record IsResume {M I : Type 0} (state : M → MediumState I) (moves : I → Step → Bool → I → Type 0) (old : Snapshot M) (side : Side) (n : ℕ) (copies : List Copy) (pages : ℕ) (new : Snapshot M) : Type 0 where
  pub was : old.phase ≡ Suspended
  pub stood : side ≡ old.side
  pub number : n ≡ old.turns
  pub copies_all : CopiesAll old.owed.blocks copies
  pub told : pages ≡ length old.owed.pages
  pub gets : Chain (IsAt state moves) old.at (suspend_mark old.task.script n ++ (flat_map (gets_of old.task.script.head.shelf) copies ++ resume_mark old.task.script n)) new.other
  pub puts : Chain (IsAt state moves) old.other (suspend_mark old.task.script n ++ (flat_map (puts_of old.task.script.head.shelf) copies ++ resume_mark old.task.script n)) new.at
  pub after : new ≡ record old { phase = Running; side = opposite old.side; at = new.at; other = new.other; left = memory_of old.task.script old.lanes; out = new.out }

-- a call failed while the guests were suspended
pub record IsStop {M I : Type 0} (state : M → MediumState I) (moves : I → Step → Bool → I → Type 0) (old : Snapshot M) (side : Side) (n : ℕ) (copies : List Copy) (new : Snapshot M) : Type 0 where
  pub was : old.phase ≡ Suspended
  pub stood : side ≡ old.side
  pub number : n ≡ old.turns
  pub copies_stop : CopiesUpTo old.owed.blocks copies
  pub gets : Chain (IsAt state moves) old.at (suspend_mark old.task.script n ++ flat_map (gets_of old.task.script.head.shelf) copies) new.at
  pub puts : Chain (IsAt state moves) old.other (suspend_mark old.task.script n ++ flat_map (puts_of old.task.script.head.shelf) copies) new.other
  pub after : new ≡ record old { phase = Stopped; at = new.at; other = new.other; out = new.out }

-- the guests go on where they were
pub record IsGiveUp {M I : Type 0} (state : M → MediumState I) (moves : I → Step → Bool → I → Type 0) (old : Snapshot M) (n : ℕ) (new : Snapshot M) : Type 0 where
  pub was : old.phase ≡ Stopped
  pub number : n ≡ old.turns
  pub here_marked : Chain (IsAt state moves) old.at (resume_mark old.task.script n) new.at
  pub there_marked : Chain (IsAt state moves) old.other (resume_mark old.task.script n) new.other
  pub after : new ≡ record old { phase = Running; at = new.at; other = new.other; out = new.out }

-- all is complete, and no move is due
pub record IsEnd {M : Type 0} (old new : Snapshot M) : Type 0 where
  pub was : old.phase ≡ Running
  pub not_due : IsDue old → ⊥
  pub complete : AreComplete old
  pub after : new ≡ record old { phase = Over; out = new.out }

-- one stage leads from a snapshot to the next
abbrev pub IsStage : {M I : Type 0} → (M → MediumState I) → (I → Step → Bool → I → Type 0) → Snapshot M → Stage → Snapshot M → Type 0
IsStage state moves old Title new = IsTitle old new
IsStage state moves old (Turn side t) new = TakesTurn state moves old side t new
IsStage state moves old Begin new = IsBegin old new
IsStage state moves old (Round side n t lost blocks pages) new = IsRound state moves old side n t lost blocks pages new
IsStage state moves old (Broken side n t) new = IsBroken state moves old side n t new
IsStage state moves old Suspend new = IsSuspend old new
IsStage state moves old (Resume side n copies pages) new = IsResume state moves old side n copies pages new
IsStage state moves old (Stop side n copies) new = IsStop state moves old side n copies new
IsStage state moves old (GiveUp n) new = IsGiveUp state moves old n new
IsStage state moves old End new = IsEnd old new

-- Runs.

-- the text of stages went out; where the sink failed, all of it but a rest of the last one's
abbrev pub IsWritten : List Stage → Option (List ℕ) → Bool → Option (List ℕ) → Type 0
IsWritten stages old false new = new ≡ with_more (text_of (lines_in stages)) old
IsWritten stages old true new =
    (front : List Stage) × (last : Stage) × (stages ≡ front ++ last ∷ []) × IsCut (text_of (lines_of last)) (with_more (text_of (lines_in front)) old) new

-- A run went on by stages. Where the sink failed, the last of these was done, and its text was cut.
pub record Went {M I : Type 0} (state : M → MediumState I) (moves : I → Step → Bool → I → Type 0) (old : Snapshot M) (failed : Bool) (new : Snapshot M) : Type 0 where
  pub stages : List Stage
  pub run : Chain (IsStage state moves) old stages new
  pub text : IsWritten stages old.out.taken failed new.out.taken
  pub counted : RisesIf failed old.out.faults new.out.faults

-- the media of one side, and its memory
abbrev pub media_at : {M : Type 0} → Side → Snapshot M → List M
media_at who t = by_side who t.side t.at t.other

-- the memory of a side
abbrev pub memory_at : {M : Type 0} → Side → Snapshot M → List (List ℕ)
memory_at who t = by_side who t.side (memory_of t.task.script t.lanes) t.left
