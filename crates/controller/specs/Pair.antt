use Rattle.std.specs.Prelude.{◌≡◌, ◌≢◌, ◌⊎◌, ℕ, ◌+◌, ◌-◌, ◌*◌, ◌<◌, ◌≤◌, false, true, All, List, [], ◌∷◌, ◌++◌, Option, Some, None, Result, IfErr, IfOk, IsTrue, MatchResult, length, map, slice_index_or, slice_set, drop, take}
use Rattle.std.specs.List.{flat_map, range_with_len}
use Rattle.nvm_values.specs.declared.op.Op.TheVariants.{Flush}
use Rattle.nvm_values.specs.declared.sqe.Sqe.{Sqe}
use Rattle.nvm_values.specs.Cqe.{CqeFields, cqe_bytes}
use Rattle.nvm_values.specs.Op.{moves_data}
use Rattle.nvm_values.specs.Sqe.{sqe_of}
use Rattle.nvm_values.specs.Status.{StatusPair}
use Rattle.nvm_model.specs.declared.command.Command.{Command}
use Rattle.nvm_model.specs.declared.command.Outcome.{Outcome}
use Rattle.nvm_model.specs.declared.command.Work.{Work}
use Rattle.nvm_model.specs.declared.line.Line.{Line}
use Rattle.nvm_model.specs.declared.line.Line.TheVariants as line
use Rattle.nvm_model.specs.declared.piece.Piece.{Piece}
use Rattle.nvm_model.specs.declared.piece.PieceResult.{PieceResult}
use Rattle.nvm_model.specs.declared.script.LaneSet.{LaneSet}
use Rattle.nvm_model.specs.declared.script.Script.{Script}
use Rattle.nvm_model.specs.Check.{checked_command, pages_needed}
use Rattle.nvm_model.specs.Memory.{page_at}
use Rattle.nvm_model.specs.Piece.{after_piece, page_of, piece_count, pieces_left}
use Rattle.nvm_ring.specs.Queues.{HasEnds, HasWindow, IsOrdered}
use Rattle.nvm_model.specs.Ring.{CqState, cell, places_between}
use Rattle.nvm_model.specs.ScriptText.{IsSet}
use Rattle.nvm_model.specs.Turn.{FetchesOn, PostsAll}
use Rattle.nvm_model.specs.World.{Lane, set_of}
use Rattle.nvm_ring.specs.declared.place.BadDoorbell.{BadDoorbell}
use Rattle.nvm_ring.specs.Moves.{IsReadBack, after_fetch, after_post}
use Rattle.nvm_ring.specs.Stands.{TakesReaped}
use Rattle.nvm_cmd.specs.Answer.{job_of}
use Rattle.nvm_cmd.specs.Cut.{piece_of}
use Rattle.hall.specs.Plan.{PlanState, pieces_of}
use Rattle.guest_ram.specs.Window.{WindowState, ctrl_written, data_pages}
use Rattle.ctl_state.specs.declared.phase.Phase.{Phase}
use Rattle.ctl_state.specs.Controller.{ControllerState, PairState, no_pair, pair_of}

-- the controller after the pair of lane k changed
abbrev pub with_pair : ℕ → PairState → ControllerState → ControllerState
with_pair k pair c = record c { pairs = slice_set c.pairs (k - 1) pair }

-- the pair of lane k made such a step, and no other changed
pub record AtLane (k : ℕ) (Step : PairState → PairState → Type 0) (old new : ControllerState) : Type 0 where
  pub step : Step (pair_of old k) (pair_of new k)
  pub others : new ≡ with_pair k (pair_of new k) old

-- one controller differs from another in the pair of lane k alone
pub record IsSameButPair (k : ℕ) (old new : ControllerState) : Type 0 where
  pub count : length new.pairs ≡ length old.pairs
  pub rest : new ≡ record old { pairs = new.pairs }
  pub others : (i : ℕ) → (i ≡ k - 1 → ⊥) → slice_index_or new.pairs i no_pair ≡ slice_index_or old.pairs i no_pair

-- an empty pair of these sizes
abbrev pub new_pair : ℕ → LaneSet → PairState
new_pair room set = record no_pair {
  sq = record { size = set.sq; head = 0; tail = 0 };
  cq = record { ring = record { size = set.cq; head = 0; tail = 0 }; phase = true };
  room = room;
}

-- a new controller in that phase, with empty rings, no change queue and nothing fed
pub record IsMade (phase : Phase) (sets : List LaneSet) (cells burst : ℕ) (c : ControllerState) : Type 0 where
  pub pairs : c.pairs ≡ map (new_pair burst) sets
  pub burst_is : c.burst ≡ burst
  pub phase_is : c.phase ≡ phase
  pub cells_are : length c.queue.cells ≡ cells
  pub not_live : c.queue.live ≡ false
  pub not_logging : c.logging ≡ false
  pub none_fed : c.fed ≡ record { lanes = length sets; bytes = [] }

-- The pieces of fetched commands.

-- those of one command of lane k
abbrev pub command_pieces : ℕ → ℕ → Command → List Piece
command_pieces k shelf command = of command.work
  where
    of : Option Work → List Piece
    of None = []
    of (Some work) = map (λ (i : ℕ). piece_of k shelf i (job_of command.cid work)) (range_with_len 0 (piece_count shelf work.span))

-- those of all, in their order
abbrev pub lane_pieces : ℕ → ℕ → List Command → List Piece
lane_pieces k shelf commands = flat_map (command_pieces k shelf) commands

-- a command after its next pieces ended so
abbrev pub after_pieces : Command → List Outcome → Command
after_pieces command [] = command
after_pieces command (outcome ∷ outcomes) = after_pieces (after command.work) outcomes
  where
    after : Option Work → Command
    after None = command
    after (Some work) = after_piece command work outcome

-- commands after the first of all their pieces ended so
abbrev pub worked : ℕ → List Command → List Outcome → List Command
worked shelf [] outcomes = []
worked shelf (command ∷ commands) outcomes = after_pieces command (take (pieces_left shelf command) outcomes) ∷ worked shelf commands (drop (pieces_left shelf command) outcomes)

abbrev pub outcomes_of : List PieceResult → List Outcome
outcomes_of results = map (λ (r : PieceResult). r.outcome) results

-- A command that was fetched in this turn, none of whose pieces was done: on blocks of the namespace, and where it moves
-- data on as many data pages as these need, all of which are there.
pub record IsNewWork (blocks pages : ℕ) (work : Work) : Type 0 where
  pub op : work.op ≡ Flush → ⊥
  pub none_done : work.done ≡ 0
  pub some : 1 ≤ work.span.count
  pub few : work.span.count ≤ 64
  pub within : work.span.first + work.span.count ≤ blocks
  pub used : IsTrue (moves_data work.op) → work.pages.used ≡ pages_needed work.span.count
  pub there : IsTrue (moves_data work.op) → (i : ℕ) → i < work.span.count → page_of work.pages i < pages

abbrev pub IsFetched : ℕ → ℕ → Command → Type 0
IsFetched blocks pages command = fits command.work
  where
    fits : Option Work → Type 0
    fits None = Unit {0}
    fits (Some work) = IsNewWork blocks pages work

-- what is told of a fetched command: its identifier, its status, and how many pieces it has
abbrev pub told_fetch : ℕ → Command → ℕ × StatusPair × ℕ
told_fetch shelf command = (command.cid, command.status, pieces_left shelf command)

abbrev pub fetch_line : ℕ → ℕ × StatusPair × ℕ → Line
fetch_line k told = line.Fetch k told.0 told.1 told.2

abbrev pub post_line : ℕ → ℕ × StatusPair → Line
post_line k told = line.Post k told.0 told.1

-- The steps of a pair, by its own rings and whatever the window holds.

-- a value is rung at the doorbell of the submission queue: a place of the ring is its tail from then on
pub record RingsSq (value : ℕ) (result : Result (Unit {0}) BadDoorbell) (old new : PairState) : Type 0 where
  pub exact : MatchResult result (λ _. value < old.sq.size) (λ _. old.sq.size ≤ value)
  pub moved : IfOk result (λ _. new ≡ record old { sq = record old.sq { tail = value } })
  pub same : IfErr result (λ bad. (bad ≡ record { value = value }) × (new ≡ old))

-- how many entries lie between the head of the completion ring and a place
abbrev pub places_up_to : CqState → ℕ → ℕ
places_up_to cq place = places_between cq.ring.size cq.ring.head place

-- a value is rung at that of the completion queue: one of the places from head to tail is its head from then on
pub record RingsCq (value : ℕ) (result : Result (Unit {0}) BadDoorbell) (old new : PairState) : Type 0 where
  pub exact : MatchResult result
      (λ _. (value < old.cq.ring.size) × (places_up_to old.cq value ≤ places_up_to old.cq old.cq.ring.tail))
      (λ _. value < old.cq.ring.size → places_up_to old.cq old.cq.ring.tail < places_up_to old.cq value)
  pub moved : IfOk result (λ _. new ≡ record old { cq = record old.cq { ring = record old.cq.ring { head = value } } })
  pub same : IfErr result (λ bad. (bad ≡ record { value = value }) × (new ≡ old))

-- and it takes the place of any number of completions that the guest may have reaped
pub record RingsReaped (value : ℕ) (result : Result (Unit {0}) BadDoorbell) (old new : PairState) : Type 0 where
  pub takes : TakesReaped old.cq new.cq value result

-- how many completions the ring has room for
abbrev pub free_places : CqState → ℕ
free_places cq = cq.ring.size - 1 - places_up_to cq cq.ring.tail

-- a command may be fetched where an entry is there, and room for one more completion than the fetched commands need
pub record MayFetch (pair : PairState) : Type 0 where
  pub there : pair.sq.head ≢ pair.sq.tail
  pub room : length pair.commands < free_places pair.cq

-- the oldest entry, and its command
abbrev pub next_entry : WindowState → PairState → Sqe
next_entry window pair = sqe_of (cell 64 pair.sq.head (page_at window.pages 0))

abbrev pub next_command : ℕ → WindowState → PairState → Command
next_command blocks window pair = checked_command blocks window.lane (data_pages window) pair.commands (next_entry window pair)

-- a pair that fetched one more command
abbrev pub with_command : ℕ → Command → PairState → PairState
with_command shelf command pair = record pair { sq = after_fetch pair.sq; commands = pair.commands ++ command ∷ []; fetched = pair.fetched ++ told_fetch shelf command ∷ [] }

-- these commands were fetched, one after another
abbrev pub FetchSteps : ℕ → ℕ → WindowState → List Command → PairState → PairState → Type 0
FetchSteps blocks shelf window [] old new = new ≡ old
FetchSteps blocks shelf window (command ∷ commands) old new = MayFetch old × (command ≡ next_command blocks window old) × FetchSteps blocks shelf window commands (with_command shelf command old) new

-- a plan with more pieces of a lane
abbrev pub with_pieces : ℕ → List Piece → PlanState → PlanState
with_pieces k pieces plan = record plan { lanes = slice_set plan.lanes (k - 1) (pieces_of plan k ++ pieces) }

-- a plan differs from another in the pieces of lane k alone
pub record IsSameButPieces (k : ℕ) (old new : PlanState) : Type 0 where
  pub count : length new.lanes ≡ length old.lanes
  pub size : new.room ≡ old.room
  pub others : (i : ℕ) → (i ≡ k - 1 → ⊥) → slice_index_or new.lanes i [] ≡ slice_index_or old.lanes i []

-- The fetches of a turn: until as many commands are fetched as a turn may have, or none may be any more. Their pieces
-- stand in the plan behind the others, and where none was fetched before, what is told is told of these.
pub record FetchesTurn (k blocks shelf burst : ℕ) (window : WindowState) (plan new_plan : PlanState) (old new : PairState) : Type 0 where
  pub commands : List Command
  pub steps : FetchSteps blocks shelf window commands old new
  pub stops : (length new.commands ≡ burst) ⊎ (MayFetch new → ⊥)
  pub planned : new_plan ≡ with_pieces k (lane_pieces k shelf commands) plan
  pub fits : All (IsFetched blocks (length (data_pages window))) commands
  pub few : length new.commands ≤ burst
  pub told : old.commands ≡ [] → new.fetched ≡ map (told_fetch shelf) new.commands

-- the commands of lane k and their pieces stand in the plan
pub record IsPlanned (s : Script) (k : ℕ) (plan : PlanState) (pair : PairState) : Type 0 where
  pub pieces : pieces_of plan k ≡ lane_pieces k s.head.shelf pair.commands
  pub told : pair.fetched ≡ map (told_fetch s.head.shelf) pair.commands
  pub checked : All (IsFetched s.head.blocks (set_of s.head k).pages) pair.commands
  pub few : length pair.commands ≤ s.head.burst

-- the pieces of lane k's fetched commands were put into a plan where it had none
pub record PlansLane (s : Script) (k : ℕ) (old new : PlanState) (pair : PairState) : Type 0 where
  pub planned : IsPlanned s k new pair
  pub same : IsSameButPieces k old new

-- the commands after their pieces ended so, of which that many were told of each
abbrev pub ended : List Command → List (ℕ × StatusPair × ℕ) → List Outcome → List Command
ended [] told outcomes = []
ended (command ∷ commands) [] outcomes = []
ended (command ∷ commands) (t ∷ told) outcomes = after_pieces command (take t.2 outcomes) ∷ ended commands told (drop t.2 outcomes)

abbrev pub told_post : Command → ℕ × StatusPair
told_post command = (command.cid, command.status)

-- the completion of a command as its queue's next entry
abbrev pub next_completion : ℕ → ℕ × StatusPair → PairState → CqeFields
next_completion k told pair = record { dw0 = 0; dw1 = 0; sqhd = pair.sq.head; sqid = k; cid = told.0; phase = pair.cq.phase; status = told.1; mid = 0; more = false; dnr = false }

-- a pair that posted one more completion, and the window then
abbrev pub with_post : ℕ × StatusPair → PairState → PairState
with_post told pair = record pair { cq = after_post pair.cq; posted = pair.posted ++ told ∷ [] }

abbrev pub with_entry : CqeFields → PairState → WindowState → WindowState
with_entry entry pair window = ctrl_written window 1 (16 * pair.cq.ring.tail) (cqe_bytes entry)

-- these completions were posted, one after another
abbrev pub PostSteps : ℕ → List (ℕ × StatusPair) → PairState → WindowState → PairState → WindowState → Type 0
PostSteps k [] old window new new_window = (new ≡ old) × (new_window ≡ window)
PostSteps k (told ∷ all) old window new new_window =
    IsReadBack (next_completion k told old) × PostSteps k all (with_post told old) (with_entry (next_completion k told old) old window) new new_window

-- the posts of a turn: a completion of each fetched command, in their order
abbrev pub PostsTurn : ℕ → List PieceResult → WindowState → WindowState → PairState → PairState → Type 0
PostsTurn k results window new_window old new =
    PostSteps k (map told_post (ended old.commands old.fetched (outcomes_of results))) (record old { commands = []; fetched = []; posted = [] }) window new new_window

-- The controller's part of a lane.

-- the controller's ends and the lane's window stand for a lane
pub record Stands (k : ℕ) (set : LaneSet) (pair : PairState) (window : WindowState) (lane : Lane) : Type 0 where
  pub number : window.lane ≡ k
  pub window_is : HasWindow k set window.pages lane
  pub ordered : IsOrdered set lane
  pub ends : HasEnds set pair.sq pair.cq lane

-- what a script says that a fetch depends on
pub record IsAsked (s : Script) (blocks shelf burst : ℕ) : Type 0 where
  pub blocks_is : s.head.blocks ≡ blocks
  pub shelf_is : s.head.shelf ≡ shelf
  pub burst_is : s.head.burst ≡ burst

-- The fetches of a lane's turn were made: they are told, and the commands run.
pub record Fetches (s : Script) (k : ℕ) (lane : Lane) (pair : PairState) (window : WindowState) : Type 0 where
  pub new : Lane
  pub stands : Stands k (set_of s.head k) pair window new
  pub running : new.running ≡ pair.commands
  pub fetches : FetchesOn s k lane (map (fetch_line k) pair.fetched) new
  pub pages : new.pages ≡ lane.pages

-- The completions of a lane's turn were posted: they are told.
pub record Posts (s : Script) (k : ℕ) (lane : Lane) (pair : PairState) (window : WindowState) : Type 0 where
  pub new : Lane
  pub stands : Stands k (set_of s.head k) pair window new
  pub posts : PostsAll s k lane (map (post_line k) pair.posted) new

-- what the fetches of a turn, and its posts, are for a lane of the model
abbrev pub FetchesLane : ℕ → ℕ → ℕ → ℕ → WindowState → PairState → PairState → Type 0
FetchesLane k blocks shelf burst window old new =
    (s : Script) (l : Lane) → IsAsked s blocks shelf burst → IsSet (set_of s.head k) → Stands k (set_of s.head k) old window l → l.running ≡ [] → old.commands ≡ [] → Fetches s k l new window

abbrev pub PostsLane : ℕ → List PieceResult → WindowState → WindowState → PairState → PairState → Type 0
PostsLane k results window new_window old new =
    (s : Script) (l : Lane) → IsSet (set_of s.head k) → old.fetched ≡ map (told_fetch s.head.shelf) old.commands → Stands k (set_of s.head k) old window l
    → l.running ≡ worked s.head.shelf old.commands (outcomes_of results) → Posts s k l new new_window
