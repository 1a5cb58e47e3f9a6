use Rattle.std.specs.Prelude.{◌≡◌, ℕ, zero, suc, ◌+◌, ◌-◌, ◌/◌, ◌%◌, ◌^◌, ◌<◌, Bool, ◌==◌, List, [], ◌∷◌, ◌++◌, Option, Some, None, All, length, take, slice_get, slice_set}
use Rattle.std.specs.List.{flat_map}
use Rattle.std.specs.Int.{w64, to_le_bytes}
use Rattle.nvm_values.specs.declared.op.Op.{Op}
use Rattle.nvm_values.specs.declared.sqe.Sqe.{Sqe}
use Rattle.nvm_values.specs.Op.{opcode_of}
use Rattle.nvm_values.specs.Sqe.{sqe_of}
use Rattle.nvm_values.specs.Status.{StatusPair}
use Rattle.nvm_model.specs.declared.command.Command.{Command}
use Rattle.nvm_model.specs.declared.command.Completion.{Completion}
use Rattle.nvm_model.specs.declared.command.Outcome.{Outcome}
use Rattle.nvm_model.specs.declared.command.Work.{Work}
use Rattle.nvm_model.specs.declared.line.Line.{Line}
use Rattle.nvm_model.specs.declared.line.Line.TheVariants as line
use Rattle.nvm_model.specs.declared.script.Act.{Act}
use Rattle.nvm_model.specs.declared.script.Act.TheVariants.{Fill, Poke, List as PrpList, Submit, Raw, Wait, Idle}
use Rattle.nvm_model.specs.declared.script.LaneSet.{LaneSet}
use Rattle.nvm_model.specs.declared.script.Script.{Script}
use Rattle.nvm_model.specs.Memory.{page_address, filled_page, with_bytes}
use Rattle.nvm_model.specs.World.{Lane, World, IsLane, lane_of, set_of, acts_of, IsQuiet}
use Rattle.nvm_model.specs.Check.{checked_command}
use Rattle.nvm_model.specs.Piece.{piece_count, piece_at, pieces_left, OutcomeFits, done_blocks, blocks_after, memory_after, digest_after, data_block, block_at, after_piece}

-- One event of a transcript takes a world to the next. From one world it leads to one world at most.

-- The guest's acts.

-- the address of a data page, or 0 for none
abbrev pub address_of : ℕ → Option ℕ → ℕ
address_of lane None = 0
address_of lane (Some page) = page_address lane page

-- the entry that a submit makes
abbrev pub submit_entry : ℕ → ℕ → Op → ℕ → ℕ → Option ℕ → Option ℕ → Sqe
submit_entry lane cid op slba count p1 p2 = record {
  opcode = opcode_of op;
  flags = 0;
  cid = cid;
  nsid = 1;
  cdw2 = 0;
  cdw3 = 0;
  mptr = 0;
  prp1 = address_of lane p1;
  prp2 = address_of lane p2;
  cdw10 = slba % 2 ^ 32;
  cdw11 = slba / 2 ^ 32;
  cdw12 = count - 1;
  cdw13 = 0;
  cdw14 = 0;
  cdw15 = 0;
}

-- the lane's pages after an act, and the entries that the act submits
abbrev pub pages_after_act : ℕ → Act → List (List ℕ) → List (List ℕ)
pages_after_act lane (Fill page byte) pages = with_bytes pages page 0 (filled_page byte)
pages_after_act lane (Poke page at bytes used) pages = with_bytes pages page at (take used bytes)
pages_after_act lane (PrpList page named used) pages = with_bytes pages page 0 (flat_map (λ p. to_le_bytes w64 (page_address lane p)) (take used named))
pages_after_act lane (Submit cid op slba count p1 p2) pages = pages
pages_after_act lane (Raw entry) pages = pages
pages_after_act lane Wait pages = pages
pages_after_act lane Idle pages = pages

-- a submit and a raw act submit one entry; no other act submits any
abbrev pub submitted_by : ℕ → Act → List Sqe
submitted_by lane (Submit cid op slba count p1 p2) = submit_entry lane cid op slba count p1 p2 ∷ []
submitted_by lane (Raw entry) = sqe_of entry ∷ []
submitted_by lane (Fill page byte) = []
submitted_by lane (Poke page at bytes used) = []
submitted_by lane (PrpList page named used) = []
submitted_by lane Wait = []
submitted_by lane Idle = []

-- the submission queue's head that the guest learnt last, by the completion that it reaped last
abbrev pub head_of_last : List Completion → ℕ → ℕ
head_of_last posted zero = 0
head_of_last posted (suc n) = head_at (slice_get posted n)
  where
    head_at : Option Completion → ℕ
    head_at None = 0
    head_at (Some completion) = completion.head

-- how many entries the guest has submitted of which it doesn't know that they were fetched
abbrev pub untold_entries : ℕ → Lane → ℕ
untold_entries sq lane = (length lane.submitted + sq - head_of_last lane.posted lane.reaped) % sq

-- when an act can be done
abbrev pub MayDo : LaneSet → Act → Lane → Type 0
MayDo set (Submit cid op slba count p1 p2) lane = untold_entries set.sq lane < set.sq - 1
MayDo set (Raw entry) lane = untold_entries set.sq lane < set.sq - 1
MayDo set Wait lane = IsQuiet lane
MayDo set (Fill page byte) lane = Unit {0}
MayDo set (Poke page at bytes used) lane = Unit {0}
MayDo set (PrpList page named used) lane = Unit {0}
MayDo set Idle lane = Unit {0}

-- the lane's n-th act is done
pub record DoesAct (s : Script) (k n : ℕ) (lane new : Lane) : Type 0 where
  pub act : Act
  pub due : slice_get (acts_of k s.acts) lane.acts ≡ Some act
  pub number : n ≡ lane.acts + 1
  pub may : MayDo (set_of s.head k) act lane
  pub after : new ≡ record lane { pages = pages_after_act k act lane.pages; acts = n; submitted = lane.submitted ++ submitted_by k act }

-- the guest takes the oldest completion that it hasn't taken
pub record Reaps (completion : Completion) (lane new : Lane) : Type 0 where
  pub oldest : slice_get lane.posted lane.reaped ≡ Some completion
  pub after : new ≡ record lane { reaped = lane.reaped + 1 }

-- the controller fetches the oldest entry that it hasn't fetched, where the completion queue has room for its completion
pub record Fetches (s : Script) (k cid : ℕ) (status : StatusPair) (pieces : ℕ) (lane new : Lane) : Type 0 where
  pub entry : Sqe
  pub command : Command
  pub oldest : slice_get lane.submitted lane.fetched ≡ Some entry
  pub room : length lane.running + (length lane.posted - lane.reaped) < (set_of s.head k).cq - 1
  pub checked : command ≡ checked_command s.head.blocks k lane.pages lane.running entry
  pub cid_is : cid ≡ command.cid
  pub status_is : status ≡ command.status
  pub pieces_is : pieces ≡ pieces_left s.head.shelf command
  pub after : new ≡ record lane { fetched = lane.fetched + 1; running = lane.running ++ command ∷ [] }

-- the m-th completion of a queue, from 0: the phase tag turns over with each pass
abbrev pub phase_of : ℕ → ℕ → Bool
phase_of cq m = (m / cq) % 2 == 0

-- the controller posts the oldest command's completion, once no piece of it is left
pub record Posts (s : Script) (k cid : ℕ) (status : StatusPair) (lane new : Lane) : Type 0 where
  pub command : Command
  pub others : List Command
  pub oldest : lane.running ≡ command ∷ others
  pub finished : pieces_left s.head.shelf command ≡ 0
  pub cid_is : cid ≡ command.cid
  pub status_is : status ≡ command.status
  pub after : new ≡ record lane {
    running = others;
    posted = lane.posted ++ record { cid = cid; status = status; head = lane.fetched % (set_of s.head k).sq; phase = phase_of (set_of s.head k).cq (length lane.posted) } ∷ [];
  }

-- what a piece of a command does to the namespace and to its lane
pub record DoesWork (shelf : ℕ) (work : Work) (first count : ℕ) (outcome : Outcome) (digest : Option (List ℕ)) (blocks memory new_blocks new_memory : List (List ℕ)) : Type 0 where
  pub first_is : first ≡ (piece_at shelf work.span work.done).first
  pub count_is : count ≡ (piece_at shelf work.span work.done).count
  pub fits : OutcomeFits work.op (λ i. block_at blocks (first + i) ≡ data_block memory work.pages (first - work.span.first + i)) count outcome
  pub digest_is : digest ≡ digest_after work.op first (done_blocks count outcome) blocks
  pub blocks_is : new_blocks ≡ blocks_after work.op work.pages first (first - work.span.first) (done_blocks count outcome) memory blocks
  pub memory_is : new_memory ≡ memory_after work.op work.pages first (first - work.span.first) (done_blocks count outcome) memory blocks

-- the first piece that isn't done of the lane's first command that has one
pub record DoesPiece (s : Script) (cid first count : ℕ) (outcome : Outcome) (digest : Option (List ℕ)) (blocks : List (List ℕ)) (lane : Lane) (new_blocks : List (List ℕ)) (new : Lane) : Type 0 where
  pub place : ℕ
  pub command : Command
  pub work : Work
  pub memory : List (List ℕ)
  pub at_place : slice_get lane.running place ≡ Some command
  pub earlier : All (λ (c : Command). pieces_left s.head.shelf c ≡ 0) (take place lane.running)
  pub work_is : command.work ≡ Some work
  pub left : work.done < piece_count s.head.shelf work.span
  pub cid_is : cid ≡ command.cid
  pub does : DoesWork s.head.shelf work first count outcome digest blocks lane.pages new_blocks memory
  pub after : new ≡ record lane { pages = memory; running = slice_set lane.running place (after_piece command work outcome) }

-- what an event does to the namespace and to its lane; the other lines are no events
abbrev pub LaneStep : Script → Line → List (List ℕ) → Lane → List (List ℕ) → Lane → Type 0
LaneStep s (line.Act k n) blocks lane new_blocks new = (new_blocks ≡ blocks) × DoesAct s k n lane new
LaneStep s (line.Reap k cid status head phase) blocks lane new_blocks new = (new_blocks ≡ blocks) × Reaps (record { cid = cid; status = status; head = head; phase = phase }) lane new
LaneStep s (line.Fetch k cid status pieces) blocks lane new_blocks new = (new_blocks ≡ blocks) × Fetches s k cid status pieces lane new
LaneStep s (line.Piece k cid first count outcome digest) blocks lane new_blocks new = DoesPiece s cid first count outcome digest blocks lane new_blocks new
LaneStep s (line.Post k cid status) blocks lane new_blocks new = (new_blocks ≡ blocks) × Posts s k cid status lane new
LaneStep s line.Title blocks lane new_blocks new = ⊥
LaneStep s line.Ready blocks lane new_blocks new = ⊥
LaneStep s line.Migrate blocks lane new_blocks new = ⊥
LaneStep s line.Restart blocks lane new_blocks new = ⊥
LaneStep s (line.Round owed pages) blocks lane new_blocks new = ⊥
LaneStep s line.Suspend blocks lane new_blocks new = ⊥
LaneStep s (line.Pause owed pages) blocks lane new_blocks new = ⊥
LaneStep s line.ResumeTo blocks lane new_blocks new = ⊥
LaneStep s line.GiveUp blocks lane new_blocks new = ⊥
LaneStep s line.End blocks lane new_blocks new = ⊥

-- the lane of an event, and 0 for the other lines
abbrev pub lane_number : Line → ℕ
lane_number (line.Act k n) = k
lane_number (line.Reap k cid status head phase) = k
lane_number (line.Fetch k cid status pieces) = k
lane_number (line.Piece k cid first count outcome digest) = k
lane_number (line.Post k cid status) = k
lane_number line.Title = 0
lane_number line.Ready = 0
lane_number line.Migrate = 0
lane_number line.Restart = 0
lane_number (line.Round owed pages) = 0
lane_number line.Suspend = 0
lane_number (line.Pause owed pages) = 0
lane_number line.ResumeTo = 0
lane_number line.GiveUp = 0
lane_number line.End = 0

-- an event changes the namespace and its own lane, and no other lane
pub record One (s : Script) (w : World) (event : Line) (v : World) : Type 0 where
  pub there : IsLane w (lane_number event)
  pub blocks : List (List ℕ)
  pub lane : Lane
  pub step : LaneStep s event w.blocks (lane_of w (lane_number event)) blocks lane
  pub after : v ≡ record { blocks = blocks; lanes = slice_set w.lanes (lane_number event - 1) lane }
