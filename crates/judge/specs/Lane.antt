use Rattle.std.specs.Prelude.{◌≡◌, ℕ, ◌+◌, ◌-◌, ◌^◌, ◌≤◌, ◌<◌, ◌++◌, All, IfSome, IsTrue, List, Some, drop, length, slice_get, slice_index_or, take, vec_capacity}
use Rattle.nvm_values.specs.declared.op.Op.TheVariants.{Flush}
use Rattle.nvm_values.specs.Op.{moves_data}
use Rattle.mig_base.specs.declared.span.Span.{Span}
use Rattle.nvm_model.specs.declared.command.Command.{Command}
use Rattle.nvm_model.specs.declared.command.Work.{Work}
use Rattle.nvm_model.specs.declared.script.Act.{Act}
use Rattle.nvm_model.specs.declared.script.LaneSet.{LaneSet}
use Rattle.nvm_model.specs.declared.script.Script.{Script}
use Rattle.nvm_model.specs.Check.{identifiers}
use Rattle.nvm_model.specs.Piece.{pieces_left}
use Rattle.nvm_model.specs.Event.{pages_after_act, submitted_by}
use Rattle.nvm_model.specs.ScriptText.{IsAct, IsSet}
use Rattle.nvm_model.specs.World.{Lane, acts_of, set_of}
use Rattle.guest_ram.specs.Window.{WindowState, data_pages}
use Rattle.nvm_blocks.specs.Work.{HasPage}
use Rattle.judge.specs.declared.lane.JudgedLane.{JudgedLane}

-- the lane of the model that a lane has become
abbrev pub model_of : JudgedLane → Lane
model_of j = record {
  pages = data_pages j.window;
  acts = j.done;
  submitted = j.submitted.items;
  fetched = length j.commands.items;
  running = drop (length j.posted.items) j.commands.items;
  posted = j.posted.items;
  reaped = j.reaped;
}

-- it is the script's lane of its number
pub record IsLaneOf (s : Script) (j : JudgedLane) : Type 0 where
  pub set_is : j.set ≡ set_of s.head j.lane
  pub acts_are : j.acts.items ≡ acts_of j.lane s.acts
  pub blocks_are : j.blocks ≡ s.head.blocks
  pub shelf_is : j.shelf ≡ s.head.shelf

-- what the script says of it stayed
pub record IsSameScript (old new : JudgedLane) : Type 0 where
  pub lane : new.lane ≡ old.lane
  pub set : new.set ≡ old.set
  pub acts : new.acts.items ≡ old.acts.items
  pub blocks : new.blocks ≡ old.blocks
  pub shelf : new.shelf ≡ old.shelf

-- Below, what always holds of a lane.

-- what a command has to do can be done in a namespace of so many blocks, with so many data pages
pub record IsDoable (blocks pages : ℕ) (work : Work) : Type 0 where
  pub op : work.op ≡ Flush → ⊥
  pub some : 1 ≤ work.span.count
  pub few : work.span.count ≤ 64
  pub within : work.span.first + work.span.count ≤ blocks
  pub there : IsTrue (moves_data work.op) → (i : ℕ) → i < work.span.count → HasPage work.pages pages i

abbrev pub AreDoable : ℕ → ℕ → List Command → Type 0
AreDoable blocks pages commands = (i : ℕ) (d : Command) → i < length commands → IfSome (slice_index_or commands i d).work (IsDoable blocks pages)

-- all that was ever submitted, fetched, posted and reaped fits the acts that were done
pub record AreCounted (acts done submitted fetched posted reaped : ℕ) : Type 0 where
  pub few : acts ≤ 65536
  pub done_is : done ≤ acts
  pub submitted_is : submitted ≤ done
  pub fetched_is : fetched ≤ submitted
  pub posted_is : posted ≤ fetched
  pub reaped_is : reaped ≤ posted

-- there is room for an entry, a command and a completion for each act
pub record HasRoom (j : JudgedLane) : Type 0 where
  pub entries : length j.acts.items ≤ vec_capacity j.submitted
  pub commands : length j.acts.items ≤ vec_capacity j.commands
  pub cids : length j.acts.items ≤ vec_capacity j.cids
  pub completions : length j.acts.items ≤ vec_capacity j.posted

-- its window, and what the script says
pub record IsSetUp (lane blocks shelf : ℕ) (set : LaneSet) (window : WindowState) (acts : List Act) : Type 0 where
  pub lane_is : window.lane ≡ lane
  pub pages_are : length window.pages ≡ set.pages + 2
  pub is_set : IsSet set
  pub are_acts : All (IsAct set.pages) acts
  pub large : 1 ≤ shelf
  pub few : blocks ≤ 131072

pub record IsSound (j : JudgedLane) : Type 0 where
  pub set_up : IsSetUp j.lane j.blocks j.shelf j.set j.window j.acts.items
  pub counted : AreCounted (length j.acts.items) j.done (length j.submitted.items) (length j.commands.items) (length j.posted.items) j.reaped
  pub room : HasRoom j
  pub doable : AreDoable j.blocks j.set.pages j.commands.items
  pub cids : j.cids.items ≡ identifiers j.commands.items

-- Below, the parts of events.

-- the numbers of a command's blocks have 32 bits
abbrev pub IsNumbered : Command → Type 0
IsNumbered command = IfSome command.work (λ (work : Work). work.span.first + work.span.count ≤ 2 ^ 32)

-- a lane after an act of lane k
abbrev pub after_act : ℕ → Act → Lane → Lane
after_act k act lane = record lane { pages = pages_after_act k act lane.pages; acts = lane.acts + 1; submitted = lane.submitted ++ submitted_by k act }

-- a completion queue of so many entries has room for one more completion than the fetched commands need
abbrev pub HasPlace : ℕ → Lane → Type 0
HasPlace cq lane = length lane.running + (length lane.posted - lane.reaped) < cq - 1

-- what a line tells of a piece: its command's identifier, and its blocks
pub record IsNamed (cid first count own : ℕ) (span : Span) : Type 0 where
  pub cid_is : cid ≡ own
  pub first_is : first ≡ span.first
  pub count_is : count ≡ span.count

-- the first command of these that has a piece which isn't done, and its work
pub record IsAtWork (shelf : ℕ) (running : List Command) (place : ℕ) (command : Command) (work : Work) : Type 0 where
  pub at_place : slice_get running place ≡ Some command
  pub earlier : All (λ (c : Command). pieces_left shelf c ≡ 0) (take place running)
  pub work_is : command.work ≡ Some work
  pub left : 1 ≤ pieces_left shelf command
