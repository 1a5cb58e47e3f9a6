use Rattle.std.specs.Prelude.{◌≡◌, ℕ, ◌+◌, ◌-◌, ◌≤◌, List, [], length, take, map, filter, replicate, sum, slice_index_or, ◌==◌}
use Rattle.nvm_values.specs.declared.sqe.Sqe.{Sqe}
use Rattle.nvm_model.specs.declared.command.Command.{Command}
use Rattle.nvm_model.specs.declared.command.Completion.{Completion}
use Rattle.nvm_model.specs.declared.script.Act.{Act}
use Rattle.nvm_model.specs.declared.script.Head.{Head}
use Rattle.nvm_model.specs.declared.script.LaneSet.{LaneSet}
use Rattle.nvm_model.specs.Memory.{zero_page}

-- What one controller over one array of blocks has. There is no second host in it, no shelf, no round, no ring, no lock.

-- A queue pair with its guest and the guest's memory.
pub record Lane : Type 0 where
  -- the data pages, 4,096 bytes each
  pub pages : List (List ℕ)
  -- how many acts the guest has done
  pub acts : ℕ
  -- every entry that was ever submitted, and how many of them were fetched
  pub submitted : List Sqe
  pub fetched : ℕ
  -- the commands that were fetched and aren't posted, oldest first
  pub running : List Command
  -- every completion that was ever posted, and how many of them the guest has reaped
  pub posted : List Completion
  pub reaped : ℕ

-- the blocks of the one namespace, and the lanes
pub record World : Type 0 where
  -- the namespace, 512 bytes a block
  pub blocks : List (List ℕ)
  -- lane 1 is the first
  pub lanes : List Lane

-- a lane at the start, with zeroed data pages
abbrev pub new_lane : ℕ → Lane
new_lane pages = record { pages = replicate pages zero_page; acts = 0; submitted = []; fetched = 0; running = []; posted = []; reaped = 0 }

-- the world at the start, over a namespace as it is then
abbrev pub start_world : Head → List (List ℕ) → World
start_world head blocks = record { blocks = blocks; lanes = map (λ (set : LaneSet). new_lane set.pages) (take head.lanes head.sets) }

-- the number is from 1 to the number of lanes
abbrev pub IsLane : World → ℕ → Type 0
IsLane w k = (1 ≤ k) × (k ≤ length w.lanes)

-- the lane of a number, and a new lane without pages where there is none
abbrev pub lane_of : World → ℕ → Lane
lane_of w k = slice_index_or w.lanes (k - 1) (new_lane 0)

-- the sizes that a script gives a lane
abbrev pub set_of : Head → ℕ → LaneSet
set_of head k = slice_index_or head.sets (k - 1) (record { sq = 0; cq = 0; pages = 0 })

-- the window pages of all lanes: two for the queues of each, and its data pages
abbrev pub window_pages : Head → ℕ
window_pages head = sum (map (λ (set : LaneSet). set.pages + 2) (take head.lanes head.sets))

-- the acts of one lane, in the script's order
abbrev pub acts_of : ℕ → List (ℕ × Act) → List Act
acts_of k acts = map (λ (a : ℕ × Act). a.1) (filter (λ (a : ℕ × Act). a.0 == k) acts)

-- nothing of the lane is submitted and not fetched, fetched and not posted, or posted and not reaped
pub record IsQuiet (lane : Lane) : Type 0 where
  pub all_fetched : lane.fetched ≡ length lane.submitted
  pub none_running : lane.running ≡ []
  pub all_reaped : lane.reaped ≡ length lane.posted
