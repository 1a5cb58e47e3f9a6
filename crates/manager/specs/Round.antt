use Rattle.std.specs.Prelude.{◌≡◌, ◌⊎◌, ℕ, ◌+◌, ◌≤◌, Bool, true, false, List, [], ◌++◌, Some, None, drop, length, map, replicate}
use Rattle.std.specs.List.{range_with_len}
use Rattle.data_queue.specs.declared.change.Change.{Change}
use Rattle.data_queue.specs.Log.{IsLog, QueueState}
use Rattle.ctl_state.specs.declared.phase.Phase.TheVariants as phase
use Rattle.ctl_state.specs.Controller.{ControllerState}
use Rattle.manager.specs.declared.manager.After.{After}
use Rattle.manager.specs.declared.manager.After.TheVariants.{Go, CutOver, Fault}
use Rattle.manager.specs.Asks.{create_asks, end_log_asks, Asked, log_asks, round_asks, take_asks}
use Rattle.manager.specs.Asks.Ask.{Take}
use Rattle.manager.specs.Move.{IsDue, ManagerState, work_in}
use Rattle.manager.specs.Owed.{places_of}
use Rattle.manager.specs.Port.{PortCall, PortState, SideState, with_controller}
use Rattle.manager.specs.Work.{Draws, owe_changes}

-- After a turn.

-- a side whose controller has a live queue of so many cells
abbrev pub IsLogged : ℕ → SideState → Type 0
IsLogged cells side = (side.controller.queue.live ≡ true) × (length side.controller.queue.cells ≡ cells)

-- or with no live queue, made for so many
abbrev pub IsUnlogged : ℕ → SideState → Type 0
IsUnlogged cells side = (side.controller.queue.live ≡ false) × (length side.controller.queue.cells ≡ cells)

-- These changes were taken from the source's queue, in their order, and of both sides nothing else changed.
pub record Drained {I : Type 0} (moves : I → PortCall → I → Type 0) (changes : List Change) (old new : PortState I) : Type 0 where
  pub asked : Asked moves (map (λ (c : Change). Take (Some c)) changes) old new
  pub left : old.left ≤ new.left
  pub queue : new.from.controller.queue ≡ record old.from.controller.queue { head = new.from.controller.queue.head; waiting = new.from.controller.queue.waiting }
  pub from_is : new.from ≡ with_controller (record old.from.controller { queue = new.from.controller.queue }) old.from
  pub to_is : new.to ≡ old.to
  pub log : (posted : List Change) (taken : ℕ) → IsLog old.from.controller.queue posted taken →
      (drop taken posted ≡ changes ++ drop (taken + length changes) posted) × IsLog new.from.controller.queue posted (taken + length changes)

-- All that weren't taken were.
pub record DrainsAll {I : Type 0} (moves : I → PortCall → I → Type 0) (changes : List Change) (old new : PortState I) : Type 0 where
  pub asked : Asked moves (take_asks changes) old new
  pub left : old.left ≤ new.left
  pub queue : new.from.controller.queue ≡ record old.from.controller.queue { head = new.from.controller.queue.head; waiting = 0 }
  pub from_is : new.from ≡ with_controller (record old.from.controller { queue = new.from.controller.queue }) old.from
  pub to_is : new.to ≡ old.to
  pub log : (posted : List Change) (taken : ℕ) → IsLog old.from.controller.queue posted taken → (drop taken posted ≡ changes) × IsLog new.from.controller.queue posted (length posted)

-- A controller goes on logging; or its queue was made anew, empty and without a mark, and it logs into that.
pub record LogsAnew (old new : ControllerState) : Type 0 where
  pub empty : IsLog new.queue [] 0
  pub live : new.queue.live ≡ true
  pub unmarked : new.queue.marked ≡ false
  pub size : length new.queue.cells ≡ length old.queue.cells
  pub others : new ≡ record old { queue = new.queue; logging = true }

abbrev pub LogsOn : Bool → ControllerState → ControllerState → Type 0
LogsOn false old new = new ≡ record old { logging = true }
LogsOn true old new = LogsAnew old new

-- a queue was made at the source, whose changes are logged into it
pub record CreatesLog {I : Type 0} (moves : I → PortCall → I → Type 0) (cells : ℕ) (old new : PortState I) : Type 0 where
  pub asked : Asked moves (create_asks cells) old new
  pub logs : LogsAnew old.from.controller new.from.controller
  pub from_is : new.from ≡ with_controller new.from.controller old.from
  pub to_is : new.to ≡ old.to

-- logging was started at the source, whose queue says by its mark whether a change was lost
pub record StartsLog {I : Type 0} (moves : I → PortCall → I → Type 0) (cells : ℕ) (lost : Bool) (old new : PortState I) : Type 0 where
  pub asked : Asked moves (log_asks lost cells) old new
  pub marked : old.from.controller.queue.marked ≡ lost
  pub logs : LogsOn lost old.from.controller new.from.controller
  pub from_is : new.from ≡ with_controller new.from.controller old.from
  pub to_is : new.to ≡ old.to

-- all blocks are owed where one was lost
abbrev pub after_restart : Bool → List Bool → List Bool
after_restart false owed = owed
after_restart true owed = replicate (length owed) true

-- What is done with blocks: all changes are taken, and logging is started.
pub record Settles {I : Type 0} (moves : I → PortCall → I → Type 0) (cells : ℕ) (restarted : Bool) (owed : List Bool) (old : PortState I) (new_owed : List Bool) (new : PortState I) : Type 0 where
  pub changes : List Change
  pub mid : PortState I
  pub drains : DrainsAll moves changes old mid
  pub starts : StartsLog moves cells restarted mid new
  pub owed_is : new_owed ≡ after_restart restarted (owe_changes changes owed)

-- A round was ended: all changes that weren't taken were, and their blocks are owed besides those that were; where one was lost
-- all are, and the queue is made anew. Then all pages were copied, and both sides hold the same.
pub record EndsRound {I : Type 0} (moves : I → PortCall → I → Type 0) (m : ManagerState) (restarted : Bool) (blocks : List Bool) (old new : PortState I) : Type 0 where
  pub changes : List Change
  pub asked : Asked moves (round_asks changes restarted m.set.cells (range_with_len 0 m.set.ram_pages)) old new
  pub log : (posted : List Change) (taken : ℕ) → IsLog old.from.controller.queue posted taken → drop taken posted ≡ changes
  pub marked : old.from.controller.queue.marked ≡ restarted
  pub owed_is : blocks ≡ after_restart restarted (owe_changes changes m.blocks)
  pub drained : QueueState
  pub logs : LogsOn restarted (record old.from.controller { queue = drained }) new.from.controller
  pub from_is : new.from ≡ with_controller new.from.controller old.from
  pub to_is : new.to ≡ record old.to { pages = old.from.pages }

-- a cutover is due where few enough is owed, or where patience is spent
abbrev pub IsCutDue : ManagerState → Type 0
IsCutDue m = IsDue m ⊎ (m.set.patience ≤ m.rounds)

-- a manager after a round, of which these blocks are owed and no pages
abbrev pub after_round : List Bool → ManagerState → ManagerState
after_round blocks m = record m { blocks = blocks; pages = replicate (length m.pages) false; rounds = m.rounds + 1 }

-- what a round tells: how many blocks are owed, and how many pages
pub record Tells (n : ManagerState) (owed pages : ℕ) : Type 0 where
  pub owed_is : owed ≡ length (places_of n.blocks)
  pub pages_is : pages ≡ length (places_of n.pages)

-- The next turn's blocks are drawn, unless the cutover is due.
abbrev pub GoesOn : Bool → After → ManagerState → ManagerState → Type 0
GoesOn restarted (Go again owed pages) m n = (again ≡ restarted) × Tells m owed pages × (IsCutDue m → ⊥) × Draws (work_in m) (work_in n) × (n ≡ record m { blocks = n.blocks; due = n.due; busy = [] })
GoesOn restarted (CutOver again owed pages) m n = (again ≡ restarted) × Tells m owed pages × IsCutDue m × (n ≡ m)
GoesOn restarted (Fault side) m n = ⊥

-- Where a copy failed, nothing is done. Else the round is ended, and the next one begins.
abbrev pub HasTurned : {I : Type 0} → (I → PortCall → I → Type 0) → After → ManagerState → PortState I → ManagerState → PortState I → Type 0
HasTurned moves (Fault side) m p n q = (m.failed ≡ Some side) × (n ≡ m) × (q ≡ p)
HasTurned moves after m p n q = (m.failed ≡ None) × (restarted : Bool) × (blocks : List Bool) × EndsRound moves m restarted blocks p q × GoesOn restarted after (after_round blocks m) n

-- A move begins with this manager: the first turn's blocks are drawn, unless the cutover is due.
abbrev pub BeginsSo : Bool → ManagerState → ManagerState → Type 0
BeginsSo true m n = IsDue m × (n ≡ m)
BeginsSo false m n = (IsDue m → ⊥) × Draws (work_in m) (work_in n) × (n ≡ record m { blocks = n.blocks; due = n.due; busy = [] })

-- a controller without a live queue, which doesn't log
abbrev pub unlogged : ControllerState → ControllerState
unlogged c = record c { queue = record c.queue { live = false }; logging = false }

-- logging ended at the source, and its queue was deleted
pub record EndsLog {I : Type 0} (moves : I → PortCall → I → Type 0) (old new : PortState I) : Type 0 where
  pub asked : Asked moves end_log_asks old new
  pub from_is : new.from ≡ with_controller (unlogged old.from.controller) old.from
  pub to_is : new.to ≡ old.to

-- The source runs as it was, without a live queue, and the destination stays.
pub record IsGivenUpOver {I : Type 0} (old new : PortState I) : Type 0 where
  pub from : new.from ≡ with_controller (record (unlogged old.from.controller) { phase = phase.Running }) old.from
  pub to : new.to ≡ old.to
