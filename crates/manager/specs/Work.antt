use Rattle.std.specs.Prelude.{◌≡◌, ℕ, ◌+◌, ◌<◌, ◌≤◌, Bool, true, false, cond, List, [], ◌∷◌, ◌++◌, Option, Some, None, drop, length, map, take}
use Rattle.data_queue.specs.declared.change.Change.{Change}
use Rattle.nvm_model.specs.Chain.{Chain}
use Rattle.manager.specs.declared.side.CopyAnswer.{CopyAnswer}
use Rattle.manager.specs.declared.side.CopyAnswer.TheVariants.{Copied, Busy, Fault}
use Rattle.manager.specs.declared.side.Side.{Side}
use Rattle.manager.specs.Owed.{owe_from, places_of}

-- A port as far as blocks are copied and changes taken.

-- How many blocks each side has, how many calls may still be made, and a meaning of the port's own.
pub record WorkState (I : Type 0) : Type 0 where
  pub count : ℕ
  pub left : ℕ
  pub inside : I

-- A call with its answer, and with the bytes that went through it.
pub data WorkCall : Type 0 where
  Copy : ℕ → List ℕ → CopyAnswer → WorkCall
  Take : Option Change → WorkCall

-- one call, which takes so many of those that are left at most
pub record IsWorkCall {I : Type 0} (works : I → WorkCall → I → Type 0) (cost : ℕ) (old : WorkState I) (c : WorkCall) (new : WorkState I) : Type 0 where
  pub count : new.count ≡ old.count
  pub left : old.left ≤ new.left + cost
  pub done : works old.inside c new.inside

-- Calls, one after another.

-- how many of these take one of those that are left
abbrev pub copies_in : List WorkCall → ℕ
copies_in [] = 0
copies_in (Copy b bytes answer ∷ calls) = 1 + copies_in calls
copies_in (Take answer ∷ calls) = copies_in calls

-- These calls were made, in this order, and no others.
pub record Called {I : Type 0} (works : I → WorkCall → I → Type 0) (calls : List WorkCall) (old new : WorkState I) : Type 0 where
  pub run : Chain works old.inside calls new.inside
  pub count : new.count ≡ old.count
  pub left : old.left ≤ new.left + copies_in calls

-- The work of a turn.

-- How many blocks are copied in a turn at most, and how many changes are taken after each; the blocks that are owed besides
-- those that are still to be copied, these in their order, those whose shelf was busy, and the side whose medium failed.
pub record TurnWork : Type 0 where
  pub slice : ℕ
  pub cells : ℕ
  pub owed : List Bool
  pub due : List ℕ
  pub busy : List ℕ
  pub failed : Option Side

-- a copy wasn't tried yet, and none failed; or that isn't so
abbrev pub HasWork : Bool → TurnWork → Type 0
HasWork true w = (w.failed ≡ None) × (0 < length w.due)
HasWork false w = (w.failed ≡ None) → w.due ≡ []

-- changes that were taken, and whether there was none after them
abbrev pub take_calls : List Change → Bool → List WorkCall
take_calls changes none = map (λ (c : Change). Take (Some c)) changes ++ cond none (Take None ∷ []) []

-- the blocks of all these changes are owed
abbrev pub owe_changes : List Change → List Bool → List Bool
owe_changes [] owed = owed
owe_changes (c ∷ changes) owed = owe_changes changes (owe_from c.span.first c.span.count owed)

-- So many changes were taken.
pub record Took {I : Type 0} (works : I → WorkCall → I → Type 0) (count : ℕ) (owed : List Bool) (old : WorkState I) (new_owed : List Bool) (new : WorkState I) : Type 0 where
  pub changes : List Change
  pub called : Called works (take_calls changes false) old new
  pub count_is : length changes ≡ count
  pub owed_is : new_owed ≡ owe_changes changes owed

-- Changes were taken until there was none, at most so many.
pub record Takes {I : Type 0} (works : I → WorkCall → I → Type 0) (most : ℕ) (owed : List Bool) (old : WorkState I) (new_owed : List Bool) (new : WorkState I) : Type 0 where
  pub changes : List Change
  pub none : Bool
  pub called : Called works (take_calls changes none) old new
  pub few : length changes ≤ most
  pub all : none ≡ false → length changes ≡ most
  pub owed_is : new_owed ≡ owe_changes changes owed

-- A block whose copy was tried, with the bytes that came and how that ended; the changes that were taken after it, and whether
-- there was none behind these.
pub record Tried : Type 0 where
  pub block : ℕ
  pub bytes : List ℕ
  pub answer : CopyAnswer
  pub changes : List Change
  pub none : Bool

-- the calls of it
abbrev pub tried_calls : Tried → List WorkCall
tried_calls t = Copy t.block t.bytes t.answer ∷ take_calls t.changes t.none

-- what a copy's answer does to the rest of the work
abbrev pub after_copy : CopyAnswer → ℕ → TurnWork → TurnWork
after_copy Copied b w = w
after_copy (Busy holder) b w = record w { busy = w.busy ++ b ∷ [] }
after_copy (Fault side) b w = record w { failed = Some side }

-- work, and the port over which it is done
pub record AtWork (I : Type 0) : Type 0 where
  pub work : TurnWork
  pub port : WorkState I

abbrev pub at_work : {I : Type 0} → TurnWork → WorkState I → AtWork I
at_work work port = record { work = work; port = port }

-- The next block was tried, and changes were taken, as many at most as the queue has cells: their blocks are owed then.
pub record DoesOne {I : Type 0} (works : I → WorkCall → I → Type 0) (old : AtWork I) (t : Tried) (new : AtWork I) : Type 0 where
  pub rest : List ℕ
  pub due : old.work.due ≡ t.block ∷ rest
  pub called : Called works (tried_calls t) old.port new.port
  pub few : length t.changes ≤ old.work.cells
  pub all : t.none ≡ false → length t.changes ≡ old.work.cells
  pub after : new.work ≡ record (after_copy t.answer t.block (record old.work { due = rest })) { owed = owe_changes t.changes old.work.owed }

-- One after another was tried until none is left.
pub record DoesAll {I : Type 0} (works : I → WorkCall → I → Type 0) (old new : AtWork I) : Type 0 where
  pub tried : List Tried
  pub run : Chain (DoesOne works) old tried new
  pub end : HasWork false new.work

-- those whose shelf was busy are to be copied again
abbrev pub again : TurnWork → TurnWork
again w = record w { due = w.busy; busy = [] }

-- The lowest blocks that are owed are to be copied, as many as a slice, and are no more among the others.
pub record Draws (old new : TurnWork) : Type 0 where
  pub due : new.due ≡ take old.slice (places_of old.owed)
  pub others : places_of new.owed ≡ drop old.slice (places_of old.owed)
  pub count : length new.owed ≡ length old.owed
  pub rest : new ≡ record old { owed = new.owed; due = new.due; busy = [] }
