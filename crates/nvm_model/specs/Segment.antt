use Rattle.std.specs.Prelude.{◌≡◌, ℕ, ◌+◌, ◌*◌, ◌/◌, ◌%◌, ◌<◌, ◌==◌, Bool, cond, List, [], ◌∷◌, ◌++◌, map, take}
use Rattle.std.specs.List.{flat_map, range_with_len}
use Rattle.std.specs.List.Sorted.{IsPermutation}
use Rattle.nvm_model.specs.declared.command.Outcome.{Outcome}
use Rattle.nvm_model.specs.declared.command.Outcome.TheVariants.{Done, Faulted, Differs}
use Rattle.nvm_model.specs.declared.trace.Step.{Step}
use Rattle.nvm_model.specs.declared.trace.Step.TheVariants.{Get, Put, Mark}
use Rattle.nvm_model.specs.Medium.{At, MediumState}
use Rattle.nvm_model.specs.declared.run.Side.{Side}
use Rattle.nvm_model.specs.declared.run.Side.TheVariants.{Source, Destination}
use Rattle.nvm_model.specs.declared.script.Script.{Script}
use Rattle.nvm_model.specs.Chain.{Chain}
use Rattle.nvm_model.specs.Owed.{Owed}
use Rattle.nvm_model.specs.Run.{AllCopied, CopiesUpTo, Copy, CopyEnd, IsStage, Item, PieceCalled, Snapshot, Stage, calls_at, copies_of, media_count, opposite}
use Rattle.nvm_model.specs.Run.CopyEnd.{Copied, NotRead, NotWritten}
use Rattle.nvm_model.specs.Run.Item.{Served, Crossed}
use Rattle.nvm_model.specs.Run.Stage.{Begin, Round, Broken, Resume, Stop, GiveUp}
use Rattle.nvm_model.specs.Trace.{step_of}

-- The trace of one medium of a side, cut at its marks.

-- the steps of the medium at place i among calls, in order
abbrev pub steps_at : ℕ → List At → List Step
steps_at i [] = []
steps_at i (a ∷ calls) = cond (a.shelf == i) (a.call.step ∷ steps_at i calls) (steps_at i calls)

-- the steps before the first mark
abbrev pub unmarked_front : List Step → List Step
unmarked_front [] = []
unmarked_front (Mark n ∷ steps) = []
unmarked_front (Get b ∷ steps) = Get b ∷ unmarked_front steps
unmarked_front (Put b ∷ steps) = Put b ∷ unmarked_front steps

-- The segment of mark n: the steps from behind that mark to the next mark.
abbrev pub segment : ℕ → List Step → List Step
segment n [] = []
segment n (Mark m ∷ steps) = cond (m == n) (unmarked_front steps) (segment n steps)
segment n (Get b ∷ steps) = segment n steps
segment n (Put b ∷ steps) = segment n steps

-- a step for each of these blocks that is in shelf i of shelves of so many blocks
abbrev pub block_steps : (ℕ → Step) → ℕ → ℕ → List ℕ → List Step
block_steps step size i [] = []
block_steps step size i (b ∷ blocks) = cond (b / size == i) (step (b % size) ∷ block_steps step size i blocks) (block_steps step size i blocks)

-- The steps of a piece: one for each block, up to and with the one at which it stopped.
abbrev pub tried : ℕ → Outcome → ℕ
tried count Done = count
tried count (Faulted at) = at + 1
tried count (Differs at) = at + 1

-- all in the shelf of its first block
abbrev pub piece_steps : ℕ → ℕ → PieceCalled → List Step
piece_steps size i p = cond (p.first / size == i) (map (step_of p.work.op) (range_with_len (p.first % size) (tried p.count p.outcome))) []

-- those of pieces and of the gets of copies, in their order
abbrev pub item_steps : ℕ → ℕ → List Item → List Step
item_steps size i [] = []
item_steps size i (Served p ∷ items) = piece_steps size i p ++ item_steps size i items
item_steps size i (Crossed c ∷ items) = block_steps (λ b. Get b) size i (c.block ∷ []) ++ item_steps size i items

-- What a migration turn with these items comes to at the medium of shelf i on each side, where these blocks were to be copied:
-- one get and one put for each of them, among the steps of the pieces.
pub record HasCopied (size i : ℕ) (lowest : List ℕ) (items : List Item) (left taken : List Step) : Type 0 where
  pub once : IsPermutation (map (λ (c : Copy). c.block) (copies_of items)) lowest
  pub left_is : left ≡ item_steps size i items
  pub taken_is : taken ≡ block_steps (λ b. Put b) size i (map (λ (c : Copy). c.block) (copies_of items))

-- The block of a copy, where it was read, and so was to be put.
abbrev pub read_block : CopyEnd → ℕ → List ℕ
read_block Copied b = b ∷ []
read_block NotRead b = []
read_block NotWritten b = b ∷ []

abbrev pub read_blocks : List Copy → List ℕ
read_blocks copies = flat_map (λ (c : Copy). read_block c.ended c.block) copies

-- Some of these blocks were copied, each once, up to one whose copy failed.
pub record BrokeOff (blocks : List ℕ) (copies : List Copy) : Type 0 where
  pub good : List Copy
  pub last : Copy
  pub others : List ℕ
  pub copies_are : copies ≡ good ++ last ∷ []
  pub copied : AllCopied good
  pub failed : last.ended ≡ Copied → ⊥
  pub once : IsPermutation (map (λ (c : Copy). c.block) copies ++ others) blocks

-- What a turn in which a copy failed comes to: a get for each of some of these blocks, and a put for each that was read, among
-- the steps of the pieces.
pub record HasBroken (size i : ℕ) (lowest : List ℕ) (items : List Item) (left taken : List Step) : Type 0 where
  pub broke : BrokeOff lowest (copies_of items)
  pub left_is : left ≡ item_steps size i items
  pub taken_is : taken ≡ block_steps (λ b. Put b) size i (read_blocks (copies_of items))

-- What a pause comes to: one get and one put for each of these blocks, ascending, and nothing else.
pub record HasPaused (size i : ℕ) (owed : List ℕ) (left taken : List Step) : Type 0 where
  pub left_is : left ≡ block_steps (λ b. Get b) size i owed
  pub taken_is : taken ≡ block_steps (λ b. Put b) size i owed

-- One in which a copy failed: the first of these blocks, up to that one.
pub record HasStopped (size i : ℕ) (owed : List ℕ) (copies : List Copy) (left taken : List Step) : Type 0 where
  pub up_to : CopiesUpTo owed copies
  pub left_is : left ≡ block_steps (λ b. Get b) size i (map (λ (c : Copy). c.block) copies)
  pub taken_is : taken ≡ block_steps (λ b. Put b) size i (read_blocks copies)

-- The mark with which a stage of a migration begins, and the side on which the guests stood then.
abbrev pub mark_of : Stage → ℕ
mark_of (Round side n t lost blocks pages) = 3 * n
mark_of (Broken side n t) = 3 * n
mark_of (Resume side n copies pages) = 3 * n + 1
mark_of (Stop side n copies) = 3 * n + 1
mark_of _ = 0

abbrev pub stood_of : Stage → Side
stood_of (Round side n t lost blocks pages) = side
stood_of (Broken side n t) = side
stood_of (Resume side n copies pages) = side
stood_of (Stop side n copies) = side
stood_of _ = Source

-- What a stage leaves between its mark and the next one at the medium of shelf i, on the side on which the guests stood and
-- on the other one, where this was owed before it.
abbrev pub IsSegment : Script → ℕ → Owed → Stage → List Step → List Step → Type 0
IsSegment s i owed (Round side n t lost blocks pages) left taken = HasCopied s.head.shelf i (take s.head.slice owed.blocks) t.items left taken
IsSegment s i owed (Broken side n t) left taken = HasBroken s.head.shelf i (take s.head.slice owed.blocks) t.items left taken
IsSegment s i owed (Resume side n copies pages) left taken = HasPaused s.head.shelf i owed.blocks left taken
IsSegment s i owed (Stop side n copies) left taken = HasStopped s.head.shelf i owed.blocks copies left taken
IsSegment s i owed _ left taken = Unit {0}

-- the steps of the medium of shelf i on a side in a run by these stages, from behind a mark to the next one
abbrev pub run_segment : Script → Side → ℕ → ℕ → List Stage → List Step
run_segment s who i n stages = segment n (steps_at i (flat_map (calls_at s who) stages))

-- one of a run's stages, with what was owed before it
pub record HasSegment {M I : Type 0} (state : M → MediumState I) (moves : I → Step → Bool → I → Type 0) (s : Script) (i : ℕ) (start : Snapshot M) (stages front : List Stage) (stage : Stage) : Type 0 where
  pub before : Snapshot M
  pub reached : Chain (IsStage state moves) start front before
  pub is : IsSegment s i before.owed stage (run_segment s (stood_of stage) i (mark_of stage) stages) (run_segment s (opposite (stood_of stage)) i (mark_of stage) stages)

-- What a run by these stages leaves in the trace of each medium, cut at its marks: of each stage of a migration the segment
-- of its mark. The destination gets no call before the migration begins, nor behind one that was given up; and behind one that
-- wasn't, the side that the guests left gets none.
pub record HaveSegments {M I : Type 0} (state : M → MediumState I) (moves : I → Step → Bool → I → Type 0) (s : Script) (start : Snapshot M) (stages : List Stage) : Type 0 where
  pub segments : (i : ℕ) → i < media_count s → (front : List Stage) (stage : Stage) (back : List Stage) → stages ≡ front ++ stage ∷ back → HasSegment state moves s i start stages front stage
  pub before : (front back : List Stage) → stages ≡ front ++ Begin ∷ back → flat_map (calls_at s Destination) front ≡ []
  pub given_up : (n : ℕ) (front back : List Stage) → stages ≡ front ++ GiveUp n ∷ back → flat_map (calls_at s Destination) back ≡ []
  pub moved : (side : Side) (n : ℕ) (copies : List Copy) (pages : ℕ) (front back : List Stage) → stages ≡ front ++ Resume side n copies pages ∷ back → flat_map (calls_at s side) back ≡ []
