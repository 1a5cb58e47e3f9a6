use Rattle.std.specs.Prelude.{◌≡◌, ◌⊎◌, ℕ, ◌+◌, ◌-◌, ◌==◌, ◌||◌, Bool, true, false, not, cond, count_by, List, [], ◌∷◌, Option, Some, None, drop, filter, length, map, slice_get, slice_index_or, sum, take}
use Rattle.std.specs.List.{flat_map, list_any, range_with_len}
use Rattle.nvm_values.specs.declared.op.Op.{Op}
use Rattle.nvm_values.specs.declared.op.Op.TheVariants.{Flush, Write, Read, Compare, WriteZeroes, Verify}
use Rattle.nvm_model.specs.declared.command.Pages.{Pages}
use Rattle.nvm_model.specs.declared.command.Work.{Work}
use Rattle.nvm_model.specs.declared.line.Line.{Line}
use Rattle.nvm_model.specs.declared.line.Line.TheVariants as line
use Rattle.nvm_model.specs.declared.script.Act.{Act}
use Rattle.nvm_model.specs.declared.script.Act.TheVariants.{Fill, Poke, List as PrpList, Submit, Raw, Wait, Idle}
use Rattle.nvm_model.specs.declared.script.Head.{Head}
use Rattle.nvm_model.specs.declared.script.LaneSet.{LaneSet}
use Rattle.nvm_model.specs.declared.script.Script.{Script}
use Rattle.nvm_model.specs.Piece.{done_blocks, page_of}
use Rattle.nvm_model.specs.World.{acts_of, window_pages}

-- What a migration owes to the other side: blocks of the namespace, and window pages of all lanes together, ascending.
pub record Owed : Type 0 where
  pub blocks : List ℕ
  pub pages : List ℕ

-- one of these numbers is n
abbrev pub is_among : ℕ → List ℕ → Bool
is_among n numbers = list_any (λ (m : ℕ). m == n) numbers

-- the numbers below a bound that are among the one or the other, ascending
abbrev pub either_of : ℕ → List ℕ → List ℕ → List ℕ
either_of bound some others = filter (λ (n : ℕ). is_among n some || is_among n others) (range_with_len 0 bound)

-- all is owed
abbrev pub all_owed : Head → Owed
all_owed head = record { blocks = range_with_len 0 head.blocks; pages = range_with_len 0 (window_pages head) }

-- What a piece changes. A Write and a Write Zeroes change the blocks that were done, a Read the data pages into which these
-- were read.

-- how many window pages the lanes before lane k have
abbrev pub pages_before : Head → ℕ → ℕ
pages_before head k = sum (map (λ (set : LaneSet). set.pages + 2) (take (k - 1) head.sets))

-- n blocks from the first on, for an operation that writes blocks
abbrev pub blocks_written : Op → ℕ → ℕ → List ℕ
blocks_written Write first n = range_with_len first n
blocks_written WriteZeroes first n = range_with_len first n
blocks_written Read first n = []
blocks_written Compare first n = []
blocks_written Verify first n = []
blocks_written Flush first n = []

-- the data pages of a command that have n blocks of its data, from block at on, for an operation that writes pages
abbrev pub pages_read : Op → Pages → ℕ → ℕ → List ℕ
pages_read Read pages at n = map (λ (i : ℕ). page_of pages i) (range_with_len at n)
pages_read Write pages at n = []
pages_read WriteZeroes pages at n = []
pages_read Compare pages at n = []
pages_read Verify pages at n = []
pages_read Flush pages at n = []

-- the blocks that an event changed; of a piece, by the work of its command
abbrev pub changed_by : Option Work → Line → List ℕ
changed_by (Some work) (line.Piece k cid first count outcome digest) = blocks_written work.op first (done_blocks count outcome)
changed_by _ _ = []

-- the window pages of its lane that an act writes: a data page, or the page of the submission queue
abbrev pub pages_acted : Option Act → List ℕ
pages_acted None = []
pages_acted (Some (Fill page byte)) = (page + 2) ∷ []
pages_acted (Some (Poke page at bytes used)) = (page + 2) ∷ []
pages_acted (Some (PrpList page named used)) = (page + 2) ∷ []
pages_acted (Some (Submit cid op slba count p1 p2)) = 0 ∷ []
pages_acted (Some (Raw entry)) = 0 ∷ []
pages_acted (Some Wait) = []
pages_acted (Some Idle) = []

-- the window pages that an event wrote, each by its number over all lanes
abbrev pub touched_by : Script → Option Work → Line → List ℕ
touched_by s work (line.Act k n) = map (λ (page : ℕ). pages_before s.head k + page) (pages_acted (slice_get (acts_of k s.acts) (n - 1)))
touched_by s (Some work) (line.Piece k cid first count outcome digest) =
    map (λ (page : ℕ). pages_before s.head k + (page + 2)) (pages_read work.op work.pages (first - work.span.first) (done_blocks count outcome))
touched_by s work (line.Post k cid status) = (pages_before s.head k + 1) ∷ []
touched_by _ _ _ = []

-- What one event wrote: blocks, and window pages.
pub record Written : Type 0 where
  pub blocks : List ℕ
  pub pages : List ℕ

abbrev pub written_by : Script → Option Work → Line → Written
written_by s work e = record { blocks = changed_by work e; pages = touched_by s work e }

-- the blocks that events wrote, and the window pages
abbrev pub blocks_of : List Written → List ℕ
blocks_of written = flat_map (λ (w : Written). w.blocks) written

abbrev pub pages_of : List Written → List ℕ
pages_of written = flat_map (λ (w : Written). w.pages) written

-- how many events wrote a block
abbrev pub changes_of : List Written → ℕ
changes_of written = count_by (λ (w : Written). not (is_empty w.blocks)) written
  where
    is_empty : List ℕ → Bool
    is_empty [] = true
    is_empty (b ∷ blocks) = false

-- After a round.

-- how much of what is owed is copied in a round, the lowest first
abbrev pub copied_of : Head → Owed → Owed
copied_of head owed = record { blocks = take head.slice owed.blocks; pages = take head.pages owed.pages }

-- what is owed and what was written
abbrev pub with_written : Head → List Written → Owed → Owed
with_written head written owed = record { blocks = either_of head.blocks owed.blocks (blocks_of written); pages = either_of (window_pages head) owed.pages (pages_of written) }

-- Owed is what was owed before it but for the blocks that it copied, and each block that it wrote; and of the pages that were
-- owed or that it wrote all but the lowest, which were copied at its end.
abbrev pub owed_after : Head → List Written → Owed → Owed
owed_after head written owed =
    let then = with_written head written (record owed { blocks = drop head.slice owed.blocks }) in record then { pages = drop head.pages then.pages }

-- after a restart all blocks are owed
abbrev pub restarted_if : Bool → Head → Owed → Owed
restarted_if restarted head owed = record owed { blocks = cond restarted (range_with_len 0 head.blocks) owed.blocks }

-- Two sides that differ in what is owed.

-- a number is one of these
abbrev pub IsAmong : ℕ → List ℕ → Type 0
IsAmong i [] = ⊥
IsAmong i (place ∷ places) = (i ≡ place) ⊎ IsAmong i places

-- so many blocks, or pages, on both sides, which differ in these places at most
pub record DifferIn (count : ℕ) (places : List ℕ) (from to : List (List ℕ)) : Type 0 where
  pub from_long : length from ≡ count
  pub to_long : length to ≡ count
  pub same : (i : ℕ) → (slice_index_or to i [] ≡ slice_index_or from i []) ⊎ IsAmong i places
