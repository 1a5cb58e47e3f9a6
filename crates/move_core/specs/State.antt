use Rattle.std.specs.Prelude.{◌≡◌, ℕ, zero, suc, ◌+◌, ◌-◌, ◌*◌, ◌<◌, ◌≤◌, ◌==◌, Bool, true, false, ◌||◌, cond, List, [], ◌∷◌, ◌++◌, length, take, drop, replicate, slice_index_or, slice_set}
use Rattle.mig_base.specs.declared.span.Span.{Span}
use Rattle.move_core.specs.declared.event.CoreEvent.{CoreEvent}
use Rattle.move_core.specs.declared.event.CoreEvent.TheVariants.{Piece, Post, Copy, Take, Restart, Suspend, Resume, GiveUp}
use Rattle.move_core.specs.declared.phase.CorePhase.{CorePhase}
use Rattle.move_core.specs.declared.phase.CorePhase.TheVariants.{Moving, Suspended, Resumed, GaveUp}

-- A migration as two lists of blocks and what is known of their differences.

pub record CoreState : Type 0 where
  -- the blocks of both sides, 512 bytes each
  pub source : List (List ℕ)
  pub destination : List (List ℕ)
  -- of each block whether it is owed
  pub owed : List Bool
  -- the written spans that are to be taken, oldest first, and how many there may be
  pub log : List Span
  pub cells : ℕ
  -- the written spans of each of eight lanes that aren't in the log yet, oldest first
  pub unposted : List (List Span)
  -- a span was lost
  pub mark : Bool
  pub phase : CorePhase

-- the core at the start: nothing is written, and everything is owed
abbrev pub start_core : ℕ → ℕ → CoreState
start_core blocks cells = record {
  source = replicate blocks (replicate 512 0);
  destination = replicate blocks (replicate 512 0);
  owed = replicate blocks true;
  log = [];
  cells = cells;
  unposted = replicate 8 [];
  mark = false;
  phase = Moving;
}

abbrev pub block_at : List (List ℕ) → ℕ → List ℕ
block_at blocks b = slice_index_or blocks b []

abbrev pub is_owed : CoreState → ℕ → Bool
is_owed c b = slice_index_or c.owed b false

-- the spans of lane k that aren't in the log yet
abbrev pub spans_of : CoreState → ℕ → List Span
spans_of c k = slice_index_or c.unposted (k - 1) []

-- blocks after n blocks of 512 bytes were written, from block first on
abbrev pub put_blocks : ℕ → ℕ → List ℕ → List (List ℕ) → List (List ℕ)
put_blocks first zero bytes blocks = blocks
put_blocks first (suc n) bytes blocks = slice_set (put_blocks first n bytes blocks) (first + n) (take 512 (drop (512 * n) bytes))

-- the owed blocks with n blocks from block first on
abbrev pub owe_blocks : ℕ → ℕ → List Bool → List Bool
owe_blocks first zero owed = owed
owe_blocks first (suc n) owed = slice_set (owe_blocks first n owed) (first + n) true

-- and with those of the oldest of these spans
abbrev pub owe_oldest : List Span → List Bool → List Bool
owe_oldest [] owed = owed
owe_oldest (span ∷ spans) owed = owe_blocks span.first span.count owed

-- a write that a lane may do
pub record IsWrite (c : CoreState) (lane : ℕ) (span : Span) (bytes : List ℕ) : Type 0 where
  pub lane_within : (1 ≤ lane) × (lane ≤ 8)
  pub count_within : (1 ≤ span.count) × (span.count ≤ 64)
  pub inside : span.first + span.count ≤ length c.source
  pub long : length bytes ≡ 512 * span.count

-- a lane keeps at most so many spans that aren't in the log
abbrev pub MayWrite : CorePhase → List Span → Type 0
MayWrite Moving spans = length spans < 4096
MayWrite Suspended spans = ⊥
MayWrite Resumed spans = Unit {0}
MayWrite GaveUp spans = Unit {0}

-- blocks may be copied
abbrev pub IsCopying : CorePhase → Type 0
IsCopying Moving = Unit {0}
IsCopying Suspended = Unit {0}
IsCopying Resumed = ⊥
IsCopying GaveUp = ⊥

abbrev pub NoneOwed : List Bool → Type 0
NoneOwed owed = (b : ℕ) → slice_index_or owed b false ≡ false

abbrev pub NoneUnposted : List (List Span) → Type 0
NoneUnposted unposted = (i : ℕ) → slice_index_or unposted i [] ≡ []

-- where an event may come
abbrev pub May : CoreState → CoreEvent → Type 0
May c (Piece lane span bytes) = IsWrite c lane span bytes × MayWrite c.phase (spans_of c lane)
May c (Post lane) = (c.phase ≡ Moving) × (1 ≤ lane) × (lane ≤ 8) × (0 < length (spans_of c lane))
May c (Copy block) = IsCopying c.phase × (is_owed c block ≡ true)
May c Take = IsCopying c.phase × (0 < length c.log)
May c Restart = (c.phase ≡ Moving) × (c.mark ≡ true)
May c Suspend = (c.phase ≡ Moving) × NoneUnposted c.unposted × (c.mark ≡ false)
May c Resume = (c.phase ≡ Suspended) × NoneOwed c.owed × (c.log ≡ [])
May c GiveUp = IsCopying c.phase

-- a lane's blocks go to the side on which its guest runs
abbrev pub written : CorePhase → ℕ → Span → List ℕ → CoreState → CoreState
written Moving lane span bytes c = record c {
  source = put_blocks span.first span.count bytes c.source;
  unposted = slice_set c.unposted (lane - 1) (spans_of c lane ++ span ∷ []);
}
written Suspended lane span bytes c = c
written Resumed lane span bytes c = record c { destination = put_blocks span.first span.count bytes c.destination }
written GaveUp lane span bytes c = record c { source = put_blocks span.first span.count bytes c.source }

-- the log has room for no span more, or lost one
abbrev pub is_lost : CoreState → Bool
is_lost c = c.mark || (length c.log == c.cells)

-- the core after an event that may come
abbrev pub after : CoreState → CoreEvent → CoreState
after c (Piece lane span bytes) = written c.phase lane span bytes c
after c (Post lane) = record c {
  log = cond (is_lost c) c.log (c.log ++ take 1 (spans_of c lane));
  unposted = slice_set c.unposted (lane - 1) (drop 1 (spans_of c lane));
  mark = is_lost c;
}
after c (Copy block) = record c {
  destination = slice_set c.destination block (block_at c.source block);
  owed = slice_set c.owed block false;
}
after c Take = record c { log = drop 1 c.log; owed = owe_oldest c.log c.owed }
after c Restart = record c { owed = replicate (length c.source) true; log = []; unposted = replicate 8 []; mark = false }
after c Suspend = record c { phase = Suspended }
after c Resume = record c { phase = Resumed }
after c GiveUp = record c { owed = replicate (length c.source) false; log = []; unposted = replicate 8 []; mark = false; phase = GaveUp }

-- events that may come, one after another
abbrev pub Steps : CoreState → List CoreEvent → CoreState → Type 0
Steps c [] d = d ≡ c
Steps c (e ∷ events) d = May c e × Steps (after c e) events d
