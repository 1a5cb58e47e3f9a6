use Rattle.std.specs.Prelude.{ℕ, ◌<◌, ◌≤◌, Bool, cond, List, [], ◌∷◌, ◌++◌, take, drop, replicate}
use Rattle.std.specs.Int.{w32, w64, to_le_bytes, from_le_bytes}
use Rattle.data_queue.specs.declared.change.Change.{Change}

-- A change entry: namespace 1, the first block at byte 8, the number of blocks at byte 16, the kind `written` at byte 20,
-- the phase tag at byte 31, and zeroes elsewhere. Numbers are little-endian.
abbrev pub change_bytes : Change → Bool → List ℕ
change_bytes c phase =
    to_le_bytes w32 1 ++ replicate 4 0 ++ to_le_bytes w64 c.span.first ++ to_le_bytes w32 c.span.count ++ (1 ∷ []) ++ replicate 10 0 ++ (cond phase 1 0 ∷ [])

-- the change of an entry, whose first block has 32 bits
abbrev pub change_of : List ℕ → Change
change_of b = record { span = record { first = from_le_bytes w32 (take 4 (drop 8 b)); count = from_le_bytes w32 (take 4 (drop 16 b)) } }

-- the blocks that a change may name
pub record IsChange (c : Change) : Type 0 where
  pub first : c.span.first < 131072
  pub some : 1 ≤ c.span.count
  pub few : c.span.count ≤ 64
