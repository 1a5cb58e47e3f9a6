use Rattle.std.specs.Prelude.{◌≡◌, ℕ, ◌+◌, ◌-◌, ◌*◌, ◌≤◌, All, cond, false, List, [], ◌∷◌, ◌++◌, drop, length, replicate, take}
use Rattle.std.specs.Int.{w16, w32, w64, to_le_bytes}
use Rattle.nvm_ring.specs.Places.{IsRing}
use Rattle.ctl_state.specs.declared.image.Image.{Image}
use Rattle.ctl_state.specs.declared.image.PairState.{PairState}

-- The image of a controller's state, every number little-endian. (Base 2.1, controller state; the layout of NVMe controller
-- state data is this one's own.)

-- the version, the number of queue pairs, and the length
abbrev pub header : ℕ → List ℕ
header used = to_le_bytes w16 1 ++ to_le_bytes w16 used ++ to_le_bytes w32 (8 + 32 * used)

-- the guest addresses of a lane's rings: the first two pages of its window
abbrev pub sq_address : ℕ → ℕ
sq_address lane = lane * 16777216

abbrev pub cq_address : ℕ → ℕ
cq_address lane = lane * 16777216 + 4096

-- the pair of a lane
abbrev pub pair_bytes : ℕ → PairState → List ℕ
pair_bytes lane pair =
    to_le_bytes w64 (sq_address lane) ++ to_le_bytes w64 (cq_address lane)
    ++ to_le_bytes w16 (pair.sq.size - 1) ++ to_le_bytes w16 pair.sq.head ++ to_le_bytes w16 pair.sq.tail
    ++ to_le_bytes w16 (pair.cq.size - 1) ++ to_le_bytes w16 pair.cq.head ++ to_le_bytes w16 pair.cq.tail
    ++ (cond pair.phase 1 0 ∷ 0 ∷ 0 ∷ 0 ∷ [])

-- pairs, the first of that lane
abbrev pub pairs_bytes : ℕ → List PairState → List ℕ
pairs_bytes lane [] = []
pairs_bytes lane (pair ∷ pairs) = pair_bytes lane pair ++ pairs_bytes (lane + 1) pairs

-- the pairs that a state has
abbrev pub pairs_of : Image → List PairState
pairs_of image = take image.used image.pairs

abbrev pub image_bytes : Image → List ℕ
image_bytes image = header image.used ++ pairs_bytes 1 (pairs_of image)

-- the rings of a pair: from 2 to 64 places for submissions, and from 2 to 256 for completions
pub record IsPair (pair : PairState) : Type 0 where
  pub sq : IsRing 64 pair.sq
  pub cq : IsRing 256 pair.cq

-- a pair of zeroes
abbrev pub none : PairState
none = record { sq = record { size = 0; head = 0; tail = 0 }; cq = record { size = 0; head = 0; tail = 0 }; phase = false }

-- a state of that many pairs
pub record IsImage (lanes : ℕ) (image : Image) : Type 0 where
  pub used : image.used ≡ lanes
  pub few : lanes ≤ 8
  pub room : length image.pairs ≡ 8
  pub pairs : All IsPair (pairs_of image)
  pub others : drop lanes image.pairs ≡ replicate (8 - lanes) none
