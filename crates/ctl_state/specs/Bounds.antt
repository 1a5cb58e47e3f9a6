use Rattle.std.specs.Prelude.{ℕ, zero, suc, ◌+◌, ◌-◌, ◌*◌, ◌/◌, ◌≤◌, ◌==◌, List, [], ◌∷◌, ◌++◌, drop, if◌then◌else◌, length, nat_lt, slice_index, take}
use Rattle.std.specs.Int.{w16, w64, from_le_bytes, to_le_bytes}
use Rattle.ctl_state.specs.declared.bounds.Bounds.{Bounds}
use Rattle.ctl_state.specs.declared.image.PairState.{PairState}
use Rattle.ctl_state.specs.Image.{cq_address, header, sq_address}

-- Inside the crate: which byte may stand at a place of an image, by those before it.

abbrev pub only : ℕ → Bounds
only byte = record { low = byte; high = byte }

abbrev pub between : ℕ → ℕ → Bounds
between low high = record { low = low; high = high }

-- behind the first bytes of a lane's pair
abbrev pub pair_bounds : ℕ → List ℕ → Bounds
pair_bounds lane front = at (length front)
  where
    at : ℕ → Bounds
    at place = if nat_lt place 8 then only (slice_index (to_le_bytes w64 (sq_address lane)) place) else (
        if nat_lt place 16 then only (slice_index (to_le_bytes w64 (cq_address lane)) (place - 8)) else (
        if place == 16 then between 1 63 else (
        if place == 18 then between 0 (slice_index front 16) else (
        if place == 20 then between 0 (slice_index front 16) else (
        if place == 22 then between 1 255 else (
        if place == 24 then between 0 (slice_index front 22) else (
        if place == 26 then between 0 (slice_index front 22) else (
        if place == 28 then between 0 1 else only 0))))))))

-- behind the first bytes of an image
abbrev pub bounds_after : ℕ → List ℕ → Bounds
bounds_after lanes front = if nat_lt (length front) 8 then only (slice_index (header lanes) (length front))
    else pair_bounds ((length front - 8) / 32 + 1) (drop (32 * ((length front - 8) / 32) + 8) front)

abbrev pub IsWithin : Bounds → ℕ → Type 0
IsWithin b x = (b.low ≤ x) × (x ≤ b.high)

-- bytes each of which may stand behind those before it, the first behind `front`
abbrev pub Follows : (List ℕ → Bounds) → List ℕ → List ℕ → Type 0
Follows may front [] = Unit {0}
Follows may front (x ∷ xs) = IsWithin (may front) x × Follows may (front ++ x ∷ []) xs

-- the pair of 32 bytes
abbrev pub word_at : ℕ → List ℕ → ℕ
word_at at bytes = from_le_bytes w16 (take 2 (drop at bytes))

abbrev pub pair_of : List ℕ → PairState
pair_of bytes = record {
  sq = record { size = slice_index bytes 16 + 1; head = word_at 18 bytes; tail = word_at 20 bytes };
  cq = record { size = slice_index bytes 22 + 1; head = word_at 24 bytes; tail = word_at 26 bytes };
  phase = slice_index bytes 28 == 1;
}

-- the pairs whose bytes stand one after another
abbrev pub pairs_in : ℕ → List ℕ → List PairState
pairs_in zero bytes = []
pairs_in (suc n) bytes = pair_of (take 32 bytes) ∷ pairs_in n (drop 32 bytes)
