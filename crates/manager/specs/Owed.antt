use Rattle.std.specs.Prelude.{◌≡◌, ◌⊎◌, ℕ, zero, suc, ◌+◌, ◌*◌, ◌^◌, ◌<◌, Bool, true, false, List, [], ◌∷◌, Option, Some, None, length, slice_index_or, slice_set}

-- What is owed to the destination: of each block, or page, whether it is.

-- the places that are owed, ascending, the first of these being place k
abbrev pub places_from : ℕ → List Bool → List ℕ
places_from k [] = []
places_from k (true ∷ owed) = k ∷ places_from (k + 1) owed
places_from k (false ∷ owed) = places_from (k + 1) owed

abbrev pub places_of : List Bool → List ℕ
places_of owed = places_from 0 owed

-- so many places from a first one on are owed; a place that isn't there can't be
abbrev pub owe_from : ℕ → ℕ → List Bool → List Bool
owe_from first zero owed = owed
owe_from first (suc n) owed = slice_set (owe_from first n owed) (first + n) true

-- how many of the first k places are owed
abbrev pub owed_below : ℕ → List Bool → ℕ
owed_below zero owed = 0
owed_below (suc k) [] = 0
owed_below (suc k) (true ∷ owed) = 1 + owed_below k owed
owed_below (suc k) (false ∷ owed) = owed_below k owed

-- how many of all places are owed, and how many of each 512
pub record IsCounted (count : ℕ) (counts : List ℕ) (owed : List Bool) : Type 0 where
  pub few : length owed < 2 ^ 32
  pub there : length owed < 512 * length counts
  pub all : count ≡ length (places_of owed)
  pub each : (i : ℕ) → i < length counts → owed_below (512 * (i + 1)) owed ≡ owed_below (512 * i) owed + slice_index_or counts i 0

-- Two sides that differ in these places at most.

abbrev pub IsAmong : ℕ → List ℕ → Type 0
IsAmong i [] = ⊥
IsAmong i (place ∷ places) = (i ≡ place) ⊎ IsAmong i places

pub record DifferIn (count : ℕ) (places : List ℕ) (from to : List (List ℕ)) : Type 0 where
  pub from_long : length from ≡ count
  pub to_long : length to ≡ count
  pub same : (i : ℕ) → (slice_index_or to i [] ≡ slice_index_or from i []) ⊎ IsAmong i places

-- the same where both are told
abbrev pub TellDifference : ℕ → List ℕ → Option (List (List ℕ)) → Option (List (List ℕ)) → Type 0
TellDifference count places (Some from) (Some to) = DifferIn count places from to
TellDifference count places (Some from) None = Unit {0}
TellDifference count places None to = Unit {0}

abbrev pub TellSame : Option (List (List ℕ)) → Option (List (List ℕ)) → Type 0
TellSame (Some from) (Some to) = to ≡ from
TellSame (Some from) None = Unit {0}
TellSame None to = Unit {0}
