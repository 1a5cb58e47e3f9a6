use Rattle.std.specs.Prelude.{ℕ, ◌+◌, List, ◌++◌, length, take, drop, replicate}
use Rattle.std.specs.Int.{Width, byte_len, from_le_bytes}

-- that many zeroes
unfoldable pub zeroes : ℕ → List ℕ
zeroes n = replicate n 0

-- that many bytes from a place
abbrev pub part_at : ℕ → ℕ → List ℕ → List ℕ
part_at n at bytes = take n (drop at bytes)

-- the little-endian number that stands at a place
abbrev pub number_at : Width → ℕ → List ℕ → ℕ
number_at w at bytes = from_le_bytes w (part_at (byte_len w) at bytes)

-- bytes after a part was written at a place of them
abbrev pub written : List ℕ → ℕ → List ℕ → List ℕ
written bytes at part = take at bytes ++ part ++ drop (at + length part) bytes
