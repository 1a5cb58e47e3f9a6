use Rattle.std.specs.Prelude.{ℕ, ◌+◌, ◌-◌, ◌^◌, List, min}

-- A source over bytes in memory: the bytes that weren't read yet, the most that one read gives, the numbers of the
-- calls that fail, how many calls were made, and how many of them failed.
pub record Reading : Type 0 where
  pub left : List ℕ
  pub most : ℕ
  pub fails : List ℕ
  pub calls : ℕ
  pub faults : ℕ

-- A sink in memory: the bytes that it took, the most that it takes, and the rest as for a source.
pub record Writing : Type 0 where
  pub bytes : List ℕ
  pub room : ℕ
  pub fails : List ℕ
  pub calls : ℕ
  pub faults : ℕ

-- the number of the next call, kept in 64 bits: the first has number 1
abbrev pub next_number : ℕ → ℕ
next_number calls = min (calls + 1) (2 ^ 64 - 1)
