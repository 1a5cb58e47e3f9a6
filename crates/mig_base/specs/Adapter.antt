use Rattle.std.specs.Prelude.{ℕ, List, Option}

-- A stream of std under an adapter: the bytes that a reader has left or a writer holds, where std knows them, and how
-- many calls have failed.
pub record Adapter : Type 0 where
  pub known : Option (List ℕ)
  pub faults : ℕ
