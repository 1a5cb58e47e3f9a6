use Rattle.std.specs.Prelude.{◌≡◌, ◌⊎◌, ℕ, ◌*◌, ◌/◌, List, [], All, length}
use Rattle.engine.specs.Words.{IsRunOver, IsRunSerial}
use Rattle.file_medium.specs.Part.{Part, parts}
use Rattle.guest_ram.specs.declared.host.Host.{Host}
use Rattle.mig_medium.specs.Memory.{Memory, zero_blocks}

-- The hosts that the program makes.

-- a medium of that many zeroed blocks, of which no call fails
pub record IsZeroed (size : ℕ) (medium : Memory) : Type 0 where
  pub blocks : medium.blocks ≡ zero_blocks size
  pub gets : medium.gets ≡ []
  pub puts : medium.puts ≡ []

-- a host of that many blocks on media of that size, with no guest memory yet
pub record IsZeroedHost (blocks shelf : ℕ) (host : Host Memory) : Type 0 where
  pub count : length host.shelves.items * shelf ≡ blocks
  pub zeroed : All (IsZeroed shelf) host.shelves.items
  pub ram : host.ram ≡ []

-- a host of nothing
pub record IsEmptyHost (host : Host Memory) : Type 0 where
  pub shelves : host.shelves.items ≡ []
  pub ram : host.ram ≡ []

-- the words of a run name no files
abbrev pub NameNoFiles : List (List ℕ) → Type 0
NameNoFiles words = (blocks shelf : ℕ) (from to : List ℕ) → IsRunOver words blocks shelf from to → ⊥

-- Two hosts in memory as the words ask for them: zeroed ones of the sizes that they give, where they run a script and
-- name no files, and empty ones where they run nothing.
abbrev pub AreFresh : List (List ℕ) → Host Memory → Host Memory → Type 0
AreFresh words from to =
    ((blocks : ℕ) × (shelf : ℕ) × IsRunSerial words blocks shelf × IsZeroedHost blocks shelf from × IsZeroedHost blocks shelf to)
    ⊎ (((blocks shelf : ℕ) → IsRunSerial words blocks shelf → ⊥) × IsEmptyHost from × IsEmptyHost to)

-- a host over a file of so many blocks: its parts in their order, with no guest memory yet
pub record IsFileHost (blocks shelf : ℕ) (host : Host Part) : Type 0 where
  pub shelves : host.shelves.items ≡ parts shelf (blocks / shelf)
  pub ram : host.ram ≡ []
