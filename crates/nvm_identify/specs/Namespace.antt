use Rattle.std.specs.Prelude.{◌<◌, ◌^◌, ℕ, List, [], ◌∷◌, ◌++◌, slice_index}
use Rattle.std.specs.Int.{w64, to_le_bytes}
use Rattle.nvm_identify.specs.declared.namespace.IdNamespace.{IdNamespace}
use Rattle.nvm_identify.specs.Place.{zeroes, number_at}

-- The 4,096 bytes of a namespace's Identify data, every number little-endian: the fields at bytes 0, 8, 16, 25, 26 and
-- 130. (NVM Command Set, Identify Namespace data structure.)
unfoldable pub namespace_bytes : IdNamespace → List ℕ
namespace_bytes n =
    to_le_bytes w64 n.nsze ++ to_le_bytes w64 n.ncap ++ to_le_bytes w64 n.nuse ++ zeroes 1 ++ (n.nlbaf ∷ n.flbas ∷ [])
    ++ zeroes 103 ++ (n.lbads ∷ []) ++ zeroes 3965

-- the namespace's data in 4,096 bytes
abbrev pub namespace_of : List ℕ → IdNamespace
namespace_of bytes = record {
  nsze = number_at w64 0 bytes;
  ncap = number_at w64 8 bytes;
  nuse = number_at w64 16 bytes;
  nlbaf = slice_index bytes 25;
  flbas = slice_index bytes 26;
  lbads = slice_index bytes 130;
}

-- each number that takes more than a byte fits its field
pub record IsNamespace (n : IdNamespace) : Type 0 where
  pub nsze : n.nsze < 2 ^ 64
  pub ncap : n.ncap < 2 ^ 64
  pub nuse : n.nuse < 2 ^ 64

-- the product's own namespace of that many blocks of 512 bytes
abbrev pub own_of : ℕ → IdNamespace
own_of blocks = record { nsze = blocks; ncap = blocks; nuse = blocks; nlbaf = 0; flbas = 0; lbads = 9 }
