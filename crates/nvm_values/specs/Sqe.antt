use Rattle.std.specs.Prelude.{◌<◌, ◌^◌, ℕ, ◌+◌, ◌*◌, ◌/◌, ◌%◌, List, [], ◌∷◌, ◌++◌, take, drop, slice_index}
use Rattle.std.specs.Int.{Width, w16, w32, w64, byte_len, to_le_bytes, from_le_bytes}
use Rattle.nvm_values.specs.declared.sqe.Sqe.{Sqe}

-- The fields of an entry that the command set names. (Base 2.1, command dword 0; NVM Command Set, dwords 10 to 12.)
abbrev pub fuse_of : Sqe → ℕ
fuse_of e = e.flags % 4

-- PSDT: bits 7:6 of byte 1
abbrev pub psdt_of : Sqe → ℕ
psdt_of e = e.flags / 64

-- the first block: dword 10 plus dword 11 times 2 to the 32
abbrev pub slba_of : Sqe → ℕ
slba_of e = e.cdw10 + e.cdw11 * 4294967296

-- the number of blocks: bits 15:0 of dword 12, plus 1
abbrev pub count_of : Sqe → ℕ
count_of e = e.cdw12 % 65536 + 1

-- The 64 bytes of an entry, every number little-endian. (Base 2.1, common command format.)
unfoldable pub sqe_bytes : Sqe → List ℕ
sqe_bytes e =
    (e.opcode ∷ e.flags ∷ []) ++ to_le_bytes w16 e.cid ++ to_le_bytes w32 e.nsid ++ to_le_bytes w32 e.cdw2 ++ to_le_bytes w32 e.cdw3
    ++ to_le_bytes w64 e.mptr ++ to_le_bytes w64 e.prp1 ++ to_le_bytes w64 e.prp2
    ++ to_le_bytes w32 e.cdw10 ++ to_le_bytes w32 e.cdw11 ++ to_le_bytes w32 e.cdw12 ++ to_le_bytes w32 e.cdw13 ++ to_le_bytes w32 e.cdw14 ++ to_le_bytes w32 e.cdw15

-- the number that stands at a place of bytes
abbrev pub number_at : Width → ℕ → List ℕ → ℕ
number_at w at bytes = from_le_bytes w (take (byte_len w) (drop at bytes))

-- the entry of 64 bytes
abbrev pub sqe_of : List ℕ → Sqe
sqe_of bytes = record {
  opcode = slice_index bytes 0;
  flags = slice_index bytes 1;
  cid = number_at w16 2 bytes;
  nsid = number_at w32 4 bytes;
  cdw2 = number_at w32 8 bytes;
  cdw3 = number_at w32 12 bytes;
  mptr = number_at w64 16 bytes;
  prp1 = number_at w64 24 bytes;
  prp2 = number_at w64 32 bytes;
  cdw10 = number_at w32 40 bytes;
  cdw11 = number_at w32 44 bytes;
  cdw12 = number_at w32 48 bytes;
  cdw13 = number_at w32 52 bytes;
  cdw14 = number_at w32 56 bytes;
  cdw15 = number_at w32 60 bytes;
}

-- each number of the entry fits its field
pub record IsSqe (e : Sqe) : Type 0 where
  pub opcode : e.opcode < 2 ^ 8
  pub flags : e.flags < 2 ^ 8
  pub cid : e.cid < 2 ^ 16
  pub nsid : e.nsid < 2 ^ 32
  pub cdw2 : e.cdw2 < 2 ^ 32
  pub cdw3 : e.cdw3 < 2 ^ 32
  pub mptr : e.mptr < 2 ^ 64
  pub prp1 : e.prp1 < 2 ^ 64
  pub prp2 : e.prp2 < 2 ^ 64
  pub cdw10 : e.cdw10 < 2 ^ 32
  pub cdw11 : e.cdw11 < 2 ^ 32
  pub cdw12 : e.cdw12 < 2 ^ 32
  pub cdw13 : e.cdw13 < 2 ^ 32
  pub cdw14 : e.cdw14 < 2 ^ 32
  pub cdw15 : e.cdw15 < 2 ^ 32
