use Rattle.std.specs.Prelude.{◌<◌, ◌≤◌, ◌^◌, ℕ, ◌+◌, ◌*◌, ◌/◌, ◌%◌, ◌==◌, Bool, List, ◌++◌, cond}
use Rattle.std.specs.Int.{w16, w32, to_le_bytes}
use Rattle.nvm_values.specs.Status.{StatusPair}
use Rattle.nvm_values.specs.Sqe.{number_at}

-- The fields of a completion queue entry. (Base 2.1, section 4.2.)
pub record CqeFields : Type 0 where
  pub dw0 : ℕ
  pub dw1 : ℕ
  pub sqhd : ℕ
  pub sqid : ℕ
  pub cid : ℕ
  pub phase : Bool
  pub status : StatusPair
  pub mid : ℕ
  pub more : Bool
  pub dnr : Bool

-- The last word: the phase tag in bit 0, the status code in bits 8:1, its type in bits 11:9, the command retry delay
-- in bits 13:12, More in bit 14, Do Not Retry in bit 15. (Base 2.1, status field.)
abbrev pub status_word : CqeFields → ℕ
status_word c = cond c.phase 1 0 + 2 * c.status.1 + 512 * c.status.0 + 4096 * c.mid + 16384 * cond c.more 1 0 + 32768 * cond c.dnr 1 0

-- the 16 bytes of a completion, every number little-endian
unfoldable pub cqe_bytes : CqeFields → List ℕ
cqe_bytes c = to_le_bytes w32 c.dw0 ++ to_le_bytes w32 c.dw1 ++ to_le_bytes w16 c.sqhd ++ to_le_bytes w16 c.sqid ++ to_le_bytes w16 c.cid ++ to_le_bytes w16 (status_word c)

-- the completion of 16 bytes
abbrev pub cqe_of : List ℕ → CqeFields
cqe_of bytes = let word : ℕ = number_at w16 14 bytes in record {
  dw0 = number_at w32 0 bytes;
  dw1 = number_at w32 4 bytes;
  sqhd = number_at w16 8 bytes;
  sqid = number_at w16 10 bytes;
  cid = number_at w16 12 bytes;
  phase = word % 2 == 1;
  status = (word / 512 % 8, word / 2 % 256);
  mid = word / 4096 % 4;
  more = word / 16384 % 2 == 1;
  dnr = word / 32768 == 1;
}

-- each number of the completion fits its field
pub record IsCqe (c : CqeFields) : Type 0 where
  pub dw0 : c.dw0 < 2 ^ 32
  pub dw1 : c.dw1 < 2 ^ 32
  pub sqhd : c.sqhd < 2 ^ 16
  pub sqid : c.sqid < 2 ^ 16
  pub cid : c.cid < 2 ^ 16
  pub status_type : c.status.0 ≤ 7
  pub status_code : c.status.1 < 2 ^ 8
  pub mid : c.mid ≤ 3
