-- An entry and its bytes are inverse.
use Rattle.std.proofs.Common.{◌≡◌, ◌<◌, ℕ, List, [], ◌∷◌, length, slice_index, refl, ap, arith}
use Rattle.std.proofs.lemmas.Nat.{from_le_bytes-to_le_bytes_2, from_le_bytes-to_le_bytes_4, from_le_bytes-to_le_bytes_8}
use Rattle.nvm_values.specs.declared.sqe.Sqe.{Sqe}
use Rattle.nvm_values.specs.Sqe.{IsSqe, sqe_bytes, sqe_of}
use Rattle.nvm_values.proofs.PlaceLemmas.{behind_2, behind_4, behind_8, last_4}

-- there are 64 bytes
pub length-sqe_bytes : (e : Sqe) → length (sqe_bytes e) ≡ 64
unfolding sqe_bytes
length-sqe_bytes e = refl

-- the entry of an entry's bytes is that entry
pub sqe_of-sqe_bytes : (e : Sqe) → IsSqe e → sqe_of (sqe_bytes e) ≡ e
unfolding sqe_bytes
sqe_of-sqe_bytes e is = λ k. record {
  opcode = e.opcode;
  flags = e.flags;
  cid = from_le_bytes-to_le_bytes_2 e.cid is.cid k;
  nsid = from_le_bytes-to_le_bytes_4 e.nsid is.nsid k;
  cdw2 = from_le_bytes-to_le_bytes_4 e.cdw2 is.cdw2 k;
  cdw3 = from_le_bytes-to_le_bytes_4 e.cdw3 is.cdw3 k;
  mptr = from_le_bytes-to_le_bytes_8 e.mptr is.mptr k;
  prp1 = from_le_bytes-to_le_bytes_8 e.prp1 is.prp1 k;
  prp2 = from_le_bytes-to_le_bytes_8 e.prp2 is.prp2 k;
  cdw10 = from_le_bytes-to_le_bytes_4 e.cdw10 is.cdw10 k;
  cdw11 = from_le_bytes-to_le_bytes_4 e.cdw11 is.cdw11 k;
  cdw12 = from_le_bytes-to_le_bytes_4 e.cdw12 is.cdw12 k;
  cdw13 = from_le_bytes-to_le_bytes_4 e.cdw13 is.cdw13 k;
  cdw14 = from_le_bytes-to_le_bytes_4 e.cdw14 is.cdw14 k;
  cdw15 = from_le_bytes-to_le_bytes_4 e.cdw15 is.cdw15 k;
}

-- the bytes of the entry of 64 bytes are those bytes
pub sqe_bytes-sqe_of : (b : List ℕ) → length b ≡ 64 → ((i : ℕ) → slice_index b i < 256) → sqe_bytes (sqe_of b) ≡ b
unfolding sqe_bytes
sqe_bytes-sqe_of [] size small = absurd (omega arith)
sqe_bytes-sqe_of (x ∷ []) size small = absurd (omega arith)
sqe_bytes-sqe_of (x ∷ y ∷ r) size small =
    let b : List ℕ = x ∷ y ∷ r in
    let at60 = last_4 60 b small size in
    let at56 = behind_4 56 60 b _ small (omega arith) (omega arith) at60 in
    let at52 = behind_4 52 56 b _ small (omega arith) (omega arith) at56 in
    let at48 = behind_4 48 52 b _ small (omega arith) (omega arith) at52 in
    let at44 = behind_4 44 48 b _ small (omega arith) (omega arith) at48 in
    let at40 = behind_4 40 44 b _ small (omega arith) (omega arith) at44 in
    let at32 = behind_8 32 40 b _ small (omega arith) (omega arith) at40 in
    let at24 = behind_8 24 32 b _ small (omega arith) (omega arith) at32 in
    let at16 = behind_8 16 24 b _ small (omega arith) (omega arith) at24 in
    let at12 = behind_4 12 16 b _ small (omega arith) (omega arith) at16 in
    let at8 = behind_4 8 12 b _ small (omega arith) (omega arith) at12 in
    let at4 = behind_4 4 8 b _ small (omega arith) (omega arith) at8 in
    let at2 = behind_2 2 4 b _ small (omega arith) (omega arith) at4 in
    ap (λ (rest : List ℕ). x ∷ y ∷ rest) at2
