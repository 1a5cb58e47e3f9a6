-- A completion and its bytes are inverse.
use Rattle.std.proofs.Common.{◌≡◌, ◌≤◌, ◌<◌, ◌^◌, ◌+◌, ◌*◌, ◌/◌, ◌%◌, ◌==◌, ℕ, zero, suc, Bool, true, false, cond, List, length, slice_index, refl, ap, ◌∙◌, arith}
use Rattle.std.proofs.lemmas.Nat.{from_le_bytes-to_le_bytes_2, from_le_bytes-to_le_bytes_4}
use Rattle.std.specs.Int.{w16, to_le_bytes}
use Rattle.nvm_values.specs.Sqe.{number_at}
use Rattle.nvm_values.specs.Cqe.{CqeFields, IsCqe, cqe_bytes, cqe_of, status_word}
use Rattle.nvm_values.proofs.PlaceLemmas.{behind_2, behind_4, last_2, number_at_2-lt}

-- a bit as a number, and back
bit-le : (b : Bool) → cond b 1 0 ≤ 1
bit-le true = omega arith
bit-le false = omega arith

bit_is_one : (b : Bool) → (cond b 1 0 == 1) ≡ b
bit_is_one true = refl
bit_is_one false = refl

bit_of_number : (n : ℕ) → n ≤ 1 → cond (n == 1) 1 0 ≡ n
bit_of_number zero h = refl
bit_of_number (suc zero) h = refl
bit_of_number (suc (suc n)) h = absurd (omega arith)

-- the parts of a word that is put together of such parts
record IsParted (word p sc sct m o d : ℕ) : Type 0 where
  phase : word % 2 ≡ p
  code : word / 2 % 256 ≡ sc
  kind : word / 512 % 8 ≡ sct
  mid : word / 4096 % 4 ≡ m
  more : word / 16384 % 2 ≡ o
  dnr : word / 32768 ≡ d
  fits : word < 2 ^ 16

parted : (p sc sct m o d : ℕ) → p ≤ 1 → sc < 2 ^ 8 → sct ≤ 7 → m ≤ 3 → o ≤ 1 → d ≤ 1
    → IsParted (p + 2 * sc + 512 * sct + 4096 * m + 16384 * o + 32768 * d) p sc sct m o d
parted p sc sct m o d hp hsc hsct hm ho hd = record {
  phase = omega arith;
  code = omega arith;
  kind = omega arith;
  mid = omega arith;
  more = omega arith;
  dnr = omega arith;
  fits = omega arith;
}

-- a word is put together of its parts
rejoined : (word : ℕ) → word < 65536 → word % 2 + 2 * (word / 2 % 256) + 512 * (word / 512 % 8) + 4096 * (word / 4096 % 4) + 16384 * (word / 16384 % 2) + 32768 * (word / 32768) ≡ word
rejoined word fits = omega arith

-- there are 16 bytes
pub length-cqe_bytes : (c : CqeFields) → length (cqe_bytes c) ≡ 16
unfolding cqe_bytes
length-cqe_bytes c = refl

-- the completion of a completion's bytes is that completion
pub cqe_of-cqe_bytes : (c : CqeFields) → IsCqe c → cqe_of (cqe_bytes c) ≡ c
unfolding cqe_bytes
cqe_of-cqe_bytes c is =
    let parts : IsParted (status_word c) (cond c.phase 1 0) c.status.1 c.status.0 c.mid (cond c.more 1 0) (cond c.dnr 1 0) = parted (cond c.phase 1 0) c.status.1 c.status.0 c.mid (cond c.more 1 0) (cond c.dnr 1 0) (bit-le c.phase) is.status_code is.status_type is.mid (bit-le c.more) (bit-le c.dnr) in
    let word : number_at w16 14 (cqe_bytes c) ≡ status_word c = from_le_bytes-to_le_bytes_2 (status_word c) parts.fits in
    let phase : (number_at w16 14 (cqe_bytes c) % 2 == 1) ≡ c.phase = ap (λ (w : ℕ). w % 2 == 1) word ∙ ap (λ (n : ℕ). n == 1) parts.phase ∙ bit_is_one c.phase in
    let kind : number_at w16 14 (cqe_bytes c) / 512 % 8 ≡ c.status.0 = ap (λ (w : ℕ). w / 512 % 8) word ∙ parts.kind in
    let code : number_at w16 14 (cqe_bytes c) / 2 % 256 ≡ c.status.1 = ap (λ (w : ℕ). w / 2 % 256) word ∙ parts.code in
    let mid : number_at w16 14 (cqe_bytes c) / 4096 % 4 ≡ c.mid = ap (λ (w : ℕ). w / 4096 % 4) word ∙ parts.mid in
    let more : (number_at w16 14 (cqe_bytes c) / 16384 % 2 == 1) ≡ c.more = ap (λ (w : ℕ). w / 16384 % 2 == 1) word ∙ ap (λ (n : ℕ). n == 1) parts.more ∙ bit_is_one c.more in
    let dnr : (number_at w16 14 (cqe_bytes c) / 32768 == 1) ≡ c.dnr = ap (λ (w : ℕ). w / 32768 == 1) word ∙ ap (λ (n : ℕ). n == 1) parts.dnr ∙ bit_is_one c.dnr in
    λ k. record {
      dw0 = from_le_bytes-to_le_bytes_4 c.dw0 is.dw0 k;
      dw1 = from_le_bytes-to_le_bytes_4 c.dw1 is.dw1 k;
      sqhd = from_le_bytes-to_le_bytes_2 c.sqhd is.sqhd k;
      sqid = from_le_bytes-to_le_bytes_2 c.sqid is.sqid k;
      cid = from_le_bytes-to_le_bytes_2 c.cid is.cid k;
      phase = phase k;
      status = (kind k, code k);
      mid = mid k;
      more = more k;
      dnr = dnr k;
    }

-- the last word of the completion of 16 bytes is the one that stands there
status_word-cqe_of : (b : List ℕ) → ((i : ℕ) → slice_index b i < 256) → status_word (cqe_of b) ≡ number_at w16 14 b
status_word-cqe_of b small =
    let word : ℕ = number_at w16 14 b in
    let fits : word < 65536 = number_at_2-lt 14 b small in
    let phase : cond (word % 2 == 1) 1 0 ≡ word % 2 = bit_of_number (word % 2) (omega arith) in
    let more : cond (word / 16384 % 2 == 1) 1 0 ≡ word / 16384 % 2 = bit_of_number (word / 16384 % 2) (omega arith) in
    let dnr : cond (word / 32768 == 1) 1 0 ≡ word / 32768 = bit_of_number (word / 32768) (omega (arith, fits)) in
    (λ k. phase k + 2 * (word / 2 % 256) + 512 * (word / 512 % 8) + 4096 * (word / 4096 % 4) + 16384 * more k + 32768 * dnr k) ∙ rejoined word fits

-- the bytes of the completion of 16 bytes are those bytes
pub cqe_bytes-cqe_of : (b : List ℕ) → length b ≡ 16 → ((i : ℕ) → slice_index b i < 256) → cqe_bytes (cqe_of b) ≡ b
unfolding cqe_bytes
cqe_bytes-cqe_of b size small =
    let at14 = ap (to_le_bytes w16) (status_word-cqe_of b small) ∙ last_2 14 b small size in
    let at12 = behind_2 12 14 b _ small (omega arith) (omega arith) at14 in
    let at10 = behind_2 10 12 b _ small (omega arith) (omega arith) at12 in
    let at8 = behind_2 8 10 b _ small (omega arith) (omega arith) at10 in
    let at4 = behind_4 4 8 b _ small (omega arith) (omega arith) at8 in
    behind_4 0 4 b _ small (omega arith) (omega arith) at4
