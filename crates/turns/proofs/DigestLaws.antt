use Rattle.std.proofs.Common.{ℕ, zero, suc, ◌/◌, ◌^◌, ◌<◌, List, All, arith}
use Rattle.std.specs.Int.{w32, to_be_bytes}
use Rattle.std.specs.Prelude.{slice_index}
use Rattle.std.proofs.lemmas.Nat.{mod_below}
use Rattle.std.proofs.lemmas.List.Elements.{All-nil, All-from_recursion, All-append}
use Rattle.sha2.specs.Sha256.{sha256, digest_bytes}
use Rattle.sha2.proofs.Facts256.{length-sha256}
use Rattle.nvm_values.specs.declared.op.Op.{Op}
use Rattle.nvm_values.specs.declared.op.Op.TheVariants.{Flush, Write, Read, Compare, WriteZeroes, Verify}
use Rattle.nvm_model.specs.Piece.{bytes_of, digest_after}
use Rattle.nvm_model.specs.Text.{IsDigest}

-- The digest of what a piece read is 32 bytes.

abbrev IsByte : ℕ → Type 0
IsByte byte = byte < 2 ^ 8

word_bytes : (n : ℕ) → All IsByte (to_be_bytes w32 n)
word_bytes n = All-from_recursion IsByte (to_be_bytes w32 n)
    (mod_below (n / 256 ^ 3) 256 (omega arith), (mod_below (n / 256 ^ 2) 256 (omega arith), (mod_below (n / 256) 256 (omega arith), (mod_below n 256 (omega arith), tt))))

digest_of_bytes : (h : List ℕ) (n : ℕ) → All IsByte (digest_bytes h n)
unfolding digest_bytes
digest_of_bytes h zero = All-nil IsByte
digest_of_bytes h (suc n) = All-append IsByte (digest_bytes h n) (to_be_bytes w32 (slice_index h n)) (digest_of_bytes h n) (word_bytes (slice_index h n))

sha256_of_bytes : (m : List ℕ) → All IsByte (sha256 m)
unfolding sha256
sha256_of_bytes m = digest_of_bytes _ 8

pub is_digest : (op : Op) (first n : ℕ) (blocks : List (List ℕ)) → IsDigest (digest_after op first n blocks)
is_digest Read first n blocks = (length-sha256 (bytes_of first n blocks), sha256_of_bytes (bytes_of first n blocks))
is_digest Write first n blocks = tt
is_digest WriteZeroes first n blocks = tt
is_digest Compare first n blocks = tt
is_digest Verify first n blocks = tt
is_digest Flush first n blocks = tt
