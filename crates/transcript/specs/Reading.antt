use Rattle.std.specs.Prelude.{◌≡◌, ℕ, ◌+◌, ◌-◌, ◌*◌, ◌&&◌, Bool, List, [], ◌∷◌, length, take, drop, slice_index, codes, nat_eq, nat_lt, nat_le, if◌then◌else◌, Option, Some, None, Result, Ok, Err}
use Rattle.std.specs.Cmp.Lexicographic.{pointwise}
use Rattle.hex.specs.Hex.{decode_sized}
use Rattle.hex.specs.declared.error.FromHexError.{FromHexError}
use Rattle.nvm_values.specs.Status.{StatusPair}
use Rattle.nvm_model.specs.declared.command.Outcome.{Outcome}
use Rattle.nvm_model.specs.declared.command.Outcome.TheVariants.{Done, Faulted, Differs}
use Rattle.transcript.specs.declared.parse.NotALine.{NotALine}

-- The parts of a line, read from left to right. Each reader finds what it looks for in a text that begins with it. In
-- other texts it may find anything: the line that was read is compared with its text.

infixl 10 ◌>>=◌
abbrev pub ◌>>=◌ : {A B : Type 0} → Option A → (A → Option B) → Option B
(Some x) >>= f = f x
None >>= f = None

abbrev pub or_else : {A B : Type 0} → Option A → (A → Option B) → Option B → Option B
or_else (Some x) f other = f x
or_else None f other = other

-- What a function returned, seen by view, is what reading gives.
abbrev pub Reads : {X Y : Type 0} → (X → Y) → Result X NotALine → Option Y → Type 0
Reads view (Ok x) read = read ≡ Some (view x)
Reads view (Err e) read = read ≡ None

-- what comes after a word
abbrev pub word_at : List ℕ → List ℕ → Option (List ℕ)
word_at word text = if pointwise nat_eq (take (length word) text) word then Some (drop (length word) text) else None

-- ---- numbers

abbrev pub is_digit : ℕ → Bool
is_digit c = nat_le 48 c && nat_le c 57

-- a number with one more digit, or the largest of 32 bits
abbrev pub with_digit : ℕ → ℕ → ℕ
with_digit n c = if nat_lt (n * 10 + (c - 48)) 4294967296 then n * 10 + (c - 48) else 4294967295

-- a number, the digits that go on with it, and what comes after them
unfoldable pub digits_from : ℕ → List ℕ → ℕ × List ℕ
digits_from n [] = (n, [])
digits_from n (c ∷ cs) = if is_digit c then digits_from (with_digit n c) cs else (n, c ∷ cs)

-- a number, and what comes after the byte that ends it
unfoldable pub field_at : List ℕ → ℕ × List ℕ
field_at text = ((digits_from 0 text).0, drop 1 (digits_from 0 text).1)

-- ---- bytes

abbrev pub decoded : Result (List ℕ) FromHexError → List ℕ → Option (List ℕ × List ℕ)
decoded (Ok bytes) rest = Some (bytes, rest)
decoded (Err e) rest = None

-- so many bytes in hexadecimal digits
unfoldable pub bytes_at : ℕ → List ℕ → Option (List ℕ × List ℕ)
bytes_at n text = if nat_lt (length text) (2 * n) then None else decoded (decode_sized (take (2 * n) text) n) (drop (2 * n) text)

-- ---- parts

abbrev pub lane_of : ℕ → Option ℕ
lane_of n = if nat_le 1 n && nat_le n 8 then Some n else None

-- a lane and a command's identifier
unfoldable pub event_at : List ℕ → Option ((ℕ × ℕ) × List ℕ)
event_at text = do
  k ← lane_of (field_at text).0
  if nat_le (field_at (field_at text).1).0 65535 then Some ((k, (field_at (field_at text).1).0), (field_at (field_at text).1).1) else None

-- a status, and what comes after the byte that ends it
unfoldable pub status_at : List ℕ → Option (StatusPair × List ℕ)
status_at text = do
  code ← bytes_at 1 (field_at text).1
  if nat_le (field_at text).0 7 then Some (((field_at text).0, slice_index code.0 0), drop 1 code.1) else None

unfoldable pub outcome_at : List ℕ → Option (Outcome × List ℕ)
outcome_at text =
    or_else (word_at (codes "ok") text) (λ rest. Some (Done, rest))
    (or_else (word_at (codes "fault ") text) (λ rest. Some (Faulted (digits_from 0 rest).0, (digits_from 0 rest).1))
    (or_else (word_at (codes "differs ") text) (λ rest. Some (Differs (digits_from 0 rest).0, (digits_from 0 rest).1))
    None))

-- a space and a digest, or none
unfoldable pub digest_at : List ℕ → Option (Option (List ℕ))
digest_at text = or_else (word_at (codes " ") text) (λ rest. bytes_at 32 rest >>= λ digest. Some (Some digest.0)) (Some None)
