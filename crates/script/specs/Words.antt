use Rattle.std.specs.Prelude.{◌≡◌, ℕ, ◌+◌, ◌-◌, ◌*◌, ◌/◌, ◌%◌, ◌^◌, ◌&&◌, ◌||◌, Bool, true, false, List, [], ◌∷◌, length, codes, Option, Some, None, is_some, nat_le, nat_lt, ◌==◌, if◌then◌else◌}
use Rattle.std.specs.Str.{bytes_eq}
use Rattle.nvm_values.specs.declared.op.Op.{Op}
use Rattle.nvm_values.specs.declared.op.Op.TheVariants.{Flush, Write, Read, Compare, WriteZeroes, Verify}
use Rattle.script.specs.declared.form.Piece.{Piece}
use Rattle.script.specs.declared.form.Piece.TheVariants.{Numeral, Page, Command, Hex, Maybe}

-- A line is words, with a space between two. What each word is read as, and the forms of rows of words.

-- the ? of the logic
infixl 10 ◌>>=◌
abbrev pub ◌>>=◌ : {A B : Type 0} → Option A → (A → Option B) → Option B
(Some x) >>= f = f x
None >>= f = None

-- What a function returned, seen by view, is what reading gives.
abbrev pub Reads : {X Y : Type 0} → (X → Y) → Option X → Option Y → Type 0
Reads view (Some x) read = read ≡ Some (view x)
Reads view None read = read ≡ None

-- ---- words

-- a byte before what was cut
abbrev pub behind : ℕ → Option (List ℕ × List ℕ) → Option (List ℕ × List ℕ)
behind c None = None
behind c (Some x) = Some (c ∷ x.0, x.1)

-- what stands before the first byte of that value, and what stands after it
unfoldable pub cut_at : ℕ → List ℕ → Option (List ℕ × List ℕ)
cut_at end [] = None
cut_at end (c ∷ cs) = if c == end then Some ([], cs) else behind c (cut_at end cs)

-- a byte before the first word
abbrev pub first_longer : ℕ → List (List ℕ) → List (List ℕ)
first_longer c [] = (c ∷ []) ∷ []
first_longer c (w ∷ ws) = (c ∷ w) ∷ ws

-- the words of a line, of which each space ends one
unfoldable pub words_of : List ℕ → List (List ℕ)
words_of [] = [] ∷ []
words_of (c ∷ cs) = if c == 32 then [] ∷ words_of cs else first_longer c (words_of cs)

-- the words that are left, if any are
abbrev pub words_left : Bool → List ℕ → List (List ℕ)
words_left true text = words_of text
words_left false text = []

-- the next word, and the words behind it
abbrev pub next : List (List ℕ) → Option (List ℕ × List (List ℕ))
next [] = None
next (w ∷ ws) = Some (w, ws)

-- a word behind which none stands
abbrev pub alone : List ℕ → Option (List ℕ × List (List ℕ)) → Option (List ℕ)
alone w None = Some w
alone w (Some x) = None

-- the word that is left, if it is one
abbrev pub last : List (List ℕ) → Option (List ℕ)
last ws = next ws >>= λ x. alone x.0 (next x.1)

-- ---- numbers

-- a decimal digit
abbrev pub is_digit : ℕ → Bool
is_digit c = nat_le 48 c && nat_le c 57

-- a number of 64 bits with one more digit
abbrev pub with_digit : ℕ → ℕ → Option ℕ
with_digit n c = if is_digit c && nat_lt (n * 10 + (c - 48)) (2 ^ 64) then Some (n * 10 + (c - 48)) else None

-- a number of 64 bits whose digits go on with these
unfoldable pub digits_on : ℕ → List ℕ → Option ℕ
digits_on n [] = Some n
digits_on n (c ∷ cs) = with_digit n c >>= λ m. digits_on m cs

-- a decimal number: no digit follows a 0 at its front
abbrev pub number_in : List ℕ → Option ℕ
number_in [] = None
number_in (c ∷ []) = digits_on 0 (c ∷ [])
number_in (c ∷ d ∷ cs) = if c == 48 then None else digits_on 0 (c ∷ d ∷ cs)

-- a number that lies between two others
abbrev pub ranged_in : ℕ → ℕ → List ℕ → Option ℕ
ranged_in low high w = number_in w >>= λ n. if nat_le low n && nat_le n high then Some n else None

-- a data page of a lane that has so many
abbrev pub page_in : ℕ → List ℕ → Option ℕ
page_in pages w = number_in w >>= λ n. if nat_lt n pages then Some n else None

-- a data page, or none
abbrev pub option_in : ℕ → List ℕ → Option (Option ℕ)
option_in pages w = if bytes_eq w (codes "-") then Some None else page_in pages w >>= λ p. Some (Some p)

-- ---- bytes and commands

-- a hexadecimal digit in lower case
abbrev pub is_lower_digit : ℕ → Bool
is_lower_digit c = is_digit c || (nat_le 97 c && nat_le c 102)

-- so are all of these
unfoldable pub are_lower_digits : List ℕ → Bool
are_lower_digits [] = true
are_lower_digits (c ∷ cs) = is_lower_digit c && are_lower_digits cs

-- two digits for each byte, at least and at most so many bytes
abbrev pub is_hex : ℕ → ℕ → List ℕ → Bool
is_hex low high w = length w % 2 == 0 && nat_le low (length w / 2) && nat_le (length w / 2) high && are_lower_digits w

-- the value of a digit
abbrev pub digit_in : ℕ → Option ℕ
digit_in c = if is_digit c then Some (c - 48) else if nat_le 97 c && nat_le c 102 then Some (c - 87) else None

-- a byte by its two digits
abbrev pub byte_in : ℕ → ℕ → Option ℕ
byte_in high low = do
  h ← digit_in high
  l ← digit_in low
  Some (h * 16 + l)

-- the bytes of pairs of digits
unfoldable pub pairs_in : List ℕ → Option (List ℕ)
pairs_in [] = Some []
pairs_in (high ∷ []) = None
pairs_in (high ∷ low ∷ rest) = do
  byte ← byte_in high low
  bytes ← pairs_in rest
  Some (byte ∷ bytes)

-- so many bytes
abbrev pub bytes_in : ℕ → List ℕ → Option (List ℕ)
bytes_in n w = if length w == 2 * n then pairs_in w else None

-- a command by its word
abbrev pub op_in : List ℕ → Option Op
op_in w =
    if bytes_eq w (codes "flush") then Some Flush
    else if bytes_eq w (codes "write") then Some Write
    else if bytes_eq w (codes "read") then Some Read
    else if bytes_eq w (codes "compare") then Some Compare
    else if bytes_eq w (codes "zeroes") then Some WriteZeroes
    else if bytes_eq w (codes "verify") then Some Verify
    else None

-- ---- forms

-- decimal digits
unfoldable pub are_digits : List ℕ → Bool
are_digits [] = true
are_digits (c ∷ cs) = is_digit c && are_digits cs

-- a decimal number of any size: no digit follows a 0 at its front
abbrev pub is_numeral : List ℕ → Bool
is_numeral [] = false
is_numeral (c ∷ []) = are_digits (c ∷ [])
is_numeral (c ∷ d ∷ cs) = if c == 48 then false else are_digits (c ∷ d ∷ cs)

-- a word has this form
abbrev pub has_form : Piece → List ℕ → Bool
has_form Numeral w = is_numeral w
has_form Page w = bytes_eq w (codes "-") || is_numeral w
has_form Command w = is_some (op_in w)
has_form (Hex low high) w = is_hex low high w
has_form Maybe w = is_numeral w

-- a word of this form may be missing
abbrev pub may_miss : Piece → Bool
may_miss Numeral = false
may_miss Page = false
may_miss Command = false
may_miss (Hex low high) = false
may_miss Maybe = true

-- words of these forms, one for each; the last of them may be missing where the row says so
unfoldable pub is_row : List Piece → List (List ℕ) → Bool
is_row [] [] = true
is_row [] (w ∷ ws) = false
is_row (p ∷ ps) [] = may_miss p && is_row ps []
is_row (p ∷ ps) (w ∷ ws) = has_form p w && is_row ps ws
