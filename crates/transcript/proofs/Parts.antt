-- The parts of a line: what is spelled so is read, whatever follows.
use Rattle.std.proofs.Common.{◌≡◌, ℕ, zero, suc, ◌+◌, ◌-◌, ◌*◌, ◌^◌, ◌<◌, ◌≤◌, Bool, true, false, cond, leb, ltb, take, drop, List, [], ◌∷◌, ◌++◌, length, slice_index, Option, Some, None, All, Result, Ok, refl, ap, ◌∙◌, append_assoc, arith, rules, decimal}
use Rattle.std.specs.List.{AllByRecursion}
use Rattle.std.specs.Str.{all_ascii_digits}
use Rattle.std.proofs.lemmas.Bool.{lt-ltb, le-leb, le-ltb, and_parts}
use Rattle.std.proofs.lemmas.Str.Parse.{IsNumeralModel, numerals_by_fold}
use Rattle.std.proofs.lemmas.Fmt.{digits_decimal, digits_value-decimal}
use Rattle.std.proofs.lemmas.List.{take_at, drop_at, length-append}
use Rattle.std.proofs.lemmas.List.Elements.{All-from_recursion, recursion_from_All}
use Rattle.hex.specs.Hex.{IsBytes, encode_lower, lower_digits, decode_sized}
use Rattle.hex.specs.declared.error.FromHexError.{FromHexError}
use Rattle.hex.proofs.HexLemmas.{length-encode_with, decode_sized-encode_lower}
use Rattle.nvm_values.specs.Status.{StatusPair}
use Rattle.nvm_model.specs.declared.command.Outcome.{Outcome}
use Rattle.nvm_model.specs.declared.command.Outcome.TheVariants.{Done, Faulted, Differs}
use Rattle.nvm_model.specs.Text.{field, status_text, outcome_text, digest_text, IsEventOf, IsStatus, IsOutcome, IsDigest}
use Rattle.transcript.specs.Reading.{◌>>=◌, is_digit, digits_from, field_at, decoded, bytes_at, lane_of, event_at, status_at, outcome_at, digest_at}

-- a step that gives a value, and what goes on from it
pub bind_step : {A B : Type 0} (r : Option A) (f : A → Option B) (x : A) (y : Option B) → r ≡ Some x → f x ≡ y → (r >>= f) ≡ y
bind_step r f x y e g = ap (λ q. q >>= f) e ∙ g

-- ---- numbers

abbrev read_on : ℕ → List ℕ → ℕ
read_on n [] = n
read_on n (c ∷ cs) = read_on (n * 10 + (c - 48)) cs

own : IsNumeralModel (λ ds. all_ascii_digits ds ≡ true) (read_on 0)
own = numerals_by_fold _ (search rules) read_on (search rules)

read_on-ge : (n : ℕ) (ds : List ℕ) → n ≤ read_on n ds
read_on-ge n [] = omega arith
read_on-ge n (c ∷ cs) = let more = read_on-ge (n * 10 + (c - 48)) cs in omega arith

-- digits of a number of 32 bits are read as that number
digits_again : (v : ℕ) (ds : List ℕ) (end : ℕ) (rest : List ℕ) → all_ascii_digits ds ≡ true → is_digit end ≡ false → read_on v ds < 4294967296 → digits_from v (ds ++ end ∷ rest) ≡ (read_on v ds, end ∷ rest)
unfolding digits_from
digits_again v [] end rest are ends lt = rw ends refl
digits_again v (c ∷ cs) end rest are ends lt =
    let p = and_parts (is_digit c) (all_ascii_digits cs) are in
    let ge = read_on-ge (v * 10 + (c - 48)) cs in
    let fits : ltb (v * 10 + (c - 48)) 4294967296 ≡ true = lt-ltb _ _ (omega arith) in
    rw (p.0, fits) (digits_again (v * 10 + (c - 48)) cs end rest p.1 ends lt)

pub number_again : (n end : ℕ) (rest : List ℕ) → n < 2 ^ 32 → is_digit end ≡ false → digits_from 0 (decimal n ++ end ∷ rest) ≡ (n, end ∷ rest)
number_again n end rest lt ends =
    let value : read_on 0 (decimal n) ≡ n = digits_value-decimal own n (omega arith) in
    digits_again 0 (decimal n) end rest (digits_decimal own n (omega arith)) ends (rw value lt)
    ∙ ap (λ (m : ℕ). (m, end ∷ rest)) value

pub last_again : (n end : ℕ) (rest : List ℕ) → n < 2 ^ 32 → is_digit end ≡ false → field_at (decimal n ++ end ∷ rest) ≡ (n, rest)
unfolding field_at
last_again n end rest lt ends = ap (λ (x : ℕ × List ℕ). (x.0, drop 1 x.1)) (number_again n end rest lt ends)

pub field_again : (n : ℕ) (rest : List ℕ) → n < 2 ^ 32 → field_at (field n ++ rest) ≡ (n, rest)
field_again n rest lt = ap field_at (append_assoc (decimal n) (32 ∷ []) rest) ∙ last_again n 32 rest lt refl

-- ---- bytes

are_bytes : (bs : List ℕ) → AllByRecursion (λ b. b < 2 ^ 8) bs → IsBytes bs
are_bytes [] h i = omega arith
are_bytes (b ∷ bs) h zero = let first = h.0 in omega arith
are_bytes (b ∷ bs) h (suc i) = are_bytes bs h.1 i

pub bytes_again : (n : ℕ) (bs rest : List ℕ) → length bs ≡ n → All (λ b. b < 2 ^ 8) bs → bytes_at n (encode_lower bs ++ rest) ≡ Some (bs, rest)
unfolding bytes_at
bytes_again n bs rest sized small =
    let digits : List ℕ = encode_lower bs in
    let long : length digits ≡ 2 * n = length-encode_with lower_digits bs ∙ ap (λ (m : ℕ). 2 * m) sized in
    let whole = length-append digits rest in
    let enough : ltb (length (digits ++ rest)) (2 * n) ≡ false = le-ltb (length (digits ++ rest)) (2 * n) (omega arith) in
    let read : decode_sized digits n ≡ Ok bs = decode_sized-encode_lower bs n sized (are_bytes bs (recursion_from_All (λ b. b < 2 ^ 8) bs small)) in
    let front : take (2 * n) (digits ++ rest) ≡ digits = take_at digits rest (2 * n) long in
    let behind : drop (2 * n) (digits ++ rest) ≡ rest = drop_at digits rest (2 * n) long in
    ap (λ (b : Bool). cond b None (decoded (decode_sized (take (2 * n) (digits ++ rest)) n) (drop (2 * n) (digits ++ rest)))) enough
    ∙ ap (λ (t : List ℕ). decoded (decode_sized t n) (drop (2 * n) (digits ++ rest))) front
    ∙ ap (λ (r : Result (List ℕ) FromHexError). decoded r (drop (2 * n) (digits ++ rest))) read
    ∙ ap (λ (t : List ℕ). Some (bs, t)) behind

-- ---- parts

pub lane_again : (k : ℕ) → 1 ≤ k → k ≤ 8 → lane_of k ≡ Some k
lane_again k l h = rw (le-leb 1 k l, le-leb k 8 h) refl

abbrev event_by : ℕ → ℕ × List ℕ → Option ((ℕ × ℕ) × List ℕ)
event_by n y = lane_of n >>= λ j. cond (leb y.0 65535) (Some ((j, y.0), y.1)) None

pub event_again : (k cid : ℕ) (rest : List ℕ) → IsEventOf k cid → event_at (field k ++ (field cid ++ rest)) ≡ Some ((k, cid), rest)
unfolding event_at
event_again k cid rest f =
    let low = f.0 in
    let high = f.1 in
    let small = f.2 in
    let r1 : List ℕ = field cid ++ rest in
    ap (λ (x : ℕ × List ℕ). event_by x.0 (field_at x.1)) (field_again k r1 (omega arith))
    ∙ ap (event_by k) (field_again cid rest (omega arith))
    ∙ rw (lane_again k low high, le-leb cid 65535 (omega arith)) refl

abbrev status_of : ℕ → List ℕ × List ℕ → Option (StatusPair × List ℕ)
status_of n b = cond (leb n 7) (Some ((n, slice_index b.0 0), drop 1 b.1)) None

abbrev status_by : ℕ × List ℕ → Option (StatusPair × List ℕ)
status_by x = bytes_at 1 x.1 >>= status_of x.0

one : (b : ℕ) → b < 2 ^ 8 → All (λ c. c < 2 ^ 8) (b ∷ [])
one b lt = All-from_recursion (λ c. c < 2 ^ 8) (b ∷ []) (lt, tt)

pub status_again : (s : StatusPair) (end : ℕ) (rest : List ℕ) → IsStatus s → status_at (status_text s ++ end ∷ rest) ≡ Some (s, rest)
unfolding status_at
status_again s end rest f =
    let type_small = f.0 in
    let code : List ℕ = encode_lower (s.1 ∷ []) in
    let r1 : List ℕ = code ++ end ∷ rest in
    ap status_at (append_assoc (field s.0) code (end ∷ rest))
    ∙ ap status_by (field_again s.0 r1 (omega arith))
    ∙ ap (λ (b : Option (List ℕ × List ℕ)). b >>= status_of s.0) (bytes_again 1 (s.1 ∷ []) (end ∷ rest) refl (one s.1 f.1))
    ∙ rw (le-leb s.0 7 f.0) refl

pub outcome_again : (o : Outcome) (end : ℕ) (rest : List ℕ) → IsOutcome o → is_digit end ≡ false → outcome_at (outcome_text o ++ end ∷ rest) ≡ Some (o, end ∷ rest)
unfolding outcome_at
outcome_again Done end rest f ends = refl
outcome_again (Faulted at) end rest f ends = ap (λ (x : ℕ × List ℕ). Some (Faulted x.0, x.1)) (number_again at end rest f ends)
outcome_again (Differs at) end rest f ends = ap (λ (x : ℕ × List ℕ). Some (Differs x.0, x.1)) (number_again at end rest f ends)

pub digest_again : (d : Option (List ℕ)) → IsDigest d → digest_at (digest_text d) ≡ Some d
unfolding digest_at
digest_again None f = refl
digest_again (Some digest) f = bind_step (bytes_at 32 (encode_lower digest ++ 10 ∷ [])) _ (digest, 10 ∷ []) (Some (Some digest)) (bytes_again 32 digest (10 ∷ []) f.0 f.1) refl
