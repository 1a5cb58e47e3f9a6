-- Words with a value: what is read is spelled so, and what is spelled so is read and has its form.
use Rattle.std.proofs.Common.{append_assoc, ◌++◌, set, take, drop, ◌≡◌, ℕ, zero, suc, ◌+◌, ◌-◌, ◌*◌, ◌/◌, ◌%◌, ◌^◌, ◌<◌, ◌≤◌, Bool, true, false, ◌&&◌, ◌||◌, cond, eqb, ltb, leb, List, [], ◌∷◌, length, get_or, slice_index, codes, Option, Some, None, refl, sym, ap, subst, ◌∙◌, arith, rules, inl, inr, decimal}
use Rattle.std.specs.List.{AllByRecursion, list_all}
use Rattle.std.specs.Str.{all_ascii_digits, bytes_eq}
use Rattle.std.proofs.lemmas.Bool.{ltb-true, lt-ltb, leb-true, le-leb, eqb-true, eqb-false, ne_eqb, and_parts, and_from, or_cases, or_right, cases_lt, false_from_ne_true, or_left, eq-eqb}
use Rattle.std.proofs.lemmas.List.{append-nil, length-set, take_more_set, take_all, nil_from_length}
use Rattle.std.proofs.lemmas.Slice.Eq.{bytes_eq-Decides}
use Rattle.std.proofs.lemmas.Str.Parse.{IsNumeralModel, numerals_by_fold}
use Rattle.std.proofs.lemmas.Nat.{div-mul-add, mod-mul-add}
use Rattle.std.proofs.lemmas.Fmt.{digits_decimal, digits_value-decimal, decimal-digits_value, decimal_nonempty, first_decimal, decimal_digit}
use Rattle.hex.specs.Hex.{encode_lower, encode_with, lower_digits}
use Rattle.hex.proofs.HexLemmas.{length-encode_with}
use Rattle.nvm_values.specs.declared.op.Op.{Op}
use Rattle.nvm_values.specs.declared.op.Op.TheVariants.{Flush, Write, Read, Compare, WriteZeroes, Verify}
use Rattle.script.specs.Words.{◌>>=◌, is_digit, are_digits, are_lower_digits, with_digit, digits_on, number_in, ranged_in, page_in, option_in, is_lower_digit, is_hex, digit_in, byte_in, pairs_in, bytes_in, op_in, is_numeral}
use Rattle.script.proofs.WordLaws.{bind_some, bind_step, some_is, chosen, is_plain, IsPlain}

-- ---- decimal numbers

abbrev pub read_on : ℕ → List ℕ → ℕ
read_on n [] = n
read_on n (c ∷ cs) = read_on (n * 10 + (c - 48)) cs

pub own : IsNumeralModel (λ ds. all_ascii_digits ds ≡ true) (read_on 0)
own = numerals_by_fold _ (search rules) read_on (search rules)

read_on-ge : (n : ℕ) (ds : List ℕ) → n ≤ read_on n ds
read_on-ge n [] = omega arith
read_on-ge n (c ∷ cs) = let more = read_on-ge (n * 10 + (c - 48)) cs in omega arith

-- digits that were read behind a number
record AreRead (v : ℕ) (ds : List ℕ) (n : ℕ) : Type 0 where
  digits : all_ascii_digits ds ≡ true
  value : read_on v ds ≡ n
  small : n < 2 ^ 64

digits_take : (v : ℕ) (ds : List ℕ) (n : ℕ) → digits_on v ds ≡ Some n → v < 2 ^ 64 → AreRead v ds n
unfolding digits_on
digits_take v [] n e lt = let same = some_is v n e in record { digits = refl; value = same; small = omega arith }
digits_take v (c ∷ cs) n e lt =
    let b = bind_some (with_digit v c) _ n e in
    elim (chosen (is_digit c && ltb (v * 10 + (c - 48)) (2 ^ 64)) (Some (v * 10 + (c - 48))) None (Some b.0) b.1) [
      | inl h ↦
          let p = and_parts (is_digit c) (ltb (v * 10 + (c - 48)) (2 ^ 64)) h.0 in
          let fits = ltb-true (v * 10 + (c - 48)) (2 ^ 64) p.1 in
          let same = some_is (v * 10 + (c - 48)) b.0 h.1 in
          let others = digits_take b.0 cs n b.2 (omega arith) in
          record { digits = and_from (is_digit c) (all_ascii_digits cs) p.0 others.digits; value = ap (λ (m : ℕ). read_on m cs) same ∙ others.value; small = others.small }
      | inr h ↦ absurd cc
    ]

digits_again : (v : ℕ) (ds : List ℕ) → all_ascii_digits ds ≡ true → read_on v ds < 2 ^ 64 → digits_on v ds ≡ Some (read_on v ds)
unfolding digits_on
digits_again v [] are lt = refl
digits_again v (c ∷ cs) are lt =
    let p = and_parts (is_digit c) (all_ascii_digits cs) are in
    let ge = read_on-ge (v * 10 + (c - 48)) cs in
    let fits : ltb (v * 10 + (c - 48)) (2 ^ 64) ≡ true = lt-ltb (v * 10 + (c - 48)) (2 ^ 64) (omega arith) in
    rw (p.0, fits) (digits_again (v * 10 + (c - 48)) cs p.1 lt)

spelled : (ds : List ℕ) (n : ℕ) → 0 < length ds → (get_or ds 0 0 ≡ 48 → length ds ≡ 1) → AreRead 0 ds n → (ds ≡ decimal n) × (n < 2 ^ 64)
spelled ds n some plain r = (sym (decimal-digits_value own ds r.digits some plain (rw r.value r.small)) ∙ ap decimal r.value, r.small)

pub number_takes : (w : List ℕ) (n : ℕ) → number_in w ≡ Some n → (w ≡ decimal n) × (n < 2 ^ 64)
number_takes [] n e = absurd cc
number_takes (c ∷ []) n e = spelled (c ∷ []) n (omega arith) (λ z. refl) (digits_take 0 (c ∷ []) n e (omega arith))
number_takes (c ∷ d ∷ cs) n e =
    elim (chosen (eqb c 48) None (digits_on 0 (c ∷ d ∷ cs)) (Some n) e) [
      | inl h ↦ absurd cc
      | inr h ↦ spelled (c ∷ d ∷ cs) n (omega arith) (λ z. absurd (eqb-false c 48 h.0 z)) (digits_take 0 (c ∷ d ∷ cs) n h.1 (omega arith))
    ]

-- digits as a number is written
record AreWritten (ds : List ℕ) : Type 0 where
  digits : all_ascii_digits ds ≡ true
  some : 0 < length ds
  plain : get_or ds 0 0 ≡ 48 → length ds ≡ 1

written : (n : ℕ) → n < 2 ^ 64 → AreWritten (decimal n)
written zero lt = let one = decimal_digit 0 (omega arith) in record { digits = digits_decimal own 0 lt; some = decimal_nonempty 0 lt; plain = λ e. ap length one }
written (suc n) lt = let first = first_decimal (suc n) (omega arith) lt in record { digits = digits_decimal own (suc n) lt; some = decimal_nonempty (suc n) lt; plain = λ e. absurd (omega arith) }

no_zero : (c d : ℕ) (cs : List ℕ) → AreWritten (c ∷ d ∷ cs) → eqb c 48 ≡ false
no_zero c d cs w = ne_eqb c 48 (λ z. let one = w.plain z in omega arith)

number_from : (ds : List ℕ) → AreWritten ds → read_on 0 ds < 2 ^ 64 → number_in ds ≡ Some (read_on 0 ds)
number_from [] w lt = let some = w.some in absurd (omega arith)
number_from (c ∷ []) w lt = digits_again 0 (c ∷ []) w.digits lt
number_from (c ∷ d ∷ cs) w lt = rw (no_zero c d cs w) (digits_again 0 (c ∷ d ∷ cs) w.digits lt)

pub number_again : (n : ℕ) → n < 2 ^ 64 → number_in (decimal n) ≡ Some n
number_again n lt = let value = digits_value-decimal own n lt in number_from (decimal n) (written n lt) (rw value lt) ∙ ap Some value

digits_are : (ds : List ℕ) → all_ascii_digits ds ≡ true → are_digits ds ≡ true
unfolding are_digits
digits_are [] are = refl
digits_are (c ∷ cs) are = let p = and_parts (is_digit c) (all_ascii_digits cs) are in and_from (is_digit c) (are_digits cs) p.0 (digits_are cs p.1)

numeral_from : (ds : List ℕ) → AreWritten ds → is_numeral ds ≡ true
numeral_from [] w = let some = w.some in absurd (omega arith)
numeral_from (c ∷ []) w = digits_are (c ∷ []) w.digits
numeral_from (c ∷ d ∷ cs) w = rw (no_zero c d cs w) (digits_are (c ∷ d ∷ cs) w.digits)

pub numeral_again : (n : ℕ) → n < 2 ^ 64 → is_numeral (decimal n) ≡ true
numeral_again n lt = numeral_from (decimal n) (written n lt)

pub ranged_takes : (low high : ℕ) (w : List ℕ) (n : ℕ) → ranged_in low high w ≡ Some n → (w ≡ decimal n) × (low ≤ n) × (n ≤ high) × (n < 2 ^ 64)
ranged_takes low high w n e =
    let b = bind_some (number_in w) _ n e in
    elim (chosen (leb low b.0 && leb b.0 high) (Some b.0) None (Some n) b.2) [
      | inl h ↦
          let p = and_parts (leb low b.0) (leb b.0 high) h.0 in
          let same = some_is b.0 n h.1 in
          ((number_takes w b.0 b.1).0 ∙ ap decimal same, rw (← same) (leb-true low b.0 p.0), rw (← same) (leb-true b.0 high p.1), rw (← same) (number_takes w b.0 b.1).1)
      | inr h ↦ absurd cc
    ]

pub ranged_again : (low high n : ℕ) → n < 2 ^ 64 → low ≤ n → n ≤ high → ranged_in low high (decimal n) ≡ Some n
ranged_again low high n lt l h = bind_step (number_in (decimal n)) _ n (Some n) (number_again n lt) (rw (le-leb low n l, le-leb n high h) refl)

pub page_takes : (pages : ℕ) (w : List ℕ) (n : ℕ) → page_in pages w ≡ Some n → (w ≡ decimal n) × (n < pages)
page_takes pages w n e =
    let b = bind_some (number_in w) _ n e in
    elim (chosen (ltb b.0 pages) (Some b.0) None (Some n) b.2) [
      | inl h ↦ let same = some_is b.0 n h.1 in ((number_takes w b.0 b.1).0 ∙ ap decimal same, rw (← same) (ltb-true b.0 pages h.0))
      | inr h ↦ absurd cc
    ]

pub page_again : (pages n : ℕ) → pages < 2 ^ 64 → n < pages → page_in pages (decimal n) ≡ Some n
page_again pages n small lt = bind_step (number_in (decimal n)) _ n (Some n) (number_again n (omega arith)) (rw (lt-ltb n pages lt) refl)

digits_plain : (ds : List ℕ) → all_ascii_digits ds ≡ true → IsPlain ds
digits_plain [] are = refl
digits_plain (c ∷ cs) are =
    let p = and_parts (is_digit c) (all_ascii_digits cs) are in
    let q = and_parts (leb 48 c) (leb c 57) p.0 in
    let low = leb-true 48 c q.0 in
    and_from (is_plain c) (list_all is_plain cs) (lt-ltb 32 c (omega arith)) (digits_plain cs p.1)

pub decimal_plain : (n : ℕ) → n < 2 ^ 64 → IsPlain (decimal n)
decimal_plain n lt = digits_plain (decimal n) (digits_decimal own n lt)

-- ---- bytes

abbrev all_below : (ℕ → Bool) → ℕ → Bool
all_below test zero = true
all_below test (suc n) = test n && all_below test n

all_below-at : (test : ℕ → Bool) (n k : ℕ) → all_below test n ≡ true → k < n → test k ≡ true
all_below-at test zero k h lt = absurd (omega arith)
all_below-at test (suc n) k h lt =
    let parts = and_parts (test n) (all_below test n) h in
    elim (cases_lt k n) [
      | inl below ↦ all_below-at test n k parts.1 below
      | inr top ↦ let e : k ≡ n = omega arith in rw e parts.0
    ]

abbrev not : Bool → Bool
not true = false
not false = true

not_true : (a b : Bool) → (not a || b) ≡ true → a ≡ true → b ≡ true
not_true true b h e = h
not_true false b h e = absurd cc

lower_few : (c : ℕ) → is_lower_digit c ≡ true → c < 103
lower_few c e =
    elim (or_cases (is_digit c) (leb 97 c && leb c 102) e) [
      | inl h ↦ let p = and_parts (leb 48 c) (leb c 57) h in let few = leb-true c 57 p.1 in omega arith
      | inr h ↦ let p = and_parts (leb 97 c) (leb c 102) h in let few = leb-true c 102 p.1 in omega arith
    ]

abbrev or_more : Option ℕ → ℕ
or_more (Some v) = v
or_more None = 16

-- a digit that is read is written as its value is
some_value : (o : Option ℕ) (v : ℕ) → o ≡ Some v → or_more o ≡ v
some_value o v e = ap or_more e

lower_of : (c v : ℕ) → digit_in c ≡ Some v → is_lower_digit c ≡ true
lower_of c v e =
    elim (chosen (is_digit c) (Some (c - 48)) (cond (leb 97 c && leb c 102) (Some (c - 87)) None) (Some v) e) [
      | inl h ↦ or_left (is_digit c) (leb 97 c && leb c 102) h.0
      | inr h ↦ elim (chosen (leb 97 c && leb c 102) (Some (c - 87)) None (Some v) h.1) [
        | inl g ↦ or_right (is_digit c) (leb 97 c && leb c 102) g.0
        | inr g ↦ absurd cc
      ]
    ]

digit_takes : (c v : ℕ) → digit_in c ≡ Some v → (slice_index lower_digits v ≡ c) × (v < 16)
digit_takes c v e =
    let lower = lower_of c v e in
    let test : ℕ → Bool = λ c. not (is_lower_digit c) || (eqb (slice_index lower_digits (or_more (digit_in c))) c && ltb (or_more (digit_in c)) 16) in
    let h = not_true (is_lower_digit c) (eqb (slice_index lower_digits (or_more (digit_in c))) c && ltb (or_more (digit_in c)) 16) (all_below-at test 103 c refl (lower_few c lower)) lower in
    let p = and_parts (eqb (slice_index lower_digits (or_more (digit_in c))) c) (ltb (or_more (digit_in c)) 16) h in
    let same = some_value (digit_in c) v e in
    (ap (slice_index lower_digits) (sym same) ∙ eqb-true (slice_index lower_digits (or_more (digit_in c))) c p.0, rw (← same) (ltb-true (or_more (digit_in c)) 16 p.1))

is_value : (o : Option ℕ) (v : ℕ) → v < 16 → eqb (or_more o) v ≡ true → o ≡ Some v
is_value (Some u) v lt e = ap Some (eqb-true u v e)
is_value None v lt e = let same = eqb-true 16 v e in absurd (omega arith)

digit_read : (v : ℕ) → v < 16 → digit_in (slice_index lower_digits v) ≡ Some v
digit_read v lt = is_value (digit_in (slice_index lower_digits v)) v lt (all_below-at (λ k. eqb (or_more (digit_in (slice_index lower_digits k))) k) 16 v refl lt)

digit_again : (v : ℕ) → v < 16 → is_lower_digit (slice_index lower_digits v) ≡ true
digit_again v lt = all_below-at (λ k. is_lower_digit (slice_index lower_digits k)) 16 v refl lt

record AreBytes (w bs : List ℕ) : Type 0 where
  text : w ≡ encode_lower bs
  small : AllByRecursion (λ b. b < 2 ^ 8) bs

pair_takes : (a b v : ℕ) → byte_in a b ≡ Some v → (slice_index lower_digits (v / 16) ≡ a) × (slice_index lower_digits (v % 16) ≡ b) × (v < 2 ^ 8)
pair_takes a b v e =
    let h = bind_some (digit_in a) _ v e in
    let l = bind_some (digit_in b) _ v h.2 in
    let da = digit_takes a h.0 h.1 in
    let db = digit_takes b l.0 l.1 in
    let fa = da.1 in
    let fb = db.1 in
    let whole : h.0 * 16 + l.0 ≡ v = some_is (h.0 * 16 + l.0) v l.2 in
    let front : v / 16 ≡ h.0 = ap (λ (n : ℕ). n / 16) (sym whole) ∙ div-mul-add h.0 16 l.0 fb in
    let back : v % 16 ≡ l.0 = ap (λ (n : ℕ). n % 16) (sym whole) ∙ mod-mul-add h.0 16 l.0 fb in
    (ap (slice_index lower_digits) front ∙ da.0, ap (slice_index lower_digits) back ∙ db.0, omega arith)

pairs_take : (w bs : List ℕ) → pairs_in w ≡ Some bs → AreBytes w bs
unfolding pairs_in encode_with
pairs_take [] bs e = subst (λ (x : List ℕ). AreBytes [] x) (some_is [] bs e) (record { text = refl; small = tt })
pairs_take (a ∷ []) bs e = absurd cc
pairs_take (a ∷ b ∷ rest) bs e =
    let v = bind_some (byte_in a b) _ bs e in
    let vs = bind_some (pairs_in rest) _ bs v.2 in
    let t = pair_takes a b v.0 v.1 in
    let others = pairs_take rest vs.0 vs.1 in
    subst (λ (x : List ℕ). AreBytes (a ∷ b ∷ rest) x) (some_is (v.0 ∷ vs.0) bs vs.2)
    (record { text = rw (t.0, t.1) (ap (λ (r : List ℕ). a ∷ b ∷ r) others.text); small = (t.2, others.small) })

pub record AreBytesIn (n : ℕ) (w bs : List ℕ) : Type 0 where
  pub text : w ≡ encode_lower bs
  pub count : length bs ≡ n
  pub small : AllByRecursion (λ b. b < 2 ^ 8) bs

pub bytes_take : (n : ℕ) (w bs : List ℕ) → bytes_in n w ≡ Some bs → AreBytesIn n w bs
bytes_take n w bs e =
    elim (chosen (eqb (length w) (2 * n)) (pairs_in w) None (Some bs) e) [
      | inl h ↦
          let t = pairs_take w bs h.1 in
          let long = ap length t.text ∙ length-encode_with lower_digits bs in
          let size = eqb-true (length w) (2 * n) h.0 in
          record { text = t.text; count = omega arith; small = t.small }
      | inr h ↦ absurd cc
    ]

pairs_again : (bs : List ℕ) → AllByRecursion (λ b. b < 2 ^ 8) bs → pairs_in (encode_lower bs) ≡ Some bs
unfolding pairs_in encode_with
pairs_again [] small = refl
pairs_again (b ∷ bs) small =
    let first = small.0 in
    let whole : b / 16 * 16 + b % 16 ≡ b = omega arith in
    bind_step (byte_in (slice_index lower_digits (b / 16)) (slice_index lower_digits (b % 16))) _ b _
    (bind_step (digit_in (slice_index lower_digits (b / 16))) _ (b / 16) _ (digit_read (b / 16) (omega arith))
    (bind_step (digit_in (slice_index lower_digits (b % 16))) _ (b % 16) _ (digit_read (b % 16) (omega arith)) (ap (λ (v : ℕ). Some v) whole)))
    (bind_step (pairs_in (encode_lower bs)) _ bs _ (pairs_again bs small.1) refl)

lower_again : (bs : List ℕ) → AllByRecursion (λ b. b < 2 ^ 8) bs → are_lower_digits (encode_lower bs) ≡ true
unfolding encode_with are_lower_digits
lower_again [] small = refl
lower_again (b ∷ bs) small =
    let first = small.0 in
    and_from _ _ (digit_again (b / 16) (omega arith)) (and_from _ _ (digit_again (b % 16) (omega arith)) (lower_again bs small.1))

pub hex_again : (low high : ℕ) (bs : List ℕ) → low ≤ length bs → length bs ≤ high → AllByRecursion (λ b. b < 2 ^ 8) bs → is_hex low high (encode_lower bs) ≡ true
hex_again low high bs l h small =
    let long = length-encode_with lower_digits bs in
    let even : length (encode_lower bs) % 2 ≡ 0 = omega arith in
    let half : length (encode_lower bs) / 2 ≡ length bs = omega arith in
    rw (even, half, le-leb low (length bs) l, le-leb (length bs) high h) (lower_again bs small)

pub bytes_again : (n : ℕ) (bs : List ℕ) → length bs ≡ n → AllByRecursion (λ b. b < 2 ^ 8) bs → bytes_in n (encode_lower bs) ≡ Some bs
bytes_again n bs count small =
    let long = length-encode_with lower_digits bs in
    rw (eq-eqb (length (encode_lower bs)) (2 * n) (omega arith)) (pairs_again bs small)

lower_plain : (w : List ℕ) → are_lower_digits w ≡ true → IsPlain w
unfolding are_lower_digits
lower_plain [] e = refl
lower_plain (c ∷ cs) e =
    let p = and_parts (is_lower_digit c) (are_lower_digits cs) e in
    let high = all_below-at (λ c. not (is_lower_digit c) || is_plain c) 103 c refl (lower_few c p.0) in
    and_from (is_plain c) (list_all is_plain cs) (not_true (is_lower_digit c) (is_plain c) high p.0) (lower_plain cs p.1)

pub hex_plain : (bs : List ℕ) → AllByRecursion (λ b. b < 2 ^ 8) bs → IsPlain (encode_lower bs)
hex_plain bs small = lower_plain (encode_lower bs) (lower_again bs small)

-- ---- a word of a given text

pub is_text : (w text : List ℕ) → bytes_eq w text ≡ true → w ≡ text
is_text w text e = (bytes_eq-Decides w text).0 e

-- ---- data pages that may be missing

abbrev pub page_text : Option ℕ → List ℕ
page_text None = codes "-"
page_text (Some page) = decimal page

abbrev pub IsBelow : ℕ → Option ℕ → Type 0
IsBelow pages None = Unit {0}
IsBelow pages (Some page) = page < pages

pub option_takes : (pages : ℕ) (w : List ℕ) (p : Option ℕ) → option_in pages w ≡ Some p → (w ≡ page_text p) × IsBelow pages p
option_takes pages w p e =
    elim (chosen (bytes_eq w (codes "-")) (Some None) (page_in pages w >>= λ n. Some (Some n)) (Some p) e) [
      | inl h ↦ subst (λ (o : Option ℕ). (w ≡ page_text o) × IsBelow pages o) (some_is None p h.1) (is_text w (codes "-") h.0, tt)
      | inr h ↦ let b = bind_some (page_in pages w) _ p h.1 in subst (λ (o : Option ℕ). (w ≡ page_text o) × IsBelow pages o) (some_is (Some b.0) p b.2) (page_takes pages w b.0 b.1)
    ]

no_number : number_in (codes "-") ≡ None
unfolding digits_on
no_number = refl

decimal_no_dash : (n : ℕ) → n < 2 ^ 64 → bytes_eq (decimal n) (codes "-") ≡ false
decimal_no_dash n lt = false_from_ne_true (bytes_eq (decimal n) (codes "-")) (λ e. let both = sym no_number ∙ (ap number_in (sym (is_text (decimal n) (codes "-") e)) ∙ number_again n lt) in absurd cc)

pub option_again : (pages : ℕ) (p : Option ℕ) → pages < 2 ^ 64 → IsBelow pages p → option_in pages (page_text p) ≡ Some p
option_again pages None small f = refl
option_again pages (Some n) small f = rw (decimal_no_dash n (omega arith)) (bind_step (page_in pages (decimal n)) _ n (Some (Some n)) (page_again pages n small f) refl)

pub option_form : (pages : ℕ) (p : Option ℕ) → pages < 2 ^ 64 → IsBelow pages p → (bytes_eq (page_text p) (codes "-") || is_numeral (page_text p)) ≡ true
option_form pages None small f = refl
option_form pages (Some n) small f = or_right (bytes_eq (decimal n) (codes "-")) (is_numeral (decimal n)) (numeral_again n (omega arith))

pub option_plain : (pages : ℕ) (p : Option ℕ) → pages < 2 ^ 64 → IsBelow pages p → IsPlain (page_text p)
option_plain pages None small f = refl
option_plain pages (Some n) small f = decimal_plain n (omega arith)

-- ---- commands

abbrev pub op_text : Op → List ℕ
op_text Flush = codes "flush"
op_text Write = codes "write"
op_text Read = codes "read"
op_text Compare = codes "compare"
op_text WriteZeroes = codes "zeroes"
op_text Verify = codes "verify"

op_named : (w : List ℕ) (here o : Op) (other : Option Op) → cond (bytes_eq w (op_text here)) (Some here) other ≡ Some o → (other ≡ Some o → w ≡ op_text o) → w ≡ op_text o
op_named w here o other e more =
    elim (chosen (bytes_eq w (op_text here)) (Some here) other (Some o) e) [
      | inl h ↦ is_text w (op_text here) h.0 ∙ ap op_text (some_is here o h.1)
      | inr h ↦ more h.1
    ]

pub op_takes : (w : List ℕ) (o : Op) → op_in w ≡ Some o → w ≡ op_text o
op_takes w o e =
    op_named w Flush o _ e (λ e1. op_named w Write o _ e1 (λ e2. op_named w Read o _ e2 (λ e3. op_named w Compare o _ e3 (λ e4. op_named w WriteZeroes o _ e4 (λ e5. op_named w Verify o _ e5 (λ e6. absurd cc))))))

pub op_again : (o : Op) → op_in (op_text o) ≡ Some o
op_again Flush = refl
op_again Write = refl
op_again Read = refl
op_again Compare = refl
op_again WriteZeroes = refl
op_again Verify = refl

pub op_plain : (o : Op) → IsPlain (op_text o)
op_plain Flush = refl
op_plain Write = refl
op_plain Read = refl
op_plain Compare = refl
op_plain WriteZeroes = refl
op_plain Verify = refl

-- ---- reading pairs of digits one after the other

abbrev pub with_front : List ℕ → Option (List ℕ) → Option (List ℕ)
with_front front read = read >>= λ bs. Some (front ++ bs)

-- i bytes are read, and these pairs are left
pub record AreFilled (w : List ℕ) (n i : ℕ) (out rest : List ℕ) : Type 0 where
  pub left : length rest + 2 * i ≡ 2 * n
  pub long : length out ≡ n
  pub so_far : with_front (take i out) (pairs_in rest) ≡ pairs_in w

nothing_before : (read : Option (List ℕ)) → with_front [] read ≡ read
nothing_before None = refl
nothing_before (Some bs) = refl

pub none_filled : (w out : List ℕ) (n : ℕ) → length w ≡ 2 * n → length out ≡ n → AreFilled w n 0 out w
none_filled w out n size long = record { left = omega (arith, size); long = long; so_far = nothing_before (pairs_in w) }

one_before : (front : List ℕ) (v : ℕ) (read : Option (List ℕ)) → with_front front (read >>= λ bs. Some (v ∷ bs)) ≡ with_front (front ++ v ∷ []) read
one_before front v None = refl
one_before front v (Some bs) = ap (λ (t : List ℕ). Some t) (sym (append_assoc front (v ∷ []) bs))

pub one_filled : (w : List ℕ) (n i : ℕ) (out : List ℕ) (a b : ℕ) (rest : List ℕ) (v : ℕ) → i < n → byte_in a b ≡ Some v → AreFilled w n i out (a ∷ b ∷ rest) → AreFilled w n (i + 1) (set out i v) rest
unfolding pairs_in
one_filled w n i out a b rest v lt e f =
    let left = f.left in
    let long = f.long in
    record {
      left = omega (arith, left);
      long = length-set out i v ∙ long;
      so_far = ap (λ (t : List ℕ). with_front t (pairs_in rest)) (take_more_set out i v (omega (arith, long))) ∙ sym (one_before (take i out) v (pairs_in rest))
          ∙ sym (ap (λ (r : Option ℕ). with_front (take i out) (r >>= λ byte. pairs_in rest >>= λ bs. Some (byte ∷ bs))) e) ∙ f.so_far;
    }

pub byte_fails : (w : List ℕ) (n i : ℕ) (out : List ℕ) (a b : ℕ) (rest : List ℕ) → byte_in a b ≡ None → length w ≡ 2 * n → AreFilled w n i out (a ∷ b ∷ rest) → bytes_in n w ≡ None
unfolding pairs_in
byte_fails w n i out a b rest e size f =
    let none : pairs_in w ≡ None = sym f.so_far ∙ ap (λ (r : Option ℕ). with_front (take i out) (r >>= λ byte. pairs_in rest >>= λ bs. Some (byte ∷ bs))) e in
    rw (eq-eqb (length w) (2 * n) size) none

pub all_filled : (w : List ℕ) (n i : ℕ) (out rest : List ℕ) → n ≤ i → length w ≡ 2 * n → AreFilled w n i out rest → bytes_in n w ≡ Some out
unfolding pairs_in
all_filled w n i out rest le size f =
    let left = f.left in
    let long = f.long in
    let none : rest ≡ [] = nil_from_length rest (omega arith) in
    let all : take i out ≡ out = take_all i out (omega (arith, long)) in
    rw (eq-eqb (length w) (2 * n) size)
    (sym f.so_far ∙ ap (λ (t : List ℕ). with_front (take i out) (pairs_in t)) none ∙ ap (λ (t : List ℕ). Some t) (append-nil (take i out) ∙ all))

pub other_size : (w : List ℕ) (n : ℕ) → (length w ≡ 2 * n → ⊥) → bytes_in n w ≡ None
other_size w n other = rw (ne_eqb (length w) (2 * n) other) refl

-- the first two digits stand apart
pairs_first : (rest : List ℕ) → 2 ≤ length rest → rest ≡ get_or rest 0 0 ∷ get_or rest 1 0 ∷ take (length rest - 2) (drop 2 rest)
pairs_first [] h = absurd (omega arith)
pairs_first (a ∷ []) h = absurd (omega arith)
pairs_first (a ∷ b ∷ rest) h = ap (λ (t : List ℕ). a ∷ b ∷ t) (sym (take_all (length (a ∷ b ∷ rest) - 2) rest (omega arith)))

pub next_filled : (w : List ℕ) (n i : ℕ) (out rest : List ℕ) (v : ℕ) → i < n → 2 ≤ length rest → byte_in (get_or rest 0 0) (get_or rest 1 0) ≡ Some v → AreFilled w n i out rest → AreFilled w n (i + 1) (set out i v) (take (length rest - 2) (drop 2 rest))
next_filled w n i out rest v lt two e f = one_filled w n i out (get_or rest 0 0) (get_or rest 1 0) (take (length rest - 2) (drop 2 rest)) v lt e (subst (λ (t : List ℕ). AreFilled w n i out t) (pairs_first rest two) f)

pub next_fails : (w : List ℕ) (n i : ℕ) (out rest : List ℕ) → 2 ≤ length rest → byte_in (get_or rest 0 0) (get_or rest 1 0) ≡ None → length w ≡ 2 * n → AreFilled w n i out rest → bytes_in n w ≡ None
next_fails w n i out rest two e size f = byte_fails w n i out (get_or rest 0 0) (get_or rest 1 0) (take (length rest - 2) (drop 2 rest)) e size (subst (λ (t : List ℕ). AreFilled w n i out t) (pairs_first rest two) f)
