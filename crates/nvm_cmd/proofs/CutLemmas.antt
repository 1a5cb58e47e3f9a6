use Rattle.std.proofs.Common.{◌≡◌, ℕ, zero, suc, ◌+◌, ◌-◌, ◌*◌, ◌/◌, ◌<◌, ◌≤◌, max, min, List, [], ◌∷◌, ◌++◌, sym, ap, ◌∙◌, arith}
use Rattle.std.specs.List.{flat_map, range_with_len}
use Rattle.std.proofs.Math.Nat.{mul-le-mul_right, div-mul-le_self, lt-div-mul-add, div-eq_of_lt-le}
use Rattle.std.proofs.lemmas.Grind.{flat_map-append}
use Rattle.std.proofs.lemmas.List.{append-nil}
use Rattle.mig_base.specs.declared.span.Span.{Span}
use Rattle.nvm_model.specs.Piece.{piece_count, piece_at}
use Rattle.nvm_cmd.specs.Cut.{IsPartOf, HasBlocksOf, blocks_of}

-- the shelf of the range's i-th piece begins here, not after the range's last block, and ends after its first
pub record IsStart (shelf : ℕ) (span : Span) (at : ℕ) : Type 0 where
  pub low : at ≤ max span.first (span.first + span.count - 1)
  pub high : span.first < at + shelf

-- the shelf of a block holds it
pub shelf_holds : (shelf b : ℕ) → 1 ≤ shelf → (b / shelf * shelf ≤ b) × (b < b / shelf * shelf + shelf)
shelf_holds shelf b h = (div-mul-le_self b shelf, lt-div-mul-add h)

-- the i-th shelf from the first one to the last begins no later than the last block
start_low : (shelf first last q l i : ℕ) → q * shelf ≤ first → l * shelf ≤ last → i < l - q + 1 → (q + i) * shelf ≤ max first last
start_low shelf first last q l i hq hl hi = grind (arith, mul-le-mul_right {m = q + i} {n = q} shelf, mul-le-mul_right {m = q + i} {n = l} shelf)

-- the i-th shelf that a range touches begins so
pub starts : (shelf : ℕ) (span : Span) (i : ℕ) → 1 ≤ shelf → i < piece_count shelf span → IsStart shelf span ((span.first / shelf + i) * shelf)
starts shelf span i h there =
    let first = shelf_holds shelf span.first h in
    let last = shelf_holds shelf (span.first + span.count - 1) h in
    record {
      low = start_low shelf span.first (span.first + span.count - 1) (span.first / shelf) ((span.first + span.count - 1) / shelf) i first.0 last.0 there;
      high = omega (arith, first.1);
    }

-- what goes on from one place of a shelf to a later one lies in that shelf
in_one : (shelf k from to : ℕ) → k * shelf ≤ from → from < to → to ≤ k * shelf + shelf → from / shelf ≡ (to - 1) / shelf
in_one shelf k from to low some high =
    div-eq_of_lt-le {k = k} shelf low (omega arith) ∙ sym (div-eq_of_lt-le {k = k} shelf (omega arith) (omega arith))

-- a part of a range that isn't empty, cut out by a shelf that begins at one place and holds the next ones
part_of_cut : (shelf : ℕ) (span : Span) (k : ℕ) → IsStart shelf span (k * shelf) → 1 ≤ shelf → 1 ≤ span.count →
    IsPartOf shelf span (record { first = max span.first (k * shelf); count = min (span.first + span.count) ((k + 1) * shelf) - max span.first (k * shelf) })
part_of_cut shelf span k start h some = record {
  some = omega (arith, start.low, start.high);
  starts = omega arith;
  ends = omega (arith, start.low, start.high);
  one_shelf = in_one shelf k (max span.first (k * shelf)) (max span.first (k * shelf) + (min (span.first + span.count) ((k + 1) * shelf) - max span.first (k * shelf))) (omega arith) (omega (arith, start.low, start.high)) (omega (arith, start.low, start.high));
}

-- the i-th part of a range that isn't empty
pub part_in_shelf : (shelf : ℕ) (span : Span) (i : ℕ) → 1 ≤ shelf → i < piece_count shelf span → 1 ≤ span.count → IsPartOf shelf span (piece_at shelf span i)
part_in_shelf shelf span i h there some = part_of_cut shelf span (span.first / shelf + i) (starts shelf span i h there) h some

-- numbers that go on where others end
range_append : (a m n : ℕ) → range_with_len a m ++ range_with_len (a + m) n ≡ range_with_len a (m + n)
range_append a zero n = let same : a + 0 ≡ a = omega arith in let none : 0 + n ≡ n = omega arith in rw (same, none)
range_append a (suc m) n =
    let on : a + suc m ≡ a + 1 + m = omega arith in
    let one_more : suc m + n ≡ suc (m + n) = omega arith in
    rw (on, one_more) (ap (λ l. a ∷ l) (range_append (a + 1) m n))

-- where the first n parts of a range end
abbrev ends_at : ℕ → Span → ℕ → ℕ
ends_at shelf span n = max span.first (min (span.first + span.count) ((span.first / shelf + n) * shelf))

-- a part begins where the parts before it end
next_first : (shelf : ℕ) (span : Span) (at : ℕ) → IsStart shelf span at → max span.first at ≡ span.first + (max span.first (min (span.first + span.count) at) - span.first)
next_first shelf span at start = omega (arith, start.low, start.high)

-- and the parts up to it end where it ends
next_end : (shelf : ℕ) (span : Span) (k : ℕ) → IsStart shelf span (k * shelf) →
    (max span.first (min (span.first + span.count) (k * shelf)) - span.first) + (min (span.first + span.count) ((k + 1) * shelf) - max span.first (k * shelf))
    ≡ max span.first (min (span.first + span.count) ((k + 1) * shelf)) - span.first
next_end shelf span k start = omega (arith, start.low, start.high)

-- the blocks of the first n parts, one after another
abbrev blocks_before : ℕ → Span → ℕ → List ℕ
blocks_before shelf span n = flat_map (λ i. blocks_of (piece_at shelf span i)) (range_with_len 0 n)

-- one number more is the last one
last_number : (n : ℕ) → range_with_len 0 (suc n) ≡ range_with_len 0 n ++ n ∷ []
last_number n =
    let one_more : suc n ≡ n + 1 = omega arith in
    let same : 0 + n ≡ n = omega arith in
    ap (range_with_len 0) one_more ∙ sym (range_append 0 n 1) ∙ ap (λ k. range_with_len 0 n ++ k ∷ []) same

-- one part more comes last
one_part_more : (shelf : ℕ) (span : Span) (n : ℕ) → blocks_before shelf span (suc n) ≡ blocks_before shelf span n ++ blocks_of (piece_at shelf span n)
one_part_more shelf span n =
    let part : ℕ → List ℕ = λ i. blocks_of (piece_at shelf span i) in
    ap (flat_map part) (last_number n) ∙ flat_map-append part (range_with_len 0 n) (n ∷ []) ∙ ap (λ l. blocks_before shelf span n ++ l) (append-nil (part n))

-- no part holds no block
none_before : (shelf : ℕ) (span : Span) → 1 ≤ shelf → ends_at shelf span 0 - span.first ≡ 0
none_before shelf span h = let first = shelf_holds shelf span.first h in omega (arith, first.0)

-- the first n parts hold the range's blocks up to where they end
first_parts : (shelf : ℕ) (span : Span) (n : ℕ) → 1 ≤ shelf → n ≤ piece_count shelf span → blocks_before shelf span n ≡ range_with_len span.first (ends_at shelf span n - span.first)
first_parts shelf span zero h few = sym (ap (range_with_len span.first) (none_before shelf span h))
first_parts shelf span (suc n) h few =
    let part : Span = piece_at shelf span n in
    let before : ℕ = ends_at shelf span n - span.first in
    let start = starts shelf span n h (omega arith) in
    one_part_more shelf span n
    ∙ ap (λ l. l ++ blocks_of part) (first_parts shelf span n h (omega arith))
    ∙ ap (λ a. range_with_len span.first before ++ range_with_len a part.count) (next_first shelf span ((span.first / shelf + n) * shelf) start)
    ∙ range_append span.first before part.count
    ∙ ap (range_with_len span.first) (next_end shelf span (span.first / shelf + n) start ∙ ap (λ k. max span.first (min (span.first + span.count) (k * shelf)) - span.first) (omega arith))

-- the shelf behind the last part is the one behind the last block's
past_last : (shelf q l : ℕ) → l * shelf + shelf ≤ (q + (l - q + 1)) * shelf
past_last shelf q l =
    let most : (l + 1) * shelf ≤ (q + (l - q + 1)) * shelf = mul-le-mul_right shelf (omega arith) in
    omega arith

-- what goes past a range's end ends with it
clipped : (first count x : ℕ) → first + count ≤ x → max first (min (first + count) x) - first ≡ count
clipped first count x h = omega arith

-- all parts together end where the range ends
all_parts : (shelf : ℕ) (span : Span) → 1 ≤ shelf → ends_at shelf span (piece_count shelf span) - span.first ≡ span.count
all_parts shelf span h =
    let last = shelf_holds shelf (span.first + span.count - 1) h in
    let past = past_last shelf (span.first / shelf) ((span.first + span.count - 1) / shelf) in
    clipped span.first span.count ((span.first / shelf + piece_count shelf span) * shelf) (omega (arith, last.1, past))

-- all parts of a range, one after another, hold its blocks
pub parts_cover : (shelf : ℕ) (span : Span) → 1 ≤ shelf → HasBlocksOf span (piece_count shelf span) (piece_at shelf span)
parts_cover shelf span h =
    first_parts shelf span (piece_count shelf span) h (omega arith) ∙ ap (range_with_len span.first) (all_parts shelf span h)

-- the i-th part lies in the i-th shelf from the first one
pub part_shelf : (shelf : ℕ) (span : Span) (i : ℕ) → 1 ≤ shelf → i < piece_count shelf span → (piece_at shelf span i).first / shelf ≡ span.first / shelf + i
part_shelf shelf span i h there =
    let k = span.first / shelf + i in
    let start = starts shelf span i h there in
    div-eq_of_lt-le {k = k} shelf (omega arith) (omega (arith, start.high))
