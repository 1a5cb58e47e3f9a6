-- Numbers of four bytes, and lists of them.
use Rattle.std.proofs.Common.{◌≡◌, ◌⊎◌, ◌<◌, ◌≤◌, ◌+◌, ◌-◌, ◌*◌, ◌/◌, ◌%◌, ℕ, zero, suc, true, false, Some, None, List, [], ◌∷◌, ◌++◌, cond, length, take, drop, slice_index, nat_le, nat_lt, inl, inr, refl, ap, ◌∙◌, arith, get_or-drop, get_or-take}
use Rattle.std.proofs.lemmas.Bool.Decides.{nat_tests}
use Rattle.std.proofs.lemmas.List.{get_or-append_right, get_or_append_left, length-drop, length-take-le}
use Rattle.std.proofs.lemmas.Nat.{le_bytes_2, le_bytes_4}
use Rattle.std.specs.Int.{w16, w32, to_le_bytes}
use Rattle.std.specs.List.{flat_map}
use Rattle.nvm_values.specs.Sqe.{number_at}
use Rattle.std.proofs.Math.Nat.{suc-mul}
use Rattle.adm_values.specs.Kinds.{FirstBadByte, HaveSame, IsLimits, IsWithin, dword_at, may_begin}

-- lists of one length with the same elements are one list
pub same_lists : (xs ys : List ℕ) → length xs ≡ length ys → ((i : ℕ) → i < length xs → slice_index xs i ≡ slice_index ys i) → xs ≡ ys
same_lists [] [] size same = refl
same_lists [] (y ∷ ys) size same = absurd (omega arith)
same_lists (x ∷ xs) [] size same = absurd (omega arith)
same_lists (x ∷ xs) (y ∷ ys) size same =
    let first : x ≡ y = same 0 (omega arith) in
    let others : xs ≡ ys = same_lists xs ys (omega arith) (λ i within. same (suc i) (omega arith)) in
    λ k. first k ∷ others k

-- a part of bytes below 256 has bytes below 256
small-take : (n : ℕ) (b : List ℕ) → ((i : ℕ) → slice_index b i < 256) → (i : ℕ) → slice_index (take n b) i < 256
small-take zero b small i = omega arith
small-take (suc n) [] small i = omega arith
small-take (suc n) (x ∷ b) small zero = small 0
small-take (suc n) (x ∷ b) small (suc i) = small-take n b (λ j. small (suc j)) i

small-part : (n at : ℕ) (b : List ℕ) → ((i : ℕ) → slice_index b i < 256) → (i : ℕ) → slice_index (take n (drop at b)) i < 256
small-part n at b small = small-take n (drop at b) (λ i. rw (get_or-drop at b i 0) (small (at + i)))

part_size : (n at : ℕ) (b : List ℕ) → at + n ≤ length b → length (take n (drop at b)) ≡ n
part_size n at b fits = length-take-le n (drop at b) (omega (arith, length-drop at b))

-- the bytes of the number that stands at a place are those that stand there
pub byte_of_word : (at i : ℕ) (b : List ℕ) → at + 2 ≤ length b → ((j : ℕ) → slice_index b j < 256) → i < 2
    → slice_index (to_le_bytes w16 (number_at w16 at b)) i ≡ slice_index b (at + i)
byte_of_word at i b fits small within =
    ap (λ (part : List ℕ). slice_index part i) (le_bytes_2 (take 2 (drop at b)) _ (part_size 2 at b fits) (small-part 2 at b small) refl)
    ∙ get_or-take 2 (drop at b) i 0 within ∙ get_or-drop at b i 0

pub byte_of_dword : (d i : ℕ) (b : List ℕ) → 4 * d + 4 ≤ length b → ((j : ℕ) → slice_index b j < 256) → i < 4
    → slice_index (to_le_bytes w32 (dword_at b d)) i ≡ slice_index b (4 * d + i)
byte_of_dword d i b fits small within =
    ap (λ (part : List ℕ). slice_index part i) (le_bytes_4 (take 4 (drop (4 * d) b)) _ (part_size 4 (4 * d) b fits) (small-part 4 (4 * d) b small) refl)
    ∙ get_or-take 4 (drop (4 * d) b) i 0 within ∙ get_or-drop (4 * d) b i 0

-- a byte of dwords that stand one after another
pub byte_of_dwords : (xs : List ℕ) (d i : ℕ) → d < length xs → i < 4 → slice_index (flat_map (to_le_bytes w32) xs) (4 * d + i) ≡ slice_index (to_le_bytes w32 (slice_index xs d)) i
byte_of_dwords [] d i there within = absurd (omega arith)
byte_of_dwords (x ∷ xs) zero i there within =
    let at : 4 * 0 + i ≡ i = omega arith in
    ap (λ (k : ℕ). slice_index (to_le_bytes w32 x ++ flat_map (to_le_bytes w32) xs) k) at ∙ get_or_append_left (to_le_bytes w32 x) (flat_map (to_le_bytes w32) xs) 0 i within
byte_of_dwords (x ∷ xs) (suc d) i there within =
    let at : 4 * suc d + i ≡ 4 + (4 * d + i) = omega arith in
    let past : (4 + (4 * d + i)) - 4 ≡ 4 * d + i = omega arith in
    ap (λ (k : ℕ). slice_index (to_le_bytes w32 x ++ flat_map (to_le_bytes w32) xs) k) at
    ∙ get_or-append_right (to_le_bytes w32 x) (flat_map (to_le_bytes w32) xs) 4 (4 + (4 * d + i)) 0 refl (omega arith)
    ∙ ap (λ (k : ℕ). slice_index (flat_map (to_le_bytes w32) xs) k) past
    ∙ byte_of_dwords xs d i (omega arith) within

-- numbers whose first bytes are the same are the same but for the others
same_1 : (x y : ℕ) → HaveSame 1 y x → y % 256 ≡ x % 256
same_1 x y same = same 0 (omega arith)

same_2 : (x y : ℕ) → HaveSame 2 y x → y % 65536 ≡ x % 65536
same_2 x y same = let a = same 0 (omega arith) in let b = same 1 (omega arith) in omega (arith, a, b)

same_3 : (x y : ℕ) → HaveSame 3 y x → y % 16777216 ≡ x % 16777216
same_3 x y same = let a = same 0 (omega arith) in let b = same 1 (omega arith) in let c = same 2 (omega arith) in omega (arith, a, b, c)

same_4 : (x y : ℕ) → HaveSame 4 y x → y % 4294967296 ≡ x % 4294967296
same_4 x y same = let a = same 0 (omega arith) in let b = same 1 (omega arith) in let c = same 2 (omega arith) in let d = same 3 (omega arith) in omega (arith, a, b, c, d)

-- and the other way round
have_1 : (x y : ℕ) → y % 256 ≡ x % 256 → HaveSame 1 y x
have_1 x y same zero within = same
have_1 x y same (suc i) within = absurd (omega arith)

have_2 : (x y : ℕ) → y % 65536 ≡ x % 65536 → HaveSame 2 y x
have_2 x y same zero within = omega arith
have_2 x y same (suc zero) within = omega arith
have_2 x y same (suc (suc i)) within = absurd (omega arith)

have_3 : (x y : ℕ) → y % 16777216 ≡ x % 16777216 → HaveSame 3 y x
have_3 x y same zero within = omega arith
have_3 x y same (suc zero) within = omega arith
have_3 x y same (suc (suc zero)) within = omega arith
have_3 x y same (suc (suc (suc i))) within = absurd (omega arith)

-- no number within the limits has these low bytes where the least of them is too great
too_great : (low high f size y : ℕ) → nat_le (cond (nat_lt f low) (f + size) f) high ≡ false → low ≤ y → y ≤ high → (y ≡ f) ⊎ (f + size ≤ y) → ⊥
too_great low high f size y none least most is = grind (arith, nat_tests)

none_begins : (limits : ℕ × ℕ) (f q size y : ℕ) → may_begin limits f size ≡ false → y ≡ q * size + f → IsWithin limits y → ⊥
none_begins limits f zero size y none is within = too_great limits.0 limits.1 f size y none within.0 within.1 (inl (omega arith))
none_begins limits f (suc q) size y none is within =
    let more : suc q * size ≡ q * size + size = suc-mul q size in
    too_great limits.0 limits.1 f size y none within.0 within.1 (inr (omega (arith, is, more)))

-- and where it isn't, it is one
abbrev pub least_of : ℕ × ℕ → ℕ → ℕ → ℕ
least_of limits f size = cond (nat_lt f limits.0) (f + size) f

least_within : (low high f size : ℕ) → nat_le (cond (nat_lt f low) (f + size) f) high ≡ true → low ≤ size → IsWithin (low, high) (cond (nat_lt f low) (f + size) f)
least_within low high f size some few = (grind (arith, nat_tests), grind (arith, nat_tests))

least_is : (low f size : ℕ) → (cond (nat_lt f low) (f + size) f ≡ f) ⊎ (cond (nat_lt f low) (f + size) f ≡ f + size)
least_is low f size = elim (nat_lt f low) as (λ b. (cond b (f + size) f ≡ f) ⊎ (cond b (f + size) f ≡ f + size)) [ true ↦ inr refl | false ↦ inl refl ]

-- The first byte of a number behind which none within the limits goes on.

pub bad_byte_0 : (limits : ℕ × ℕ) (x : ℕ) → IsLimits limits → may_begin limits (x % 256) 256 ≡ false → FirstBadByte limits x (Some 0)
bad_byte_0 limits x is none = (
  omega arith,
  (limits.0, (omega arith, is.some), λ i below. absurd (omega arith)),
  λ y within same. none_begins limits (x % 256) (y / 256) 256 y none (let e = same_1 x y same in omega (arith, e)) within,
)

pub bad_byte_1 : (limits : ℕ × ℕ) (x : ℕ) → IsLimits limits → may_begin limits (x % 256) 256 ≡ true → may_begin limits (x % 65536) 65536 ≡ false → FirstBadByte limits x (Some 1)
bad_byte_1 limits x is some none =
    let y : ℕ = least_of limits (x % 256) 256 in
    let value : (y ≡ x % 256) ⊎ (y ≡ x % 256 + 256) = least_is limits.0 (x % 256) 256 in (
      omega arith,
      (y, least_within limits.0 limits.1 (x % 256) 256 some (omega (arith, is.low)), have_1 x y (omega (arith, value))),
      λ z within same. none_begins limits (x % 65536) (z / 65536) 65536 z none (let e = same_2 x z same in omega (arith, e)) within,
    )

pub bad_byte_2 : (limits : ℕ × ℕ) (x : ℕ) → IsLimits limits → may_begin limits (x % 65536) 65536 ≡ true → may_begin limits (x % 16777216) 16777216 ≡ false → FirstBadByte limits x (Some 2)
bad_byte_2 limits x is some none =
    let y : ℕ = least_of limits (x % 65536) 65536 in
    let value : (y ≡ x % 65536) ⊎ (y ≡ x % 65536 + 65536) = least_is limits.0 (x % 65536) 65536 in (
      omega arith,
      (y, least_within limits.0 limits.1 (x % 65536) 65536 some (omega (arith, is.low)), have_2 x y (omega (arith, value))),
      λ z within same. none_begins limits (x % 16777216) (z / 16777216) 16777216 z none (let e = same_3 x z same in omega (arith, e)) within,
    )

pub bad_byte_3 : (limits : ℕ × ℕ) (x : ℕ) → IsLimits limits → x < 4294967296 → may_begin limits (x % 16777216) 16777216 ≡ true → may_begin limits x 4294967296 ≡ false → FirstBadByte limits x (Some 3)
bad_byte_3 limits x is fits some none =
    let y : ℕ = least_of limits (x % 16777216) 16777216 in
    let value : (y ≡ x % 16777216) ⊎ (y ≡ x % 16777216 + 16777216) = least_is limits.0 (x % 16777216) 16777216 in (
      omega arith,
      (y, least_within limits.0 limits.1 (x % 16777216) 16777216 some (omega (arith, is.low)), have_3 x y (omega (arith, value))),
      λ z within same. none_begins limits x (z / 4294967296) 4294967296 z none (let e = same_4 x z same in omega (arith, e, fits)) within,
    )

pub no_bad_byte : (limits : ℕ × ℕ) (x : ℕ) → IsLimits limits → may_begin limits x 4294967296 ≡ true → FirstBadByte limits x None
no_bad_byte limits x is some =
    let within = least_within limits.0 limits.1 x 4294967296 some (omega (arith, is.low)) in
    let value = least_is limits.0 x 4294967296 in
    (omega (arith, within, value, is.high), omega (arith, within, value, is.high))
