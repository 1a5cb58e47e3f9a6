-- Numbers at places of a list of bytes.
use Rattle.std.proofs.Common.{◌≡◌, ◌≤◌, ◌<◌, ◌+◌, ℕ, zero, suc, List, [], ◌∷◌, ◌++◌, length, take, drop, slice_index, refl, sym, ap, ◌∙◌, arith, length-append}
use Rattle.std.proofs.lemmas.List.{take-append-drop, drop-drop, length-drop, length-take-le, get_or-drop, take_all, take_at}
use Rattle.std.proofs.lemmas.Nat.{le_bytes_2, le_bytes_4, le_bytes_8}
use Rattle.std.specs.Int.{w16, w32, w64, to_le_bytes}
use Rattle.nvm_values.specs.Sqe.{number_at}

-- the part of that many bytes from a place has that length
length-part : (n at : ℕ) (b : List ℕ) → at + n ≤ length b → length (take n (drop at b)) ≡ n
length-part n at b fits = length-take-le n (drop at b) (omega (arith, length-drop at b))

-- a part of bytes below 256 has bytes below 256
small-take : (n : ℕ) (b : List ℕ) → ((i : ℕ) → slice_index b i < 256) → (i : ℕ) → slice_index (take n b) i < 256
small-take zero b small i = omega arith
small-take (suc n) [] small i = omega arith
small-take (suc n) (x ∷ b) small zero = small 0
small-take (suc n) (x ∷ b) small (suc i) = small-take n b (λ j. small (suc j)) i

small-drop : (n : ℕ) (b : List ℕ) → ((i : ℕ) → slice_index b i < 256) → (i : ℕ) → slice_index (drop n b) i < 256
small-drop n b small i = rw (get_or-drop n b i 0) (small (n + i))

-- a part and what stands behind it
part_and_rest : (n at next : ℕ) (b part rest : List ℕ) → next ≡ at + n → part ≡ take n (drop at b) → rest ≡ drop next b → part ++ rest ≡ drop at b
part_and_rest n at next b part rest behind first last =
    let moved : drop next b ≡ drop n (drop at b) = ap (λ (k : ℕ). drop k b) behind ∙ sym (drop-drop n at b) in
    rw (first, last, moved) (take-append-drop n (drop at b))

-- the bytes of the number at a place are the bytes there
bytes_at_2 : (at : ℕ) (b : List ℕ) → at + 2 ≤ length b → ((i : ℕ) → slice_index b i < 256) → to_le_bytes w16 (number_at w16 at b) ≡ take 2 (drop at b)
bytes_at_2 at b fits small = le_bytes_2 (take 2 (drop at b)) _ (length-part 2 at b fits) (small-take 2 (drop at b) (small-drop at b small)) refl

bytes_at_4 : (at : ℕ) (b : List ℕ) → at + 4 ≤ length b → ((i : ℕ) → slice_index b i < 256) → to_le_bytes w32 (number_at w32 at b) ≡ take 4 (drop at b)
bytes_at_4 at b fits small = le_bytes_4 (take 4 (drop at b)) _ (length-part 4 at b fits) (small-take 4 (drop at b) (small-drop at b small)) refl

bytes_at_8 : (at : ℕ) (b : List ℕ) → at + 8 ≤ length b → ((i : ℕ) → slice_index b i < 256) → to_le_bytes w64 (number_at w64 at b) ≡ take 8 (drop at b)
bytes_at_8 at b fits small = le_bytes_8 (take 8 (drop at b)) _ (length-part 8 at b fits) (small-take 8 (drop at b) (small-drop at b small)) refl

-- the bytes of the number at a place, and then what stands behind it
pub behind_2 : (at next : ℕ) (b rest : List ℕ) → ((i : ℕ) → slice_index b i < 256) → next ≡ at + 2 → next ≤ length b → rest ≡ drop next b
    → to_le_bytes w16 (number_at w16 at b) ++ rest ≡ drop at b
behind_2 at next b rest small behind fits last =
    part_and_rest 2 at next b _ rest behind (bytes_at_2 at b (omega arith) small) last

pub behind_4 : (at next : ℕ) (b rest : List ℕ) → ((i : ℕ) → slice_index b i < 256) → next ≡ at + 4 → next ≤ length b → rest ≡ drop next b
    → to_le_bytes w32 (number_at w32 at b) ++ rest ≡ drop at b
behind_4 at next b rest small behind fits last =
    part_and_rest 4 at next b _ rest behind (bytes_at_4 at b (omega arith) small) last

pub behind_8 : (at next : ℕ) (b rest : List ℕ) → ((i : ℕ) → slice_index b i < 256) → next ≡ at + 8 → next ≤ length b → rest ≡ drop next b
    → to_le_bytes w64 (number_at w64 at b) ++ rest ≡ drop at b
behind_8 at next b rest small behind fits last =
    part_and_rest 8 at next b _ rest behind (bytes_at_8 at b (omega arith) small) last

-- the same at the end
pub last_2 : (at : ℕ) (b : List ℕ) → ((i : ℕ) → slice_index b i < 256) → length b ≡ at + 2 → to_le_bytes w16 (number_at w16 at b) ≡ drop at b
last_2 at b small end = bytes_at_2 at b (omega arith) small ∙ take_all 2 (drop at b) (omega (arith, length-drop at b))

pub last_4 : (at : ℕ) (b : List ℕ) → ((i : ℕ) → slice_index b i < 256) → length b ≡ at + 4 → to_le_bytes w32 (number_at w32 at b) ≡ drop at b
last_4 at b small end = bytes_at_4 at b (omega arith) small ∙ take_all 4 (drop at b) (omega (arith, length-drop at b))

-- what is written at a place stands behind what stood before it
pub written_behind : (at next : ℕ) (old new part : List ℕ) → at ≤ length old → next ≡ at + length part
    → new ≡ take at old ++ part ++ drop next old → take next new ≡ take at old ++ part
written_behind at next old new part fits behind made =
    let size : length (take at old ++ part) ≡ next = length-append (take at old) part ∙ rw (length-take-le at old fits) (sym behind) in
    rw made (take_at (take at old ++ part) (drop next old) next size)

-- the number of 2 bytes at a place fits 16 bits
pub number_at_2-lt : (at : ℕ) (b : List ℕ) → ((i : ℕ) → slice_index b i < 256) → number_at w16 at b < 65536
number_at_2-lt at b small =
    let low = small-take 2 (drop at b) (small-drop at b small) 0 in
    let high = small-take 2 (drop at b) (small-drop at b small) 1 in
    omega (arith, low, high)
