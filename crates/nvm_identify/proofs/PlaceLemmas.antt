-- Parts of bytes that stand one after another, from writing and for reading.
use Rattle.std.proofs.Common.{◌≡◌, ◌<◌, ◌+◌, ◌-◌, ℕ, List, ◌++◌, length, take, drop, slice_index, refl, sym, ap, ◌∙◌, arith, length-append}
use Rattle.std.proofs.lemmas.List.{append_assoc, drop-replicate, drop-take, get_or-drop, get_or-take, length-replicate, replicate-append-replicate, take-take, take_at}
use Rattle.std.proofs.Math.Seq.{drop-append-add, drop-append_seam}
use Rattle.nvm_identify.specs.Place.{part_at, written, zeroes}

-- there are that many zeroes
pub length-zeroes : (n : ℕ) → length (zeroes n) ≡ n
unfolding zeroes
length-zeroes n = length-replicate n 0

-- zeroes are zeroes and then zeroes
zeroes-append : (n m : ℕ) → zeroes n ++ zeroes m ≡ zeroes (n + m)
unfolding zeroes
zeroes-append n m = replicate-append-replicate n m 0

-- without the first of the zeroes the others are left
drop-zeroes : (n m : ℕ) → drop n (zeroes m) ≡ zeroes (m - n)
unfolding zeroes
drop-zeroes n m = drop-replicate n m 0

-- a front and a part are as long as both
pub longer : (n m : ℕ) (front part : List ℕ) → length front ≡ n → length part ≡ m → length (front ++ part) ≡ n + m
longer n m front part size more = length-append front part ∙ rw (size, more) refl

-- a part that is written over zeroes behind a front stands behind it, before the other zeroes
pub next_field : (at k rest : ℕ) (front part old new : List ℕ) → old ≡ front ++ zeroes k → length front ≡ at → k ≡ length part + rest
    → new ≡ written old at part → new ≡ front ++ part ++ zeroes rest
next_field at k rest front part old new was size room made =
    let before : take at old ≡ front = ap (take at) was ∙ take_at front (zeroes k) at size in
    let past : drop (at + length part) old ≡ drop (length part) (zeroes k)
    = ap (λ (n : ℕ). drop (n + length part) old) (sym size) ∙ ap (drop (length front + length part)) was ∙ drop-append-add front (zeroes k) (length part) in
    let left : k - length part ≡ rest = omega (arith, room) in
    let after : drop (at + length part) old ≡ zeroes rest = past ∙ drop-zeroes (length part) k ∙ ap zeroes left in
    made ∙ (λ i. before i ++ part ++ after i)

-- the same with a gap before the part
pub field_after_gap : (at gap k rest : ℕ) (front part old new : List ℕ) → old ≡ front ++ zeroes k → length front + gap ≡ at → k ≡ gap + (length part + rest)
    → new ≡ written old at part → new ≡ front ++ zeroes gap ++ part ++ zeroes rest
field_after_gap at gap k rest front part old new was size room made =
    let parted : zeroes k ≡ zeroes gap ++ zeroes (length part + rest) = ap zeroes room ∙ sym (zeroes-append gap (length part + rest)) in
    let there : old ≡ front ++ zeroes gap ++ zeroes (length part + rest)
    = was ∙ ap (λ (z : List ℕ). front ++ z) parted ∙ sym (append_assoc front (zeroes gap) (zeroes (length part + rest))) in
    let long : length (front ++ zeroes gap) ≡ at = longer (length front) gap front (zeroes gap) refl (length-zeroes gap) ∙ size in
    next_field at (length part + rest) rest (front ++ zeroes gap) part old new there long refl made

-- where a front ends in a part, the bytes before that part
pub before : (n m : ℕ) (bytes front part : List ℕ) → take (n + m) bytes ≡ front ++ part → length front ≡ n → take n bytes ≡ front
before n m bytes front part is size =
    sym (take-take n (n + m) bytes (omega arith)) ∙ ap (take n) is ∙ take_at front part n size

-- where a front ends in a part, that part
pub ending : (at n : ℕ) (bytes front part : List ℕ) → take (at + n) bytes ≡ front ++ part → length front ≡ at → part_at n at bytes ≡ part
ending at n bytes front part is size =
    sym (drop-take at n bytes) ∙ ap (drop at) is ∙ ap (λ (k : ℕ). drop k (front ++ part)) (sym size) ∙ drop-append_seam front part

-- a byte of a part
pub byte_of : (at n i : ℕ) (bytes part : List ℕ) → part_at n at bytes ≡ part → i < n → slice_index bytes (at + i) ≡ slice_index part i
byte_of at n i bytes part is within =
    sym (get_or-drop at bytes i 0) ∙ sym (get_or-take n (drop at bytes) i 0 within) ∙ ap (λ (b : List ℕ). slice_index b i) is
