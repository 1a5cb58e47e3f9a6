-- The numbers of a head: each is in range by the numbers before it, and the lowest may stand for it.
use Rattle.std.proofs.Common.{◌≡◌, ℕ, ◌+◌, ◌*◌, ◌/◌, ◌%◌, ◌^◌, ◌<◌, ◌≤◌, Bool, true, false, ◌&&◌, eqb, leb, List, [], ◌∷◌, length, get_or, drop, rules, refl, arith}
use Rattle.std.specs.List.{AllByRecursion}
use Rattle.std.proofs.Math.Nat.{mul-div_cancel, mul-mod_left}
use Rattle.std.proofs.lemmas.Bool.{leb-true, le-leb, eqb-true, and_parts}
use Rattle.std.proofs.lemmas.Nat.{div-add-mod'}
use Rattle.nvm_model.specs.declared.script.Head.{Head}
use Rattle.nvm_model.specs.ScriptText.{IsHead}
use Rattle.script.specs.declared.key.Key.{Key}
use Rattle.script.specs.declared.key.Key.TheVariants.{Blocks, Shelf, Lanes, Burst}
use Rattle.script.specs.declared.key.Due.TheVariants.{Number, Behind}
use Rattle.script.specs.Words.{next}
use Rattle.script.specs.Keys.{number, with_number, lowest, highest, are_shelves, later_keys, after, earlier, no_head}
use Rattle.script.specs.Lines.{}

-- the number of a key lies in its range
abbrev pub InRange : Key → ℕ → Head → Type 0
InRange key n h = (lowest key h ≤ n) × (n ≤ highest key h) × (are_shelves key n h ≡ true)

abbrev pub Fits : Key → Head → Type 0
Fits key h = InRange key (number key h) h

-- the numbers of the keys before this one are in range
abbrev pub FitsBefore : Key → Head → Type 0
FitsBefore key h = AllByRecursion (λ k. Fits k h) (earlier key)

-- no range looks at a later number
pub kept : (key : Key) (n : ℕ) (h : Head) → FitsBefore key h → FitsBefore key (with_number key n h)
kept Blocks n h f = f
kept key n h f = f

pub put_fits : (key : Key) (n : ℕ) (h : Head) → InRange key n h → Fits key (with_number key n h)
put_fits Blocks n h f = f
put_fits key n h f = f

pub number_small : (key : Key) (n : ℕ) (h : Head) → h.blocks ≤ 131072 → InRange key n h → n < 2 ^ 64
number_small Blocks n h few f = let high = f.1 in omega arith
number_small key n h few f = let high = f.1 in omega arith

-- ---- what is filled in of a head

abbrev pub filled : List Key → Head → Head → Head
filled [] h base = base
filled (key ∷ keys) h base = with_number key (number key h) (filled keys h base)

-- a head up to its lanes
abbrev pub lanes_head : Head → Head
lanes_head h = record (filled (Lanes ∷ Shelf ∷ Blocks ∷ []) h no_head) { sets = h.sets }

abbrev pub base_of : Key → Head → Head
base_of Blocks h = no_head
base_of Shelf h = no_head
base_of Lanes h = no_head
base_of key h = lanes_head h

-- a head whose numbers from this key on are 0
abbrev pub head_before : Key → Head → Head
head_before key h = filled (earlier key) h (base_of key h)

pub range_before : (key : Key) (h : Head) → Fits key h → InRange key (number key h) (head_before key h)
range_before Blocks h f = f
range_before key h f = f

pub blocks_before : (key : Key) (h : Head) → h.blocks ≤ 131072 → (head_before key h).blocks ≤ 131072
blocks_before Blocks h few = omega arith
blocks_before key h few = few

-- ---- whole heads

pub shelves_from : (blocks shelf : ℕ) → (eqb (blocks % shelf) 0 && leb (blocks / shelf) 64) ≡ true → (n : ℕ) × (n ≤ 64) × (blocks ≡ n * shelf)
shelves_from blocks shelf e =
    let p = and_parts (eqb (blocks % shelf) 0) (leb (blocks / shelf) 64) e in
    let none : blocks % shelf ≡ 0 = eqb-true (blocks % shelf) 0 p.0 in
    let whole : blocks / shelf * shelf + blocks % shelf ≡ blocks = div-add-mod' blocks shelf in
    (blocks / shelf, leb-true (blocks / shelf) 64 p.1, omega arith)

shelves_to : (blocks shelf n : ℕ) → 1 ≤ shelf → n ≤ 64 → blocks ≡ n * shelf → (eqb (blocks % shelf) 0 && leb (blocks / shelf) 64) ≡ true
shelves_to blocks shelf n some few is =
    let none : n * shelf % shelf ≡ 0 = mul-mod_left n shelf in
    let count : n * shelf / shelf ≡ n = mul-div_cancel n {n = shelf} some in
    rw (is, none, count, le-leb n 64 few) refl

pub ranges : (h : Head) → IsHead h → (key : Key) → Fits key h
ranges h f Shelf = (f.shelf.0, f.shelf.1, shelves_to h.blocks h.shelf f.shelves.0 f.shelf.0 f.shelves.1 f.shelves.2)
ranges h f key = (omega arith, omega arith, refl)

-- ---- the keys behind the lanes

abbrev pub is_later : Key → Bool
is_later Blocks = false
is_later Shelf = false
is_later Lanes = false
is_later key = true

-- one comes after the other
abbrev pub IsChain : Key → List Key → Type 0
IsChain key [] = after key ≡ Behind
IsChain key (next ∷ keys) = (is_later next ≡ true) × (after key ≡ Number next) × IsChain next keys

pub later_chain : IsChain Burst (drop 1 later_keys)
later_chain = search rules

pub place_of : (key : Key) → is_later key ≡ true → (get_or later_keys (length (earlier key)) Burst ≡ key) × (length (earlier key) < length later_keys)
place_of Blocks later = absurd cc
place_of Shelf later = absurd cc
place_of Lanes later = absurd cc
place_of key later = (refl, omega arith)

-- ---- the lowest number is in range

pub lowest_fits : (key : Key) (h : Head) → is_later key ≡ true → FitsBefore key h → 1 ≤ h.blocks → InRange key (lowest key h) h
lowest_fits Blocks h later f some = absurd cc
lowest_fits Shelf h later f some = absurd cc
lowest_fits Lanes h later f some = absurd cc
lowest_fits key h later f some = (omega arith, omega arith, refl)
