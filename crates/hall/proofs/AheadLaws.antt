use Rattle.std.proofs.Common.{◌≡◌, ◌==◌, ℕ, zero, suc, ◌+◌, ◌-◌, ◌*◌, ◌/◌, ◌<◌, ◌≤◌, Bool, true, false, cond, List, [], ◌∷◌, length, drop, get_or, set, refl, ap, arith, eq-eqb, ne_eqb}
use Rattle.std.specs.List.{sum_by}
use Rattle.std.proofs.lemmas.List.Sums.{sum_by-cons, sum_by-drop_more, sum_by-take-drop}
use Rattle.nvm_model.specs.declared.piece.Piece.{Piece}

-- How many pieces of a plan lie in one shelf.

-- whether a piece lies in shelf i, as a number
abbrev pub lies_in : ℕ → ℕ → Piece → ℕ
lies_in shelf i piece = cond (piece.span.first / shelf == i) 1 0

few_of : (b : Bool) → cond b 1 0 ≤ 1
few_of true = omega arith
few_of false = omega arith

pub lies_once : (shelf i : ℕ) (piece : Piece) → lies_in shelf i piece ≤ 1
lies_once shelf i piece = few_of (piece.span.first / shelf == i)

pub lies_here : (shelf i : ℕ) (piece : Piece) → piece.span.first / shelf ≡ i → lies_in shelf i piece ≡ 1
lies_here shelf i piece here = ap (λ (b : Bool). cond b 1 0) (eq-eqb (piece.span.first / shelf) i here)

pub lies_elsewhere : (shelf i : ℕ) (piece : Piece) → (piece.span.first / shelf ≡ i → ⊥) → lies_in shelf i piece ≡ 0
lies_elsewhere shelf i piece other = ap (λ (b : Bool). cond b 1 0) (ne_eqb (piece.span.first / shelf) i other)

abbrev pub in_shelf : ℕ → ℕ → List Piece → ℕ
in_shelf shelf i pieces = sum_by (lies_in shelf i) pieces

-- how many do of those that aren't done, of each lane so many
abbrev pub ahead : ℕ → ℕ → List (List Piece) → List ℕ → ℕ
ahead shelf i [] left = 0
ahead shelf i (pieces ∷ lanes) [] = 0
ahead shelf i (pieces ∷ lanes) (n ∷ left) = in_shelf shelf i (drop (length pieces - n) pieces) + ahead shelf i lanes left

-- the next piece of a lane was done
pub ahead_less : (shelf i : ℕ) (lanes : List (List Piece)) (left : List ℕ) (at : ℕ) (d : Piece) → at < length lanes → at < length left → 1 ≤ get_or left at 0 → get_or left at 0 ≤ length (get_or lanes at []) →
    ahead shelf i lanes (set left at (get_or left at 0 - 1)) + lies_in shelf i (get_or (get_or lanes at []) (length (get_or lanes at []) - get_or left at 0) d) ≡ ahead shelf i lanes left
ahead_less shelf i [] left at d there low some few = absurd (omega (arith, there))
ahead_less shelf i (pieces ∷ lanes) [] at d there low some few = absurd (omega (arith, low))
ahead_less shelf i (pieces ∷ lanes) (n ∷ left) zero d there low some few =
    let next : length pieces - (n - 1) ≡ length pieces - n + 1 = omega (arith, some, few) in
    let rest : in_shelf shelf i (drop (length pieces - (n - 1)) pieces) ≡ in_shelf shelf i (drop (length pieces - n + 1) pieces) = ap (λ (m : ℕ). in_shelf shelf i (drop m pieces)) next in
    omega (arith, rest, sum_by-drop_more (lies_in shelf i) pieces (length pieces - n) d (omega (arith, some, few)))
ahead_less shelf i (pieces ∷ lanes) (n ∷ left) (suc at) d there low some few = omega (arith, ahead_less shelf i lanes left at d (omega (arith, there)) (omega (arith, low)) some few)

-- where each lane has at most so many in the shelf
pub ahead_few : (shelf i most : ℕ) (lanes : List (List Piece)) (left : List ℕ) → ((k : ℕ) → k < length lanes → in_shelf shelf i (get_or lanes k []) ≤ most) → ahead shelf i lanes left ≤ most * length lanes
ahead_few shelf i most [] left few = omega arith
ahead_few shelf i most (pieces ∷ lanes) [] few = omega arith
ahead_few shelf i most (pieces ∷ lanes) (n ∷ left) few =
    let more : most * length (pieces ∷ lanes) ≡ most + most * length lanes = omega arith in
    omega (arith, more, few 0 (omega arith), sum_by-take-drop (lies_in shelf i) pieces (length pieces - n), ahead_few shelf i most lanes left (λ k there. few (suc k) (omega (arith, there))))

none_in : (shelf i : ℕ) (pieces : List Piece) → ((j : ℕ) (d : Piece) → j < length pieces → (get_or pieces j d).span.first / shelf ≡ i → ⊥) → in_shelf shelf i pieces ≡ 0
none_in shelf i [] none = refl
none_in shelf i (piece ∷ pieces) none =
    omega (arith, sum_by-cons (lies_in shelf i) piece pieces, lies_elsewhere shelf i piece (none 0 piece (omega arith)), none_in shelf i pieces (λ j d there. none (suc j) d (omega (arith, there))))

-- where no piece of the plan lies in it
pub none_ahead : (shelf i : ℕ) (lanes : List (List Piece)) (left : List ℕ) → ((k j : ℕ) (d : Piece) → k < length lanes → j < length (get_or lanes k []) → (get_or (get_or lanes k []) j d).span.first / shelf ≡ i → ⊥) → ahead shelf i lanes left ≡ 0
none_ahead shelf i lanes left none =
    omega (arith, ahead_few shelf i 0 lanes left (λ k there. omega (arith, none_in shelf i (get_or lanes k []) (λ j d within. none k j d there within))))
