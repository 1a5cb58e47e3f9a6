-- C's pairs stand for the library's.
use Rattle.std.proofs.Common.{◌≡◌, ℕ, suc, zero, ◌+◌, ◌-◌, ◌<◌, ◌≤◌, All, List, [], ◌∷◌, ◌++◌, append_assoc, length, map, replicate, take, slice_index_or, slice_set, ap, ◌∙◌, refl, sym, subst, arith, length-append}
use Rattle.std.proofs.lemmas.List.{drop_at, length-map, length-replicate, length-take-le, map-append, take-map, take_at, take_more, take_more_set}
use Rattle.std.proofs.lemmas.List.Elements.{All-push, All-take}
use Rattle.std.proofs.Math.ListN.{get_or-map}
use Rattle.std.proofs.Math.Seq.{set-append_seam}
use Rattle.ctl_state.specs.declared.image.Image.{Image}
use Rattle.ctl_state.specs.declared.image.PairState.{PairState}
use Rattle.ctl_state.specs.Image.{IsImage, IsPair, none}
use Rattle.ctl_state.specs.Parts.{IsWhole}
use Rattle.nvmigrate_c.specs.declared.parts.Pair.{Pair}
use Rattle.nvmigrate_c.specs.Parts.{HasFlag, HasRings, image_in, pair_in}

map_more : (xs : List Pair) (place : ℕ) (d : Pair) → place < length xs → map pair_in (take (place + 1) xs) ≡ map pair_in (take place xs) ++ pair_in (slice_index_or xs place d) ∷ []
map_more xs place d there = ap (map pair_in) (take_more xs place d there) ∙ map-append pair_in (take place xs) (slice_index_or xs place d ∷ [])

-- one pair more is written
pub put_more : (out : List Pair) (pairs : List PairState) (place : ℕ) (p : Pair) (d : PairState) → place < length out → place < length pairs → map pair_in (take place out) ≡ take place pairs
    → pair_in p ≡ slice_index_or pairs place d → map pair_in (take (place + 1) (slice_set out place p)) ≡ take (place + 1) pairs
put_more out pairs place p d room there before is =
    ap (map pair_in) (take_more_set out place p room) ∙ map-append pair_in (take place out) (p ∷ [])
    ∙ (λ k. before k ++ is k ∷ []) ∙ sym (take_more pairs place d there)

-- one pair more is read
pub rings_more : (pairs : List Pair) (place : ℕ) (d : Pair) → place < length pairs → All HasRings (take place pairs) → HasRings (slice_index_or pairs place d) → All HasRings (take (place + 1) pairs)
rings_more pairs place d there before is =
    subst (λ (xs : List Pair). All HasRings xs) (sym (take_more pairs place d there)) (All-push HasRings (take place pairs) (slice_index_or pairs place d) before is)

pub states_more : (pairs : List Pair) (place : ℕ) (d : Pair) (states : List PairState) (state : PairState) → place < length pairs → length pairs ≤ 8
    → states ≡ map pair_in (take place pairs) ++ replicate (8 - place) none → state ≡ pair_in (slice_index_or pairs place d)
    → slice_set states place state ≡ map pair_in (take (place + 1) pairs) ++ replicate (8 - (place + 1)) none
states_more pairs place d states state there few before is =
    let front : List PairState = map pair_in (take place pairs) in
    let rest : List PairState = replicate (8 - (place + 1)) none in
    let left : 8 - place ≡ suc (8 - (place + 1)) = omega (arith, there, few) in
    let room : states ≡ front ++ none ∷ rest = before ∙ ap (λ n. front ++ replicate n none) left in
    let at : place ≡ length front = sym (length-map (take place pairs) pair_in ∙ length-take-le place pairs (omega arith)) in
    (λ k. slice_set (room k) (at k) state) ∙ set-append_seam front none rest state ∙ sym (append_assoc front (state ∷ []) rest)
    ∙ ap (λ (ps : List PairState). ps ++ rest) (ap (λ (s : PairState). front ++ s ∷ []) is ∙ sym (map_more pairs place d there))

all_pairs : (pairs : List Pair) → All HasRings pairs → All IsPair (map pair_in pairs)
all_pairs [] all k d there = absurd (omega arith)
all_pairs (p ∷ pairs) all zero d there = let is = all 0 p (omega arith) in record { sq = is.sq; cq = is.cq.ring }
all_pairs (p ∷ pairs) all (suc k) d there = all_pairs pairs (λ j e within. all (suc j) e (omega arith)) k d (omega arith)

-- they are those of a state
pub image_is : (pairs : List Pair) → length pairs ≤ 8 → All HasRings pairs → IsImage (length pairs) (image_in pairs)
image_is pairs few all =
    let states : List PairState = map pair_in pairs in
    let others : List PairState = replicate (8 - length pairs) none in
    let count : length states ≡ length pairs = length-map pairs pair_in in
    record {
      used = refl;
      few = few;
      room = length-append states others ∙ omega (arith, count, length-replicate (8 - length pairs) none);
      pairs = subst (λ (ps : List PairState). All IsPair ps) (sym (take_at states others (length pairs) count)) (all_pairs pairs all);
      others = drop_at states others (length pairs) count;
    }

pub flags_more : (out : List Pair) (place : ℕ) (p : Pair) → place < length out → All HasFlag (take place out) → HasFlag p → All HasFlag (take (place + 1) (slice_set out place p))
flags_more out place p room before is =
    subst (λ (xs : List Pair). All HasFlag xs) (sym (take_more_set out place p room)) (All-push HasFlag (take place out) p before is)

-- the pairs of a state are rings
pub rings_are : (lanes : ℕ) (bytes : List ℕ) (out : List Pair) (image : Image) → IsWhole lanes bytes image → map pair_in out ≡ image.pairs → All HasFlag out → All HasRings (take lanes out)
rings_are lanes bytes out image whole same flags =
    let moved : take image.used image.pairs ≡ map pair_in (take lanes out) = (λ k. take (whole.0.used k) (sym same k)) ∙ take-map pair_in lanes out in
    let pairs : All IsPair (map pair_in (take lanes out)) = subst (λ (ps : List PairState). All IsPair ps) moved whole.0.pairs in
    λ k d there.
    let within : k < length (map pair_in (take lanes out)) = omega (arith, there, length-map (take lanes out) pair_in) in
    let is : IsPair (pair_in (slice_index_or (take lanes out) k d)) = subst IsPair (get_or-map pair_in (take lanes out) k d) (pairs k (pair_in d) within) in
    record { sq = is.sq; cq = record { ring = is.cq; phase = All-take HasFlag lanes out flags k d there } }
