-- The image of a state, and the state of an image.
use Rattle.std.proofs.Common.{◌≡◌, ◌⊎◌, Ok, Err, ◌<◌, ◌≤◌, ◌+◌, ◌-◌, ◌*◌, ◌/◌, ◌==◌, ℕ, zero, suc, Bool, true, false, All, List, [], ◌∷◌, ◌++◌, append_assoc, cond, length, take, drop, slice_index, replicate, nat_lt, if◌then◌else◌, refl, sym, ap, ◌∙◌, subst, arith, add-one, add-zero, drop-drop, get_or-take, length-append, slice_index_or, slice_set, take-append-drop, take-take}
use Rattle.std.proofs.lemmas.Bool.{le-ltb, ne_eqb}
use Rattle.std.proofs.lemmas.List.{append-nil, drop_at, length-drop, length-replicate, length-take, length-take-le, take_at, take_more}
use Rattle.ctl_state.specs.declared.bounds.Bounds.{Bounds}
use Rattle.ctl_state.specs.declared.image.Image.{Image}
use Rattle.ctl_state.specs.declared.image.PairState.{PairState}
use Rattle.ctl_state.specs.Bounds.{Follows, IsWithin, bounds_after, only, pair_bounds, pair_of, pairs_in}
use Rattle.ctl_state.specs.Image.{IsImage, IsPair, header, image_bytes, none, pair_bytes, pairs_bytes, pairs_of}
use Rattle.ctl_state.specs.declared.parts.PartRefusal.TheVariants.{BadSequence, TooLong, BadImage}
use Rattle.ctl_state.specs.Parts.{Begins, Feeds, IsFirstBad, ImageIsTaken, IsWhole, image_size, kept}
use Rattle.ctl_state.proofs.FollowsLemmas.{drop-listed, follows_append, follows_at, follows_front, follows_rest, goes_on, listed}
use Rattle.ctl_state.proofs.PairLemmas.{one, only_is, pair_follows, pair_of-pair_bytes, read_back}

-- A byte of the pair of lane j + 1 may stand behind those of its pair, whatever stands before the pair.

bounds_in_pair : (lanes j : ℕ) (base front : List ℕ) → length base ≡ 8 + 32 * j → length front < 32 → bounds_after lanes (base ++ front) ≡ pair_bounds (j + 1) front
bounds_in_pair lanes j base front size few =
    let all : length (base ++ front) ≡ 8 + 32 * j + length front = length-append base front ∙ ap (λ n. n + length front) size in
    let place : (length (base ++ front) - 8) / 32 ≡ j = omega (arith, all, few) in
    let past : nat_lt (length (base ++ front)) 8 ≡ false = le-ltb (length (base ++ front)) 8 (omega (arith, all)) in
    let start : 32 * ((length (base ++ front) - 8) / 32) + 8 ≡ length base = omega (arith, place, size) in
    let rest : drop (32 * ((length (base ++ front) - 8) / 32) + 8) (base ++ front) ≡ front = ap (λ n. drop n (base ++ front)) start ∙ drop_at base front (length base) refl in
    ap (λ t. if t then only (slice_index (header lanes) (length (base ++ front))) else pair_bounds ((length (base ++ front) - 8) / 32 + 1) (drop (32 * ((length (base ++ front) - 8) / 32) + 8) (base ++ front))) past
    ∙ (λ k. pair_bounds (place k + 1) (rest k))

-- so bytes may stand there where they may in their pair, and the other way round
into_pair : (lanes j : ℕ) (base front xs : List ℕ) → length base ≡ 8 + 32 * j → length front + length xs ≤ 32 → Follows (bounds_after lanes) (base ++ front) xs ≡ Follows (pair_bounds (j + 1)) front xs
into_pair lanes j base front [] size few = refl
into_pair lanes j base front (x ∷ xs) size few =
    let here = bounds_in_pair lanes j base front size (omega arith) in
    let there : Follows (bounds_after lanes) (base ++ front ++ x ∷ []) xs ≡ Follows (pair_bounds (j + 1)) (front ++ x ∷ []) xs
    = ap (λ (f : List ℕ). Follows (bounds_after lanes) f xs) (append_assoc base front (x ∷ [])) ∙ into_pair lanes j base (front ++ x ∷ []) xs size (omega (arith, length-append front (x ∷ []))) in
    λ k. IsWithin (here k) x × there k

length-pair_bytes : (lane : ℕ) (pair : PairState) → length (pair_bytes lane pair) ≡ 32
length-pair_bytes lane pair = refl

pub length-pairs_bytes : (lane : ℕ) (pairs : List PairState) → length (pairs_bytes lane pairs) ≡ 32 * length pairs
length-pairs_bytes lane [] = refl
length-pairs_bytes lane (pair ∷ pairs) =
    let more = length-pairs_bytes (lane + 1) pairs in
    length-append (pair_bytes lane pair) (pairs_bytes (lane + 1) pairs) ∙ omega (arith, more)

-- A state's bytes may stand each behind those before it.

pairs_follow : (lanes j : ℕ) (base : List ℕ) (pairs : List PairState) → length base ≡ 8 + 32 * j → All IsPair pairs → Follows (bounds_after lanes) base (pairs_bytes (j + 1) pairs)
pairs_follow lanes j base [] size all = tt
pairs_follow lanes j base (pair ∷ pairs) size all =
    let bytes : List ℕ = pair_bytes (j + 1) pair in
    let here : Follows (bounds_after lanes) (base ++ []) bytes = subst (λ (X : Type 0). X) (sym (into_pair lanes j base [] bytes size (omega arith))) (pair_follows (j + 1) pair (all 0 pair (omega arith))) in
    let long : length (base ++ bytes) ≡ 8 + 32 * (j + 1) = length-append base bytes ∙ omega (arith, size) in
    follows_append (bounds_after lanes) base bytes (pairs_bytes (j + 1 + 1) pairs) (subst (λ (f : List ℕ). Follows (bounds_after lanes) f bytes) (append-nil base) here)
    (pairs_follow lanes (j + 1) (base ++ bytes) pairs long (λ k d there. all (suc k) d (omega arith)))

header_follows : (lanes : ℕ) → Follows (bounds_after lanes) [] (header lanes)
header_follows lanes =
    let h = λ (i : ℕ). one (slice_index (header lanes) i) in
    (h 0, (h 1, (h 2, (h 3, (h 4, (h 5, (h 6, (h 7, tt))))))))

image_follows : (lanes : ℕ) (image : Image) → IsImage lanes image → Follows (bounds_after lanes) [] (image_bytes image)
image_follows lanes image is =
    let all = follows_append (bounds_after lanes) [] (header lanes) (pairs_bytes 1 (pairs_of image)) (header_follows lanes) (pairs_follow lanes 0 (header lanes) (pairs_of image) refl is.pairs) in
    subst (λ n. Follows (bounds_after lanes) [] (header n ++ pairs_bytes 1 (pairs_of image))) (sym is.used) all

length-image_bytes : (lanes : ℕ) (image : Image) → IsImage lanes image → length (image_bytes image) ≡ image_size lanes
length-image_bytes lanes image is =
    let used = is.used in
    let few = is.few in
    let room = is.room in
    let count : length (pairs_of image) ≡ lanes = length-take-le image.used image.pairs (omega arith) ∙ used in
    length-append (header image.used) (pairs_bytes 1 (pairs_of image)) ∙ omega (arith, length-pairs_bytes 1 (pairs_of image), count)

-- Bytes that may stand so are those of a state.

all_cons : (pair : PairState) (pairs : List PairState) → IsPair pair → All IsPair pairs → All IsPair (pair ∷ pairs)
all_cons pair pairs first others zero d there = first
all_cons pair pairs first others (suc k) d there = others k d (omega arith)

pairs_read : (lanes j n : ℕ) (base w : List ℕ) → length base ≡ 8 + 32 * j → length w ≡ 32 * n → Follows (bounds_after lanes) base w → (pairs_bytes (j + 1) (pairs_in n w) ≡ w) × All IsPair (pairs_in n w)
pairs_read lanes j zero base [] size count all = (refl, λ k d there. absurd (omega arith))
pairs_read lanes j zero base (x ∷ w) size count all = absurd (omega arith)
pairs_read lanes j (suc n) base w size count all =
    let first : List ℕ = take 32 w in
    let rest : List ℕ = drop 32 w in
    let parts : Follows (bounds_after lanes) base (first ++ rest) = subst (λ (x : List ℕ). Follows (bounds_after lanes) base x) (sym (take-append-drop 32 w)) all in
    let long : length first ≡ 32 = length-take-le 32 w (omega (arith, count)) in
    let others : length rest ≡ 32 * n = length-drop 32 w ∙ omega (arith, count) in
    let here : Follows (bounds_after lanes) (base ++ []) first = subst (λ (f : List ℕ). Follows (bounds_after lanes) f first) (sym (append-nil base)) (follows_front (bounds_after lanes) base first rest parts) in
    let read = read_back (j + 1) first long (subst (λ (X : Type 0). X) (into_pair lanes j base [] first size (omega (arith, long))) here) in
    let next : length (base ++ first) ≡ 8 + 32 * (j + 1) = length-append base first ∙ omega (arith, size, long) in
    let more = pairs_read lanes (j + 1) n (base ++ first) rest next others (follows_rest (bounds_after lanes) base first rest parts) in
    ((λ k. read.back k ++ more.0 k) ∙ take-append-drop 32 w, all_cons (pair_of first) (pairs_in n rest) read.is more.1)

header_listed : (lanes : ℕ) (h : List ℕ) → Follows (bounds_after lanes) [] (listed 0 8 h) → header lanes ≡ listed 0 8 h
header_listed lanes h all =
    let at = λ (i : ℕ) (there : i < 8). follows_at (bounds_after lanes) [] (listed 0 8 h) i all there in
    let is = λ (i : ℕ). only_is (slice_index (header lanes) i) (slice_index h i) in
    λ k. is 0 (at 0 (omega arith)) k ∷ is 1 (at 1 (omega arith)) k ∷ is 2 (at 2 (omega arith)) k ∷ is 3 (at 3 (omega arith)) k
    ∷ is 4 (at 4 (omega arith)) k ∷ is 5 (at 5 (omega arith)) k ∷ is 6 (at 6 (omega arith)) k ∷ is 7 (at 7 (omega arith)) k ∷ []

header_read : (lanes : ℕ) (h : List ℕ) → length h ≡ 8 → Follows (bounds_after lanes) [] h → header lanes ≡ h
header_read lanes h size all =
    let is : h ≡ listed 0 8 h = drop-listed 0 8 h size in
    header_listed lanes h (subst (λ (x : List ℕ). Follows (bounds_after lanes) [] x) is all) ∙ sym is

-- the state of whole bytes
abbrev pub image_in : ℕ → List ℕ → Image
image_in lanes w = record { pairs = pairs_in lanes (drop 8 w) ++ replicate (8 - lanes) none; used = lanes }

length-pairs_in : (n : ℕ) (w : List ℕ) → length (pairs_in n w) ≡ n
length-pairs_in zero w = refl
length-pairs_in (suc n) w = ap suc (length-pairs_in n (drop 32 w))

pairs_of-image_in : (lanes : ℕ) (w : List ℕ) → pairs_of (image_in lanes w) ≡ pairs_in lanes (drop 8 w)
pairs_of-image_in lanes w = take_at (pairs_in lanes (drop 8 w)) (replicate (8 - lanes) none) lanes (length-pairs_in lanes (drop 8 w))

pub whole_read : (lanes : ℕ) (w : List ℕ) → lanes ≤ 8 → length w ≡ image_size lanes → Follows (bounds_after lanes) [] w → IsWhole lanes w (image_in lanes w)
whole_read lanes w few size all =
    let front : List ℕ = take 8 w in
    let rest : List ℕ = drop 8 w in
    let parts : Follows (bounds_after lanes) [] (front ++ rest) = subst (λ (x : List ℕ). Follows (bounds_after lanes) [] x) (sym (take-append-drop 8 w)) all in
    let eight : length front ≡ 8 = length-take-le 8 w (omega (arith, size)) in
    let others : length rest ≡ 32 * lanes = length-drop 8 w ∙ omega (arith, size) in
    let read = pairs_read lanes 0 lanes front rest eight others (follows_rest (bounds_after lanes) [] front rest parts) in
    let head = header_read lanes front eight (follows_front (bounds_after lanes) [] front rest parts) in
    let pairs = pairs_of-image_in lanes w in (
      record {
        used = refl;
        few = few;
        room = length-append (pairs_in lanes rest) (replicate (8 - lanes) none) ∙ omega (arith, length-pairs_in lanes rest, length-replicate (8 - lanes) none);
        pairs = subst (λ (ps : List PairState). All IsPair ps) (sym pairs) read.1;
        others = drop_at (pairs_in lanes rest) (replicate (8 - lanes) none) lanes (length-pairs_in lanes rest);
      },
      (λ k. head k ++ pairs_bytes 1 (pairs k)) ∙ ap (λ (x : List ℕ). front ++ x) read.0 ∙ take-append-drop 8 w,
    )

-- and it is the one state that has them
pairs_in-pairs_bytes : (lane : ℕ) (pairs : List PairState) → All IsPair pairs → pairs_in (length pairs) (pairs_bytes lane pairs) ≡ pairs
pairs_in-pairs_bytes lane [] all = refl
pairs_in-pairs_bytes lane (pair ∷ pairs) all =
    let bytes : List ℕ = pair_bytes lane pair in
    let rest : List ℕ = pairs_bytes (lane + 1) pairs in
    let first : pair_of (take 32 (bytes ++ rest)) ≡ pair = ap pair_of (take_at bytes rest 32 refl) ∙ pair_of-pair_bytes lane pair (all 0 pair (omega arith)) in
    let others : pairs_in (length pairs) (drop 32 (bytes ++ rest)) ≡ pairs = ap (pairs_in (length pairs)) (drop_at bytes rest 32 refl) ∙ pairs_in-pairs_bytes (lane + 1) pairs (λ k d there. all (suc k) d (omega arith)) in
    λ k. first k ∷ others k

pub whole_same : (lanes : ℕ) (w : List ℕ) (image : Image) → IsWhole lanes w image → image_in lanes w ≡ image
whole_same lanes w image is =
    let used = is.0.used in
    let few = is.0.few in
    let room = is.0.room in
    let count : length (pairs_of image) ≡ lanes = length-take-le image.used image.pairs (omega arith) ∙ used in
    let rest : drop 8 w ≡ pairs_bytes 1 (pairs_of image) = ap (drop 8) (sym is.1) in
    let pairs : pairs_in lanes (drop 8 w) ≡ pairs_of image = (λ k. pairs_in (sym count k) (rest k)) ∙ pairs_in-pairs_bytes 1 (pairs_of image) is.0.pairs in
    let others : replicate (8 - lanes) none ≡ drop image.used image.pairs = sym is.0.others ∙ ap (λ n. drop n image.pairs) (sym used) in
    let all : pairs_in lanes (drop 8 w) ++ replicate (8 - lanes) none ≡ image.pairs = (λ k. pairs k ++ others k) ∙ take-append-drop image.used image.pairs in
    λ k. record { pairs = all k; used = sym used k }

-- The bytes with which an image begins are those that may stand each behind those before it.

either_some : (b : Bool) (x y : Bounds) → x.low ≤ x.high → y.low ≤ y.high → (if b then x else y).low ≤ (if b then x else y).high
either_some true x y first second = first
either_some false x y first second = second

bounds_some : (lanes : ℕ) (f : List ℕ) → (bounds_after lanes f).low ≤ (bounds_after lanes f).high
bounds_some lanes f = either_some (nat_lt (length f) 8) _ _ (omega arith) (in_pair ((length f - 8) / 32 + 1) (drop (32 * ((length f - 8) / 32) + 8) f))
  where
    in_pair : (lane : ℕ) (f : List ℕ) → (pair_bounds lane f).low ≤ (pair_bounds lane f).high
    in_pair lane f =
        either_some (nat_lt (length f) 8) _ _ (omega arith) (either_some (nat_lt (length f) 16) _ _ (omega arith) (either_some (length f == 16) _ _ (omega arith) (
        either_some (length f == 18) _ _ (omega arith) (either_some (length f == 20) _ _ (omega arith) (either_some (length f == 22) _ _ (omega arith) (
        either_some (length f == 24) _ _ (omega arith) (either_some (length f == 26) _ _ (omega arith) (either_some (length f == 28) _ _ (omega arith) (omega arith)))))))))

pub begins : (lanes : ℕ) (b : List ℕ) → lanes ≤ 8 → length b ≤ image_size lanes → Follows (bounds_after lanes) [] b → Begins lanes b
begins lanes b few fits all =
    let more = goes_on (bounds_after lanes) (image_size lanes - length b) b (bounds_some lanes) in
    let w : List ℕ = b ++ more.rest in
    let size : length w ≡ image_size lanes = length-append b more.rest ∙ omega (arith, more.size, fits) in
    let whole = whole_read lanes w few size (follows_append (bounds_after lanes) [] b more.rest all more.follows) in
    record { image = image_in lanes w; is = whole.0; front = ap (take (length b)) whole.1 ∙ take_at b more.rest (length b) refl }

pub follows : (lanes : ℕ) (b : List ℕ) → Begins lanes b → Follows (bounds_after lanes) [] b
follows lanes b is =
    let w : List ℕ = image_bytes is.image in
    let all : Follows (bounds_after lanes) [] (take (length b) w ++ drop (length b) w)
    = subst (λ (x : List ℕ). Follows (bounds_after lanes) [] x) (sym (take-append-drop (length b) w)) (image_follows lanes is.image is.is) in
    subst (λ (x : List ℕ). Follows (bounds_after lanes) [] x) is.front (follows_front (bounds_after lanes) [] (take (length b) w) (drop (length b) w) all)

-- the last byte of bytes that may stand so
pub last_within : (lanes place : ℕ) (b : List ℕ) → place < length b → Begins lanes (take (place + 1) b) → IsWithin (bounds_after lanes (take place b)) (slice_index b place)
last_within lanes place b there is =
    let size : length (take (place + 1) b) ≡ place + 1 = length-take-le (place + 1) b (omega arith) in
    let last = follows_at (bounds_after lanes) [] (take (place + 1) b) place (follows lanes (take (place + 1) b) is) (omega (arith, size)) in
    let front : take place (take (place + 1) b) ≡ take place b = take-take place (place + 1) b (omega arith) in
    let byte : slice_index (take (place + 1) b) place ≡ slice_index b place = get_or-take (place + 1) b place 0 (omega arith) in
    subst (λ x. IsWithin (bounds_after lanes (take place b)) x) byte (subst (λ (f : List ℕ). IsWithin (bounds_after lanes f) (slice_index (take (place + 1) b) place)) front last)

-- and one byte more
pub one_more : (lanes place : ℕ) (b : List ℕ) → place < length b → Follows (bounds_after lanes) [] (take place b) → IsWithin (bounds_after lanes (take place b)) (slice_index b place)
    → Follows (bounds_after lanes) [] (take (place + 1) b)
one_more lanes place b there all within =
    subst (λ (x : List ℕ). Follows (bounds_after lanes) [] x) (sym (take_more b place 0 there))
    (follows_append (bounds_after lanes) [] (take place b) (slice_index b place ∷ []) all (within, tt))

-- no image has fewer bytes
pub whole_size : (lanes : ℕ) (w : List ℕ) (image : Image) → IsWhole lanes w image → length w ≡ image_size lanes
whole_size lanes w image is = ap length (sym is.1) ∙ length-image_bytes lanes image is.0

-- A pair more is written, and a pair more is read.

pairs_bytes-push : (lane : ℕ) (pairs : List PairState) (pair : PairState) → pairs_bytes lane (pairs ++ pair ∷ []) ≡ pairs_bytes lane pairs ++ pair_bytes (lane + length pairs) pair
pairs_bytes-push lane [] pair = append-nil (pair_bytes lane pair) ∙ ap (λ n. pair_bytes n pair) (sym (add-zero lane))
pairs_bytes-push lane (first ∷ pairs) pair =
    let moved : lane + 1 + length pairs ≡ lane + suc (length pairs) = omega arith in
    ap (λ (rest : List ℕ). pair_bytes lane first ++ rest) (pairs_bytes-push (lane + 1) pairs pair ∙ ap (λ n. pairs_bytes (lane + 1) pairs ++ pair_bytes n pair) moved)
    ∙ sym (append_assoc (pair_bytes lane first) (pairs_bytes (lane + 1) pairs) (pair_bytes (lane + suc (length pairs)) pair))

pub pair_written : (used place : ℕ) (pairs : List PairState) (d : PairState) (bytes old out new : List ℕ) → place < length pairs → bytes ≡ pair_bytes (place + 1) (slice_index_or pairs place d)
    → out ≡ header used ++ pairs_bytes 1 (take place pairs) ++ drop (8 + 32 * place) old
    → new ≡ take (8 + 32 * place) out ++ bytes ++ drop (8 + 32 * place + 32) out
    → new ≡ header used ++ pairs_bytes 1 (take (place + 1) pairs) ++ drop (8 + 32 * (place + 1)) old
pair_written used place pairs d bytes old out new there is was made =
    let before_it : List ℕ = pairs_bytes 1 (take place pairs) in
    let front : List ℕ = header used ++ before_it in
    let rest : List ℕ = drop (8 + 32 * place) old in
    let count : length (take place pairs) ≡ place = length-take-le place pairs (omega arith) in
    let size : length front ≡ 8 + 32 * place = length-append (header used) before_it ∙ omega (arith, length-pairs_bytes 1 (take place pairs), count) in
    let before : take (8 + 32 * place) out ≡ front = ap (take (8 + 32 * place)) was ∙ take_at front rest (8 + 32 * place) size in
    let end : 8 + 32 * place + 32 ≡ 8 + 32 * (place + 1) = omega arith in
    let behind : drop (8 + 32 * place + 32) out ≡ drop (8 + 32 * (place + 1)) old
    = sym (drop-drop 32 (8 + 32 * place) out) ∙ ap (drop 32) (ap (drop (8 + 32 * place)) was ∙ drop_at front rest (8 + 32 * place) size) ∙ drop-drop 32 (8 + 32 * place) old ∙ ap (λ n. drop n old) end in
    let number : 1 + length (take place pairs) ≡ place + 1 = omega (arith, count) in
    let more : pairs_bytes 1 (take (place + 1) pairs) ≡ before_it ++ bytes
    = ap (pairs_bytes 1) (take_more pairs place d there) ∙ pairs_bytes-push 1 (take place pairs) (slice_index_or pairs place d) ∙ ap (λ n. before_it ++ pair_bytes n (slice_index_or pairs place d)) number ∙ ap (λ (x : List ℕ). before_it ++ x) (sym is) in
    made ∙ (λ k. before k ++ bytes ++ behind k) ∙ ap (λ (x : List ℕ). x ++ drop (8 + 32 * (place + 1)) old) (append_assoc (header used) before_it bytes ∙ ap (λ (x : List ℕ). header used ++ x) (sym more))

pairs_in-push : (n : ℕ) (w : List ℕ) → pairs_in (suc n) w ≡ pairs_in n w ++ pair_of (take 32 (drop (32 * n) w)) ∷ []
pairs_in-push zero w = refl
pairs_in-push (suc n) w =
    let moved : 32 + 32 * n ≡ 32 * suc n = omega arith in
    ap (λ (ps : List PairState). pair_of (take 32 w) ∷ ps) (pairs_in-push n (drop 32 w) ∙ ap (λ (x : List ℕ). pairs_in n (drop 32 w) ++ pair_of (take 32 x) ∷ []) (drop-drop (32 * n) 32 w ∙ ap (λ m. drop m w) moved))

pub pair_read : (place : ℕ) (b : List ℕ) (pairs : List PairState) (pair : PairState) → place < 8 → pairs ≡ pairs_in place (drop 8 b) ++ replicate (8 - place) none → pair ≡ pair_of (take 32 (drop (8 + 32 * place) b))
    → slice_set pairs place pair ≡ pairs_in (place + 1) (drop 8 b) ++ replicate (8 - (place + 1)) none
pair_read place b pairs pair there was is =
    let front : List PairState = pairs_in place (drop 8 b) in
    let rest : List PairState = replicate (8 - (place + 1)) none in
    let left : 8 - place ≡ suc (8 - (place + 1)) = omega arith in
    let room : pairs ≡ front ++ none ∷ rest = was ∙ ap (λ n. front ++ replicate n none) left in
    let at : place ≡ length front = sym (length-pairs_in place (drop 8 b)) in
    let one_more : pairs_in (place + 1) (drop 8 b) ≡ front ++ pair ∷ []
    = ap (λ n. pairs_in n (drop 8 b)) (add-one place) ∙ pairs_in-push place (drop 8 b) ∙ ap (λ (p : PairState). front ++ p ∷ []) (ap (λ (x : List ℕ). pair_of (take 32 x)) (drop-drop (32 * place) 8 b) ∙ sym is) in
    (λ k. slice_set (room k) (at k) pair) ∙ set_seam front none rest pair ∙ sym (append_assoc front (pair ∷ []) rest) ∙ ap (λ (ps : List PairState). ps ++ rest) (sym one_more)
  where
    set_seam : (xs : List PairState) (x : PairState) (ys : List PairState) (y : PairState) → slice_set (xs ++ x ∷ ys) (length xs) y ≡ xs ++ y ∷ ys
    set_seam [] x ys y = refl
    set_seam (z ∷ xs) x ys y = ap (λ (ps : List PairState). z ∷ ps) (set_seam xs x ys y)

-- A part that no image goes on with.
pub bad_part : (lanes offset fed place : ℕ) (old new part : List ℕ) → (offset ≡ 0) ⊎ (offset ≡ fed) → fed ≤ length old → offset + length part ≤ image_size lanes
    → new ≡ take offset old ++ part ++ drop (offset + length part) old → IsFirstBad lanes (take (offset + length part) new) place
    → Feeds offset part (Err (BadImage place)) (record { lanes = lanes; bytes = take fed old }) (record { lanes = lanes; bytes = take offset new })
bad_part lanes offset fed place old new part next fits short made bad =
    let front : List ℕ = take offset old in
    let rest : List ℕ = drop (offset + length part) old in
    let kept_is : front ≡ kept offset (take fed old) = kept_front offset fed old next in
    let size : length front ≡ offset = length-take-le offset old (omega (arith, next, fits)) in
    let all : take (offset + length part) new ≡ kept offset (take fed old) ++ part
    = ap (take (offset + length part)) made ∙ take_at (front ++ part) rest (offset + length part) (length-append front part ∙ ap (λ n. n + length part) size) ∙ ap (λ (x : List ℕ). x ++ part) kept_is in
    let before : take offset new ≡ kept offset (take fed old)
    = ap (take offset) (made ∙ append_assoc front part rest) ∙ take_at front (part ++ rest) offset size ∙ kept_is in
    (ap length (sym kept_is) ∙ size, short, subst (λ (b : List ℕ). IsFirstBad lanes b place) all bad, λ k. record { lanes = lanes; bytes = before k })
  where
    kept_front : (offset fed : ℕ) (old : List ℕ) → (offset ≡ 0) ⊎ (offset ≡ fed) → take offset old ≡ kept offset (take fed old)
    kept_front zero fed old next = refl
    kept_front (suc n) fed old next =
        let same : suc n ≡ fed = omega (arith, next) in
        ap (λ m. take m old) same ∙ sym (ap (λ (b : Bool). cond b [] (take fed old)) (ne_eqb (suc n) 0 (λ e. absurd (omega (arith, e)))))

-- A part of an image that follows is taken.
pub image_taken : ImageIsTaken
image_taken lanes offset image part (Ok x) old new is of_lanes follows all fed = (refl, fed.1)
image_taken lanes offset image part (Err BadSequence) old new is of_lanes follows all fed = absurd (fed.0 follows)
image_taken lanes offset image part (Err TooLong) old new is of_lanes follows all fed =
    let fed_size : length (take (offset + length part) (image_bytes image)) ≡ offset + length part = ap length all ∙ length-append (kept offset old.bytes) part ∙ ap (λ n. n + length part) follows in
    let most = length-take (offset + length part) (image_bytes image) in
    let size = length-image_bytes lanes image is in
    let long = fed.1 in
    absurd (omega (arith, fed_size, most, size, long, of_lanes))
image_taken lanes offset image part (Err (BadImage place)) old new is of_lanes follows all fed =
    let w : List ℕ = kept offset old.bytes ++ part in
    let bad = fed.2 in
    let there = bad.there in
    let long : length (take (place + 1) w) ≡ place + 1 = length-take-le (place + 1) w (omega arith) in
    let fed_size : length w ≡ offset + length part = length-append (kept offset old.bytes) part ∙ ap (λ n. n + length part) follows in
    let front : take (length (take (place + 1) w)) (image_bytes image) ≡ take (place + 1) w
    = ap (λ n. take n (image_bytes image)) long ∙ sym (take-take (place + 1) (offset + length part) (image_bytes image) (omega (arith, fed_size, there))) ∙ ap (take (place + 1)) all in
    absurd (bad.no_more (record { image = image; is = subst (λ n. IsImage n image) (sym of_lanes) is; front = front }))
