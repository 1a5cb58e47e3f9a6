use Rattle.std.specs.List.{flat_map}
use Rattle.sha2.specs.Sha256.{sha256}
use Rattle.std.proofs.Common.{◌≡◌, ℕ, zero, suc, ◌+◌, ◌-◌, ◌*◌, ◌<◌, ◌≤◌, List, [], ◌∷◌, ◌++◌, Some, length, take, drop, get_or, set, refl, sym, ap, subst, ◌∙◌, arith}
use Rattle.std.proofs.lemmas.List.{length-set, get_or_append_left, get_or-append_right, set-append_left, set-append_right, get_or-set_same, set-set, set-get_or, drop_at, drop-drop, drop-append-le, take-append-le, length-drop}
use Rattle.std.proofs.lemmas.List.Elements.{All-head, All-tail, All-set}
use Rattle.nvm_values.specs.declared.op.Op.{Op}
use Rattle.nvm_values.specs.declared.op.Op.TheVariants.{Flush, Write, Read, Compare, WriteZeroes, Verify}
use Rattle.nvm_model.specs.declared.command.Outcome.{Outcome}
use Rattle.nvm_model.specs.declared.command.Outcome.TheVariants.{Done, Faulted, Differs}
use Rattle.nvm_model.specs.declared.command.Pages.{Pages}
use Rattle.nvm_model.specs.declared.piece.Piece.{Piece}
use Rattle.nvm_model.specs.declared.piece.PieceResult.{PieceResult}
use Rattle.nvm_model.specs.Memory.{zero_block, with_bytes}
use Rattle.nvm_model.specs.Piece.{OutcomeFits, ComparesTo, MovesTo, block_at, bytes_of, data_block, put_blocks, read_blocks, page_of, place_of, done_blocks, blocks_after, memory_after, digest_after}
use Rattle.nvm_model.specs.Shelf.{HasEffect, all_blocks, AreShelves, shelf_at, PieceIsLocal, digest_bytes}

-- puts leave the number of blocks
pub length-put_blocks : (content : ℕ → List ℕ) (first n : ℕ) (blocks : List (List ℕ)) → length (put_blocks content first n blocks) ≡ length blocks
length-put_blocks content first zero blocks = refl
length-put_blocks content first (suc n) blocks = length-set (put_blocks content first n blocks) (first + n) (content n) ∙ length-put_blocks content first n blocks

-- a place in the shelf after the first is that place past the first shelf's blocks
next_place : (size i b : ℕ) → suc i * size + b ≡ size + (i * size + b)
next_place size i b = omega arith

first_place : (size b : ℕ) → 0 * size + b ≡ b
first_place size b = omega arith

past_place : (size r : ℕ) → size + r - size ≡ r
past_place size r = omega arith

-- a block past the first shelf's is one of the other shelves'
at_others : (size i b : ℕ) (s : List (List ℕ)) (rest : List (List ℕ)) → length s ≡ size → get_or (s ++ rest) (suc i * size + b) [] ≡ get_or rest (i * size + b) []
at_others size i b s rest h =
    ap (λ (k : ℕ). get_or (s ++ rest) k []) (next_place size i b)
    ∙ get_or-append_right s rest size (size + (i * size + b)) [] h (omega arith)
    ∙ ap (λ (k : ℕ). get_or rest k []) (past_place size (i * size + b))

set_others : (size i b : ℕ) (s : List (List ℕ)) (rest : List (List ℕ)) (x : List ℕ) → length s ≡ size → set (s ++ rest) (suc i * size + b) x ≡ s ++ set rest (i * size + b) x
set_others size i b s rest x h =
    ap (λ (k : ℕ). set (s ++ rest) k x) (next_place size i b)
    ∙ set-append_right s rest size (size + (i * size + b)) x h (omega arith)
    ∙ ap (λ (k : ℕ). s ++ set rest k x) (past_place size (i * size + b))

drop_others : (size i b : ℕ) (s : List (List ℕ)) (rest : List (List ℕ)) → length s ≡ size → drop (suc i * size + b) (s ++ rest) ≡ drop (i * size + b) rest
drop_others size i b s rest h =
    ap (λ (k : ℕ). drop k (s ++ rest)) (next_place size i b)
    ∙ sym (drop-drop (i * size + b) size (s ++ rest))
    ∙ ap (drop (i * size + b)) (drop_at s rest size h)

abbrev has_size : ℕ → List (List ℕ) → Type 0
has_size size shelf = length shelf ≡ size

-- a block of a shelf is that block of the namespace
pub block_of_shelf : (size i b : ℕ) (shelves : List (List (List ℕ))) → AreShelves size shelves → i < length shelves → b < size →
    block_at (all_blocks shelves) (i * size + b) ≡ block_at (shelf_at shelves i) b
block_of_shelf size i b [] h there within = absurd (omega arith)
block_of_shelf size zero b (s ∷ rest) h there within =
    ap (block_at (s ++ all_blocks rest)) (first_place size b)
    ∙ get_or_append_left s (all_blocks rest) [] b (omega (arith, All-head (has_size size) s rest h))
block_of_shelf size (suc i) b (s ∷ rest) h there within =
    at_others size i b s (all_blocks rest) (All-head (has_size size) s rest h)
    ∙ block_of_shelf size i b rest (All-tail (has_size size) s rest h) (omega arith) within

-- setting a block of the namespace is setting it in its shelf
pub set_in_shelf : (size i b : ℕ) (shelves : List (List (List ℕ))) (x : List ℕ) → AreShelves size shelves → i < length shelves → b < size →
    set (all_blocks shelves) (i * size + b) x ≡ all_blocks (set shelves i (set (shelf_at shelves i) b x))
set_in_shelf size i b [] x h there within = absurd (omega arith)
set_in_shelf size zero b (s ∷ rest) x h there within =
    ap (λ (k : ℕ). set (s ++ all_blocks rest) k x) (first_place size b)
    ∙ set-append_left s (all_blocks rest) b x (omega (arith, All-head (has_size size) s rest h))
set_in_shelf size (suc i) b (s ∷ rest) x h there within =
    set_others size i b s (all_blocks rest) x (All-head (has_size size) s rest h)
    ∙ ap (λ (blocks : List (List ℕ)). s ++ blocks) (set_in_shelf size i b rest x (All-tail (has_size size) s rest h) (omega arith) within)

-- blocks that lie in one shelf are those of the namespace
pub range_of_shelf : (size i f n : ℕ) (shelves : List (List (List ℕ))) → AreShelves size shelves → i < length shelves → f + n ≤ size →
    take n (drop (i * size + f) (all_blocks shelves)) ≡ take n (drop f (shelf_at shelves i))
range_of_shelf size i f n [] h there within = absurd (omega arith)
range_of_shelf size zero f n (s ∷ rest) h there within =
    let sized : length s ≡ size = All-head (has_size size) s rest h in
    let few : f ≤ length s = omega arith in
    let left : n ≤ length (drop f s) = simp length-drop (omega arith) in
    ap (λ (k : ℕ). take n (drop k (s ++ all_blocks rest))) (first_place size f)
    ∙ ap (take n) (drop-append-le f s (all_blocks rest) few) ∙ take-append-le n (drop f s) (all_blocks rest) left
range_of_shelf size (suc i) f n (s ∷ rest) h there within =
    ap (take n) (drop_others size i f s (all_blocks rest) (All-head (has_size size) s rest h))
    ∙ range_of_shelf size i f n rest (All-tail (has_size size) s rest h) (omega arith) within

size_of_shelf : (size i : ℕ) (shelves : List (List (List ℕ))) → AreShelves size shelves → i < length shelves → length (shelf_at shelves i) ≡ size
size_of_shelf size i shelves h there = h i [] there

sum_place : (a f n : ℕ) → a + f + n ≡ a + (f + n)
sum_place a f n = omega arith

-- puts into one shelf
pub puts_in_shelf : (content : ℕ → List ℕ) (size i f n : ℕ) (shelves : List (List (List ℕ))) → AreShelves size shelves → i < length shelves → f + n ≤ size →
    put_blocks content (i * size + f) n (all_blocks shelves) ≡ all_blocks (set shelves i (put_blocks content f n (shelf_at shelves i)))
puts_in_shelf content size i f zero shelves h there within = ap all_blocks (sym (set-get_or shelves i []))
puts_in_shelf content size i f (suc n) shelves h there within =
    let before : List (List ℕ) = put_blocks content f n (shelf_at shelves i) in
    let sized : length before ≡ size = length-put_blocks content f n (shelf_at shelves i) ∙ size_of_shelf size i shelves h there in
    let there_too : i < length (set shelves i before) = simp length-set (omega arith) in
    ap (λ (blocks : List (List ℕ)). set blocks (i * size + f + n) (content n)) (puts_in_shelf content size i f n shelves h there (omega arith))
    ∙ ap (λ (k : ℕ). set (all_blocks (set shelves i before)) k (content n)) (sum_place (i * size) f n)
    ∙ set_in_shelf size i (f + n) (set shelves i before) (content n) (All-set (has_size size) shelves i before sized h) there_too (omega arith)
    ∙ ap (λ (shelf : List (List ℕ)). all_blocks (set (set shelves i before) i (set shelf (f + n) (content n)))) (get_or-set_same shelves i before [] there)
    ∙ ap all_blocks (set-set shelves i before (set before (f + n) (content n)))

-- reads out of one shelf
pub reads_of_shelf : (size i f at n : ℕ) (shelves : List (List (List ℕ))) (pages : Pages) (memory : List (List ℕ)) → AreShelves size shelves → i < length shelves → f + n ≤ size →
    read_blocks (all_blocks shelves) pages (i * size + f) at n memory ≡ read_blocks (shelf_at shelves i) pages f at n memory
reads_of_shelf size i f at zero shelves pages memory h there within = refl
reads_of_shelf size i f at (suc n) shelves pages memory h there within =
    let before : List (List ℕ) = read_blocks (shelf_at shelves i) pages f at n memory in
    ap (λ (m : List (List ℕ)). with_bytes m (page_of pages (at + n)) (place_of (at + n)) (block_at (all_blocks shelves) (i * size + f + n)))
    (reads_of_shelf size i f at n shelves pages memory h there (omega arith))
    ∙ ap (λ (b : List ℕ). with_bytes before (page_of pages (at + n)) (place_of (at + n)) b)
    (ap (block_at (all_blocks shelves)) (sum_place (i * size) f n) ∙ block_of_shelf size i (f + n) shelves h there (omega arith))

-- which outcomes fit, where the same blocks equal their memory

moves_within : (count : ℕ) (o : Outcome) → MovesTo count o → done_blocks count o ≤ count
moves_within count Done h = omega arith
moves_within count (Faulted at) h = omega arith
moves_within count (Differs at) h = absurd h

compares_within : (same : ℕ → Type 0) (count : ℕ) (o : Outcome) → ComparesTo same count o → done_blocks count o ≤ count
compares_within same count Done h = omega arith
compares_within same count (Faulted at) h = omega (arith, h.0)
compares_within same count (Differs at) h = omega (arith, h.0)

-- the done blocks are blocks of the piece
pub done_within : (op : Op) (same : ℕ → Type 0) (count : ℕ) (o : Outcome) → OutcomeFits op same count o → done_blocks count o ≤ count
done_within Compare same count o h = compares_within same count o h
done_within Write same count o h = moves_within count o h
done_within Read same count o h = moves_within count o h
done_within WriteZeroes same count o h = moves_within count o h
done_within Verify same count o h = moves_within count o h
done_within Flush same count o h = absurd h

same_compare : (P Q : ℕ → Type 0) (count : ℕ) (o : Outcome) → ((j : ℕ) → j < count → P j → Q j) → ((j : ℕ) → j < count → Q j → P j) → ComparesTo P count o → ComparesTo Q count o
same_compare P Q count Done f g h = λ j l. f j l (h j l)
same_compare P Q count (Faulted at) f g h = (h.0, λ j l. f j (omega (arith, h.0)) (h.1 j l))
same_compare P Q count (Differs at) f g h = (h.0, (λ j l. f j (omega (arith, h.0)) (h.1 j l)), λ q. h.2 (g at h.0 q))

pub same_fits : (op : Op) (P Q : ℕ → Type 0) (count : ℕ) (o : Outcome) → ((j : ℕ) → j < count → P j → Q j) → ((j : ℕ) → j < count → Q j → P j) → OutcomeFits op P count o → OutcomeFits op Q count o
same_fits Compare P Q count o f g h = same_compare P Q count o f g h
same_fits Write P Q count o f g h = h
same_fits Read P Q count o f g h = h
same_fits WriteZeroes P Q count o f g h = h
same_fits Verify P Q count o f g h = h
same_fits Flush P Q count o f g h = h

-- the namespace, the memory and the digest after n blocks of a piece in shelf i, from block f of it on

same_shelf : (i : ℕ) (shelves : List (List (List ℕ))) (new : List (List ℕ)) → new ≡ shelf_at shelves i → all_blocks (set shelves i new) ≡ all_blocks shelves
same_shelf i shelves new h = ap (λ (s : List (List ℕ)). all_blocks (set shelves i s)) h ∙ ap all_blocks (set-get_or shelves i [])

put_shelf : (content : ℕ → List ℕ) (size i f n : ℕ) (shelves : List (List (List ℕ))) (new : List (List ℕ)) → AreShelves size shelves → i < length shelves → f + n ≤ size →
    new ≡ put_blocks content f n (shelf_at shelves i) → all_blocks (set shelves i new) ≡ put_blocks content (i * size + f) n (all_blocks shelves)
put_shelf content size i f n shelves new h there within new_is =
    ap (λ (s : List (List ℕ)). all_blocks (set shelves i s)) new_is ∙ sym (puts_in_shelf content size i f n shelves h there within)

blocks_local : (op : Op) (pages : Pages) (size i f at n : ℕ) (memory : List (List ℕ)) (shelves : List (List (List ℕ))) (new : List (List ℕ)) → AreShelves size shelves → i < length shelves → f + n ≤ size →
    new ≡ blocks_after op pages f at n memory (shelf_at shelves i) → all_blocks (set shelves i new) ≡ blocks_after op pages (i * size + f) at n memory (all_blocks shelves)
blocks_local Write pages size i f at n memory shelves new h there within new_is = put_shelf (λ j. data_block memory pages (at + j)) size i f n shelves new h there within new_is
blocks_local WriteZeroes pages size i f at n memory shelves new h there within new_is = put_shelf (λ _. zero_block) size i f n shelves new h there within new_is
blocks_local Read pages size i f at n memory shelves new h there within new_is = same_shelf i shelves new new_is
blocks_local Compare pages size i f at n memory shelves new h there within new_is = same_shelf i shelves new new_is
blocks_local Verify pages size i f at n memory shelves new h there within new_is = same_shelf i shelves new new_is
blocks_local Flush pages size i f at n memory shelves new h there within new_is = same_shelf i shelves new new_is

memory_local : (op : Op) (pages : Pages) (size i f at n : ℕ) (memory : List (List ℕ)) (shelves : List (List (List ℕ))) → AreShelves size shelves → i < length shelves → f + n ≤ size →
    memory_after op pages f at n memory (shelf_at shelves i) ≡ memory_after op pages (i * size + f) at n memory (all_blocks shelves)
memory_local Read pages size i f at n memory shelves h there within = sym (reads_of_shelf size i f at n shelves pages memory h there within)
memory_local Write pages size i f at n memory shelves h there within = refl
memory_local WriteZeroes pages size i f at n memory shelves h there within = refl
memory_local Compare pages size i f at n memory shelves h there within = refl
memory_local Verify pages size i f at n memory shelves h there within = refl
memory_local Flush pages size i f at n memory shelves h there within = refl

bytes_local : (size i f n : ℕ) (shelves : List (List (List ℕ))) → AreShelves size shelves → i < length shelves → f + n ≤ size →
    bytes_of f n (shelf_at shelves i) ≡ bytes_of (i * size + f) n (all_blocks shelves)
bytes_local size i f n shelves h there within = ap (flat_map (λ (b : List ℕ). b)) (sym (range_of_shelf size i f n shelves h there within))

digest_local : (op : Op) (size i f n : ℕ) (shelves : List (List (List ℕ))) → AreShelves size shelves → i < length shelves → f + n ≤ size →
    digest_after op f n (shelf_at shelves i) ≡ digest_after op (i * size + f) n (all_blocks shelves)
digest_local Read size i f n shelves h there within = ap (λ (bytes : List ℕ). Some (sha256 bytes)) (bytes_local size i f n shelves h there within)
digest_local Write size i f n shelves h there within = refl
digest_local WriteZeroes size i f n shelves h there within = refl
digest_local Compare size i f n shelves h there within = refl
digest_local Verify size i f n shelves h there within = refl
digest_local Flush size i f n shelves h there within = refl

block_of_piece : (size i f j count : ℕ) (shelves : List (List (List ℕ))) → AreShelves size shelves → i < length shelves → f + count ≤ size → j < count →
    block_at (all_blocks shelves) (i * size + f + j) ≡ block_at (shelf_at shelves i) (f + j)
block_of_piece size i f j count shelves h there within l =
    ap (block_at (all_blocks shelves)) (sum_place (i * size) f j) ∙ block_of_shelf size i (f + j) shelves h there (omega arith)

-- the effect on block f of shelf i and after is that on the namespace
pub effect_local : (piece : Piece) (result : PieceResult) (size i f : ℕ) (shelves : List (List (List ℕ))) (memory new_shelf new_memory : List (List ℕ)) →
    AreShelves size shelves → i < length shelves → f + piece.span.count ≤ size → HasEffect piece f result (shelf_at shelves i) memory new_shelf new_memory →
    HasEffect piece (i * size + f) result (all_blocks shelves) memory (all_blocks (set shelves i new_shelf)) new_memory
effect_local piece result size i f shelves memory new_shelf new_memory h there within e =
    let count = piece.span.count in
    let n = done_blocks count result.outcome in
    let few : n ≤ count = done_within piece.op _ count result.outcome e.fits in
    let done : f + n ≤ size = omega arith in
    record {
      fits = same_fits piece.op _ _ count result.outcome
          (λ j l same. block_of_piece size i f j count shelves h there within l ∙ same)
          (λ j l same. sym (block_of_piece size i f j count shelves h there within l) ∙ same)
          e.fits;
      digest_is = e.digest_is ∙ ap digest_bytes (digest_local piece.op size i f n shelves h there done);
      blocks_is = blocks_local piece.op piece.pages size i f piece.at n memory shelves new_shelf h there done e.blocks_is;
      memory_is = e.memory_is ∙ memory_local piece.op piece.pages size i f piece.at n memory shelves h there done;
    }

pub is_local : PieceIsLocal
is_local piece result size i shelves memory new_shelf new_memory h there lies e =
    let place : i * size + (piece.span.first - i * size) ≡ piece.span.first = omega (arith, lies.0) in
    let within : piece.span.first - i * size + piece.span.count ≤ size = omega (arith, lies.0, lies.1) in
    subst (λ (first : ℕ). HasEffect piece first result (all_blocks shelves) memory (all_blocks (set shelves i new_shelf)) new_memory) place
    (effect_local piece result size i (piece.span.first - i * size) shelves memory new_shelf new_memory h there within e)
