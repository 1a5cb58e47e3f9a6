use Rattle.std.specs.List.{flat_map}
use Rattle.sha2.specs.Sha256.{sha256}
use Rattle.std.proofs.Common.{◌≡◌, ℕ, zero, suc, ◌+◌, ◌<◌, ◌≤◌, true, List, [], ◌∷◌, ◌++◌, Some, length, take, drop, get_or, set, refl, sym, ap, subst, ◌∙◌, arith}
use Rattle.std.proofs.lemmas.List.{append-nil, flat_map_more, get_or-drop, length-drop, take_more}
use Rattle.nvm_values.specs.declared.op.Op.{Op}
use Rattle.nvm_values.specs.declared.op.Op.TheVariants.{Flush, Write, Read, Compare, WriteZeroes, Verify}
use Rattle.nvm_model.specs.declared.command.Outcome.{Outcome}
use Rattle.nvm_model.specs.declared.command.Outcome.TheVariants.{Done, Faulted, Differs}
use Rattle.nvm_model.specs.declared.command.Pages.{Pages}
use Rattle.nvm_model.specs.declared.piece.Piece.{Piece}
use Rattle.nvm_model.specs.declared.piece.PieceResult.{PieceResult}
use Rattle.nvm_model.specs.declared.trace.Step.TheVariants.{Get, Put}
use Rattle.nvm_model.specs.Chain.{Chain}
use Rattle.nvm_model.specs.Medium.{Effect}
use Rattle.nvm_model.specs.declared.trace.Call.{Call}
use Rattle.nvm_model.specs.Memory.{zero_block, with_bytes}
use Rattle.nvm_model.specs.Piece.{OutcomeFits, ComparesTo, MovesTo, block_at, blocks_after, bytes_of, data_block, digest_after, done_blocks, memory_after, page_of, place_of, put_blocks, read_blocks}
use Rattle.nvm_model.specs.Shelf.{HasEffect, digest_bytes}
use Rattle.nvm_model.specs.Trace.{AreDue, Carries, IsPieceDone, good_calls, moved_count, piece_calls, step_of}

-- A piece's calls have the effect that the model gives it on the blocks.

abbrev Blocks : Type 0
Blocks = List (List ℕ)

-- Gets and puts, one for each block.

next_block : (first i : ℕ) → first + 1 + i ≡ first + suc i
next_block first i = omega arith

here : (first : ℕ) → first ≡ first + 0
here first = omega arith

-- block i of the piece is there, and was moved
abbrev IsHere : ℕ → Blocks → Blocks → ℕ → Type 0
IsHere first moved blocks i = (first + i < length blocks) × (block_at moved i ≡ block_at blocks (first + i))

one_here : (first : ℕ) (b : List ℕ) (moved x : Blocks) → first < length x → b ≡ block_at x first → ((i : ℕ) → i < length moved → IsHere (first + 1) moved x i) →
    (i : ℕ) → i < length (b ∷ moved) → IsHere first (b ∷ moved) x i
one_here first b moved x there is rest zero l = (omega arith, is ∙ ap (block_at x) (here first))
one_here first b moved x there is rest (suc i) l =
    let r = rest i (omega arith) in
    (omega (arith, r.0), r.1 ∙ ap (block_at x) (next_block first i))

-- gets leave the blocks, and give those that are there
gets : (first : ℕ) (moved x y : Blocks) → Chain Effect x (good_calls (λ b. Get b) first moved) y → (y ≡ x) × ((i : ℕ) → i < length moved → IsHere first moved x i)
gets first [] x y c = (c, λ i l. absurd (omega (arith, l)))
gets first (b ∷ moved) x y c =
    let rest = gets (first + 1) moved c.0 y c.2 in
    let same : c.0 ≡ x = c.1.new_is in
    (rest.0 ∙ same, one_here first b moved x c.1.there c.1.gives (subst (λ z. (i : ℕ) → i < length moved → IsHere (first + 1) moved z i) same rest.1))

-- the first put of several, and the others
put_first : (content : ℕ → List ℕ) (first n : ℕ) (blocks : Blocks) → put_blocks content first (suc n) blocks ≡ put_blocks (λ i. content (suc i)) (first + 1) n (set blocks first (content 0))
put_first content first zero blocks = ap (λ (k : ℕ). set blocks k (content 0)) (sym (here first))
put_first content first (suc n) blocks =
    ap (λ (x : Blocks). set x (first + suc n) (content (suc n))) (put_first content first n blocks)
    ∙ ap (λ (k : ℕ). set (put_blocks (λ i. content (suc i)) (first + 1) n (set blocks first (content 0))) k (content (suc n))) (sym (next_block first n))

puts : (first : ℕ) (moved x y : Blocks) → Chain Effect x (good_calls (λ b. Put b) first moved) y → y ≡ put_blocks (block_at moved) first (length moved) x
puts first [] x y c = c
puts first (b ∷ moved) x y c =
    puts (first + 1) moved c.0 y c.2
    ∙ ap (put_blocks (block_at moved) (first + 1) (length moved)) c.1.new_is
    ∙ sym (put_first (block_at (b ∷ moved)) first (length moved) x)

-- the same blocks put
put_same : (f g : ℕ → List ℕ) (first n : ℕ) (blocks : Blocks) → ((i : ℕ) → i < n → f i ≡ g i) → put_blocks f first n blocks ≡ put_blocks g first n blocks
put_same f g first zero blocks same = refl
put_same f g first (suc n) blocks same =
    ap (λ (x : Blocks). set x (first + n) (f n)) (put_same f g first n blocks (λ i l. same i (omega arith)))
    ∙ ap (λ (b : List ℕ). set (put_blocks g first n blocks) (first + n) b) (same n (omega arith))

-- the same blocks read
pub read_same : (old new : Blocks) (pages : Pages) (first other at n : ℕ) (memory : Blocks) → ((i : ℕ) → i < n → block_at old (first + i) ≡ block_at new (other + i)) →
    read_blocks old pages first at n memory ≡ read_blocks new pages other at n memory
read_same old new pages first other at zero memory same = refl
read_same old new pages first other at (suc n) memory same =
    ap (λ (x : Blocks). with_bytes x (page_of pages (at + n)) (place_of (at + n)) (block_at old (first + n))) (read_same old new pages first other at n memory (λ i l. same i (omega arith)))
    ∙ ap (λ (b : List ℕ). with_bytes (read_blocks new pages other at n memory) (page_of pages (at + n)) (place_of (at + n)) b) (same n (omega arith))

-- the bytes of one more block
bytes_more : (first n : ℕ) (blocks : Blocks) → first + n < length blocks → bytes_of first (n + 1) blocks ≡ bytes_of first n blocks ++ block_at blocks (first + n)
bytes_more first n blocks h =
    let there : n < length (drop first blocks) = simp length-drop (omega arith) in
    ap (flat_map (λ (b : List ℕ). b)) (take_more (drop first blocks) n [] there)
    ∙ sym (flat_map_more (λ (b : List ℕ). b) [] (take n (drop first blocks)) (get_or (drop first blocks) n []))
    ∙ ap (λ (b : List ℕ). flat_map (λ (x : List ℕ). x) (take n (drop first blocks)) ++ b) (get_or-drop first blocks n [])

bytes_same : (old new : Blocks) (first other n : ℕ) → ((i : ℕ) → i < n → (first + i < length old) × (other + i < length new) × (block_at old (first + i) ≡ block_at new (other + i))) →
    bytes_of first n old ≡ bytes_of other n new
bytes_same old new first other zero same = refl
bytes_same old new first other (suc n) same =
    let last = same n (omega arith) in
    let more : n + 1 ≡ suc n = omega arith in
    subst (λ (k : ℕ). bytes_of first k old ≡ bytes_of other k new) more (bytes_more first n old last.0
    ∙ ap (λ (bytes : List ℕ). bytes ++ block_at old (first + n)) (bytes_same old new first other n (λ i l. same i (omega arith)))
    ∙ ap (λ (b : List ℕ). bytes_of other n new ++ b) last.2
    ∙ sym (bytes_more other n new last.1))

-- The calls of a piece.

split : (x : Blocks) (front back : List Call) (z : Blocks) → Chain Effect x (front ++ back) z → (y : Blocks) × Chain Effect x front y × Chain Effect y back z
split x [] back z c = (x, refl, c)
split x (a ∷ front) back z c =
    let rest = split c.0 front back z c.2 in
    (rest.0, (c.0, c.1, rest.1), rest.2)

failed_keeps : (op : Op) (b : ℕ) (bytes : List ℕ) (x y : Blocks) → Effect x (record { step = step_of op b; bytes = bytes; failed = true }) y → y ≡ x
failed_keeps Write b bytes x y e = e.new_is
failed_keeps WriteZeroes b bytes x y e = e.new_is
failed_keeps Read b bytes x y e = e.new_is
failed_keeps Compare b bytes x y e = e.new_is
failed_keeps Verify b bytes x y e = e.new_is
failed_keeps Flush b bytes x y e = e.new_is

-- the call that failed did nothing
good_ones : (piece : Piece) (first : ℕ) (memory moved : Blocks) (outcome : Outcome) (x y : Blocks) → Chain Effect x (piece_calls piece first memory moved outcome) y → Chain Effect x (good_calls (step_of piece.op) first moved) y
good_ones piece first memory moved Done x y c = subst (λ calls. Chain Effect x calls y) (append-nil (good_calls (step_of piece.op) first moved)) c
good_ones piece first memory moved (Differs at) x y c = subst (λ calls. Chain Effect x calls y) (append-nil (good_calls (step_of piece.op) first moved)) c
good_ones piece first memory moved (Faulted at) x y c =
    let s = split x (good_calls (step_of piece.op) first moved) _ y c in
    let last = s.2 in
    subst (λ z. Chain Effect x (good_calls (step_of piece.op) first moved) z) (sym (last.2 ∙ failed_keeps piece.op (first + at) _ s.0 last.0 last.1)) s.1

-- Field by field of the effect.

done_moved : (count : ℕ) (outcome : Outcome) → done_blocks count outcome ≤ moved_count count outcome
done_moved count Done = omega arith
done_moved count (Faulted at) = omega arith
done_moved count (Differs at) = omega arith

all_done : (count : ℕ) (outcome : Outcome) → MovesTo count outcome → moved_count count outcome ≡ done_blocks count outcome
all_done count Done h = refl
all_done count (Faulted at) h = refl
all_done count (Differs at) h = absurd h

put_law : (due : ℕ → List ℕ) (first count : ℕ) (outcome : Outcome) (moved x y : Blocks) → Chain Effect x (good_calls (λ b. Put b) first moved) y → length moved ≡ moved_count count outcome → AreDue due moved → MovesTo count outcome →
    y ≡ put_blocks due first (done_blocks count outcome) x
put_law due first count outcome moved x y c size are fits =
    puts first moved x y c ∙ put_same (block_at moved) due first (length moved) x are ∙ ap (λ (n : ℕ). put_blocks due first n x) (size ∙ all_done count outcome fits)

blocks_law : (op : Op) (pages : Pages) (same : ℕ → Type 0) (first at count : ℕ) (outcome : Outcome) (memory moved x y : Blocks) → Chain Effect x (good_calls (step_of op) first moved) y → length moved ≡ moved_count count outcome →
    Carries op pages at memory moved → OutcomeFits op same count outcome → y ≡ blocks_after op pages first at (done_blocks count outcome) memory x
blocks_law Write pages same first at count outcome memory moved x y c size are fits = put_law (λ i. data_block memory pages (at + i)) first count outcome moved x y c size are fits
blocks_law WriteZeroes pages same first at count outcome memory moved x y c size are fits = put_law (λ _. zero_block) first count outcome moved x y c size are fits
blocks_law Read pages same first at count outcome memory moved x y c size are fits = (gets first moved x y c).0
blocks_law Compare pages same first at count outcome memory moved x y c size are fits = (gets first moved x y c).0
blocks_law Verify pages same first at count outcome memory moved x y c size are fits = (gets first moved x y c).0
blocks_law Flush pages same first at count outcome memory moved x y c size are fits = absurd fits

memory_law : (op : Op) (pages : Pages) (first at n : ℕ) (memory moved x y : Blocks) → Chain Effect x (good_calls (step_of op) first moved) y → n ≤ length moved →
    memory_after op pages 0 at n memory moved ≡ memory_after op pages first at n memory x
memory_law Read pages first at n memory moved x y c few = read_same moved x pages 0 first at n memory (λ i l. ap (block_at moved) (omega arith) ∙ ((gets first moved x y c).1 i (omega arith)).1)
memory_law Write pages first at n memory moved x y c few = refl
memory_law WriteZeroes pages first at n memory moved x y c few = refl
memory_law Compare pages first at n memory moved x y c few = refl
memory_law Verify pages first at n memory moved x y c few = refl
memory_law Flush pages first at n memory moved x y c few = refl

digest_law : (op : Op) (first n : ℕ) (moved x y : Blocks) → Chain Effect x (good_calls (step_of op) first moved) y → n ≤ length moved → digest_after op 0 n moved ≡ digest_after op first n x
digest_law Read first n moved x y c few =
    ap (λ (bytes : List ℕ). Some (sha256 bytes)) (bytes_same moved x 0 first n (λ i l.
    let is = (gets first moved x y c).1 i (omega arith) in
    (omega arith, is.0, ap (block_at moved) (omega arith) ∙ is.1)))
digest_law Write first n moved x y c few = refl
digest_law WriteZeroes first n moved x y c few = refl
digest_law Compare first n moved x y c few = refl
digest_law Verify first n moved x y c few = refl
digest_law Flush first n moved x y c few = refl

compare_law : (P Q : ℕ → Type 0) (count : ℕ) (outcome : Outcome) → ((i : ℕ) → i < moved_count count outcome → P i → Q i) → ((i : ℕ) → i < moved_count count outcome → Q i → P i) → ComparesTo P count outcome → ComparesTo Q count outcome
compare_law P Q count Done f g h = λ i l. f i l (h i l)
compare_law P Q count (Faulted at) f g h = (h.0, λ i l. f i l (h.1 i l))
compare_law P Q count (Differs at) f g h = (h.0, (λ i l. f i (omega arith) (h.1 i l)), λ q. h.2 (g at (omega arith) q))

fits_law : (op : Op) (first count : ℕ) (outcome : Outcome) (due : ℕ → List ℕ) (moved x y : Blocks) → Chain Effect x (good_calls (step_of op) first moved) y → length moved ≡ moved_count count outcome →
    OutcomeFits op (λ i. block_at moved i ≡ due i) count outcome → OutcomeFits op (λ i. block_at x (first + i) ≡ due i) count outcome
fits_law Compare first count outcome due moved x y c size fits =
    compare_law (λ i. block_at moved i ≡ due i) (λ i. block_at x (first + i) ≡ due i) count outcome
    (λ i l is. sym ((gets first moved x y c).1 i (omega arith)).1 ∙ is)
    (λ i l is. ((gets first moved x y c).1 i (omega arith)).1 ∙ is) fits
fits_law Write first count outcome due moved x y c size fits = fits
fits_law WriteZeroes first count outcome due moved x y c size fits = fits
fits_law Read first count outcome due moved x y c size fits = fits
fits_law Verify first count outcome due moved x y c size fits = fits
fits_law Flush first count outcome due moved x y c size fits = fits

-- where these calls were made on blocks, the piece had its effect on them
pub piece_law : (piece : Piece) (first : ℕ) (moved : Blocks) (result : PieceResult) (memory new_memory x y : Blocks) →
    IsPieceDone piece moved result memory new_memory → Chain Effect x (piece_calls piece first memory moved result.outcome) y → HasEffect piece first result x memory y new_memory
piece_law piece first moved result memory new_memory x y done calls =
    let good = good_ones piece first memory moved result.outcome x y calls in
    let count = piece.span.count in
    let few : done_blocks count result.outcome ≤ length moved = omega (arith, done.count, done_moved count result.outcome) in
    record {
      fits = fits_law piece.op first count result.outcome (λ i. data_block memory piece.pages (piece.at + i)) moved x y good done.count done.fits;
      digest_is = done.digest_is ∙ ap digest_bytes (digest_law piece.op first (done_blocks count result.outcome) moved x y good few);
      blocks_is = blocks_law piece.op piece.pages _ first piece.at count result.outcome memory moved x y good done.count done.carries done.fits;
      memory_is = done.memory_is ∙ memory_law piece.op piece.pages first piece.at (done_blocks count result.outcome) memory moved x y good few;
    }
