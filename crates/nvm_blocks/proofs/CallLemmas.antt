use Rattle.std.specs.List.{flat_map}
use Rattle.sha2.specs.Hashers.{Holds256}
use Rattle.sha2.specs.Sha256.{sha256}
use Rattle.sha2.specs.declared.Sha256.{Sha256}
use Rattle.std.proofs.Common.{◌≡◌, ℕ, suc, ◌+◌, ◌<◌, ◌≤◌, Bool, true, false, List, [], ◌∷◌, ◌++◌, length, take, refl, sym, ap, subst, ◌∙◌, ⊎_elim, arith}
use Rattle.std.proofs.lemmas.Bool.{cases_lt}
use Rattle.std.proofs.lemmas.List.{append-nil, flat_map_more, get_or_append_left, get_or_push, length_push, take_all}
use Rattle.nvm_values.specs.declared.op.Op.{Op}
use Rattle.nvm_values.specs.declared.op.Op.TheVariants.{Write, Read, Compare, WriteZeroes, Verify}
use Rattle.nvm_model.specs.declared.command.Outcome.{Outcome}
use Rattle.nvm_model.specs.declared.command.Outcome.TheVariants.{Done, Faulted, Differs}
use Rattle.nvm_model.specs.declared.command.Pages.{Pages}
use Rattle.nvm_model.specs.declared.piece.Piece.{Piece}
use Rattle.nvm_model.specs.declared.piece.PieceResult.{PieceResult}
use Rattle.nvm_model.specs.declared.trace.Step.{Step}
use Rattle.nvm_model.specs.Chain.{Chain}
use Rattle.nvm_model.specs.Medium.{IsMade, MediumState}
use Rattle.nvm_model.specs.declared.trace.Call.{Call}
use Rattle.nvm_model.specs.Memory.{with_bytes, zero_block}
use Rattle.nvm_model.specs.Piece.{ComparesTo, MovesTo, block_at, data_block, done_blocks, page_of, place_of, read_blocks}
use Rattle.nvm_model.specs.Trace.{AreDue, IsPieceDone, data_sent, good_calls, moved_count, piece_calls, step_of}
use Rattle.nvm_model.proofs.ChainLemmas.{chain_keeps, chain_push}
use Rattle.nvm_model.proofs.PieceLemmas.{read_same}
use Rattle.nvm_blocks.specs.Work.{HasApplied, HasMoved, plain}

-- A piece's calls, one by one.

abbrev Blocks : Type 0
Blocks = List (List ℕ)

abbrev the_call : Step → List ℕ → Bool → Call
the_call step bytes failed = record { step = step; bytes = bytes; failed = failed }

-- one good call more
good_more : (op : Op) (first n : ℕ) (moved : Blocks) (x : List ℕ) → length moved ≡ n → good_calls (step_of op) first (moved ++ x ∷ []) ≡ good_calls (step_of op) first moved ++ the_call (step_of op (first + n)) x false ∷ []
good_more op first n [] x is = let here : first ≡ first + n = omega arith in ap (λ (b : ℕ). the_call (step_of op b) x false ∷ []) here
good_more op first n (b ∷ moved) x is =
    let place : first + 1 + length moved ≡ first + n = omega arith in
    ap (λ (calls : List Call). the_call (step_of op first) b false ∷ calls)
    (good_more op (first + 1) (length moved) moved x refl
    ∙ ap (λ (k : ℕ). good_calls (step_of op) (first + 1) moved ++ the_call (step_of op k) x false ∷ []) place)

pub moved_none : {M I : Type 0} {state : M → MediumState I} {moves : I → Step → Bool → I → Type 0} {P : Blocks → Type 0} {m : M} (op : Op) (first : ℕ) → P [] → HasMoved state moves op first 0 P m m
moved_none op first p = record { moved = []; count_is = refl; are = p; size = refl; calls = refl }

-- one block more was moved
pub moved_more : {M I : Type 0} {state : M → MediumState I} {moves : I → Step → Bool → I → Type 0} {P Q : Blocks → Type 0} {old mid new : M} (op : Op) (first n : ℕ) (x : List ℕ) →
    HasMoved state moves op first n P old mid → IsMade state moves mid (the_call (step_of op (first + n)) x false) new → ((moved : Blocks) → length moved ≡ n → P moved → Q (moved ++ x ∷ [])) →
    HasMoved state moves op first (n + 1) Q old new
moved_more {state = state} {moves} {old = old} {mid} {new} op first n x h call more = record {
  moved = h.moved ++ x ∷ [];
  count_is = length_push h.moved x ∙ ap (λ (k : ℕ). k + 1) h.count_is;
  are = more h.moved h.count_is h.are;
  size = call.size ∙ h.size;
  calls = subst (λ (calls : List Call). Chain (IsMade state moves) old calls new) (sym (good_more op first n h.moved x h.count_is))
      (chain_push (IsMade state moves) old (good_calls (step_of op) first h.moved) mid (the_call (step_of op (first + n)) x false) new h.calls call);
}

-- a piece that moved all its blocks
pub all_moved : {M I : Type 0} {state : M → MediumState I} {moves : I → Step → Bool → I → Type 0} {P : Blocks → Type 0} {piece : Piece} {first n : ℕ} {old new : M} {memory new_memory : Blocks} (op : Op) (digest : List ℕ) → piece.op ≡ op →
    HasMoved state moves op first n P old new → ((moved : Blocks) → length moved ≡ n → P moved → IsPieceDone piece moved (record { outcome = Done; digest = digest }) memory new_memory) →
    HasApplied state moves piece first (record { outcome = Done; digest = digest }) old memory new new_memory
all_moved {state = state} {moves} {piece = piece} {first} {old = old} {new} op digest op_is h done = record {
  moved = h.moved;
  done = done h.moved h.count_is h.are;
  calls = subst (λ (calls : List Call). Chain (IsMade state moves) old calls new) (sym (append-nil (good_calls (step_of piece.op) first h.moved)))
      (subst (λ (o : Op). Chain (IsMade state moves) old (good_calls (step_of o) first h.moved) new) (sym op_is) h.calls);
}

-- a piece that stopped at a block that differs
pub some_differs : {M I : Type 0} {state : M → MediumState I} {moves : I → Step → Bool → I → Type 0} {P : Blocks → Type 0} {piece : Piece} {first n at : ℕ} {old new : M} {memory new_memory : Blocks} (op : Op) (digest : List ℕ) → piece.op ≡ op →
    HasMoved state moves op first n P old new → ((moved : Blocks) → length moved ≡ n → P moved → IsPieceDone piece moved (record { outcome = Differs at; digest = digest }) memory new_memory) →
    HasApplied state moves piece first (record { outcome = Differs at; digest = digest }) old memory new new_memory
some_differs {state = state} {moves} {piece = piece} {first} {old = old} {new} op digest op_is h done = record {
  moved = h.moved;
  done = done h.moved h.count_is h.are;
  calls = subst (λ (calls : List Call). Chain (IsMade state moves) old calls new) (sym (append-nil (good_calls (step_of piece.op) first h.moved)))
      (subst (λ (o : Op). Chain (IsMade state moves) old (good_calls (step_of o) first h.moved) new) (sym op_is) h.calls);
}

-- a piece that stopped at a call that failed
pub some_failed : {M I : Type 0} {state : M → MediumState I} {moves : I → Step → Bool → I → Type 0} {P : Blocks → Type 0} {piece : Piece} {first n : ℕ} {old mid new : M} {memory new_memory : Blocks} (op : Op) (digest sent : List ℕ) → piece.op ≡ op →
    HasMoved state moves op first n P old mid → IsMade state moves mid (the_call (step_of op (first + n)) sent true) new → sent ≡ data_sent op piece.pages memory (piece.at + n) →
    ((moved : Blocks) → length moved ≡ n → P moved → IsPieceDone piece moved (record { outcome = Faulted n; digest = digest }) memory new_memory) →
    HasApplied state moves piece first (record { outcome = Faulted n; digest = digest }) old memory new new_memory
some_failed {state = state} {moves} {piece = piece} {first} {n} {old} {mid} {new} {memory} op digest sent op_is h call sent_is done = record {
  moved = h.moved;
  done = done h.moved h.count_is h.are;
  calls = subst (λ (o : Op). Chain (IsMade state moves) old (good_calls (step_of o) first h.moved ++ the_call (step_of o (first + n)) (data_sent o piece.pages memory (piece.at + n)) true ∷ []) new) (sym op_is)
      (subst (λ (bytes : List ℕ). Chain (IsMade state moves) old (good_calls (step_of op) first h.moved ++ the_call (step_of op (first + n)) bytes true ∷ []) new) sent_is
      (chain_push (IsMade state moves) old (good_calls (step_of op) first h.moved) mid (the_call (step_of op (first + n)) sent true) new h.calls call));
}

-- What the blocks are that were moved.

pub due_none : (due : ℕ → List ℕ) → AreDue due []
due_none due = λ i l. absurd (omega (arith, l))

-- one more, behind those that are due
pub due_before : (due : ℕ → List ℕ) (n : ℕ) (x : List ℕ) (moved : Blocks) → length moved ≡ n → AreDue due moved → ((i : ℕ) → i < n → block_at (moved ++ x ∷ []) i ≡ due i) × (block_at (moved ++ x ∷ []) n ≡ x)
due_before due n x moved size are = (
  (λ i low. get_or_append_left moved (x ∷ []) [] i (omega (arith, low, size)) ∙ are i (omega (arith, low, size))),
  get_or_push moved x [] n size,
)

-- and due as well
pub due_more : (due : ℕ → List ℕ) (n : ℕ) (x : List ℕ) → x ≡ due n → (moved : Blocks) → length moved ≡ n → AreDue due moved → AreDue due (moved ++ x ∷ [])
due_more due n x x_is moved size are = λ i l. ⊎_elim (before.0 i) (last i l) (cases_lt i n)
  where
    before : ((i : ℕ) → i < n → block_at (moved ++ x ∷ []) i ≡ due i) × (block_at (moved ++ x ∷ []) n ≡ x)
    before = due_before due n x moved size are

    last : (i : ℕ) → i < length (moved ++ x ∷ []) → n ≤ i → block_at (moved ++ x ∷ []) i ≡ due i
    last i l high =
        let at : i ≡ n = omega (arith, l, high, size, length_push moved x) in
        ap (block_at (moved ++ x ∷ [])) at ∙ before.1 ∙ x_is ∙ ap due (sym at)

-- By operation.

pub write_is : {piece : Piece} {moved memory : Blocks} {outcome : Outcome} → piece.op ≡ Write → length moved ≡ moved_count piece.span.count outcome → AreDue (λ i. data_block memory piece.pages (piece.at + i)) moved → MovesTo piece.span.count outcome →
    IsPieceDone piece moved (plain outcome) memory memory
write_is op size due moves = record { count = size; carries = rw op due; fits = rw op moves; digest_is = rw op refl; memory_is = rw op refl }

pub zeroes_are : {piece : Piece} {moved memory : Blocks} {outcome : Outcome} → piece.op ≡ WriteZeroes → length moved ≡ moved_count piece.span.count outcome → AreDue (λ _. zero_block) moved → MovesTo piece.span.count outcome →
    IsPieceDone piece moved (plain outcome) memory memory
zeroes_are op size due moves = record { count = size; carries = rw op due; fits = rw op moves; digest_is = rw op refl; memory_is = rw op refl }

pub verify_is : {piece : Piece} {moved memory : Blocks} {outcome : Outcome} → piece.op ≡ Verify → length moved ≡ moved_count piece.span.count outcome → MovesTo piece.span.count outcome → IsPieceDone piece moved (plain outcome) memory memory
verify_is op size moves = record { count = size; carries = rw op tt; fits = rw op moves; digest_is = rw op refl; memory_is = rw op refl }

pub compare_is : {piece : Piece} {moved memory : Blocks} {outcome : Outcome} → piece.op ≡ Compare → length moved ≡ moved_count piece.span.count outcome →
    ComparesTo (λ i. block_at moved i ≡ data_block memory piece.pages (piece.at + i)) piece.span.count outcome → IsPieceDone piece moved (plain outcome) memory memory
compare_is op size compares = record { count = size; carries = rw op tt; fits = rw op compares; digest_is = rw op refl; memory_is = rw op refl }

-- A Read.

-- the blocks stand in the guest's pages, and the hasher has their bytes
pub record AreRead (pages : Pages) (at : ℕ) (memory new_memory : Blocks) (hasher : Sha256) (moved : Blocks) : Type 0 where
  pub memory_is : new_memory ≡ read_blocks moved pages 0 at (length moved) memory
  pub bytes : Holds256 hasher (flat_map (λ (b : List ℕ). b) moved)

pub none_read : {pages : Pages} {at : ℕ} {memory : Blocks} {hasher : Sha256} → Holds256 hasher [] → AreRead pages at memory memory hasher []
none_read new = record { memory_is = refl; bytes = new }

-- one more
pub one_read : {pages : Pages} {at : ℕ} {memory mid new : Blocks} {hasher new_hasher : Sha256} (n : ℕ) (x : List ℕ) → new ≡ with_bytes mid (page_of pages (at + n)) (place_of (at + n)) x →
    ((m : List ℕ) → Holds256 hasher m → Holds256 new_hasher (m ++ x)) → (moved : Blocks) → length moved ≡ n → AreRead pages at memory mid hasher moved → AreRead pages at memory new new_hasher (moved ++ x ∷ [])
one_read {pages} {at} {memory} {mid} {new} {hasher} {new_hasher} n x kept more moved size are =
    let d = length moved in
    let same : read_blocks moved pages 0 at d memory ≡ read_blocks (moved ++ x ∷ []) pages 0 at d memory =
    read_same moved (moved ++ x ∷ []) pages 0 0 at d memory (λ i l. sym (get_or_append_left moved (x ∷ []) [] (0 + i) (omega arith))) in
    let one_more : length (moved ++ x ∷ []) ≡ suc d = omega (arith, length_push moved x) in
    let last : x ≡ block_at (moved ++ x ∷ []) (0 + d) = sym (get_or_push moved x [] (0 + d) (omega arith)) in
    record {
      memory_is = kept ∙ ap (λ (k : ℕ). with_bytes mid (page_of pages (at + k)) (place_of (at + k)) x) (sym size)
          ∙ ap (λ (m : Blocks). with_bytes m (page_of pages (at + d)) (place_of (at + d)) x) (are.memory_is ∙ same)
          ∙ ap (λ (b : List ℕ). with_bytes (read_blocks (moved ++ x ∷ []) pages 0 at d memory) (page_of pages (at + d)) (place_of (at + d)) b) last
          ∙ ap (λ (k : ℕ). read_blocks (moved ++ x ∷ []) pages 0 at k memory) (sym one_more);
      bytes = subst (λ (bytes : List ℕ). Holds256 new_hasher bytes) (flat_map_more (λ (b : List ℕ). b) [] moved x) (more (flat_map (λ (b : List ℕ). b) moved) are.bytes);
    }

pub read_is : {piece : Piece} {moved memory new_memory : Blocks} {outcome : Outcome} {digest : List ℕ} {hasher : Sha256} → piece.op ≡ Read → length moved ≡ moved_count piece.span.count outcome → length moved ≡ done_blocks piece.span.count outcome →
    MovesTo piece.span.count outcome → AreRead piece.pages piece.at memory new_memory hasher moved → ((m : List ℕ) → Holds256 hasher m → digest ≡ sha256 m) → IsPieceDone piece moved (record { outcome = outcome; digest = digest }) memory new_memory
read_is {piece} {moved} {memory} {new_memory} {outcome} op size done moves are final =
    let d = done_blocks piece.span.count outcome in
    let all : take d moved ≡ moved = take_all d moved (omega arith) in
    record {
      count = size;
      carries = rw op tt;
      fits = rw op moves;
      digest_is = rw op (final (flat_map (λ (b : List ℕ). b) moved) are.bytes ∙ ap (λ (bs : Blocks). sha256 (flat_map (λ (b : List ℕ). b) bs)) (sym all));
      memory_is = rw op (are.memory_is ∙ ap (λ (k : ℕ). read_blocks moved piece.pages 0 piece.at k memory) done);
    }

-- a piece leaves its medium's size
pub applied_size : {M I : Type 0} {state : M → MediumState I} {moves : I → Step → Bool → I → Type 0} {piece : Piece} {first : ℕ} {result : PieceResult} {medium new : M} {memory new_memory : Blocks} →
    HasApplied state moves piece first result medium memory new new_memory → (state new).size ≡ (state medium).size
applied_size {M} {state = state} {moves} {piece} {first} {result} {medium} {new} {memory} h =
    chain_keeps (IsMade state moves) (λ (m : M). (state m).size ≡ (state medium).size) (λ x c y r same. r.size ∙ same) medium (piece_calls piece first memory h.moved result.outcome) new h.calls refl
