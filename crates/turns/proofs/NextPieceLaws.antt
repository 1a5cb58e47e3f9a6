use Rattle.std.proofs.Common.{◌≡◌, ℕ, zero, suc, ◌+◌, ◌-◌, ◌%◌, ◌<◌, ◌≤◌, Bool, cond, List, [], ◌∷◌, ◌++◌, All, length, map, take, slice_index_or, refl, sym, ap, subst, ◌∙◌, arith}
use Rattle.std.proofs.lemmas.Bool.{ne_eqb}
use Rattle.std.proofs.lemmas.List.{length-set, take_more}
use Rattle.std.proofs.lemmas.List.Elements.{All-nil, All-cons, All-head, All-tail}
use Rattle.mig_base.proofs.ListLemmas.{none_of_sum}
use Rattle.nvm_model.specs.declared.trace.Step.{Step}
use Rattle.nvm_model.specs.Chain.{Chain}
use Rattle.nvm_model.specs.Medium.{MediumState}
use Rattle.nvm_model.specs.Piece.{pieces_left}
use Rattle.nvm_model.specs.Turn.{left_in, pick_at, with_some, word_at}
use Rattle.nvm_model.specs.World.{Lane, new_lane}
use Rattle.nvm_model.proofs.ChainLemmas.{chain_keeps}
use Rattle.turns.specs.Frame.{AreSameQueues, IsSameQueue}
use Rattle.nvm_model.specs.Run.{Here, IsItem, IsPiece, Item, NoneLeft, PieceCalled, Task}
use Rattle.nvm_model.specs.Run.Item.{Served, Crossed}
use Rattle.turns.proofs.FrameLemmas.{same_queues, same_queues_more, set_same_queues}

-- The pieces and copies of a turn: whose is next, and what they leave.

-- Which lane is next.

-- where the order is mixed, a word picks
pub picked : (mix n count : ℕ) → (mix ≡ 0 → ⊥) → pick_at mix n count ≡ word_at mix n % count
picked mix n count mixed = ap (λ (b : Bool). cond b 0 (word_at mix n % count)) (ne_eqb mix 0 mixed)

-- one lane more behind, with some left
some_behind : (k : ℕ) (left : List ℕ) (n : ℕ) → 1 ≤ n → length (with_some k (left ++ n ∷ [])) ≡ length (with_some k left) + 1
some_behind k [] zero some = absurd (omega (arith, some))
some_behind k [] (suc n) some = refl
some_behind k (zero ∷ others) n some = some_behind (k + 1) others n some
some_behind k (suc m ∷ others) n some = omega (arith, some_behind (k + 1) others n some)

-- or with none
none_behind : (k : ℕ) (left : List ℕ) → length (with_some k (left ++ 0 ∷ [])) ≡ length (with_some k left)
none_behind k [] = refl
none_behind k (zero ∷ others) = none_behind (k + 1) others
none_behind k (suc m ∷ others) = omega (arith, none_behind (k + 1) others)

-- the same of the lanes up to a place
pub some_more : (left : List ℕ) (i : ℕ) → i < length left → 1 ≤ slice_index_or left i 0 → length (with_some 1 (take (i + 1) left)) ≡ length (with_some 1 (take i left)) + 1
some_more left i there some = ap (λ (l : List ℕ). length (with_some 1 l)) (take_more left i 0 there) ∙ some_behind 1 (take i left) (slice_index_or left i 0) some

-- or with none
pub none_more : (left : List ℕ) (i : ℕ) → i < length left → slice_index_or left i 0 ≡ 0 → length (with_some 1 (take (i + 1) left)) ≡ length (with_some 1 (take i left))
none_more left i there none =
    ap (λ (l : List ℕ). length (with_some 1 l)) (take_more left i 0 there)
    ∙ ap (λ (m : ℕ). length (with_some 1 (take i left ++ m ∷ []))) none
    ∙ none_behind 1 (take i left)

-- where a lane with some left stands among those
pub some_at : (k : ℕ) (left : List ℕ) (place : ℕ) → place < length left → 1 ≤ slice_index_or left place 0 →
    (length (with_some k (take place left)) < length (with_some k left)) × (slice_index_or (with_some k left) (length (with_some k (take place left))) 0 ≡ k + place)
some_at k [] place there some = absurd (omega (arith, there))
some_at k (zero ∷ others) zero there some = absurd (omega (arith, some))
some_at k (suc n ∷ others) zero there some = (omega arith, omega arith)
some_at k (zero ∷ others) (suc place) there some =
    let later = some_at (k + 1) others place (omega (arith, there)) some in
    (later.0, omega (arith, later.1))
some_at k (suc n ∷ others) (suc place) there some =
    let later = some_at (k + 1) others place (omega (arith, there)) some in
    (omega (arith, later.0), omega (arith, later.1))

-- where no lane has some left, all have none
pub none_some : (k : ℕ) (left : List ℕ) → length (with_some k left) ≡ 0 → All (λ (n : ℕ). n ≡ 0) left
none_some k [] none = All-nil (λ (n : ℕ). n ≡ 0)
none_some k (zero ∷ others) none = All-cons (λ (n : ℕ). n ≡ 0) 0 others refl (none_some (k + 1) others none)
none_some k (suc m ∷ others) none = absurd (omega (arith, none))

-- Pieces.

-- a piece leaves the lanes' queues
piece_keeps : {M I : Type 0} {state : M → MediumState I} {moves : I → Step → Bool → I → Type 0} {task : Task} {old new : Here M} {p : PieceCalled} → IsPiece state moves task old p new → AreSameQueues old.lanes new.lanes
piece_keeps {M} {old = old} {new} {p} is =
    let after = is.does.after in
    let lane = slice_index_or old.lanes (p.lane - 1) (new_lane 0) in
    let same : IsSameQueue lane is.lane = record {
      acts = ap (λ l. l.acts) after;
      submitted = ap (λ l. l.submitted) after;
      fetched = ap (λ l. l.fetched) after;
      posted = ap (λ l. l.posted) after;
      reaped = ap (λ l. l.reaped) after;
      running = ap (λ l. length l.running) after ∙ length-set lane.running is.does.place _;
    } in
    subst (λ (h : Here M). AreSameQueues old.lanes h.lanes) (sym is.after) (set_same_queues old.lanes (p.lane - 1) (new_lane 0) is.lane same)

-- and so does a copy
item_keeps : {M I : Type 0} (state : M → MediumState I) (moves : I → Step → Bool → I → Type 0) (task : Task) (old : Here M) (item : Item) (new : Here M) → IsItem state moves task old item new → AreSameQueues old.lanes new.lanes
item_keeps state moves task old (Served p) new is = piece_keeps is
item_keeps {M} state moves task old (Crossed c) new is = subst (λ (h : Here M). AreSameQueues old.lanes h.lanes) (sym is.after) (same_queues old.lanes)

-- and all of a turn
pub items_keep : {M I : Type 0} (state : M → MediumState I) (moves : I → Step → Bool → I → Type 0) (task : Task) (old : Here M) (items : List Item) (new : Here M) → Chain (IsItem state moves task) old items new → AreSameQueues old.lanes new.lanes
items_keep {M} state moves task old items new chain =
    chain_keeps (IsItem state moves task) (λ (h : Here M). AreSameQueues old.lanes h.lanes) (λ x item y one kept. same_queues_more old.lanes x.lanes y.lanes kept (item_keeps state moves task x item y one)) old items new chain (same_queues old.lanes)

-- where nothing is left of any lane, no command has a piece left
pub lanes_finished : (shelf : ℕ) (lanes : List Lane) → All (λ (n : ℕ). n ≡ 0) (map (left_in shelf) lanes) → NoneLeft shelf lanes
lanes_finished shelf [] none = tt
lanes_finished shelf (lane ∷ lanes) none = (
  none_of_sum (pieces_left shelf) lane.running (All-head (λ (n : ℕ). n ≡ 0) (left_in shelf lane) (map (left_in shelf) lanes) none),
  lanes_finished shelf lanes (All-tail (λ (n : ℕ). n ≡ 0) (left_in shelf lane) (map (left_in shelf) lanes) none),
)
