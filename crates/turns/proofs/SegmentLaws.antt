use Rattle.std.proofs.Common.{◌≡◌, ⊎_elim, ℕ, zero, suc, ◌+◌, ◌*◌, ◌/◌, ◌%◌, ◌<◌, ◌≤◌, Bool, true, false, cond, List, [], ◌∷◌, ◌++◌, length, map, take, refl, sym, ap, subst, ◌∙◌, append_assoc, append-nil, arith}
use Rattle.std.specs.Prelude.{◌==◌}
use Rattle.std.specs.List.{flat_map, range_with_len}
use Rattle.std.specs.List.Sorted.{IsPermutation}
use Rattle.std.proofs.lemmas.Bool.{cases_eq, eq-eqb, ne_eqb}
use Rattle.std.proofs.lemmas.Grind.{flat_map-append}
use Rattle.std.proofs.lemmas.List.{map-append}
use Rattle.std.proofs.lemmas.List.FromFn.{map-range_with_len_more}
use Rattle.std.proofs.lemmas.List.Sorted.{IsPermutation-refl, IsPermutation-cons, IsPermutation-middle, IsPermutation-sym, IsPermutation-trans}
use Rattle.nvm_values.specs.declared.op.Op.{Op}
use Rattle.nvm_values.specs.declared.op.Op.TheVariants.{Flush, Write, Read, Compare, WriteZeroes, Verify}
use Rattle.nvm_model.specs.declared.command.Outcome.{Outcome}
use Rattle.nvm_model.specs.declared.command.Outcome.TheVariants.{Done, Faulted, Differs}
use Rattle.nvm_model.specs.declared.piece.Piece.{Piece}
use Rattle.nvm_model.specs.declared.run.RunPhase.{RunPhase}
use Rattle.nvm_model.specs.declared.run.RunPhase.TheVariants.{New, Running, Moving, Suspended, Stopped, Over}
use Rattle.nvm_model.specs.declared.run.Side.{Side}
use Rattle.nvm_model.specs.declared.run.Side.TheVariants.{Source, Destination}
use Rattle.nvm_model.specs.declared.script.Script.{Script}
use Rattle.nvm_model.specs.declared.trace.Call.{Call}
use Rattle.nvm_model.specs.declared.trace.Step.{Step}
use Rattle.nvm_model.specs.declared.trace.Step.TheVariants.{Get, Put, Mark}
use Rattle.nvm_model.specs.Chain.{Chain}
use Rattle.nvm_model.specs.Medium.{At, MediumState, all_at, marked, marks_at}
use Rattle.nvm_model.specs.Run.{AllCopied, Copy, CopyEnd, Here, IsItem, IsStage, Item, PieceCalled, PieceOnLane, Snapshot, Stage, Task, TurnDone, by_side, calls_at, copies_of, copy_calls, due_after, gets_of, here_of, media_count, opposite, part_of, puts_of, resume_mark, there_of, turn_calls}
use Rattle.nvm_model.specs.Run.CopyEnd.{Copied, NotRead, NotWritten}
use Rattle.nvm_model.specs.Run.Item.{Served, Crossed}
use Rattle.nvm_model.specs.Run.Stage.{Title, Turn, Begin, Round, Broken, Suspend, Resume, Stop, GiveUp, End}
use Rattle.nvm_model.specs.Segment.{BrokeOff, HasBroken, HasCopied, block_steps, item_steps, piece_steps, read_block, read_blocks, segment, steps_at, tried, unmarked_front}
use Rattle.nvm_model.specs.Trace.{data_sent, good_calls, moved_count, piece_calls, step_of}
use Rattle.nvm_model.specs.World.{Lane}
use Rattle.turns.proofs.CrossLaws.{after_copied}
use Rattle.turns.proofs.MediaLaws.{after_failed}
use Rattle.turns.proofs.RunLaws.{stage_task}

-- What a migration leaves in the trace of each medium: its turns, and the copies between its suspension and its end, each
-- behind its own mark.

-- Steps of one medium.

pub steps_more : (i : ℕ) (xs ys : List At) → steps_at i (xs ++ ys) ≡ steps_at i xs ++ steps_at i ys
steps_more i [] ys = refl
steps_more i (x ∷ xs) ys = by (x.shelf == i) (steps_more i xs ys)
  where
    by : (b : Bool) → steps_at i (xs ++ ys) ≡ steps_at i xs ++ steps_at i ys → cond b (x.call.step ∷ steps_at i (xs ++ ys)) (steps_at i (xs ++ ys)) ≡ cond b (x.call.step ∷ steps_at i xs) (steps_at i xs) ++ steps_at i ys
    by true is = ap (λ (steps : List Step). x.call.step ∷ steps) is
    by false is = is

-- a mark of all media is one of this
marks_past : (n i a m : ℕ) → i < a → steps_at i (map (λ (j : ℕ). record { shelf = j; call = marked n }) (range_with_len a m)) ≡ []
marks_past n i a zero past = refl
marks_past n i a (suc m) past =
    ap (λ (b : Bool). cond b (Mark n ∷ steps_at i (map (λ (j : ℕ). record { shelf = j; call = marked n }) (range_with_len (a + 1) m))) (steps_at i (map (λ (j : ℕ). record { shelf = j; call = marked n }) (range_with_len (a + 1) m))))
    (ne_eqb a i (λ is. omega (arith, is, past))) ∙ marks_past n i (a + 1) m (omega (arith, past))

marks_here : (n i a m : ℕ) → a ≤ i → i < a + m → steps_at i (map (λ (j : ℕ). record { shelf = j; call = marked n }) (range_with_len a m)) ≡ Mark n ∷ []
marks_here n i a zero from to = absurd (omega (arith, from, to))
marks_here n i a (suc m) from to =
    let others = steps_at i (map (λ (j : ℕ). record { shelf = j; call = marked n }) (range_with_len (a + 1) m)) in
    let either : Bool → List Step = λ b. cond b (Mark n ∷ others) others in
    ⊎_elim (λ (is : a ≡ i). ap either (eq-eqb a i is) ∙ ap (λ (steps : List Step). Mark n ∷ steps) (marks_past n i (a + 1) m (omega (arith, is))))
    (λ (other : a ≡ i → ⊥). ap either (ne_eqb a i other) ∙ marks_here n i (a + 1) m (omega (arith, from, other)) (omega (arith, to)))
    (cases_eq a i)

pub one_mark : (count n i : ℕ) → i < count → steps_at i (marks_at count n) ≡ Mark n ∷ []
one_mark count n i there = marks_here n i 0 count (omega arith) (omega (arith, there))

-- Steps without marks.

abbrev pub NoMarks : List Step → Type 0
NoMarks [] = Unit {0}
NoMarks (Mark n ∷ steps) = ⊥
NoMarks (Get b ∷ steps) = NoMarks steps
NoMarks (Put b ∷ steps) = NoMarks steps

none_more : (xs ys : List Step) → NoMarks xs → NoMarks ys → NoMarks (xs ++ ys)
none_more [] ys p q = q
none_more (Mark n ∷ xs) ys p q = absurd p
none_more (Get b ∷ xs) ys p q = none_more xs ys p q
none_more (Put b ∷ xs) ys p q = none_more xs ys p q

-- the segment of a mark that begins with it
front_more : (xs ys : List Step) → NoMarks xs → unmarked_front (xs ++ ys) ≡ xs ++ unmarked_front ys
front_more [] ys p = refl
front_more (Mark n ∷ xs) ys p = absurd p
front_more (Get b ∷ xs) ys p = ap (λ (steps : List Step). Get b ∷ steps) (front_more xs ys p)
front_more (Put b ∷ xs) ys p = ap (λ (steps : List Step). Put b ∷ steps) (front_more xs ys p)

-- every mark is below a number
abbrev pub MarksBelow : ℕ → List Step → Type 0
MarksBelow bound [] = Unit {0}
MarksBelow bound (Mark n ∷ steps) = (n < bound) × MarksBelow bound steps
MarksBelow bound (Get b ∷ steps) = MarksBelow bound steps
MarksBelow bound (Put b ∷ steps) = MarksBelow bound steps

below_more : (bound : ℕ) (xs ys : List Step) → MarksBelow bound xs → MarksBelow bound ys → MarksBelow bound (xs ++ ys)
below_more bound [] ys p q = q
below_more bound (Mark n ∷ xs) ys p q = (p.0, below_more bound xs ys p.1 q)
below_more bound (Get b ∷ xs) ys p q = below_more bound xs ys p q
below_more bound (Put b ∷ xs) ys p q = below_more bound xs ys p q

below_on : (a b : ℕ) (xs : List Step) → a ≤ b → MarksBelow a xs → MarksBelow b xs
below_on a b [] less p = tt
below_on a b (Mark n ∷ xs) less p = (omega (arith, less, p.0), below_on a b xs less p.1)
below_on a b (Get c ∷ xs) less p = below_on a b xs less p
below_on a b (Put c ∷ xs) less p = below_on a b xs less p

none_below : (bound : ℕ) (xs : List Step) → NoMarks xs → MarksBelow bound xs
none_below bound [] p = tt
none_below bound (Mark n ∷ xs) p = absurd p
none_below bound (Get b ∷ xs) p = none_below bound xs p
none_below bound (Put b ∷ xs) p = none_below bound xs p

segment_later : (n : ℕ) (xs ys : List Step) → MarksBelow n xs → segment n (xs ++ ys) ≡ segment n ys
segment_later n [] ys p = refl
segment_later n (Mark m ∷ xs) ys p =
    ap (λ (b : Bool). cond b (unmarked_front (xs ++ ys)) (segment n (xs ++ ys))) (ne_eqb m n (λ is. omega (arith, is, p.0))) ∙ segment_later n xs ys p.1
segment_later n (Get b ∷ xs) ys p = segment_later n xs ys p
segment_later n (Put b ∷ xs) ys p = segment_later n xs ys p

segment_here : (n : ℕ) (steps : List Step) → segment n (Mark n ∷ steps) ≡ unmarked_front steps
segment_here n steps = ap (λ (b : Bool). cond b (unmarked_front steps) (segment n steps)) (eq-eqb n n refl)

-- The steps of a piece and of a copy.

cond_more : (b : Bool) (x : Step) (xs : List Step) → cond b (x ∷ cond b xs []) (cond b xs []) ≡ cond b (x ∷ xs) []
cond_more true x xs = refl
cond_more false x xs = refl

cond_same : (b : Bool) (xs : List Step) → xs ≡ cond b xs xs
cond_same true xs = refl
cond_same false xs = refl

shelf_steps : (i k : ℕ) (calls : List Call) → steps_at i (all_at k calls) ≡ cond (k == i) (map (λ (c : Call). c.step) calls) []
shelf_steps i k [] = cond_same (k == i) []
shelf_steps i k (c ∷ calls) =
    ap (λ (steps : List Step). cond (k == i) (c.step ∷ steps) steps) (shelf_steps i k calls) ∙ cond_more (k == i) c.step (map (λ (d : Call). d.step) calls)

good_steps : (step : ℕ → Step) (f : ℕ) (moved : List (List ℕ)) → map (λ (c : Call). c.step) (good_calls step f moved) ≡ map step (range_with_len f (length moved))
good_steps step f [] = refl
good_steps step f (bytes ∷ moved) = ap (λ (steps : List Step). step f ∷ steps) (good_steps step (f + 1) moved)

call_steps : (f n count : ℕ) (piece : Piece) (memory moved : List (List ℕ)) (outcome : Outcome) → length moved ≡ moved_count count outcome →
    map (λ (c : Call). c.step) (piece_calls piece f memory moved outcome) ≡ map (step_of piece.op) (range_with_len f (tried count outcome))
call_steps f n count piece memory moved Done is =
    ap (map (λ (c : Call). c.step)) (append-nil (good_calls (step_of piece.op) f moved)) ∙ good_steps (step_of piece.op) f moved ∙ ap (λ (k : ℕ). map (step_of piece.op) (range_with_len f k)) is
call_steps f n count piece memory moved (Differs at) is =
    ap (map (λ (c : Call). c.step)) (append-nil (good_calls (step_of piece.op) f moved)) ∙ good_steps (step_of piece.op) f moved ∙ ap (λ (k : ℕ). map (step_of piece.op) (range_with_len f k)) is
call_steps f n count piece memory moved (Faulted at) is =
    let bytes = data_sent piece.op piece.pages memory (piece.at + at) in
    let last : List Call = record { step = step_of piece.op (f + at); bytes = bytes; failed = true } ∷ [] in
    map-append (λ (c : Call). c.step) (good_calls (step_of piece.op) f moved) last
    ∙ ap (λ (steps : List Step). steps ++ step_of piece.op (f + at) ∷ []) (good_steps (step_of piece.op) f moved ∙ ap (λ (k : ℕ). map (step_of piece.op) (range_with_len f k)) is)
    ∙ sym (map-range_with_len_more (step_of piece.op) f at (f + at) refl)

piece_here : (s : Script) (i : ℕ) (p : PieceCalled) (lane new : Lane) → PieceOnLane s p lane new → steps_at i p.calls ≡ piece_steps s.head.shelf i p
piece_here s i p lane new d =
    ap (steps_at i) d.calls_are ∙ shelf_steps i (p.first / s.head.shelf) _
    ∙ ap (λ (steps : List Step). cond (p.first / s.head.shelf == i) steps []) (call_steps (p.first % s.head.shelf) 0 p.count (part_of p) lane.pages d.moved p.outcome d.done.count)

copy_here : (size i : ℕ) (c : Copy) (ended : CopyEnd) → (steps_at i (gets_of size (record c { ended = ended })) ≡ block_steps (λ b. Get b) size i (c.block ∷ [])) × (steps_at i (puts_of size (record c { ended = ended })) ≡ block_steps (λ b. Put b) size i (read_block ended c.block))
copy_here size i c Copied = (refl, refl)
copy_here size i c NotRead = (refl, refl)
copy_here size i c NotWritten = (refl, refl)

block_more : (step : ℕ → Step) (size i : ℕ) (front blocks : List ℕ) → block_steps step size i front ++ block_steps step size i blocks ≡ block_steps step size i (front ++ blocks)
block_more step size i [] blocks = refl
block_more step size i (b ∷ front) blocks = by (b / size == i) ∙ ap (λ (steps : List Step). cond (b / size == i) (step (b % size) ∷ steps) steps) (block_more step size i front blocks)
  where
    first : List Step
    first = block_steps step size i front

    last : List Step
    last = block_steps step size i blocks

    by : (t : Bool) → cond t (step (b % size) ∷ first) first ++ last ≡ cond t (step (b % size) ∷ first ++ last) (first ++ last)
    by true = refl
    by false = refl

-- where no copy failed all were read
read_all : (copies : List Copy) → AllCopied copies → read_blocks copies ≡ map (λ (c : Copy). c.block) copies
read_all [] all = refl
read_all (c ∷ copies) all = ap (λ (ended : CopyEnd). read_block ended c.block ++ read_blocks copies) all.0 ∙ ap (λ (bs : List ℕ). c.block ∷ bs) (read_all copies all.1)

-- the steps of items
pub items_here : {M I : Type 0} (state : M → MediumState I) (moves : I → Step → Bool → I → Type 0) (task : Task) (i : ℕ) (x : Here M) (items : List Item) (y : Here M) → Chain (IsItem state moves task) x items y →
    (steps_at i (flat_map (here_of task.script.head.shelf) items) ≡ item_steps task.script.head.shelf i items)
    × (steps_at i (flat_map (there_of task.script.head.shelf) items) ≡ block_steps (λ b. Put b) task.script.head.shelf i (read_blocks (copies_of items)))
items_here state moves task i x [] y c = (refl, refl)
items_here state moves task i x (Served p ∷ items) y c =
    let size = task.script.head.shelf in
    let rest = items_here state moves task i c.0 items y c.2 in
    (steps_more i p.calls (flat_map (here_of size) items) ∙ ap (λ (steps : List Step). steps ++ steps_at i (flat_map (here_of size) items)) (piece_here task.script i p _ c.1.lane c.1.does) ∙ ap (λ (steps : List Step). piece_steps size i p ++ steps) rest.0, rest.1)
items_here state moves task i x (Crossed k ∷ items) y c =
    let size = task.script.head.shelf in
    let rest = items_here state moves task i c.0 items y c.2 in
    let one = copy_here size i k k.ended in (
      steps_more i (gets_of size k) (flat_map (here_of size) items) ∙ ap (λ (steps : List Step). steps ++ steps_at i (flat_map (here_of size) items)) one.0 ∙ ap (λ (steps : List Step). block_steps (λ b. Get b) size i (k.block ∷ []) ++ steps) rest.0,
      steps_more i (puts_of size k) (flat_map (there_of size) items) ∙ ap (λ (steps : List Step). steps ++ steps_at i (flat_map (there_of size) items)) one.1 ∙ ap (λ (steps : List Step). block_steps (λ b. Put b) size i (read_block k.ended k.block) ++ steps) rest.1
          ∙ block_more (λ b. Put b) size i (read_block k.ended k.block) (read_blocks (copies_of items)),
    )

-- copies alone
pub copies_here : (size i : ℕ) (copies : List Copy) → (steps_at i (flat_map (gets_of size) copies) ≡ block_steps (λ b. Get b) size i (map (λ (c : Copy). c.block) copies))
    × (steps_at i (flat_map (puts_of size) copies) ≡ block_steps (λ b. Put b) size i (read_blocks copies))
copies_here size i [] = (refl, refl)
copies_here size i (k ∷ copies) =
    let blocks = map (λ (d : Copy). d.block) copies in
    let rest = copies_here size i copies in
    let one = copy_here size i k k.ended in (
      steps_more i (gets_of size k) (flat_map (gets_of size) copies) ∙ ap (λ (steps : List Step). steps ++ steps_at i (flat_map (gets_of size) copies)) one.0 ∙ ap (λ (steps : List Step). block_steps (λ b. Get b) size i (k.block ∷ []) ++ steps) rest.0
          ∙ block_more (λ b. Get b) size i (k.block ∷ []) blocks,
      steps_more i (puts_of size k) (flat_map (puts_of size) copies) ∙ ap (λ (steps : List Step). steps ++ steps_at i (flat_map (puts_of size) copies)) one.1 ∙ ap (λ (steps : List Step). block_steps (λ b. Put b) size i (read_block k.ended k.block) ++ steps) rest.1
          ∙ block_more (λ b. Put b) size i (read_block k.ended k.block) (read_blocks copies),
    )

-- None of them is a mark.

unmarked_if : (b : Bool) (steps : List Step) → NoMarks steps → NoMarks (cond b steps [])
unmarked_if true steps none = none
unmarked_if false steps none = tt

gets_unmarked : (ns : List ℕ) → NoMarks (map (λ (b : ℕ). Get b) ns)
gets_unmarked [] = tt
gets_unmarked (n ∷ ns) = gets_unmarked ns

puts_unmarked : (ns : List ℕ) → NoMarks (map (λ (b : ℕ). Put b) ns)
puts_unmarked [] = tt
puts_unmarked (n ∷ ns) = puts_unmarked ns

op_unmarked : (op : Op) (ns : List ℕ) → NoMarks (map (step_of op) ns)
op_unmarked Write ns = puts_unmarked ns
op_unmarked WriteZeroes ns = puts_unmarked ns
op_unmarked Read ns = gets_unmarked ns
op_unmarked Compare ns = gets_unmarked ns
op_unmarked Verify ns = gets_unmarked ns
op_unmarked Flush ns = gets_unmarked ns

copy_unmarked : (size i : ℕ) (c : Copy) (ended : CopyEnd) → NoMarks (steps_at i (gets_of size (record c { ended = ended }))) × NoMarks (steps_at i (puts_of size (record c { ended = ended })))
copy_unmarked size i c Copied = (unmarked_if (c.block / size == i) (Get (c.block % size) ∷ []) tt, unmarked_if (c.block / size == i) (Put (c.block % size) ∷ []) tt)
copy_unmarked size i c NotRead = (unmarked_if (c.block / size == i) (Get (c.block % size) ∷ []) tt, tt)
copy_unmarked size i c NotWritten = (unmarked_if (c.block / size == i) (Get (c.block % size) ∷ []) tt, unmarked_if (c.block / size == i) (Put (c.block % size) ∷ []) tt)

copies_unmarked : (size i : ℕ) (copies : List Copy) → NoMarks (steps_at i (flat_map (gets_of size) copies)) × NoMarks (steps_at i (flat_map (puts_of size) copies))
copies_unmarked size i [] = (tt, tt)
copies_unmarked size i (k ∷ copies) =
    let one = copy_unmarked size i k k.ended in
    let rest = copies_unmarked size i copies in (
      subst NoMarks (sym (steps_more i (gets_of size k) (flat_map (gets_of size) copies))) (none_more (steps_at i (gets_of size k)) (steps_at i (flat_map (gets_of size) copies)) one.0 rest.0),
      subst NoMarks (sym (steps_more i (puts_of size k) (flat_map (puts_of size) copies))) (none_more (steps_at i (puts_of size k)) (steps_at i (flat_map (puts_of size) copies)) one.1 rest.1),
    )

items_unmarked : {M I : Type 0} (state : M → MediumState I) (moves : I → Step → Bool → I → Type 0) (task : Task) (i : ℕ) (x : Here M) (items : List Item) (y : Here M) → Chain (IsItem state moves task) x items y →
    NoMarks (steps_at i (flat_map (here_of task.script.head.shelf) items)) × NoMarks (steps_at i (flat_map (there_of task.script.head.shelf) items))
items_unmarked state moves task i x [] y c = (tt, tt)
items_unmarked state moves task i x (Served p ∷ items) y c =
    let size = task.script.head.shelf in
    let rest = items_unmarked state moves task i c.0 items y c.2 in
    let one : NoMarks (steps_at i p.calls) = subst NoMarks (sym (piece_here task.script i p _ c.1.lane c.1.does))
    (unmarked_if (p.first / size == i) (map (step_of p.work.op) (range_with_len (p.first % size) (tried p.count p.outcome))) (op_unmarked p.work.op (range_with_len (p.first % size) (tried p.count p.outcome)))) in
    (subst NoMarks (sym (steps_more i p.calls (flat_map (here_of size) items))) (none_more (steps_at i p.calls) (steps_at i (flat_map (here_of size) items)) one rest.0), rest.1)
items_unmarked state moves task i x (Crossed k ∷ items) y c =
    let size = task.script.head.shelf in
    let one = copy_unmarked size i k k.ended in
    let rest = items_unmarked state moves task i c.0 items y c.2 in (
      subst NoMarks (sym (steps_more i (gets_of size k) (flat_map (here_of size) items))) (none_more (steps_at i (gets_of size k)) (steps_at i (flat_map (here_of size) items)) one.0 rest.0),
      subst NoMarks (sym (steps_more i (puts_of size k) (flat_map (there_of size) items))) (none_more (steps_at i (puts_of size k)) (steps_at i (flat_map (there_of size) items)) one.1 rest.1),
    )

-- The copies of a turn are those that were due, each once.

pub each_once : {M I : Type 0} (state : M → MediumState I) (moves : I → Step → Bool → I → Type 0) (task : Task) (x : Here M) (items : List Item) (y : Here M) → Chain (IsItem state moves task) x items y → AllCopied (copies_of items) → y.due ≡ [] →
    IsPermutation (map (λ (c : Copy). c.block) (copies_of items)) x.due
each_once {M} state moves task x [] y c all none = subst (λ (ds : List ℕ). IsPermutation [] ds) (sym (ap (λ (h : Here M). h.due) (sym c) ∙ none)) (IsPermutation-refl [])
each_once {M} state moves task x (Served p ∷ items) y c all none =
    subst (λ (ds : List ℕ). IsPermutation (map (λ (k : Copy). k.block) (copies_of items)) ds) (ap (λ (h : Here M). h.due) c.1.after) (each_once state moves task c.0 items y c.2 all none)
each_once {M} state moves task x (Crossed k ∷ items) y c all none =
    let blocks = map (λ (d : Copy). d.block) (copies_of items) in
    let rest = each_once state moves task c.0 items y c.2 all.1 none in
    let due : c.0.due ≡ c.1.front ++ c.1.others = ap (λ (h : Here M). h.due) c.1.after ∙ after_copied k.ended (c.1.front ++ c.1.others) all.0 in
    subst (λ (ds : List ℕ). IsPermutation (k.block ∷ blocks) ds) (sym c.1.due)
    (IsPermutation-trans (k.block ∷ blocks) (k.block ∷ (c.1.front ++ c.1.others)) (c.1.front ++ k.block ∷ c.1.others)
    (IsPermutation-cons k.block blocks (c.1.front ++ c.1.others) (subst (λ (ds : List ℕ). IsPermutation blocks ds) due rest))
    (IsPermutation-sym (c.1.front ++ k.block ∷ c.1.others) (k.block ∷ (c.1.front ++ c.1.others)) (IsPermutation-middle c.1.front k.block c.1.others)))

-- Where one failed, they are some of those that were due, and it was the last.

push_copy : (k : Copy) (front others : List ℕ) (copies : List Copy) → k.ended ≡ Copied → BrokeOff (front ++ others) copies → BrokeOff (front ++ k.block ∷ others) (k ∷ copies)
push_copy k front others copies good b = record {
  good = k ∷ b.good;
  last = b.last;
  others = b.others;
  copies_are = ap (λ (cs : List Copy). k ∷ cs) b.copies_are;
  copied = (good, b.copied);
  failed = b.failed;
  once =
      let blocks = map (λ (c : Copy). c.block) copies ++ b.others in
      IsPermutation-trans (k.block ∷ blocks) (k.block ∷ (front ++ others)) (front ++ k.block ∷ others) (IsPermutation-cons k.block blocks (front ++ others) b.once)
      (IsPermutation-sym (front ++ k.block ∷ others) (k.block ∷ (front ++ others)) (IsPermutation-middle front k.block others));
}

last_copy : (k : Copy) (front others : List ℕ) (copies : List Copy) → copies ≡ [] → (k.ended ≡ Copied → ⊥) → BrokeOff (front ++ k.block ∷ others) (k ∷ copies)
last_copy k front others copies none failed = subst (λ (cs : List Copy). BrokeOff (front ++ k.block ∷ others) (k ∷ cs)) (sym none) (record {
  good = [];
  last = k;
  others = front ++ others;
  copies_are = refl;
  copied = tt;
  failed = failed;
  once = IsPermutation-sym (front ++ k.block ∷ others) (k.block ∷ (front ++ others)) (IsPermutation-middle front k.block others);
})

next_copy : (k : Copy) (front others : List ℕ) (copies : List Copy) (ended : CopyEnd) → k.ended ≡ ended → (ended ≡ Copied → BrokeOff (front ++ others) copies) → (due_after ended (front ++ others) ≡ [] → copies ≡ []) → BrokeOff (front ++ k.block ∷ others) (k ∷ copies)
next_copy k front others copies Copied is rest none = push_copy k front others copies is (rest refl)
next_copy k front others copies NotRead is rest none = last_copy k front others copies (none refl) (λ e. let same = sym is ∙ e in absurd cc)
next_copy k front others copies NotWritten is rest none = last_copy k front others copies (none refl) (λ e. let same = sym is ∙ e in absurd cc)

pub broke_off : {M I : Type 0} (state : M → MediumState I) (moves : I → Step → Bool → I → Type 0) (task : Task) (x : Here M) (items : List Item) (y : Here M) → Chain (IsItem state moves task) x items y → (AllCopied (copies_of items) → ⊥) → BrokeOff x.due (copies_of items)
broke_off state moves task x [] y c failed = absurd (failed tt)
broke_off {M} state moves task x (Served p ∷ items) y c failed =
    subst (λ (ds : List ℕ). BrokeOff ds (copies_of items)) (ap (λ (h : Here M). h.due) c.1.after) (broke_off state moves task c.0 items y c.2 failed)
broke_off {M} state moves task x (Crossed k ∷ items) y c failed =
    let left = c.1.front ++ c.1.others in
    let due : c.0.due ≡ due_after k.ended left = ap (λ (h : Here M). h.due) c.1.after in
    subst (λ (ds : List ℕ). BrokeOff ds (k ∷ copies_of items)) (sym c.1.due) (next_copy k c.1.front c.1.others (copies_of items) k.ended refl
    (λ good. subst (λ (ds : List ℕ). BrokeOff ds (copies_of items)) (due ∙ ap (λ (e : CopyEnd). due_after e left) good) (broke_off state moves task c.0 items y c.2 (λ all. failed (good, all))))
    (λ none. after_failed state moves task c.0 items y c.2 (due ∙ none)))

-- The marks of a run.

-- Every mark so far is below this number.
abbrev pub bound : Bool → RunPhase → ℕ → ℕ
bound tried New turns = 0
bound tried Running turns = cond tried (3 * turns + 3) 0
bound tried Moving turns = 3 * turns + 1
bound tried Suspended turns = 3 * turns + 1
bound tried Stopped turns = 3 * turns + 2
bound tried Over turns = cond tried (3 * turns + 3) 0

abbrev pub bound_of : {M : Type 0} → Snapshot M → ℕ
bound_of x = bound x.tried x.phase x.turns

-- a migration is under way
abbrev pub IsUnderWay : RunPhase → Type 0
IsUnderWay New = ⊥
IsUnderWay Running = ⊥
IsUnderWay Moving = Unit {0}
IsUnderWay Suspended = Unit {0}
IsUnderWay Stopped = Unit {0}
IsUnderWay Over = ⊥

by_unmarked : (i : ℕ) (who side : Side) (xs ys : List At) → NoMarks (steps_at i xs) → NoMarks (steps_at i ys) → NoMarks (steps_at i (by_side who side xs ys))
by_unmarked i Source Source xs ys p q = p
by_unmarked i Source Destination xs ys p q = q
by_unmarked i Destination Source xs ys p q = q
by_unmarked i Destination Destination xs ys p q = p

-- a mark and then steps without one
marked_front : (count n i : ℕ) (calls : List At) → i < count → steps_at i (marks_at count n ++ calls) ≡ Mark n ∷ steps_at i calls
marked_front count n i calls there = steps_more i (marks_at count n) calls ∙ ap (λ (steps : List Step). steps ++ steps_at i calls) (one_mark count n i there)

record StageMarks {M : Type 0} (s : Script) (who : Side) (i : ℕ) (x : Snapshot M) (stage : Stage) (y : Snapshot M) : Type 0 where
  below : MarksBelow (bound_of y) (steps_at i (calls_at s who stage))
  grows : bound_of x ≤ bound_of y
  begun : IsUnderWay y.phase → y.tried ≡ true

no_calls : {M : Type 0} (s : Script) (who : Side) (i : ℕ) (x : Snapshot M) (stage : Stage) (y z : Snapshot M) → y ≡ z → calls_at s who stage ≡ [] → bound_of x ≤ bound_of z → (IsUnderWay z.phase → z.tried ≡ true) → StageMarks s who i x stage y
no_calls {M} s who i x stage y z is none grows begun =
    subst (λ (t : Snapshot M). StageMarks s who i x stage t) (sym is) (record { below = subst (λ (cs : List At). MarksBelow (bound_of z) (steps_at i cs)) (sym none) tt; grows = grows; begun = begun })

at_running : {M : Type 0} (x : Snapshot M) (p : RunPhase) → x.phase ≡ p → bound_of x ≡ bound x.tried p x.turns
at_running x p is = ap (λ (q : RunPhase). bound x.tried q x.turns) is

tried_more : (tried : Bool) (turns : ℕ) → bound tried Running turns ≤ bound tried Running (turns + 1)
tried_more true turns = omega arith
tried_more false turns = omega arith

stage_marks : {M I : Type 0} (state : M → MediumState I) (moves : I → Step → Bool → I → Type 0) (s : Script) (who : Side) (i : ℕ) (x : Snapshot M) (stage : Stage) (y : Snapshot M) → x.task.script ≡ s → i < media_count s → IsStage state moves x stage y → (IsUnderWay x.phase → x.tried ≡ true) →
    StageMarks s who i x stage y
stage_marks state moves s who i x Title y is there r begun = no_calls s who i x Title y _ r.after refl (omega (arith, at_running x New r.was)) (λ under. absurd under)
stage_marks state moves s who i x End y is there r begun = no_calls s who i x End y _ r.after refl (omega (arith, at_running x Running r.was)) (λ under. absurd under)
stage_marks state moves s who i x Begin y is there r begun =
    no_calls s who i x Begin y _ r.after refl (omega (arith, at_running x Running r.was, ap (λ (b : Bool). bound b Running x.turns) r.due.untried)) (λ under. refl)
stage_marks state moves s who i x Suspend y is there r begun =
    no_calls s who i x Suspend y _ r.after refl (omega (arith, at_running x Moving r.was)) (λ under. begun (subst IsUnderWay (sym r.was) tt))
stage_marks {M} state moves s who i x (Turn side t) y is there r begun =
    let items = items_unmarked state moves x.task i _ t.items _ r.turn.working in
    let none = subst (λ (k : Script). NoMarks (steps_at i (by_side who side (turn_calls k t) (copy_calls k t)))) is (by_unmarked i who side (turn_calls x.task.script t) (copy_calls x.task.script t) items.0 items.1) in
    let after : Snapshot M = record x { turns = x.turns + 1; drawn = y.drawn; lanes = y.lanes; at = y.at; out = y.out } in
    subst (λ (z : Snapshot M). StageMarks s who i x (Turn side t) z) (sym r.after) (record {
      below = none_below (bound_of after) (steps_at i (calls_at s who (Turn side t))) none;
      grows = omega (arith, at_running x Running r.was, ap (λ (p : RunPhase). bound x.tried p (x.turns + 1)) r.was, tried_more x.tried x.turns);
      begun = λ under. begun under;
    })
stage_marks {M} state moves s who i x (Round side n t lost blocks pages) y is there r begun =
    let m = r.moving in
    let items = items_unmarked state moves x.task i _ t.items _ m.turn.working in
    let calls = by_side who side (turn_calls s t) (copy_calls s t) in
    let none : NoMarks (steps_at i calls) = subst (λ (k : Script). NoMarks (steps_at i (by_side who side (turn_calls k t) (copy_calls k t)))) is (by_unmarked i who side (turn_calls x.task.script t) (copy_calls x.task.script t) items.0 items.1) in
    let high : bound_of y ≡ 3 * n + 1 = ap (λ (z : Snapshot M). bound_of z) r.after ∙ ap (λ (p : RunPhase). bound x.tried p n) m.was in
    record {
      below = subst (λ (steps : List Step). MarksBelow (bound_of y) steps) (sym (marked_front (media_count s) (3 * n) i calls there)) (omega (arith, high), none_below (bound_of y) (steps_at i calls) none);
      grows = omega (arith, at_running x Moving m.was, high, m.number);
      begun = λ under. ap (λ (z : Snapshot M). z.tried) r.after ∙ begun (subst IsUnderWay (sym m.was) tt);
    }
stage_marks {M} state moves s who i x (Broken side n t) y is there r begun =
    let m = r.moving in
    let items = items_unmarked state moves x.task i _ t.items _ m.turn.working in
    let calls = by_side who side (turn_calls s t) (copy_calls s t) in
    let none : NoMarks (steps_at i calls) = subst (λ (k : Script). NoMarks (steps_at i (by_side who side (turn_calls k t) (copy_calls k t)))) is (by_unmarked i who side (turn_calls x.task.script t) (copy_calls x.task.script t) items.0 items.1) in
    let high : bound_of y ≡ 3 * n + 2 = ap (λ (z : Snapshot M). bound_of z) r.after in
    record {
      below = subst (λ (steps : List Step). MarksBelow (bound_of y) steps) (sym (marked_front (media_count s) (3 * n) i calls there)) (omega (arith, high), none_below (bound_of y) (steps_at i calls) none);
      grows = omega (arith, at_running x Moving m.was, high, m.number);
      begun = λ under. ap (λ (z : Snapshot M). z.tried) r.after ∙ begun (subst IsUnderWay (sym m.was) tt);
    }
stage_marks {M} state moves s who i x (Resume side n copies pages) y is there r begun =
    let size = s.head.shelf in
    let calls = by_side who side (flat_map (gets_of size) copies) (flat_map (puts_of size) copies) in
    let copied = copies_unmarked size i copies in
    let none = by_unmarked i who side (flat_map (gets_of size) copies) (flat_map (puts_of size) copies) copied.0 copied.1 in
    let tried : y.tried ≡ true = ap (λ (z : Snapshot M). z.tried) r.after ∙ begun (subst IsUnderWay (sym r.was) tt) in
    let high : bound_of y ≡ 3 * n + 3 = ap (λ (z : Snapshot M). bound y.tried z.phase z.turns) r.after ∙ ap (λ (b : Bool). bound b Running x.turns) tried ∙ ap (λ (k : ℕ). 3 * k + 3) (sym r.number) in
    record {
      below = subst (λ (steps : List Step). MarksBelow (bound_of y) steps) (sym (marked_front (media_count s) (3 * n + 1) i (calls ++ resume_mark s n) there)) (
        omega (arith, high),
        subst (λ (steps : List Step). MarksBelow (bound_of y) steps) (sym (steps_more i calls (resume_mark s n)))
            (below_more (bound_of y) (steps_at i calls) (steps_at i (resume_mark s n)) (none_below (bound_of y) (steps_at i calls) none)
            (subst (λ (steps : List Step). MarksBelow (bound_of y) steps) (sym (one_mark (media_count s) (3 * n + 2) i there)) (omega (arith, high), tt))),
      );
      grows = omega (arith, at_running x Suspended r.was, high, r.number);
      begun = λ under. tried;
    }
stage_marks {M} state moves s who i x (Stop side n copies) y is there r begun =
    let size = s.head.shelf in
    let calls = by_side who side (flat_map (gets_of size) copies) (flat_map (puts_of size) copies) in
    let copied = copies_unmarked size i copies in
    let none = by_unmarked i who side (flat_map (gets_of size) copies) (flat_map (puts_of size) copies) copied.0 copied.1 in
    let high : bound_of y ≡ 3 * n + 2 = ap (λ (z : Snapshot M). bound_of z) r.after ∙ ap (λ (k : ℕ). 3 * k + 2) (sym r.number) in
    record {
      below = subst (λ (steps : List Step). MarksBelow (bound_of y) steps) (sym (marked_front (media_count s) (3 * n + 1) i calls there)) (omega (arith, high), none_below (bound_of y) (steps_at i calls) none);
      grows = omega (arith, at_running x Suspended r.was, high, r.number);
      begun = λ under. ap (λ (z : Snapshot M). z.tried) r.after ∙ begun (subst IsUnderWay (sym r.was) tt);
    }
stage_marks {M} state moves s who i x (GiveUp n) y is there r begun =
    let tried : y.tried ≡ true = ap (λ (z : Snapshot M). z.tried) r.after ∙ begun (subst IsUnderWay (sym r.was) tt) in
    let high : bound_of y ≡ 3 * n + 3 = ap (λ (z : Snapshot M). bound y.tried z.phase z.turns) r.after ∙ ap (λ (b : Bool). bound b Running x.turns) tried ∙ ap (λ (k : ℕ). 3 * k + 3) (sym r.number) in
    record {
      below = subst (λ (steps : List Step). MarksBelow (bound_of y) steps) (sym (one_mark (media_count s) (3 * n + 2) i there)) (omega (arith, high), tt);
      grows = omega (arith, at_running x Stopped r.was, high, r.number);
      begun = λ under. tried;
    }

-- of several stages
record RunMarks {M : Type 0} (s : Script) (who : Side) (i : ℕ) (stages : List Stage) (x y : Snapshot M) : Type 0 where
  below : MarksBelow (bound_of y) (steps_at i (flat_map (calls_at s who) stages))
  grows : bound_of x ≤ bound_of y
  begun : IsUnderWay y.phase → y.tried ≡ true
  task : y.task.script ≡ s

run_marks : {M I : Type 0} (state : M → MediumState I) (moves : I → Step → Bool → I → Type 0) (s : Script) (who : Side) (i : ℕ) (x : Snapshot M) (stages : List Stage) (y : Snapshot M) → x.task.script ≡ s → i < media_count s → Chain (IsStage state moves) x stages y → (IsUnderWay x.phase → x.tried ≡ true) →
    RunMarks s who i stages x y
run_marks {M} state moves s who i x [] y is there c begun = subst (λ (z : Snapshot M). RunMarks s who i [] x z) (sym c) (record { below = tt; grows = omega arith; begun = begun; task = is })
run_marks state moves s who i x (stage ∷ stages) y is there c begun =
    let one = stage_marks state moves s who i x stage c.0 is there c.1 begun in
    let rest = run_marks state moves s who i c.0 stages y (ap (λ (t : Task). t.script) (stage_task state moves x stage c.0 c.1) ∙ is) there c.2 one.begun in
    record {
      below = subst (λ (steps : List Step). MarksBelow (bound_of y) steps) (sym (steps_more i (calls_at s who stage) (flat_map (calls_at s who) stages)))
          (below_more (bound_of y) (steps_at i (calls_at s who stage)) (steps_at i (flat_map (calls_at s who) stages)) (below_on (bound_of c.0) (bound_of y) (steps_at i (calls_at s who stage)) rest.grows one.below) rest.below);
      grows = omega (arith, one.grows, rest.grows);
      begun = rest.begun;
      task = rest.task;
    }

-- While a migration is under way, what comes next is a mark.
then_marked : (count n i : ℕ) (calls others : List At) → i < count → unmarked_front (steps_at i ((marks_at count n ++ calls) ++ others)) ≡ []
then_marked count n i calls others there =
    ap unmarked_front (steps_more i (marks_at count n ++ calls) others ∙ ap (λ (steps : List Step). steps ++ steps_at i others) (marked_front count n i calls there))

next_marked : {M I : Type 0} (state : M → MediumState I) (moves : I → Step → Bool → I → Type 0) (s : Script) (who : Side) (i : ℕ) (x : Snapshot M) (stages : List Stage) (y : Snapshot M) → i < media_count s → Chain (IsStage state moves) x stages y → IsUnderWay x.phase →
    unmarked_front (steps_at i (flat_map (calls_at s who) stages)) ≡ []
next_marked state moves s who i x [] y there c under = refl
next_marked state moves s who i x (Title ∷ stages) y there c under = absurd (subst IsUnderWay c.1.was under)
next_marked state moves s who i x (Begin ∷ stages) y there c under = absurd (subst IsUnderWay c.1.was under)
next_marked state moves s who i x (Turn side t ∷ stages) y there c under = absurd (subst IsUnderWay c.1.was under)
next_marked state moves s who i x (End ∷ stages) y there c under = absurd (subst IsUnderWay c.1.was under)
next_marked {M} state moves s who i x (Suspend ∷ stages) y there c under =
    next_marked state moves s who i c.0 stages y there c.2 (subst IsUnderWay (sym (ap (λ (z : Snapshot M). z.phase) c.1.after)) tt)
next_marked state moves s who i x (Round side n t lost blocks pages ∷ stages) y there c under = then_marked (media_count s) (3 * n) i _ (flat_map (calls_at s who) stages) there
next_marked state moves s who i x (Broken side n t ∷ stages) y there c under = then_marked (media_count s) (3 * n) i _ (flat_map (calls_at s who) stages) there
next_marked state moves s who i x (Resume side n copies pages ∷ stages) y there c under = then_marked (media_count s) (3 * n + 1) i _ (flat_map (calls_at s who) stages) there
next_marked state moves s who i x (Stop side n copies ∷ stages) y there c under = then_marked (media_count s) (3 * n + 1) i _ (flat_map (calls_at s who) stages) there
next_marked state moves s who i x (GiveUp n ∷ stages) y there c under =
    ap unmarked_front (steps_more i (resume_mark s n) (flat_map (calls_at s who) stages) ∙ ap (λ (steps : List Step). steps ++ steps_at i (flat_map (calls_at s who) stages)) (one_mark (media_count s) (3 * n + 2) i there))

-- The segments.

-- the segment of a mark with which a stage begins, behind earlier ones
segment_of : (s : Script) (who : Side) (i n : ℕ) (front : List Stage) (stage : Stage) (back : List Stage) (steps others : List Step) → MarksBelow n (steps_at i (flat_map (calls_at s who) front)) → NoMarks steps →
    steps_at i (calls_at s who stage) ≡ Mark n ∷ steps ++ others → unmarked_front (others ++ steps_at i (flat_map (calls_at s who) back)) ≡ [] →
    segment n (steps_at i (flat_map (calls_at s who) (front ++ stage ∷ back))) ≡ steps
segment_of s who i n front stage back steps others below none is ends =
    let before = flat_map (calls_at s who) front in
    let after = flat_map (calls_at s who) back in
    ap (λ (calls : List At). segment n (steps_at i calls)) (flat_map-append (calls_at s who) front (stage ∷ back))
    ∙ ap (segment n) (steps_more i before (calls_at s who stage ++ after)) ∙ segment_later n (steps_at i before) (steps_at i (calls_at s who stage ++ after)) below
    ∙ ap (segment n) (steps_more i (calls_at s who stage) after ∙ ap (λ (ss : List Step). ss ++ steps_at i after) is) ∙ segment_here n ((steps ++ others) ++ steps_at i after)
    ∙ ap unmarked_front (append_assoc steps others (steps_at i after)) ∙ front_more steps (others ++ steps_at i after) none ∙ ap (λ (ss : List Step). steps ++ ss) ends ∙ append-nil steps

-- where a run begins
pub record IsFresh {M : Type 0} (s : Script) (x : Snapshot M) : Type 0 where
  pub script : x.task.script ≡ s
  pub phase : x.phase ≡ New
  pub side : x.side ≡ Source

fresh_begun : {M : Type 0} {s : Script} {x : Snapshot M} → IsFresh s x → IsUnderWay x.phase → x.tried ≡ true
fresh_begun f under = absurd (subst IsUnderWay f.phase under)

-- A round: between its mark and the next one each medium has the steps of its items alone.
pub round_segment : {M I : Type 0} (state : M → MediumState I) (moves : I → Step → Bool → I → Type 0) (s : Script) (who : Side) (i : ℕ) (old : Snapshot M) (front : List Stage) (x : Snapshot M) (side : Side) (n : ℕ) (t : TurnDone) (lost : Bool) (blocks pages : ℕ) (y : Snapshot M) (back : List Stage) (z : Snapshot M) →
    IsFresh s old → i < media_count s → Chain (IsStage state moves) old front x → IsStage state moves x (Round side n t lost blocks pages) y → Chain (IsStage state moves) y back z →
    segment (3 * n) (steps_at i (flat_map (calls_at s who) (front ++ Round side n t lost blocks pages ∷ back))) ≡ steps_at i (by_side who side (turn_calls s t) (copy_calls s t))
round_segment {M} state moves s who i old front x side n t lost blocks pages y back z fresh there before r after =
    let m = r.moving in
    let past = run_marks state moves s who i old front x fresh.script there before (fresh_begun fresh) in
    let items = items_unmarked state moves x.task i _ t.items _ m.turn.working in
    let calls = by_side who side (turn_calls s t) (copy_calls s t) in
    let none : NoMarks (steps_at i calls) = subst (λ (k : Script). NoMarks (steps_at i (by_side who side (turn_calls k t) (copy_calls k t)))) past.task (by_unmarked i who side (turn_calls x.task.script t) (copy_calls x.task.script t) items.0 items.1) in
    let few = below_on (bound_of x) (3 * n) (steps_at i (flat_map (calls_at s who) front)) (omega (arith, at_running x Moving m.was, m.number)) past.below in
    let moving : y.phase ≡ Moving = ap (λ (v : Snapshot M). v.phase) r.after ∙ m.was in
    segment_of s who i (3 * n) front (Round side n t lost blocks pages) back (steps_at i calls) [] few none
    (marked_front (media_count s) (3 * n) i calls there ∙ ap (λ (steps : List Step). Mark (3 * n) ∷ steps) (sym (append-nil (steps_at i calls))))
    (next_marked state moves s who i y back z there after (subst IsUnderWay (sym moving) tt))

-- The same of a turn in which a copy failed.
pub broken_segment : {M I : Type 0} (state : M → MediumState I) (moves : I → Step → Bool → I → Type 0) (s : Script) (who : Side) (i : ℕ) (old : Snapshot M) (front : List Stage) (x : Snapshot M) (side : Side) (n : ℕ) (t : TurnDone) (y : Snapshot M) (back : List Stage) (z : Snapshot M) →
    IsFresh s old → i < media_count s → Chain (IsStage state moves) old front x → IsStage state moves x (Broken side n t) y → Chain (IsStage state moves) y back z →
    segment (3 * n) (steps_at i (flat_map (calls_at s who) (front ++ Broken side n t ∷ back))) ≡ steps_at i (by_side who side (turn_calls s t) (copy_calls s t))
broken_segment {M} state moves s who i old front x side n t y back z fresh there before r after =
    let m = r.moving in
    let past = run_marks state moves s who i old front x fresh.script there before (fresh_begun fresh) in
    let items = items_unmarked state moves x.task i _ t.items _ m.turn.working in
    let calls = by_side who side (turn_calls s t) (copy_calls s t) in
    let none : NoMarks (steps_at i calls) = subst (λ (k : Script). NoMarks (steps_at i (by_side who side (turn_calls k t) (copy_calls k t)))) past.task (by_unmarked i who side (turn_calls x.task.script t) (copy_calls x.task.script t) items.0 items.1) in
    let few = below_on (bound_of x) (3 * n) (steps_at i (flat_map (calls_at s who) front)) (omega (arith, at_running x Moving m.was, m.number)) past.below in
    let moving : y.phase ≡ Stopped = ap (λ (v : Snapshot M). v.phase) r.after in
    segment_of s who i (3 * n) front (Broken side n t) back (steps_at i calls) [] few none
    (marked_front (media_count s) (3 * n) i calls there ∙ ap (λ (steps : List Step). Mark (3 * n) ∷ steps) (sym (append-nil (steps_at i calls))))
    (next_marked state moves s who i y back z there after (subst IsUnderWay (sym moving) tt))

-- which is one get and one put for each of the lowest blocks that are owed, among the steps of the pieces
pub round_copies : {M I : Type 0} (state : M → MediumState I) (moves : I → Step → Bool → I → Type 0) (i : ℕ) (x : Snapshot M) (side : Side) (n : ℕ) (t : TurnDone) (lost : Bool) (blocks pages : ℕ) (y : Snapshot M) → IsStage state moves x (Round side n t lost blocks pages) y →
    HasCopied x.task.script.head.shelf i (take x.task.script.head.slice x.owed.blocks) t.items (steps_at i (turn_calls x.task.script t)) (steps_at i (copy_calls x.task.script t))
round_copies state moves i x side n t lost blocks pages y r =
    let c = r.moving.turn.working in
    let steps = items_here state moves x.task i _ t.items _ c in
    record { once = each_once state moves x.task _ t.items _ c r.copied refl; left_is = steps.0; taken_is = steps.1 ∙ ap (λ (bs : List ℕ). block_steps (λ b. Put b) x.task.script.head.shelf i bs) (read_all (copies_of t.items) r.copied) }

-- and where one failed, for some of these
pub broken_copies : {M I : Type 0} (state : M → MediumState I) (moves : I → Step → Bool → I → Type 0) (i : ℕ) (x : Snapshot M) (side : Side) (n : ℕ) (t : TurnDone) (y : Snapshot M) → IsStage state moves x (Broken side n t) y →
    HasBroken x.task.script.head.shelf i (take x.task.script.head.slice x.owed.blocks) t.items (steps_at i (turn_calls x.task.script t)) (steps_at i (copy_calls x.task.script t))
broken_copies state moves i x side n t y r =
    let c = r.moving.turn.working in
    let steps = items_here state moves x.task i _ t.items _ c in
    record { broke = broke_off state moves x.task _ t.items _ c r.failed; left_is = steps.0; taken_is = steps.1 }

-- The pause: between its mark and the next one each medium has the copies of what is owed alone.
pub pause_segment : {M I : Type 0} (state : M → MediumState I) (moves : I → Step → Bool → I → Type 0) (s : Script) (who : Side) (i : ℕ) (old : Snapshot M) (front : List Stage) (x : Snapshot M) (side : Side) (n : ℕ) (copies : List Copy) (pages : ℕ) (y : Snapshot M) (back : List Stage) →
    IsFresh s old → i < media_count s → Chain (IsStage state moves) old front x → IsStage state moves x (Resume side n copies pages) y →
    segment (3 * n + 1) (steps_at i (flat_map (calls_at s who) (front ++ Resume side n copies pages ∷ back)))
    ≡ by_side who side (block_steps (λ b. Get b) s.head.shelf i x.owed.blocks) (block_steps (λ b. Put b) s.head.shelf i x.owed.blocks)
pause_segment {M} state moves s who i old front x side n copies pages y back fresh there before r =
    let size = s.head.shelf in
    let past = run_marks state moves s who i old front x fresh.script there before (fresh_begun fresh) in
    let calls = by_side who side (flat_map (gets_of size) copies) (flat_map (puts_of size) copies) in
    let copied = copies_unmarked size i copies in
    let none = by_unmarked i who side (flat_map (gets_of size) copies) (flat_map (puts_of size) copies) copied.0 copied.1 in
    let few = below_on (bound_of x) (3 * n + 1) (steps_at i (flat_map (calls_at s who) front)) (omega (arith, at_running x Suspended r.was, r.number)) past.below in
    let after = steps_at i (flat_map (calls_at s who) back) in
    segment_of s who i (3 * n + 1) front (Resume side n copies pages) back (steps_at i calls) (Mark (3 * n + 2) ∷ []) few none
    (marked_front (media_count s) (3 * n + 1) i (calls ++ resume_mark s n) there
    ∙ ap (λ (steps : List Step). Mark (3 * n + 1) ∷ steps) (steps_more i calls (resume_mark s n) ∙ ap (λ (steps : List Step). steps_at i calls ++ steps) (one_mark (media_count s) (3 * n + 2) i there)))
    refl
    ∙ sides who side (ap (λ (bs : List ℕ). block_steps (λ b. Get b) size i bs) r.copies_all.each) (ap (λ (bs : List ℕ). block_steps (λ b. Put b) size i bs) r.copies_all.each)
  where
    gets : steps_at i (flat_map (gets_of s.head.shelf) copies) ≡ block_steps (λ b. Get b) s.head.shelf i (map (λ (c : Copy). c.block) copies)
    gets = (copies_here s.head.shelf i copies).0

    puts : steps_at i (flat_map (puts_of s.head.shelf) copies) ≡ block_steps (λ b. Put b) s.head.shelf i (map (λ (c : Copy). c.block) copies)
    puts = (copies_here s.head.shelf i copies).1 ∙ ap (λ (bs : List ℕ). block_steps (λ b. Put b) s.head.shelf i bs) (read_all copies r.copies_all.copied)

    sides : {got put : List Step} (w k : Side) → block_steps (λ b. Get b) s.head.shelf i (map (λ (c : Copy). c.block) copies) ≡ got → block_steps (λ b. Put b) s.head.shelf i (map (λ (c : Copy). c.block) copies) ≡ put →
        steps_at i (by_side w k (flat_map (gets_of s.head.shelf) copies) (flat_map (puts_of s.head.shelf) copies)) ≡ by_side w k got put
    sides Source Source p q = gets ∙ p
    sides Source Destination p q = puts ∙ q
    sides Destination Source p q = puts ∙ q
    sides Destination Destination p q = gets ∙ p

-- A pause in which a copy failed: each medium has the calls of the copies up to that one alone.
pub stop_segment : {M I : Type 0} (state : M → MediumState I) (moves : I → Step → Bool → I → Type 0) (s : Script) (who : Side) (i : ℕ) (old : Snapshot M) (front : List Stage) (x : Snapshot M) (side : Side) (n : ℕ) (copies : List Copy) (y : Snapshot M) (back : List Stage) (z : Snapshot M) →
    IsFresh s old → i < media_count s → Chain (IsStage state moves) old front x → IsStage state moves x (Stop side n copies) y → Chain (IsStage state moves) y back z →
    segment (3 * n + 1) (steps_at i (flat_map (calls_at s who) (front ++ Stop side n copies ∷ back))) ≡ steps_at i (by_side who side (flat_map (gets_of s.head.shelf) copies) (flat_map (puts_of s.head.shelf) copies))
stop_segment {M} state moves s who i old front x side n copies y back z fresh there before r after =
    let size = s.head.shelf in
    let past = run_marks state moves s who i old front x fresh.script there before (fresh_begun fresh) in
    let calls = by_side who side (flat_map (gets_of size) copies) (flat_map (puts_of size) copies) in
    let copied = copies_unmarked size i copies in
    let none = by_unmarked i who side (flat_map (gets_of size) copies) (flat_map (puts_of size) copies) copied.0 copied.1 in
    let few = below_on (bound_of x) (3 * n + 1) (steps_at i (flat_map (calls_at s who) front)) (omega (arith, at_running x Suspended r.was, r.number)) past.below in
    let stopped : y.phase ≡ Stopped = ap (λ (v : Snapshot M). v.phase) r.after in
    segment_of s who i (3 * n + 1) front (Stop side n copies) back (steps_at i calls) [] few none
    (marked_front (media_count s) (3 * n + 1) i calls there ∙ ap (λ (steps : List Step). Mark (3 * n + 1) ∷ steps) (sym (append-nil (steps_at i calls))))
    (next_marked state moves s who i y back z there after (subst IsUnderWay (sym stopped) tt))

-- After the move the side that was left gets no call.

pub no_puts : (size : ℕ) (items : List Item) → copies_of items ≡ [] → flat_map (there_of size) items ≡ []
no_puts size [] none = refl
no_puts size (Served p ∷ items) none = no_puts size items none
no_puts size (Crossed c ∷ items) none = absurd cc

pub other_side : {X : Type 0} (k : Side) (a b : X) → by_side (opposite k) k a b ≡ b
other_side Source a b = refl
other_side Destination a b = refl

-- guests run, or all is over, and no migration comes any more
abbrev pub IsAfter : RunPhase → Type 0
IsAfter Running = Unit {0}
IsAfter Over = Unit {0}
IsAfter New = ⊥
IsAfter Moving = ⊥
IsAfter Suspended = ⊥
IsAfter Stopped = ⊥

pub none_left : {M I : Type 0} (state : M → MediumState I) (moves : I → Step → Bool → I → Type 0) (s : Script) (k : Side) (x : Snapshot M) (stages : List Stage) (y : Snapshot M) → x.tried ≡ true → x.side ≡ k → IsAfter x.phase → Chain (IsStage state moves) x stages y →
    flat_map (calls_at s (opposite k)) stages ≡ []
none_left state moves s k x [] y tried side after c = refl
none_left state moves s k x (Title ∷ stages) y tried side after c = absurd (subst IsAfter c.1.was after)
none_left state moves s k x (Begin ∷ stages) y tried side after c = let untried = c.1.due.untried in absurd cc
none_left state moves s k x (Round w n t lost blocks pages ∷ stages) y tried side after c = absurd (subst IsAfter c.1.moving.was after)
none_left state moves s k x (Broken w n t ∷ stages) y tried side after c = absurd (subst IsAfter c.1.moving.was after)
none_left state moves s k x (Suspend ∷ stages) y tried side after c = absurd (subst IsAfter c.1.was after)
none_left state moves s k x (Resume w n copies pages ∷ stages) y tried side after c = absurd (subst IsAfter c.1.was after)
none_left state moves s k x (Stop w n copies ∷ stages) y tried side after c = absurd (subst IsAfter c.1.was after)
none_left state moves s k x (GiveUp n ∷ stages) y tried side after c = absurd (subst IsAfter c.1.was after)
none_left {M} state moves s k x (End ∷ stages) y tried side after c =
    none_left state moves s k c.0 stages y (ap (λ (z : Snapshot M). z.tried) c.1.after ∙ tried) (ap (λ (z : Snapshot M). z.side) c.1.after ∙ side) (subst IsAfter (sym (ap (λ (z : Snapshot M). z.phase) c.1.after)) tt) c.2
none_left {M} state moves s k x (Turn w t ∷ stages) y tried side after c =
    let none = no_puts s.head.shelf t.items (after_failed state moves x.task _ t.items _ c.1.turn.working refl) in
    let first : calls_at s (opposite k) (Turn w t) ≡ [] = ap (λ (j : Side). by_side (opposite k) j (turn_calls s t) (copy_calls s t)) (c.1.stands ∙ side) ∙ other_side k (turn_calls s t) (copy_calls s t) ∙ none in
    ap (λ (calls : List At). calls ++ flat_map (calls_at s (opposite k)) stages) first
    ∙ none_left state moves s k c.0 stages y (ap (λ (z : Snapshot M). z.tried) c.1.after ∙ tried) (ap (λ (z : Snapshot M). z.side) c.1.after ∙ side) (subst IsAfter (sym (ap (λ (z : Snapshot M). z.phase) c.1.after ∙ c.1.was)) tt) c.2
