use Rattle.std.proofs.Common.{◌≡◌, ◌==◌, ℕ, zero, suc, ◌+◌, ◌-◌, ◌%◌, ◌<◌, ◌≤◌, ⊎_elim, Bool, true, false, cond, List, [], ◌∷◌, Option, Some, None, IfSome, All, length, map, slice_get, slice_index_or, slice_set, sum, take, refl, sym, ap, subst, ◌∙◌, arith, mod-lt, ◌++◌}
use Rattle.std.specs.List.{AllByRecursion}
use Rattle.std.proofs.lemmas.Bool.{cases_eq}
use Rattle.std.proofs.lemmas.List.Elements.{All-nil, All-cons}
use Rattle.std.proofs.lemmas.List.Sums.{sum_by-cons, sum_by-set, sum-map}
use Rattle.std.proofs.lemmas.Option.{same_Some, slice_get_within, get_or_from_slice_get}
use Rattle.std.proofs.lemmas.List.{length-map}
use Rattle.mig_base.proofs.ListLemmas.{all_at, none_of_sum, slice_get-push_cases}
use Rattle.nvm_model.specs.Rounds.{InMixedOrder, picked_pieces}
use Rattle.nvm_model.specs.declared.command.Command.{Command}
use Rattle.nvm_model.specs.declared.command.Outcome.{Outcome}
use Rattle.nvm_model.specs.declared.command.Work.{Work}
use Rattle.nvm_model.specs.declared.line.Line.{Line}
use Rattle.nvm_model.specs.declared.line.Line.TheVariants as line
use Rattle.nvm_model.specs.declared.script.Script.{Script}
use Rattle.nvm_model.specs.Event.{DoesPiece, One}
use Rattle.nvm_model.specs.History.{faults_shown, is_faulted}
use Rattle.nvm_model.specs.Piece.{block_at, data_block, piece_count, piece_at, pieces_left, done_blocks, blocks_after, memory_after, digest_after, after_piece}
use Rattle.nvm_model.specs.Turn.{InOrder, Works, left_in, lefts, next_lane, pick_at, with_some, word_at}
use Rattle.nvm_model.specs.World.{Lane, World, lane_of, new_lane}
use Rattle.turns.proofs.CommandLemmas.{HasNewWork, HasPieces, has_outcome, same_or_not}

-- All pieces of a turn can be done, in the order of one thread.

-- Lists.

-- what is so of one element and was of the others
all_set : {X : Type 0} (P : X → Type 0) (xs : List X) (i : ℕ) (y : X) → AllByRecursion P xs → P y → AllByRecursion P (slice_set xs i y)
all_set P [] i y all here = tt
all_set P (x ∷ xs) zero y all here = (here, all.1)
all_set P (x ∷ xs) (suc i) y all here = (all.0, all_set P xs i y all.1 here)

-- what holds of each element holds of the one at a place
all_there : {X : Type 0} (P : X → Type 0) (xs : List X) (i : ℕ) (x : X) → AllByRecursion P xs → slice_get xs i ≡ Some x → P x
all_there P xs i x all there = subst P (get_or_from_slice_get xs i x x there) (all_at P xs i x all (slice_get_within xs i x there))

-- a sum falls by one with one of its numbers
sum_falls : {X : Type 0} (f : X → ℕ) (xs : List X) (i : ℕ) (x y : X) → slice_get xs i ≡ Some x → f x ≡ f y + 1 → sum (map f xs) ≡ sum (map f (slice_set xs i y)) + 1
sum_falls f xs i x y there fewer =
    let all = sum_by-set f xs i y x (slice_get_within xs i x there) in
    let here = ap f (get_or_from_slice_get xs i x x there) in
    omega (arith, all, here, fewer, sum-map f xs, sum-map f (slice_set xs i y))

-- Which lane is next.

-- there is a lane with some left
some_there : (k : ℕ) (left : List ℕ) → 0 < sum left → 0 < length (with_some k left)
some_there k [] some = absurd (omega (arith, some))
some_there k (zero ∷ others) some = some_there (k + 1) others some
some_there k (suc n ∷ others) some = omega arith

-- a lane has some left, where the first one has number k
record HasSome (k : ℕ) (left : List ℕ) (lane : ℕ) : Type 0 where
  past : k ≤ lane
  fewer : ℕ
  there : slice_get left (lane - k) ≡ Some (suc fewer)

-- so it has behind one lane more
one_before : (k x : ℕ) (others : List ℕ) (lane : ℕ) → HasSome (k + 1) others lane → HasSome k (x ∷ others) lane
one_before k x others lane has =
    let place : lane - k ≡ suc (lane - (k + 1)) = omega (arith, has.past) in
    record { past = omega (arith, has.past); fewer = has.fewer; there = ap (slice_get (x ∷ others)) place ∙ has.there }

-- each of the lanes with some left has some
each_has_some : (k : ℕ) (left : List ℕ) (i : ℕ) → i < length (with_some k left) → HasSome k left (slice_index_or (with_some k left) i 0)
each_has_some k [] i within = absurd (omega arith)
each_has_some k (zero ∷ others) i within = one_before k zero others _ (each_has_some (k + 1) others i within)
each_has_some k (suc n ∷ others) zero within =
    let first : k - k ≡ 0 = omega arith in
    record { past = omega arith; fewer = n; there = ap (slice_get (suc n ∷ others)) first }
each_has_some k (suc n ∷ others) (suc i) within = one_before k (suc n) others _ (each_has_some (k + 1) others i (omega (arith, within)))

-- the place that is picked is one of them
picked_within : (first : Bool) (word count : ℕ) → 0 < count → cond first 0 (word % count) < count
picked_within true word count some = some
picked_within false word count some = mod-lt word some

-- the lane that is next has some left
next_has_some : (mix n : ℕ) (left : List ℕ) → 0 < sum left → HasSome 1 left (next_lane mix n left)
next_has_some mix n left some = each_has_some 1 left (pick_at mix n (length (with_some 1 left))) (picked_within (mix == 0) (word_at mix n) (length (with_some 1 left)) (some_there 1 left some))

-- the element that gave a number
record Gives {X : Type 0} (f : X → ℕ) (xs : List X) (i n : ℕ) : Type 0 where
  element : X
  there : slice_get xs i ≡ Some element
  is : f element ≡ n

-- a number of a list's image was given by an element
gives : {X : Type 0} (f : X → ℕ) (xs : List X) (i n : ℕ) → slice_get (map f xs) i ≡ Some n → Gives f xs i n
gives f [] i n there = cc
gives f (x ∷ xs) zero n there = record { element = x; there = refl; is = same_Some (f x) n there }
gives f (x ∷ xs) (suc i) n there = let other = gives f xs i n there in record { element = other.element; there = other.there; is = other.is }

-- The next piece of a lane.

-- the first of some commands with a piece that isn't done
record FirstLeft (shelf : ℕ) (running : List Command) : Type 0 where
  place : ℕ
  command : Command
  work : Work
  at_place : slice_get running place ≡ Some command
  earlier : All (λ (c : Command). pieces_left shelf c ≡ 0) (take place running)
  work_is : command.work ≡ Some work
  left : work.done < piece_count shelf work.span
  pieces : HasPieces work

-- a command with a piece has work
left_here : (shelf : ℕ) (command : Command) (others : List Command) (w : Option Work) → command.work ≡ w → IfSome w HasPieces → 0 < pieces_left shelf (record command { work = w }) → FirstLeft shelf (command ∷ others)
left_here shelf command others None is pieces some = absurd (omega (arith, some))
left_here shelf command others (Some work) is pieces some = record {
  place = 0;
  command = command;
  work = work;
  at_place = refl;
  earlier = All-nil (λ (c : Command). pieces_left shelf c ≡ 0);
  work_is = is;
  left = omega (arith, some);
  pieces = pieces;
}

-- where the first command has no piece left, one behind it has
left_later : (shelf : ℕ) (command : Command) (others : List Command) → pieces_left shelf command ≡ 0 → FirstLeft shelf others → FirstLeft shelf (command ∷ others)
left_later shelf command others none first = record {
  place = suc first.place;
  command = first.command;
  work = first.work;
  at_place = first.at_place;
  earlier = All-cons (λ (c : Command). pieces_left shelf c ≡ 0) command (take first.place others) none first.earlier;
  work_is = first.work_is;
  left = first.left;
  pieces = first.pieces;
}

-- where pieces are left, there is a first command with one
first_left : (shelf : ℕ) (running : List Command) → AllByRecursion HasNewWork running → 0 < sum (map (pieces_left shelf) running) → FirstLeft shelf running
first_left shelf [] new_work some = absurd (omega (arith, some))
first_left shelf (command ∷ others) new_work some =
    let sums = sum_by-cons (λ (n : ℕ). n) (pieces_left shelf command) (map (pieces_left shelf) others) in
    ⊎_elim (λ none. left_later shelf command others none (first_left shelf others new_work.1 (omega (arith, sums, none, some))))
    (λ more. left_here shelf command others command.work refl new_work.0 (omega (arith, more)))
    (cases_eq (pieces_left shelf command) 0)

-- a piece of a lane, which leaves one fewer
record HasPiece (s : Script) (blocks : List (List ℕ)) (lane : Lane) : Type 0 where
  cid : ℕ
  first : ℕ
  count : ℕ
  outcome : Outcome
  digest : Option (List ℕ)
  new_blocks : List (List ℕ)
  new : Lane
  does : DoesPiece s cid first count outcome digest blocks lane new_blocks new
  calm : is_faulted outcome ≡ false
  fewer : left_in s.head.shelf lane ≡ left_in s.head.shelf new + 1
  new_work : AllByRecursion HasNewWork new.running

-- one piece more is done
one_fewer : (shelf : ℕ) (command : Command) (work : Work) (outcome : Outcome) (w : Option Work) → command.work ≡ w → w ≡ Some work → work.done < piece_count shelf work.span → pieces_left shelf command ≡ pieces_left shelf (after_piece command work outcome) + 1
one_fewer shelf command work outcome w is work_is left =
    let before : pieces_left shelf command ≡ piece_count shelf work.span - work.done = ap (λ (v : Option Work). pieces_left shelf (record command { work = v })) (is ∙ work_is) in
    omega (arith, before, left)

-- where pieces are left, the next one can be done with no fault
has_piece : (s : Script) (blocks : List (List ℕ)) (lane : Lane) → AllByRecursion HasNewWork lane.running → 0 < left_in s.head.shelf lane → HasPiece s blocks lane
has_piece s blocks lane new_work some =
    let next = first_left s.head.shelf lane.running new_work some in
    let work = next.work in
    let span = piece_at s.head.shelf work.span work.done in
    let at = span.first - work.span.first in
    let has = has_outcome work.op (λ (i : ℕ). block_at blocks (span.first + i) ≡ data_block lane.pages work.pages (at + i)) (λ i. same_or_not _ _) span.count next.pieces in
    let done = done_blocks span.count has.outcome in
    let new_blocks = blocks_after work.op work.pages span.first at done lane.pages blocks in
    let memory = memory_after work.op work.pages span.first at done lane.pages blocks in
    let after = after_piece next.command work has.outcome in
    record {
      cid = next.command.cid;
      first = span.first;
      count = span.count;
      outcome = has.outcome;
      digest = digest_after work.op span.first done blocks;
      new_blocks = new_blocks;
      new = record lane { pages = memory; running = slice_set lane.running next.place after };
      does = record {
        place = next.place;
        command = next.command;
        work = work;
        memory = memory;
        at_place = next.at_place;
        earlier = next.earlier;
        work_is = next.work_is;
        left = next.left;
        cid_is = refl;
        does = record { first_is = refl; count_is = refl; fits = has.fits; digest_is = refl; blocks_is = refl; memory_is = refl };
        after = refl;
      };
      calm = has.calm;
      fewer = sum_falls (pieces_left s.head.shelf) lane.running next.place next.command after next.at_place (one_fewer s.head.shelf next.command work has.outcome next.command.work refl next.work_is next.left);
      new_work = all_set HasNewWork lane.running next.place after new_work next.pieces;
    }

-- All pieces.

-- a lane whose running commands are as their fetches made them, but for their pieces
abbrev pub IsNewLane : Lane → Type 0
IsNewLane lane = AllByRecursion HasNewWork lane.running

-- all pieces from a world on, of which n were done before
pub record HasWorks (s : Script) (n : ℕ) (w : World) : Type 0 where
  pub events : List Line
  pub v : World
  pub working : Works s w events v
  pub order : InOrder s n w events
  pub calm : faults_shown events ≡ 0

-- no piece is left
works_end : (s : Script) (n : ℕ) (w : World) → sum (lefts s w) ≡ 0 → HasWorks s n w
works_end s n w none = record {
  events = [];
  v = w;
  working = record { are = tt; steps = refl; all = each w.lanes (none_of_sum (left_in s.head.shelf) w.lanes none) };
  order = tt;
  calm = refl;
}
  where
    each : (lanes : List Lane) → AllByRecursion (λ (lane : Lane). left_in s.head.shelf lane ≡ 0) lanes →
        AllByRecursion (λ (lane : Lane). AllByRecursion (λ (c : Command). pieces_left s.head.shelf c ≡ 0) lane.running) lanes
    each [] none = tt
    each (lane ∷ lanes) none = (none_of_sum (pieces_left s.head.shelf) lane.running none.0, each lanes none.1)

-- the world after a piece of lane k
abbrev after_work : {s : Script} (w : World) (k : ℕ) {lane : Lane} → HasPiece s w.blocks lane → World
after_work w k piece = record { blocks = piece.new_blocks; lanes = slice_set w.lanes (k - 1) piece.new }

-- a piece of the lane that is next, and then the others
then_piece : (s : Script) (n : ℕ) (w : World) (k : ℕ) (lane : Lane) → k ≡ next_lane s.head.mix n (lefts s w) → 1 ≤ k → slice_get w.lanes (k - 1) ≡ Some lane → (piece : HasPiece s w.blocks lane) →
    HasWorks s (n + 1) (after_work w k piece) → HasWorks s n w
then_piece s n w k lane next past there piece more =
    let within = slice_get_within w.lanes (k - 1) lane there in
    let here : lane_of w k ≡ lane = get_or_from_slice_get w.lanes (k - 1) lane (new_lane 0) there in
    let e = line.Piece k piece.cid piece.first piece.count piece.outcome piece.digest in
    let one : One s w e (after_work w k piece) = record {
      there = (past, omega (arith, within));
      blocks = piece.new_blocks;
      lane = piece.new;
      step = subst (λ (l : Lane). DoesPiece s piece.cid piece.first piece.count piece.outcome piece.digest w.blocks l piece.new_blocks piece.new) (sym here) piece.does;
      after = refl;
    } in
    record {
      events = e ∷ more.events;
      v = more.v;
      working = record { are = (tt, more.working.are); steps = (after_work w k piece, one, more.working.steps); all = more.working.all };
      order = (after_work w k piece, one, next, more.order);
      calm = rw piece.calm more.calm;
    }

-- all m pieces that are left can be done
pub has_works : (s : Script) (m n : ℕ) (w : World) → sum (lefts s w) ≡ m → AllByRecursion IsNewLane w.lanes → HasWorks s n w
has_works s zero n w left new_work = works_end s n w left
has_works s (suc m) n w left new_work =
    let k = next_lane s.head.mix n (lefts s w) in
    let has = next_has_some s.head.mix n (lefts s w) (omega (arith, left)) in
    let next = gives (left_in s.head.shelf) w.lanes (k - 1) (suc has.fewer) has.there in
    let piece = has_piece s w.blocks next.element (all_there IsNewLane w.lanes (k - 1) next.element new_work next.there) (omega (arith, next.is)) in
    let fewer = sum_falls (left_in s.head.shelf) w.lanes (k - 1) next.element piece.new next.there piece.fewer in
    then_piece s n w k next.element refl has.past next.there piece
    (has_works s m (n + 1) (after_work w k piece) (omega (arith, left, fewer)) (all_set IsNewLane w.lanes (k - 1) piece.new new_work piece.new_work))

-- With copies between them.

-- all pieces from a world on, of which n were done before, and so many copies
pub record HasMixed (s : Script) (n copies : ℕ) (w : World) : Type 0 where
  pub picks : List (Option Line)
  pub v : World
  pub working : Works s w (picked_pieces picks) v
  pub order : InMixedOrder s n copies w picks
  pub calm : faults_shown (picked_pieces picks) ≡ 0

sum_push : (xs : List ℕ) (c : ℕ) → sum (xs ++ c ∷ []) ≡ sum xs + c
sum_push [] c = omega (arith, sum_by-cons (λ (n : ℕ). n) c [])
sum_push (x ∷ xs) c = omega (arith, sum_push xs c, sum_by-cons (λ (n : ℕ). n) x (xs ++ c ∷ []), sum_by-cons (λ (n : ℕ). n) x xs)

none_left : (s : Script) (lanes : List Lane) → AllByRecursion (λ (lane : Lane). left_in s.head.shelf lane ≡ 0) lanes →
    AllByRecursion (λ (lane : Lane). AllByRecursion (λ (c : Command). pieces_left s.head.shelf c ≡ 0) lane.running) lanes
none_left s [] none = tt
none_left s (lane ∷ lanes) none = (none_of_sum (pieces_left s.head.shelf) lane.running none.0, none_left s lanes none.1)

-- a piece that no fault stopped, before others without one
calm_piece : (k cid first count : ℕ) (outcome : Outcome) (digest : Option (List ℕ)) (es : List Line) → is_faulted outcome ≡ false → faults_shown es ≡ 0 → faults_shown (line.Piece k cid first count outcome digest ∷ es) ≡ 0
calm_piece k cid first count outcome digest es calm others = rw calm others

-- a copy, and then the others
then_copy : (s : Script) (n copies : ℕ) (w : World) → length w.lanes + 1 ≡ next_lane s.head.mix n (lefts s w ++ copies ∷ []) → HasMixed s (n + 1) (copies - 1) w → HasMixed s n copies w
then_copy s n copies w next more = record { picks = None ∷ more.picks; v = more.v; working = more.working; order = (next, more.order); calm = more.calm }

-- a piece of the lane that is next, and then the others
then_mixed : (s : Script) (n copies : ℕ) (w : World) (k : ℕ) (lane : Lane) → k ≡ next_lane s.head.mix n (lefts s w ++ copies ∷ []) → 1 ≤ k → slice_get w.lanes (k - 1) ≡ Some lane → (piece : HasPiece s w.blocks lane) →
    HasMixed s (n + 1) copies (after_work w k piece) → HasMixed s n copies w
then_mixed s n copies w k lane next past there piece more =
    let within = slice_get_within w.lanes (k - 1) lane there in
    let here : lane_of w k ≡ lane = get_or_from_slice_get w.lanes (k - 1) lane (new_lane 0) there in
    let e = line.Piece k piece.cid piece.first piece.count piece.outcome piece.digest in
    let one : One s w e (after_work w k piece) = record {
      there = (past, omega (arith, within));
      blocks = piece.new_blocks;
      lane = piece.new;
      step = subst (λ (l : Lane). DoesPiece s piece.cid piece.first piece.count piece.outcome piece.digest w.blocks l piece.new_blocks piece.new) (sym here) piece.does;
      after = refl;
    } in
    let calm = calm_piece k piece.cid piece.first piece.count piece.outcome piece.digest (picked_pieces more.picks) piece.calm more.calm in
    record {
      picks = Some e ∷ more.picks;
      v = more.v;
      working = record { are = (tt, more.working.are); steps = (after_work w k piece, one, more.working.steps); all = more.working.all };
      order = (after_work w k piece, one, next, more.order);
      calm = calm;
    }

-- all that are left can be done, whichever is next
pub has_mixed : (s : Script) (m n copies : ℕ) (w : World) → sum (lefts s w) + copies ≡ m → AllByRecursion IsNewLane w.lanes → HasMixed s n copies w
has_mixed s zero n copies w left new_work = record {
  picks = [];
  v = w;
  working = record { are = tt; steps = refl; all = none_left s w.lanes (none_of_sum (left_in s.head.shelf) w.lanes (omega (arith, left))) };
  order = omega (arith, left);
  calm = refl;
}
has_mixed s (suc m) n copies w left new_work =
    let all = lefts s w ++ copies ∷ [] in
    let k = next_lane s.head.mix n all in
    let has = next_has_some s.head.mix n all (omega (arith, left, sum_push (lefts s w) copies)) in
    let count = length-map w.lanes (left_in s.head.shelf) in
    ⊎_elim
    (λ there.
    let next = gives (left_in s.head.shelf) w.lanes (k - 1) (suc has.fewer) there in
    let piece = has_piece s w.blocks next.element (all_there IsNewLane w.lanes (k - 1) next.element new_work next.there) (omega (arith, next.is)) in
    let fewer = sum_falls (left_in s.head.shelf) w.lanes (k - 1) next.element piece.new next.there piece.fewer in
    then_mixed s n copies w k next.element refl has.past next.there piece
    (has_mixed s m (n + 1) copies (after_work w k piece) (omega (arith, left, fewer)) (all_set IsNewLane w.lanes (k - 1) piece.new new_work piece.new_work)))
    (λ is. then_copy s n copies w (omega (arith, is.0, count, has.past)) (has_mixed s m (n + 1) (copies - 1) w (omega (arith, left, is.1)) new_work))
    (slice_get-push_cases (lefts s w) copies (suc has.fewer) (k - 1) has.there)
