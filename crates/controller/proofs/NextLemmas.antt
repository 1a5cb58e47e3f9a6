use Rattle.std.proofs.Common.{◌≡◌, ℕ, zero, suc, ◌+◌, ◌-◌, ◌*◌, ◌<◌, ◌≤◌, ⊎_elim, List, [], ◌∷◌, ◌++◌, Option, Some, None, All, get_or, length, map, sum, take, drop, slice_get, slice_index_or, slice_set, refl, sym, ap, subst, ◌∙◌, arith}
use Rattle.std.proofs.lemmas.Bool.{cases_lt}
use Rattle.std.proofs.lemmas.List.{length-append, length-take, length-drop, take_all, drop_all, take-append-le, drop-append-le, get_or_append_left, get_or-append_right}
use Rattle.std.proofs.lemmas.List.Elements.{All-nil, All-cons, All-head, All-tail}
use Rattle.std.proofs.lemmas.List.FromFn.{length-map-range_with_len, get_or-map-range_with_len}
use Rattle.std.proofs.lemmas.List.Sums.{sum_by-cons}
use Rattle.std.specs.List.{range_with_len}
use Rattle.nvm_model.specs.declared.command.Command.{Command}
use Rattle.nvm_model.specs.declared.command.Outcome.{Outcome}
use Rattle.nvm_model.specs.declared.command.Work.{Work}
use Rattle.nvm_model.specs.declared.piece.Piece.{Piece}
use Rattle.nvm_model.specs.Piece.{after_piece, piece_count, pieces_left}
use Rattle.nvm_cmd.specs.Answer.{job_of}
use Rattle.nvm_cmd.specs.Cut.{piece_of}
use Rattle.nvm_cmd.proofs.CutLemmas.{part_in_shelf}
use Rattle.controller.proofs.PlanLemmas.{few_pieces}
use Rattle.std.specs.Prelude.{IsTrue}
use Rattle.std.proofs.lemmas.List.{get_or-take}
use Rattle.nvm_values.specs.Op.{moves_data}
use Rattle.nvm_values.specs.Status.{StatusPair}
use Rattle.nvm_model.specs.declared.script.LaneSet.{LaneSet}
use Rattle.nvm_model.specs.Check.{pages_needed}
use Rattle.nvm_model.specs.Memory.{page_at}
use Rattle.nvm_model.specs.Piece.{page_of}
use Rattle.nvm_model.specs.Ring.{IsCqPage, IsSqRing}
use Rattle.nvm_model.specs.World.{Lane}
use Rattle.nvm_ring.specs.Queues.{HasWindow, IsOrdered, posted_entries, sq_of}
use Rattle.nvm_blocks.specs.Namespace.{IsForNamespace, NamespaceState, block_count}
use Rattle.nvm_blocks.specs.Work.{HasPages, IsSameButData}
use Rattle.nvm_cmd.specs.Cut.{IsPartOf}
use Rattle.nvm_cmd.specs.declared.job.Job.{Job}
use Rattle.guest_ram.specs.Window.{WindowState, data_pages}
use Rattle.controller.specs.Pair.{IsFetched, IsNewWork, after_pieces, command_pieces, lane_pieces, told_fetch, worked}

-- The commands of a lane while their pieces are done, in their order, and what the next piece asks for and leaves.

-- One command.

-- a command's work after pieces of it
work_after : (c : Command) (w : Work) (os : List Outcome) → c.work ≡ Some w → ((after_pieces c os).work ≡ Some (record w { done = w.done + length os })) × ((after_pieces c os).cid ≡ c.cid)
work_after c w [] is = let same : w.done ≡ w.done + 0 = omega arith in (is ∙ ap (λ (n : ℕ). Some (record w { done = n })) same, refl)
work_after c w (o ∷ os) is =
    let rest = work_after (after_piece c w o) (record w { done = w.done + 1 }) os refl in
    let same : w.done + 1 + length os ≡ w.done + suc (length os) = omega arith in
    let done : (after_pieces (after_piece c w o) os).work ≡ Some (record w { done = w.done + suc (length os) }) = rest.0 ∙ ap (λ (n : ℕ). Some (record w { done = n })) same in
    rw is (done, rest.1)

-- how many pieces are left of a command with work
left_of_work : (shelf : ℕ) (c : Command) (w : Work) → c.work ≡ Some w → pieces_left shelf c ≡ piece_count shelf w.span - w.done
left_of_work shelf c w is = ap (λ (v : Option Work). pieces_left shelf (record c { work = v })) is

-- one without has none left
left_of_none : (shelf : ℕ) (c : Command) → c.work ≡ None → pieces_left shelf c ≡ 0
left_of_none shelf c is = ap (λ (v : Option Work). pieces_left shelf (record c { work = v })) is

-- what pieces that were done leave of a command, by whether it has work
left_by_work : (shelf : ℕ) (c : Command) (os : List Outcome) (w : Option Work) → c.work ≡ w → length os ≤ pieces_left shelf c → pieces_left shelf (after_pieces c os) + length os ≡ pieces_left shelf c
left_by_work shelf c [] w is few = omega arith
left_by_work shelf c (o ∷ os) None is few = absurd (omega (arith, few, left_of_none shelf c is))
left_by_work shelf c (o ∷ os) (Some w) is few =
    let now = left_of_work shelf (after_pieces c (o ∷ os)) _ (work_after c w (o ∷ os) is).0 in
    omega (arith, now, left_of_work shelf c w is, few)

-- pieces that were done aren't left
left_after : (shelf : ℕ) (c : Command) (os : List Outcome) → length os ≤ pieces_left shelf c → pieces_left shelf (after_pieces c os) + length os ≡ pieces_left shelf c
left_after shelf c os few = left_by_work shelf c os c.work refl few

-- one piece more of a command
after_more : (c : Command) (os : List Outcome) (o : Outcome) (w : Work) → (after_pieces c os).work ≡ Some w → after_pieces c (os ++ o ∷ []) ≡ after_piece (after_pieces c os) w o
after_more c [] o w is = rw is refl
after_more c (p ∷ os) o w is = after_more (after_pieces c (p ∷ [])) os o w is

-- how many pieces a new command has, by whether it has work
pieces_by_work : (k shelf blocks pages : ℕ) (c : Command) (w : Option Work) → c.work ≡ w → IsFetched blocks pages (record c { work = w }) → length (command_pieces k shelf (record c { work = w })) ≡ pieces_left shelf (record c { work = w })
pieces_by_work k shelf blocks pages c None is new = refl
pieces_by_work k shelf blocks pages c (Some w) is new =
    let all = length-map-range_with_len (λ (i : ℕ). piece_of k shelf i (job_of c.cid w)) 0 (piece_count shelf w.span) in
    omega (arith, all, new.none_done)

-- a new command has as many pieces as it has left
command_length : (k shelf blocks pages : ℕ) (c : Command) → IsFetched blocks pages c → length (command_pieces k shelf c) ≡ pieces_left shelf c
command_length k shelf blocks pages c new = pieces_by_work k shelf blocks pages c c.work refl new

-- All commands of a lane.

-- new commands have as many pieces as they have left
pub lane_length : (k shelf blocks pages : ℕ) (commands : List Command) → All (IsFetched blocks pages) commands → length (lane_pieces k shelf commands) ≡ sum (map (pieces_left shelf) commands)
lane_length k shelf blocks pages [] new = refl
lane_length k shelf blocks pages (c ∷ commands) new =
    let first = command_length k shelf blocks pages c (All-head (IsFetched blocks pages) c commands new) in
    let others = lane_length k shelf blocks pages commands (All-tail (IsFetched blocks pages) c commands new) in
    let both = length-append (command_pieces k shelf c) (lane_pieces k shelf commands) in
    let sums = sum_by-cons (λ (n : ℕ). n) (pieces_left shelf c) (map (pieces_left shelf) commands) in
    omega (arith, first, others, both, sums)

-- what was done of them isn't left
pub left_worked : (shelf : ℕ) (commands : List Command) (os : List Outcome) → length os ≤ sum (map (pieces_left shelf) commands) → sum (map (pieces_left shelf) (worked shelf commands os)) + length os ≡ sum (map (pieces_left shelf) commands)
left_worked shelf [] os few = omega (arith, few)
left_worked shelf (c ∷ commands) os few =
    let m = pieces_left shelf c in
    let before = sum_by-cons (λ (n : ℕ). n) m (map (pieces_left shelf) commands) in
    let front = take m os in
    let back = drop m os in
    let front_length = length-take m os in
    let back_length = length-drop m os in
    let first = left_after shelf c front (omega (arith, front_length)) in
    let others = left_worked shelf commands back (omega (arith, back_length, few, before)) in
    let now = sum_by-cons (λ (n : ℕ). n) (pieces_left shelf (after_pieces c front)) (map (pieces_left shelf) (worked shelf commands back)) in
    omega (arith, before, front_length, back_length, first, others, now)

-- of nothing, nothing is taken and nothing is left
none_left : {X : Type 0} (xs : List X) (n : ℕ) → length xs ≡ 0 → (take n xs ≡ xs) × (drop n xs ≡ xs)
none_left [] zero none = (refl, refl)
none_left [] (suc n) none = (refl, refl)
none_left (x ∷ xs) n none = absurd (omega (arith, none))

-- commands none of whose pieces was done
pub none_worked : (shelf : ℕ) (commands : List Command) → worked shelf commands [] ≡ commands
none_worked shelf [] = refl
none_worked shelf (c ∷ cs) =
    ap (λ (os : List Outcome). after_pieces c os ∷ worked shelf cs (drop (pieces_left shelf c) [])) (none_left [] (pieces_left shelf c) refl).0
    ∙ ap (λ (os : List Outcome). c ∷ worked shelf cs os) (none_left [] (pieces_left shelf c) refl).1
    ∙ ap (λ (ds : List Command). c ∷ ds) (none_worked shelf cs)

-- The next piece of a lane: that of the first of its commands with one left.
pub record IsNext (k shelf blocks pages : ℕ) (commands : List Command) (os : List Outcome) (piece : Piece) : Type 0 where
  pub place : ℕ
  pub command : Command
  pub work : Work
  pub at_place : slice_get (worked shelf commands os) place ≡ Some command
  pub earlier : All (λ (c : Command). pieces_left shelf c ≡ 0) (take place (worked shelf commands os))
  pub work_is : command.work ≡ Some work
  pub left : work.done < piece_count shelf work.span
  pub is_new : IsNewWork blocks pages (record work { done = 0 })
  pub piece_is : piece ≡ piece_of k shelf work.done (job_of command.cid work)
  pub after : (o : Outcome) → worked shelf commands (os ++ o ∷ []) ≡ slice_set (worked shelf commands os) place (after_piece command work o)

-- the next piece of the first command, by whether it has work
next_by_work : (k shelf blocks pages : ℕ) (c : Command) (commands : List Command) (os : List Outcome) (d : Piece) (w : Option Work) → c.work ≡ w → IsFetched blocks pages (record c { work = w }) → length os < pieces_left shelf c →
    IsNext k shelf blocks pages (c ∷ commands) os (slice_index_or (lane_pieces k shelf (c ∷ commands)) (length os) d)
next_by_work k shelf blocks pages c commands os d None is new few = absurd (omega (arith, few, left_of_none shelf c is))
next_by_work k shelf blocks pages c commands os d (Some w) is new few =
    let m = pieces_left shelf c in
    let count = left_of_work shelf c w is in
    let below : length os < piece_count shelf w.span = omega (arith, few, count) in
    let whole : take m os ≡ os = take_all m os (omega (arith, few)) in
    let none : drop m os ≡ [] = drop_all m os (omega (arith, few)) in
    let here = after_pieces c os in
    let start : worked shelf (c ∷ commands) os ≡ here ∷ worked shelf commands [] =
    ap (λ (l : List Outcome). after_pieces c l ∷ worked shelf commands (drop m os)) whole ∙ ap (λ (l : List Outcome). here ∷ worked shelf commands l) none in
    let now : Work = record w { done = w.done + length os } in
    let has = work_after c w os is in
    let own = λ (i : ℕ). piece_of k shelf i (job_of c.cid w) in
    let pieces : command_pieces k shelf c ≡ map own (range_with_len 0 (piece_count shelf w.span)) = ap (λ (v : Option Work). command_pieces k shelf (record c { work = v })) is in
    let length_is = length-map-range_with_len own 0 (piece_count shelf w.span) in
    let in_own : length os < length (command_pieces k shelf c) = rw (pieces, length_is) below in
    let at : slice_index_or (lane_pieces k shelf (c ∷ commands)) (length os) d ≡ own (w.done + length os) =
    get_or_append_left (command_pieces k shelf c) (lane_pieces k shelf commands) d (length os) in_own
    ∙ ap (λ (l : List Piece). slice_index_or l (length os) d) pieces
    ∙ get_or-map-range_with_len own 0 (piece_count shelf w.span) (length os) (w.done + length os) d below (omega (arith, new.none_done)) in
    let more_length = λ (o : Outcome). length-append os (o ∷ []) in
    let then = λ (o : Outcome).
    ap (λ (l : List Outcome). after_pieces c l ∷ worked shelf commands (drop m (os ++ o ∷ []))) (take_all m (os ++ o ∷ []) (omega (arith, few, more_length o)))
    ∙ ap (λ (l : List Outcome). after_pieces c (os ++ o ∷ []) ∷ worked shelf commands l) (drop_all m (os ++ o ∷ []) (omega (arith, few, more_length o)))
    ∙ ap (λ (e : Command). e ∷ worked shelf commands []) (after_more c os o now has.0) in
    record {
      place = 0;
      command = here;
      work = now;
      at_place = ap (λ (l : List Command). slice_get l 0) start;
      earlier = All-nil (λ (e : Command). pieces_left shelf e ≡ 0);
      work_is = has.0;
      left = omega (arith, below, new.none_done);
      is_new = record { op = new.op; none_done = refl; some = new.some; few = new.few; within = new.within; used = new.used; there = new.there };
      piece_is = at ∙ ap (λ (cid : ℕ). piece_of k shelf (w.done + length os) (job_of cid w)) (sym has.1);
      after = λ o. then o ∙ ap (λ (l : List Command). slice_set l 0 (after_piece here now o)) (sym start);
    }

-- where the first command has no piece left, it is a piece of the others
next_later : (k shelf blocks pages : ℕ) (c : Command) (commands : List Command) (os : List Outcome) (d : Piece) → pieces_left shelf c ≤ length os → length (command_pieces k shelf c) ≡ pieces_left shelf c →
    IsNext k shelf blocks pages commands (drop (pieces_left shelf c) os) (slice_index_or (lane_pieces k shelf commands) (length (drop (pieces_left shelf c) os)) d) →
    IsNext k shelf blocks pages (c ∷ commands) os (slice_index_or (lane_pieces k shelf (c ∷ commands)) (length os) d)
next_later k shelf blocks pages c commands os d past own next =
    let m = pieces_left shelf c in
    let front_length = length-take m os in
    let none = left_after shelf c (take m os) (omega (arith, front_length)) in
    let at : slice_index_or (lane_pieces k shelf (c ∷ commands)) (length os) d ≡ slice_index_or (lane_pieces k shelf commands) (length (drop m os)) d =
    get_or-append_right (command_pieces k shelf c) (lane_pieces k shelf commands) m (length os) d own past
    ∙ ap (λ (i : ℕ). slice_index_or (lane_pieces k shelf commands) i d) (sym (length-drop m os)) in
    record {
      place = suc next.place;
      command = next.command;
      work = next.work;
      at_place = next.at_place;
      earlier = All-cons (λ (e : Command). pieces_left shelf e ≡ 0) (after_pieces c (take m os)) (take next.place (worked shelf commands (drop m os))) (omega (arith, none, front_length, past)) next.earlier;
      work_is = next.work_is;
      left = next.left;
      is_new = next.is_new;
      piece_is = at ∙ next.piece_is;
      after = λ o.
          ap (λ (l : List Outcome). after_pieces c l ∷ worked shelf commands (drop m (os ++ o ∷ []))) (take-append-le m os (o ∷ []) past)
          ∙ ap (λ (l : List Outcome). after_pieces c (take m os) ∷ worked shelf commands l) (drop-append-le m os (o ∷ []) past)
          ∙ ap (λ (l : List Command). after_pieces c (take m os) ∷ l) (next.after o);
    }

-- the piece that follows those that were done is the next one
pub is_next : (k shelf blocks pages : ℕ) (commands : List Command) (os : List Outcome) (d : Piece) → All (IsFetched blocks pages) commands → length os < length (lane_pieces k shelf commands) →
    IsNext k shelf blocks pages commands os (slice_index_or (lane_pieces k shelf commands) (length os) d)
is_next k shelf blocks pages [] os d new few = absurd (omega (arith, few))
is_next k shelf blocks pages (c ∷ commands) os d new few =
    let first = All-head (IsFetched blocks pages) c commands new in
    let own = command_length k shelf blocks pages c first in
    let both = length-append (command_pieces k shelf c) (lane_pieces k shelf commands) in
    ⊎_elim (λ here. next_by_work k shelf blocks pages c commands os d c.work refl first here)
    (λ past. next_later k shelf blocks pages c commands os d past own
    (is_next k shelf blocks pages commands (drop (pieces_left shelf c) os) d (All-tail (IsFetched blocks pages) c commands new) (omega (arith, few, own, both, past, length-drop (pieces_left shelf c) os))))
    (cases_lt (length os) (pieces_left shelf c))

-- as many commands as before
pub worked_length : (shelf : ℕ) (commands : List Command) (os : List Outcome) → length (worked shelf commands os) ≡ length commands
worked_length shelf [] os = refl
worked_length shelf (c ∷ commands) os = ap suc (worked_length shelf commands (drop (pieces_left shelf c) os))

-- a part of a command's range has the data pages of its blocks
part_pages : (k shelf i count : ℕ) (job : Job) → IsPartOf shelf job.span (piece_of k shelf i job).span → job.span.count ≤ 64 →
    (IsTrue (moves_data job.op) → job.pages.used ≡ pages_needed job.span.count) →
    (IsTrue (moves_data job.op) → (j : ℕ) → j < job.span.count → page_of job.pages j < count) →
    HasPages (piece_of k shelf i job) count
part_pages k shelf i count job part few used there = λ moves j inside.
    let at = (piece_of k shelf i job).span.first - job.span.first + j in
    let within : at < job.span.count = omega (arith, part.starts, part.ends, inside) in
    (omega (arith, used moves, within), omega (arith, few, within), there moves at within)

-- it is one for a namespace of these blocks
pub next_fits : {M : Type 0} {k shelf blocks pages : ℕ} {commands : List Command} {os : List Outcome} {piece : Piece} (n : NamespaceState M) → n.shelf ≡ shelf → block_count n ≡ blocks → 1 ≤ shelf → IsNext k shelf blocks pages commands os piece → IsForNamespace n pages piece
next_fits {k = k} {shelf} {pages = pages} {piece = piece} n shelf_is count large next =
    let job = job_of next.command.cid next.work in
    let part = part_in_shelf shelf next.work.span next.work.done large next.left next.is_new.some in
    subst (λ (p : Piece). IsForNamespace n pages p) (sym next.piece_is) (record {
      op = next.is_new.op;
      some = part.some;
      few = omega (arith, part.starts, part.ends, next.is_new.few);
      within = omega (arith, part.ends, next.is_new.within, count);
      one_shelf = rw shelf_is part.one_shelf;
      has_pages = part_pages k shelf next.work.done pages job part next.is_new.few next.is_new.used next.is_new.there;
    })

-- the two ring pages stay
page_stays : (window new : WindowState) (j : ℕ) → j < 2 → IsSameButData window new → page_at new.pages j ≡ page_at window.pages j
page_stays window new j low same = sym (get_or-take 2 new.pages j [] low) ∙ ap (λ (l : List (List ℕ)). get_or l j []) same.rings ∙ get_or-take 2 window.pages j [] low

-- the window of a lane whose data pages and running commands alone changed
pub window_stays : (k : ℕ) (set : LaneSet) (window new : WindowState) (lane : Lane) (running : List Command) → IsSameButData window new → HasWindow k set window.pages lane → HasWindow k set new.pages (record lane { pages = data_pages new; running = running })
window_stays k set window new lane running same is =
    let first = page_stays window new 0 (omega arith) same in
    let second = page_stays window new 1 (omega arith) same in
    record {
      size = same.count ∙ is.size;
      sq = first ∙ is.sq;
      cq = second ∙ is.cq;
      memory = refl;
      entries = subst (λ (page : List ℕ). IsSqRing (sq_of set lane) page (drop lane.fetched lane.submitted)) (sym first) is.entries;
      completions = subst (λ (page : List ℕ). IsCqPage set.cq page (posted_entries k lane.posted)) (sym second) is.completions;
    }

-- and its queues
pub order_stays : (set : LaneSet) (lane : Lane) (pages : List (List ℕ)) (running : List Command) → length running ≡ length lane.running → IsOrdered set lane → IsOrdered set (record lane { pages = pages; running = running })
order_stays set lane pages running same is = record {
  submitted = is.submitted;
  fetched = is.fetched;
  posted = omega (arith, is.posted, same);
  reaped = is.reaped;
  in_flight = is.in_flight;
  told = is.told;
  tells = is.tells;
  untold = is.untold;
}

-- a new command has at most 64 pieces, by whether it has work
few_by_work : (k shelf blocks pages : ℕ) (c : Command) (w : Option Work) → 1 ≤ shelf → c.work ≡ w → IsFetched blocks pages (record c { work = w }) → pieces_left shelf (record c { work = w }) ≤ 64
few_by_work k shelf blocks pages c None large is new = omega arith
few_by_work k shelf blocks pages c (Some w) large is new = omega (arith, few_pieces shelf w.span large new.some, new.few)

-- commands have at most 64 pieces each
pub lane_few : (k shelf blocks pages : ℕ) (commands : List Command) → 1 ≤ shelf → All (IsFetched blocks pages) commands → length (lane_pieces k shelf commands) ≤ 64 * length commands
lane_few k shelf blocks pages [] large new = omega arith
lane_few k shelf blocks pages (c ∷ commands) large new =
    let first = All-head (IsFetched blocks pages) c commands new in
    let own = command_length k shelf blocks pages c first in
    let few = few_by_work k shelf blocks pages c c.work large refl first in
    let others = lane_few k shelf blocks pages commands large (All-tail (IsFetched blocks pages) c commands new) in
    let both = length-append (command_pieces k shelf c) (lane_pieces k shelf commands) in
    omega (arith, own, few, others, both)

-- what is told of new commands is how many pieces they have
told_left : (shelf : ℕ) (commands : List Command) → sum (map (λ (f : ℕ × StatusPair × ℕ). f.2) (map (told_fetch shelf) commands)) ≡ sum (map (pieces_left shelf) commands)
told_left shelf [] = refl
told_left shelf (c ∷ cs) =
    let here = sum_by-cons (λ (n : ℕ). n) (pieces_left shelf c) (map (λ (f : ℕ × StatusPair × ℕ). f.2) (map (told_fetch shelf) cs)) in
    omega (arith, here, sum_by-cons (λ (n : ℕ). n) (pieces_left shelf c) (map (pieces_left shelf) cs), told_left shelf cs)

pub pieces_told : (k shelf blocks pages : ℕ) (commands : List Command) → All (IsFetched blocks pages) commands →
    length (lane_pieces k shelf commands) ≡ sum (map (λ (f : ℕ × StatusPair × ℕ). f.2) (map (told_fetch shelf) commands))
pieces_told k shelf blocks pages commands all = lane_length k shelf blocks pages commands all ∙ sym (told_left shelf commands)
