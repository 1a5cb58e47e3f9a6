use Rattle.std.proofs.Common.{◌≡◌, ℕ, suc, ◌+◌, ◌-◌, ◌*◌, ◌%◌, ◌<◌, ◌≤◌, inl, inr, List, [], ◌∷◌, ◌++◌, drop, length, map, refl, sum, sym, ap, ap₂, subst, ◌∙◌, ⊎_elim, length-append, drop-set-lt, length-set, get_or-set_same, get_or-set_other, arith}
use Rattle.std.proofs.lemmas.Bool.{cases_lt}
use Rattle.std.proofs.lemmas.List.{length-map, map-append}
use Rattle.std.proofs.lemmas.Option.{slice_get_within}
use Rattle.std.specs.List.{AllByRecursion}
use Rattle.nvm_values.specs.declared.sqe.Sqe.{Sqe}
use Rattle.nvm_values.specs.Cqe.{CqeFields, cqe_bytes}
use Rattle.nvm_values.specs.Status.{StatusPair}
use Rattle.nvm_values.proofs.CqeLemmas.{length-cqe_bytes}
use Rattle.nvm_model.specs.declared.command.Command.{Command}
use Rattle.nvm_model.specs.declared.command.Completion.{Completion}
use Rattle.nvm_model.specs.declared.line.Line.TheVariants as line
use Rattle.nvm_model.specs.declared.piece.PieceResult.{PieceResult}
use Rattle.nvm_model.specs.declared.ring.RingState.{RingState}
use Rattle.nvm_model.specs.declared.script.LaneSet.{LaneSet}
use Rattle.nvm_model.specs.declared.script.Script.{Script}
use Rattle.nvm_model.specs.Check.{checked_command}
use Rattle.nvm_model.specs.Event.{phase_of}
use Rattle.nvm_model.specs.Memory.{page_at, written}
use Rattle.nvm_model.specs.Piece.{pieces_left}
use Rattle.nvm_model.specs.Ring.{CqState, IsCqPage, IsSqRing, completion_entry, cq_page}
use Rattle.nvm_model.specs.ScriptText.{IsSet}
use Rattle.nvm_model.specs.Turn.{AreOf, Fetch, LaneEvents, NoneLegal, Post}
use Rattle.nvm_model.specs.World.{Lane, set_of}
use Rattle.nvm_model.proofs.CellLemmas.{cq_page-push, length-cq_page}
use Rattle.nvm_ring.specs.Moves.{IsReadBack, after_fetch, after_post}
use Rattle.nvm_ring.specs.Queues.{posted_entries, sq_of}
use Rattle.nvm_ring.proofs.QueueLemmas.{cq_stands, oldest_entry, ordered_fetched, ordered_posted, ring_after, sq_fetched}
use Rattle.nvm_ring.proofs.RingLemmas.{cq_ring-push, cq_ring-unreaped, sq_ring-oldest, sq_ring-rest, sq_ring-some}
use Rattle.guest_ram.specs.Window.{WindowState, data_pages}
use Rattle.hall.specs.Plan.{PlanState}
use Rattle.ctl_state.specs.Controller.{PairState}
use Rattle.controller.specs.Pair.{FetchSteps, FetchesLane, FetchesTurn, IsAsked, MayFetch, PostSteps, PostsLane, PostsTurn, Stands, ended, fetch_line, free_places, next_completion, next_entry, outcomes_of, post_line, told_fetch, told_post, with_command, with_entry, with_post, worked}
use Rattle.controller.proofs.StepLemmas.{all_fetched, ended_worked, posts_kept}
use Rattle.controller.proofs.WorkLemmas.{worked_finished}

-- What the controller's steps do to a lane of the model.

-- a fetch is legal: an entry is there, and the completion queue has a place for its completion
record CanFetch (set : LaneSet) (lane : Lane) : Type 0 where
  there : lane.fetched < length lane.submitted
  free : length lane.running + (length lane.posted - lane.reaped) < set.cq - 1

-- a lane after the completion of its oldest command was posted
abbrev with_completion : LaneSet → ℕ → StatusPair → List Command → Lane → Lane
with_completion set cid status others lane = record lane {
  running = others;
  posted = lane.posted ++ record { cid = cid; status = status; head = lane.fetched % set.sq; phase = phase_of set.cq (length lane.posted) } ∷ [];
}

-- Fetches.

-- the places that are free
free_is : {k : ℕ} {set : LaneSet} {pair : PairState} {window : WindowState} {l : Lane} → Stands k set pair window l → free_places pair.cq ≡ set.cq - 1 - (length l.posted - l.reaped)
free_is {k} {set} {pair} {window} {l} stands =
    let size : pair.cq.ring.size ≡ set.cq = ap (λ (q : CqState). q.ring.size) stands.ends.cq_is in
    let count : length (posted_entries k l.posted) ≡ length l.posted = length-map l.posted (completion_entry k) in
    omega (arith, size, count, cq_ring-unreaped pair.cq (page_at window.pages 1) (posted_entries k l.posted) l.reaped (cq_stands stands.window_is stands.ordered stands.ends))

-- the controller may fetch exactly where the model allows it
can_fetch : {k : ℕ} {set : LaneSet} {pair : PairState} {window : WindowState} {l : Lane} → Stands k set pair window l → l.running ≡ pair.commands → MayFetch pair → CanFetch set l
can_fetch {set = set} {pair} {l = l} stands running may =
    let place : l.fetched ≡ length l.submitted → pair.sq.head ≡ pair.sq.tail = λ all. ap (λ (r : RingState). r.head) stands.ends.sq_is ∙ ap (λ (n : ℕ). n % set.sq) all ∙ sym (ap (λ (r : RingState). r.tail) stands.ends.sq_is) in
    record {
      there = ⊎_elim (λ some. some) (λ all. absurd (may.there (place (omega (arith, all, stands.ordered.fetched))))) (cases_lt l.fetched (length l.submitted));
      free = omega (arith, may.room, ap length running, free_is stands);
    }

may_fetch : {k : ℕ} {set : LaneSet} {pair : PairState} {window : WindowState} {l : Lane} → Stands k set pair window l → l.running ≡ pair.commands → CanFetch set l → MayFetch pair
may_fetch {pair = pair} {window} {l} stands running can =
    let first = oldest_entry stands.window_is stands.ends can.there in
    record {
      there = sq_ring-some pair.sq (page_at window.pages 0) first.0 (drop (l.fetched + 1) l.submitted) first.2;
      room = omega (arith, can.free, ap length running, free_is stands);
    }

-- the oldest entry was fetched, and its command runs
fetch_stands : {k : ℕ} {set : LaneSet} {pair new : PairState} {window : WindowState} {l : Lane} (entry : Sqe) (command : Command) → Stands k set pair window l → CanFetch set l →
    IsSqRing pair.sq (page_at window.pages 0) (entry ∷ drop (l.fetched + 1) l.submitted) → new.sq ≡ after_fetch pair.sq → new.cq ≡ pair.cq →
    Stands k set new window (record l { fetched = l.fetched + 1; running = l.running ++ command ∷ [] })
fetch_stands {set = set} {pair} {new} {window} {l} entry command stands can ring sq cq =
    let w = stands.window_is in
    let moved = sq_fetched stands.ends in
    record {
      number = stands.number;
      window_is = record {
        size = w.size;
        sq = w.sq;
        cq = w.cq;
        memory = w.memory;
        entries = subst (λ (r : RingState). IsSqRing r (page_at window.pages 0) (drop (l.fetched + 1) l.submitted)) moved (sq_ring-rest pair.sq (page_at window.pages 0) entry (drop (l.fetched + 1) l.submitted) ring);
        completions = w.completions;
      };
      ordered = ordered_fetched command can.there can.free stands.ordered;
      ends = record { sq_is = sq ∙ moved; cq_is = cq ∙ stands.ends.cq_is };
    }

fetches_are : (k : ℕ) (told : List (ℕ × StatusPair × ℕ)) → AreOf Fetch k (map (fetch_line k) told)
fetches_are k [] = tt
fetches_are k (t ∷ told) = ((tt, refl), fetches_are k told)

-- where the controller may not fetch, no fetch is legal
none_legal : (s : Script) (k : ℕ) (l : Lane) → (CanFetch (set_of s.head k) l → ⊥) → NoneLegal s Fetch k l
none_legal s k l never (line.Fetch j cid status pieces) blocks new_blocks new is same step =
    never (record {
      there = slice_get_within l.submitted l.fetched step.1.entry step.1.oldest;
      free = subst (λ (i : ℕ). length l.running + (length l.posted - l.reaped) < (set_of s.head i).cq - 1) same step.1.room;
    })
none_legal s k l never _ blocks new_blocks new is same step = absurd is

-- commands were fetched
record HasFetchedAll (s : Script) (k shelf : ℕ) (commands : List Command) (l : Lane) (new : PairState) (window : WindowState) : Type 0 where
  lane : Lane
  stands : Stands k (set_of s.head k) new window lane
  running : lane.running ≡ new.commands
  steps : LaneEvents s l (map (fetch_line k) (map (told_fetch shelf) commands)) lane
  pages : lane.pages ≡ l.pages

fetch_all : {s : Script} {k blocks shelf burst : ℕ} {new : PairState} {window : WindowState} (commands : List Command) (l : Lane) (pair : PairState) → IsAsked s blocks shelf burst → Stands k (set_of s.head k) pair window l → l.running ≡ pair.commands →
    FetchSteps blocks shelf window commands pair new → HasFetchedAll s k shelf commands l new window
fetch_all {s} {k} {shelf = shelf} {window = window} [] l pair asked stands running steps =
    subst (λ (p : PairState). HasFetchedAll s k shelf [] l p window) (sym steps) (record { lane = l; stands = stands; running = running; steps = refl; pages = refl })
fetch_all {s} {k} {blocks} {shelf} {window = window} (command ∷ commands) l pair asked stands running steps =
    let can = can_fetch stands running steps.0 in
    let first = oldest_entry stands.window_is stands.ends can.there in
    let entry_is = sq_ring-oldest pair.sq (page_at window.pages 0) first.0 (drop (l.fetched + 1) l.submitted) first.2 in
    let moved : Stands k (set_of s.head k) (with_command shelf command pair) window (record l { fetched = l.fetched + 1; running = l.running ++ command ∷ [] }) = fetch_stands first.0 command stands can first.2 refl refl in
    let after : Lane = record l { fetched = l.fetched + 1; running = l.running ++ command ∷ [] } in
    let rest = fetch_all commands after (with_command shelf command pair) asked moved (ap (λ (cs : List Command). cs ++ command ∷ []) running) steps.2 in
    record {
      lane = rest.lane;
      stands = rest.stands;
      running = rest.running;
      steps = (
        after,
        λ b. (
          refl,
          record {
            entry = first.0;
            command = command;
            oldest = first.1;
            room = can.free;
            checked = steps.1 ∙ ap (λ (n : ℕ). checked_command n window.lane (data_pages window) pair.commands (next_entry window pair)) (sym asked.blocks_is)
                ∙ ap (λ (n : ℕ). checked_command s.head.blocks n (data_pages window) pair.commands (next_entry window pair)) stands.number
                ∙ ap (λ (memory : List (List ℕ)). checked_command s.head.blocks k memory pair.commands (next_entry window pair)) (sym stands.window_is.memory)
                ∙ ap₂ (λ (running : List Command) (e : Sqe). checked_command s.head.blocks k l.pages running e) (sym running) entry_is;
            cid_is = refl;
            status_is = refl;
            pieces_is = ap (λ (n : ℕ). pieces_left n command) (sym asked.shelf_is);
            after = refl;
          },
        ),
        rest.steps,
      );
      pages = rest.pages;
    }

-- what the fetches of a turn are for a lane
pub fetches_lead : {k blocks shelf burst : ℕ} {plan new_plan : PlanState} {old new : PairState} {window : WindowState} → FetchesTurn k blocks shelf burst window plan new_plan old new → FetchesLane k blocks shelf burst window old new
fetches_lead {k} {blocks} {shelf} {burst} {old = old} {new} {window} turn = λ s l asked is_set stands idle none.
    let h = fetch_all turn.commands l old asked stands (idle ∙ sym none) turn.steps in
    let all = all_fetched turn none in
    let told : new.fetched ≡ map (told_fetch shelf) turn.commands = turn.told none ∙ ap (map (told_fetch shelf)) all in
    let count : length (map (fetch_line k) new.fetched) ≡ length new.commands = length-map new.fetched (fetch_line k) ∙ ap length told ∙ length-map turn.commands (told_fetch shelf) ∙ sym (ap length all) in
    record {
      new = h.lane;
      stands = h.stands;
      running = h.running;
      fetches = record {
        are = fetches_are k new.fetched;
        steps = subst (λ (ts : List (ℕ × StatusPair × ℕ)). LaneEvents s l (map (fetch_line k) ts) h.lane) (sym told) h.steps;
        few = omega (arith, count, turn.few, asked.burst_is);
        stops = ⊎_elim (λ full. inl (count ∙ full ∙ sym asked.burst_is)) (λ never. inr (none_legal s k h.lane (λ can. never (may_fetch h.stands h.running can)))) turn.stops;
      };
      pages = h.pages;
    }

-- Posts.

-- the oldest command's completion is the next entry of its queue
put_stands : {k : ℕ} {set : LaneSet} {pair : PairState} {window : WindowState} {l : Lane} (cid : ℕ) (status : StatusPair) (command : Command) (others : List Command) → IsSet set → Stands k set pair window l → l.running ≡ command ∷ others →
    IsReadBack (next_completion k (cid, status) pair) → Stands k set (with_post (cid, status) pair) (with_entry (next_completion k (cid, status) pair) pair window) (with_completion set cid status others l)
put_stands {k} {set} {pair} {window} {l} cid status command others is_set stands oldest back =
    let w = stands.window_is in
    let o = stands.ordered in
    let count = length l.posted in
    let size = set.cq in
    let posted = posted_entries k l.posted in
    let c : Completion = record { cid = cid; status = status; head = l.fetched % set.sq; phase = phase_of size count } in
    let pos : 0 < size = omega (arith, is_set.2) in
    let cq : pair.cq ≡ record { ring = record { size = size; head = l.reaped % size; tail = count % size }; phase = phase_of size count } = stands.ends.cq_is in
    let sizes : pair.cq.ring.size ≡ size = ap (λ (q : CqState). q.ring.size) cq in
    let place : pair.cq.ring.tail ≡ count % size = ap (λ (q : CqState). q.ring.tail) cq in
    let entry = next_completion k (cid, status) pair in
    let entry_is : entry ≡ completion_entry k c =
    ap (λ (r : RingState). next_completion k (cid, status) (record pair { sq = r })) stands.ends.sq_is ∙ ap (λ (q : CqState). next_completion k (cid, status) (record pair { sq = sq_of set l; cq = q })) cq in
    let entries : posted ++ entry ∷ [] ≡ posted_entries k (l.posted ++ c ∷ []) = ap (λ (e : CqeFields). posted ++ e ∷ []) entry_is ∙ sym (map-append (completion_entry k) l.posted (c ∷ [])) in
    let bytes = written (page_at window.pages 1) (16 * pair.cq.ring.tail) (cqe_bytes entry) in
    let other = get_or-set_other window.pages 1 0 bytes [] (λ is. absurd (omega (arith, is))) in
    let here = get_or-set_same window.pages 1 bytes [] (omega (arith, w.size)) in
    let whole : length (page_at window.pages 1) ≡ 4096 = ap length w.cq ∙ length-cq_page k size l.posted is_set.3 in
    let running : length l.running ≡ suc (length others) = ap length oldest in
    let room : length posted + 1 < l.reaped + pair.cq.ring.size = omega (arith, length-map l.posted (completion_entry k), running, o.posted, o.in_flight, sizes) in
    let ring = cq_ring-push pair.cq (page_at window.pages 1) (cqe_bytes entry) posted l.reaped entry (cq_stands w o stands.ends) (omega (arith, sizes, is_set.3)) whole (length-cqe_bytes entry) back refl room in
    let at_size : IsCqPage size bytes (posted ++ entry ∷ []) = subst (λ (n : ℕ). IsCqPage n bytes (posted ++ entry ∷ [])) sizes ring.page_is in
    let more : length (l.posted ++ c ∷ []) ≡ count + 1 = length-append l.posted (c ∷ []) in
    record {
      number = stands.number;
      window_is = record {
        size = length-set window.pages 1 bytes ∙ w.size;
        sq = other ∙ w.sq;
        cq = here ∙ ap (λ (p : List ℕ). written p (16 * pair.cq.ring.tail) (cqe_bytes entry)) w.cq
            ∙ ap₂ (λ (t : ℕ) (e : CqeFields). written (cq_page k size l.posted) (16 * t) (cqe_bytes e)) place entry_is ∙ sym (cq_page-push k size l.posted c pos);
        memory = w.memory ∙ sym (drop-set-lt 2 window.pages 1 bytes (omega arith));
        entries = subst (λ (p : List ℕ). IsSqRing (sq_of set l) p (drop l.fetched l.submitted)) (sym other) w.entries;
        completions = subst (λ (p : List ℕ). IsCqPage size p (posted_entries k (l.posted ++ c ∷ []))) (sym here) (subst (λ (es : List CqeFields). IsCqPage size bytes es) entries at_size);
      };
      ordered = ordered_posted command others c oldest refl o;
      ends = record {
        sq_is = stands.ends.sq_is;
        cq_is = ap after_post cq ∙ ring_after size (l.reaped % size) count pos
            ∙ ap (λ (m : ℕ). record { ring = record { size = size; head = l.reaped % size; tail = m % size }; phase = phase_of size m }) (sym more);
      };
    }

posts_are : (k : ℕ) (told : List (ℕ × StatusPair)) → AreOf Post k (map (post_line k) told)
posts_are k [] = tt
posts_are k (t ∷ told) = ((tt, refl), posts_are k told)

-- completions of commands, all of whose pieces are done, were posted
record HasPostedAll (s : Script) (k : ℕ) (told : List (ℕ × StatusPair)) (l : Lane) (new : PairState) (window : WindowState) : Type 0 where
  lane : Lane
  stands : Stands k (set_of s.head k) new window lane
  none : lane.running ≡ []
  steps : LaneEvents s l (map (post_line k) told) lane

post_all : {s : Script} {k : ℕ} {new : PairState} {new_window : WindowState} (commands : List Command) (l : Lane) (pair : PairState) (window : WindowState) → IsSet (set_of s.head k) → AllByRecursion (λ (c : Command). pieces_left s.head.shelf c ≡ 0) commands →
    Stands k (set_of s.head k) pair window l → l.running ≡ commands → PostSteps k (map told_post commands) pair window new new_window → HasPostedAll s k (map told_post commands) l new new_window
post_all {s} {k} {new} [] l pair window is_set finished stands running steps =
    subst (λ (w : WindowState). HasPostedAll s k [] l new w) (sym steps.1) (subst (λ (p : PairState). HasPostedAll s k [] l p window) (sym steps.0) (record { lane = l; stands = stands; none = running; steps = refl }))
post_all {s} {k} (command ∷ commands) l pair window is_set finished stands running steps =
    let one = put_stands command.cid command.status command commands is_set stands running steps.0 in
    let told = told_post command in
    let entry = next_completion k told pair in
    let after = with_completion (set_of s.head k) command.cid command.status commands l in
    let rest = post_all commands after (with_post told pair) (with_entry entry pair window) is_set finished.1 one refl steps.1 in
    record {
      lane = rest.lane;
      stands = rest.stands;
      none = rest.none;
      steps = (
        after,
        λ b. (
          refl,
          record {
            command = command;
            others = commands;
            oldest = running;
            finished = finished.0;
            cid_is = refl;
            status_is = refl;
            after = refl;
          },
        ),
        rest.steps,
      );
    }

-- what the posts of a turn are for a lane, where there is a result for each piece
pub posts_lead : (k : ℕ) (results : List PieceResult) (old new : PairState) (window new_window : WindowState) → length results ≡ sum (map (λ (f : ℕ × StatusPair × ℕ). f.2) old.fetched) → PostsTurn k results window new_window old new →
    PostsLane k results window new_window old new
posts_lead k results old new window new_window all steps = λ s l is_set told stands running.
    let outcomes = outcomes_of results in
    let shelf = s.head.shelf in
    let commands = worked shelf old.commands outcomes in
    let start : PairState = record old { commands = []; fetched = []; posted = [] } in
    let is : ended old.commands old.fetched outcomes ≡ commands = ended_worked shelf old.commands old.fetched outcomes told in
    let count = ap (λ (fs : List (ℕ × StatusPair × ℕ)). sum (map (λ (f : ℕ × StatusPair × ℕ). f.2) fs)) told in
    let enough : sum (map (λ (f : ℕ × StatusPair × ℕ). f.2) (map (told_fetch shelf) old.commands)) ≤ length outcomes = omega (arith, all, count, length-map results (λ (r : PieceResult). r.outcome)) in
    let own : Stands k (set_of s.head k) start window l = record { number = stands.number; window_is = stands.window_is; ordered = stands.ordered; ends = record { sq_is = stands.ends.sq_is; cq_is = stands.ends.cq_is } } in
    let made = subst (λ (cs : List Command). PostSteps k (map told_post cs) start window new new_window) is steps in
    let h = post_all commands l start window is_set (worked_finished shelf old.commands outcomes enough) own running made in
    let posted : new.posted ≡ map told_post commands = (posts_kept k (map told_post commands) start new window new_window made).posted in
    record {
      new = h.lane;
      stands = h.stands;
      posts = record {
        are = posts_are k new.posted;
        steps = subst (λ (ts : List (ℕ × StatusPair)). LaneEvents s l (map (post_line k) ts) h.lane) (sym posted) h.steps;
        all = h.none;
      };
    }
