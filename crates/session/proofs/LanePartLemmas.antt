use Rattle.std.proofs.Common.{◌≡◌, ℕ, ◌+◌, ◌%◌, ◌<◌, ◌≤◌, Bool, true, false, not, List, [], ◌∷◌, ◌++◌, Some, None, Result, Ok, Err, IfOk, IsOk, get_or, length, map, set, refl, sym, ap, subst, ◌∙◌, append_assoc, arith}
use Rattle.std.specs.List.{slice_get}
use Rattle.std.proofs.lemmas.Bool.{false≢true}
use Rattle.std.proofs.lemmas.List.{length-map}
use Rattle.std.proofs.lemmas.List.Elements.{All-get_or}
use Rattle.std.proofs.lemmas.Option.{slice_get_read, slice_get_within}
use Rattle.nvm_values.specs.Cqe.{CqeFields}
use Rattle.nvm_model.specs.declared.command.Command.{Command}
use Rattle.nvm_model.specs.declared.line.Line.{Line}
use Rattle.nvm_model.specs.declared.line.Line.TheVariants as line
use Rattle.nvm_model.specs.declared.piece.PieceResult.{PieceResult}
use Rattle.nvm_model.specs.declared.script.Act.{Act}
use Rattle.nvm_model.specs.declared.script.Act.TheVariants.{Idle}
use Rattle.nvm_model.specs.declared.script.LaneSet.{LaneSet}
use Rattle.nvm_model.specs.declared.script.Script.{Script}
use Rattle.nvm_model.specs.Memory.{page_at}
use Rattle.nvm_model.specs.Ring.{CqState, GuestCqState, IsCqRing, completion_entry}
use Rattle.nvm_model.specs.ScriptText.{IsAct, IsSet}
use Rattle.nvm_model.specs.Turn.{ActsOn, Plans, PostsAll, ReapsAll}
use Rattle.nvm_model.specs.World.{Lane, acts_of, set_of}
use Rattle.nvm_ring.specs.declared.place.BadDoorbell.{BadDoorbell}
use Rattle.nvm_ring.specs.Queues.{HasGuestEnds, HasWindow, IsOrdered, posted_entries}
use Rattle.nvm_ring.specs.Stands.{TakesReaped}
use Rattle.nvm_ring.proofs.QueueLemmas.{cq_stands}
use Rattle.guest_ram.specs.Window.{WindowState}
use Rattle.lanes.specs.Guest.{GuestState, Reaped, Reaps, lane_after}
use Rattle.ctl_state.specs.Controller.{ControllerState, PairState, pair_of}
use Rattle.controller.specs.Pair.{AtLane, Fetches, Posts, RingsCq, fetch_line, outcomes_of, post_line, worked, IsSameButPair}
use Rattle.controller.specs.Pair.{Stands as ControllerStands}
use Rattle.turns.specs.Parts.{ActsSome, ReapsSome, Leads}
use Rattle.lanes.proofs.KeptLemmas.{fetches_keep, known_ends, posts_keep, same_ends}
use Rattle.turns.proofs.PartLaws.{act_done, reaps_none, reaps_one, leads_none, added_count}
use Rattle.session.specs.declared.lane_run.LaneRun.{LaneRun}
use Rattle.session.specs.LaneParts.{BothStand, DidAct, IsGuestStep, IsSeat, StandsFree, seat_of}
use Rattle.session.specs.Lanes.{IsRunOf, Stands}
use Rattle.controller.proofs.NextLemmas.{none_worked}
use Rattle.controller.proofs.PairLemmas.{pair_same, pair_more}

-- The parts of one lane's turn: its events, one part after another.

-- what holds of a good answer, of one that is
as_ok : {A E : Type 0} (M : Type 0) (r : Result A E) → IsOk r → IfOk r (λ _. M) → M
as_ok M (Ok a) ok then = then
as_ok M (Err e) ok then = absurd (false≢true ok)

-- no step of the guest
pub step_none : {s : Script} {k : ℕ} {run : LaneRun} {controller : ControllerState} {window : WindowState} → IsSeat s k (seat_of run controller window) → IsGuestStep s k (seat_of run controller window) (seat_of run controller window)
step_none {controller = controller} seat = record { seat = seat; script = refl; results = refl; pairs = pair_same controller; commands = refl }

pub step_more : {s : Script} {k : ℕ} {run mid new : LaneRun} {a b c : ControllerState} {u v w : WindowState} → IsGuestStep s k (seat_of run a u) (seat_of mid b v) → IsGuestStep s k (seat_of mid b v) (seat_of new c w) → IsGuestStep s k (seat_of run a u) (seat_of new c w)
step_more x y = record { seat = y.seat; script = y.script ∙ x.script; results = y.results ∙ x.results; pairs = pair_more x.pairs y.pairs; commands = y.commands ∙ x.commands }

-- the guest changed, and what lies outside it of its seat
pub guest_step : {s : Script} {k : ℕ} {run : LaneRun} {a b : ControllerState} {window new_window : WindowState} (guest : GuestState) → IsSeat s k (seat_of run a window) → guest.lane ≡ run.guest.lane → new_window.lane ≡ window.lane → length new_window.pages ≡ length window.pages →
    IsSameButPair k a b → (pair_of b k).commands ≡ (pair_of a k).commands → IsGuestStep s k (seat_of run a window) (seat_of (record run { guest = guest }) b new_window)
guest_step guest seat lane number size pairs commands = record {
  seat = record {
    run = record { script = seat.run.script; lane = seat.run.lane; guest = lane ∙ seat.run.guest; few = seat.run.few; room = seat.run.room };
    window = record { lane = number ∙ seat.window.lane; size = size ∙ seat.window.size };
    there = omega (arith, pairs.count, seat.there);
  };
  script = refl;
  results = refl;
  pairs = pairs;
  commands = commands;
}

-- Reaping.

-- the guest found nothing to reap
pub reap_none : {s : Script} {k : ℕ} {l : Lane} {run : LaneRun} {new : GuestState} {controller : ControllerState} {window : WindowState} (events : List Line) →
    StandsFree s k (seat_of run controller window) l → Reaps (set_of s.head k) run.guest new window l None → Leads (ReapsSome false s k) (StandsFree s k (seat_of (record run { guest = new }) controller window)) l events events
reap_none {s} {k} {l} {run} {controller = controller} {window} events free reaps =
    leads_none l events (record {
      both = subst (λ (g : GuestState). BothStand (set_of s.head k) g (pair_of controller k) window l) (sym reaps.1) free.both;
      acts = free.acts;
      none = free.none;
    }) (reaps_none l (λ _. reaps.0))

-- a completion ring after its head was rung
abbrev with_head : ℕ → CqState → CqState
with_head head cq = record { ring = record cq.ring { head = head }; phase = cq.phase }

head_rung : (cq is : CqState) (value head : ℕ) → cq ≡ is → value ≡ head → with_head value cq ≡ with_head head is
head_rung cq is value head cq_is value_is = ap (λ (h : ℕ). with_head h cq) value_is ∙ ap (with_head head) cq_is

-- the oldest completion was reaped, and the doorbell rung
pub reap_some : {s : Script} {k : ℕ} {l : Lane} {run : LaneRun} {new : GuestState} (a b : ControllerState) {window : WindowState} (cqe : CqeFields) (value : ℕ) (result : Result (Unit {0}) BadDoorbell) (events : List Line) →
    run.guest.lane ≡ k → value ≡ new.cq.head → StandsFree s k (seat_of run a window) l → Reaped (set_of s.head k) run.guest new window l cqe → AtLane k (RingsCq value result) a b → TakesReaped (pair_of a k).cq (pair_of b k).cq value result →
    Leads (ReapsSome true s k) (StandsFree s k (seat_of (record run { guest = new }) b window)) l events (events ++ line.Reap k cqe.cid cqe.status cqe.sqhd cqe.phase ∷ [])
reap_some {s} {k} {l} {run} {new} a b {window} cqe value result events number value_is free reaped moved takes =
    let set = set_of s.head k in
    let pair = pair_of a k in
    let stands = free.both in
    let g = stands.guest_stands in
    let count : length (posted_entries k l.posted) ≡ length l.posted = length-map l.posted (completion_entry k) in
    let there : l.reaped < length l.posted = slice_get_within l.posted l.reaped reaped.completion reaped.oldest in
    let size : pair.cq.ring.size ≡ set.cq = ap (λ (q : CqState). q.ring.size) stands.ends.cq_is in
    let head : value ≡ (l.reaped + 1) % set.cq = value_is ∙ ap (λ (q : GuestCqState). q.head) reaped.stands.ends.cq_is in
    let ring : IsCqRing pair.cq (page_at window.pages 1) (posted_entries k l.posted) l.reaped =
    subst (λ (n : ℕ). IsCqRing pair.cq (page_at window.pages 1) (posted_entries n l.posted) l.reaped) number (cq_stands g.window_is g.ordered stands.ends) in
    let rung = takes (page_at window.pages 1) (posted_entries k l.posted) l.reaped (l.reaped + 1) ring (omega arith) (omega (arith, count, there)) (head ∙ ap (λ (n : ℕ). (l.reaped + 1) % n) (sym size)) in
    let pair_is : pair_of b k ≡ record pair { cq = with_head value pair.cq } = as_ok _ result rung.0 moved.step.moved in
    let told : slice_get l.posted l.reaped ≡ Some (record { cid = cqe.cid; status = cqe.status; head = cqe.sqhd; phase = cqe.phase }) =
    reaped.oldest ∙ ap (λ (e : CqeFields). Some (record { cid = e.cid; status = e.status; head = e.sqhd; phase = e.phase })) (sym reaped.cqe_is) in
    record {
      new = record l { reaped = l.reaped + 1 };
      added = line.Reap k cqe.cid cqe.status cqe.sqhd cqe.phase ∷ [];
      part = reaps_one l (record { cid = cqe.cid; status = cqe.status; head = cqe.sqhd; phase = cqe.phase }) told;
      stands = record {
        both = record {
          guest_stands = reaped.stands;
          ends = record {
            sq_is = ap (λ (p : PairState). p.sq) pair_is ∙ stands.ends.sq_is;
            cq_is = ap (λ (p : PairState). p.cq) pair_is ∙ head_rung pair.cq _ value _ stands.ends.cq_is head;
          };
        };
        acts = free.acts;
        none = free.none;
      };
      events_are = refl;
    }

-- no queue holds 256 completions
pub reaps_end : {s : Script} {k : ℕ} {l : Lane} {run new : LaneRun} {a b : ControllerState} {window : WindowState} {events new_events : List Line} → IsSet (set_of s.head k) → StandsFree s k (seat_of run a window) l →
    Leads (ReapsSome true s k) (StandsFree s k (seat_of new b window)) l events new_events → length events + 256 ≤ length new_events → ⊥
reaps_end {s} {k} set free to many =
    let o = free.both.guest_stands.ordered in
    let n = subst (IsOrdered (set_of s.head k)) to.part.after to.stands.both.guest_stands.ordered in
    omega (arith, set.3, o.posted, o.in_flight, n.reaped, added_count to, many)

-- Acts.

-- the sizes of a run's lane
pub run_set : {s : Script} {k : ℕ} {run : LaneRun} → IsRunOf s k run → IsSet (set_of s.head k)
run_set {s} is = subst (λ (n : ℕ). IsSet (set_of s.head n)) is.lane (subst IsSet is.script.set_is is.script.set_fits)

-- the act that is next in a run
pub next_due : (s : Script) (k : ℕ) (run : LaneRun) (act : Act) → IsRunOf s k run → run.acts_done < length run.script.acts.items → act ≡ get_or run.script.acts.items run.acts_done act → slice_get (acts_of k s.acts) run.acts_done ≡ Some act
next_due s k run act is there act_is =
    subst (λ (n : ℕ). slice_get (acts_of n s.acts) run.acts_done ≡ Some act) is.lane
    (subst (λ (xs : List Act). slice_get xs run.acts_done ≡ Some act) is.script.acts_are (slice_get_read run.script.acts.items (length run.script.acts.items) run.acts_done act refl there act_is))

-- it is one of the lane's pages
pub act_fits : {s : Script} {k : ℕ} {run : LaneRun} (act : Act) → IsRunOf s k run → run.acts_done < length run.script.acts.items → act ≡ get_or run.script.acts.items run.acts_done act → IsAct (set_of s.head k).pages act
act_fits {s} {k} {run} act is there act_is =
    let fits : IsAct run.script.set.pages act = subst (IsAct run.script.set.pages) (sym act_is) (All-get_or (IsAct run.script.set.pages) run.script.acts.items run.acts_done act there is.script.acts_fit) in
    subst (λ (n : ℕ). IsAct n act) (ap (λ (set : LaneSet). set.pages) is.script.set_is ∙ ap (λ (j : ℕ). (set_of s.head j).pages) is.lane) fits

-- the next act was done
pub act_did : (idle : Bool) {s : Script} {k : ℕ} {l : Lane} {run : LaneRun} {controller : ControllerState} {window : WindowState} (act : Act) (events : List Line) → slice_get (acts_of k s.acts) l.acts ≡ Some act → l.acts ≡ run.acts_done → l.running ≡ [] →
    DidAct true s k act l (seat_of run controller window) → (idle ≡ true → act ≡ Idle) → (idle ≡ false → act ≡ Idle → ⊥) →
    Leads (ActsSome (not idle) s k) (StandsFree s k (seat_of (record run { acts_done = run.acts_done + 1 }) controller window)) l events (events ++ line.Act k (run.acts_done + 1) ∷ [])
act_did idle {s} {k} {l} {run} act events due acts none did is_idle other =
    let next : l.acts + 1 ≡ run.acts_done + 1 = ap (λ (n : ℕ). n + 1) acts in
    record {
      new = lane_after k act l;
      added = line.Act k (run.acts_done + 1) ∷ [];
      part = subst (λ (n : ℕ). ActsSome (not idle) s k l (line.Act k n ∷ []) (lane_after k act l)) next (act_done idle l act due did.0 is_idle other);
      stands = record { both = did.1; acts = next; none = none };
      events_are = refl;
    }

-- One lane's plan.

-- a session that stands for a lane, without its acts and its commands
pub stands_both : {s : Script} {k : ℕ} {run : LaneRun} {pair : PairState} {window : WindowState} {lane : Lane} → Stands s k run pair window lane → BothStand (set_of s.head k) run.guest pair window lane
stands_both {s} {k} {window = window} {lane} stands = record {
  guest_stands = record {
    number = stands.number ∙ sym stands.guest;
    window_is = subst (λ (n : ℕ). HasWindow n (set_of s.head k) window.pages lane) (sym stands.guest) stands.window_is;
    ordered = stands.ordered;
    ends = stands.guest_ends;
  };
  ends = stands.ends;
}

-- the controller's part of it
pub both_control : {set : LaneSet} {k : ℕ} {guest : GuestState} {pair : PairState} {window : WindowState} {lane : Lane} → guest.lane ≡ k → BothStand set guest pair window lane → ControllerStands k set pair window lane
both_control {set} {k} {window = window} {lane} number stands = record {
  number = stands.guest_stands.number ∙ number;
  window_is = subst (λ (n : ℕ). HasWindow n set window.pages lane) number stands.guest_stands.window_is;
  ordered = stands.guest_stands.ordered;
  ends = stands.ends;
}

-- the controller's part of a session that stands for a lane
pub stands_control : {s : Script} {k : ℕ} {run : LaneRun} {pair : PairState} {window : WindowState} {lane : Lane} → Stands s k run pair window lane → ControllerStands k (set_of s.head k) pair window lane
stands_control stands = record { number = stands.number; window_is = stands.window_is; ordered = stands.ordered; ends = stands.ends }

-- where no command is under way, none runs
pub none_running : {s : Script} {k : ℕ} {run : LaneRun} {pair : PairState} {window : WindowState} {lane : Lane} → Stands s k run pair window lane → pair.commands ≡ [] → lane.running ≡ []
none_running {s} {run = run} stands none = stands.running ∙ ap (λ (cs : List Command). worked s.head.shelf cs (outcomes_of run.results.items)) none

-- before its fetches it is free
pub stands_free : {s : Script} {k : ℕ} {run : LaneRun} {controller : ControllerState} {window : WindowState} {lane : Lane} → Stands s k run (pair_of controller k) window lane → (pair_of controller k).commands ≡ [] → StandsFree s k (seat_of run controller window) lane
stands_free stands none = record { both = stands_both stands; acts = stands.acts; none = none_running stands none }

-- the reaps, the acts and the fetches of a lane are its plan
pub plans_lane : {s : Script} {k : ℕ} {l : Lane} {run reaped : LaneRun} {p q : ControllerState} {r : PairState} {u v w : WindowState} {a b c : List Line} (reaps : Leads (ReapsAll s k) (StandsFree s k (seat_of reaped p u)) l a b)
    (acts : Leads (ActsOn s k) (StandsFree s k (seat_of run q v)) reaps.new b c) → Fetches s k acts.new r w → run.guest.lane ≡ k → run.results.items ≡ [] → Leads (Plans s k) (Stands s k run r w) l a (c ++ map (fetch_line k) r.fetched)
plans_lane {s} {k} {l} {run} {r = r} {a = a} {c = c} reaps acts fetches number none =
    let told = map (fetch_line k) r.fetched in
    let same = fetches_keep s k told acts.new fetches.new fetches.fetches.are fetches.fetches.steps in
    record {
      new = fetches.new;
      added = reaps.added ++ (acts.added ++ told);
      part = record {
        reaps = reaps.added;
        acts = acts.added;
        fetches = told;
        events_are = refl;
        reaped = reaps.new;
        acted = acts.new;
        reaping = reaps.part;
        acting = acts.part;
        fetching = fetches.fetches;
      };
      stands = record {
        number = fetches.stands.number;
        guest = number;
        window_is = fetches.stands.window_is;
        ordered = fetches.stands.ordered;
        guest_ends = same_ends run.guest same acts.stands.both.guest_stands.ends;
        ends = fetches.stands.ends;
        acts = same.acts ∙ acts.stands.acts;
        running = fetches.running ∙ sym (none_worked s.head.shelf r.commands) ∙ ap (λ (rs : List PieceResult). worked s.head.shelf r.commands (outcomes_of rs)) (sym none);
      };
      events_are = ap (λ (es : List Line). es ++ told) (acts.events_are ∙ ap (λ (es : List Line). es ++ acts.added) reaps.events_are ∙ append_assoc a reaps.added acts.added)
          ∙ append_assoc a (reaps.added ++ acts.added) told
          ∙ ap (λ (es : List Line). a ++ es) (append_assoc reaps.added acts.added told);
    }

-- One lane's posts.

-- the posts of a lane that stands
pub posts_lane : {s : Script} {k : ℕ} {l : Lane} {run new : LaneRun} {p q : PairState} {v w : WindowState} (a : List Line) → Stands s k run p v l → new.guest ≡ run.guest → new.acts_done ≡ run.acts_done →
    Posts s k l q w → q.commands ≡ [] → Leads (PostsAll s k) (Stands s k new q w) l a (a ++ map (post_line k) q.posted)
posts_lane {s} {k} {l} {run} {new} {q = q} a stands guest acts posts none =
    let told = map (post_line k) q.posted in
    let same = posts_keep s k told l posts.new posts.posts.are posts.posts.steps in
    let set = set_of s.head k in
    record {
      new = posts.new;
      added = told;
      stands = record {
        number = posts.stands.number;
        guest = ap (λ (g : GuestState). g.lane) guest ∙ stands.guest;
        window_is = posts.stands.window_is;
        ordered = posts.stands.ordered;
        guest_ends = subst (λ (g : GuestState). HasGuestEnds set g.sq g.cq g.waiting posts.new) (sym guest) (known_ends run.guest same stands.ordered.reaped stands.guest_ends);
        ends = posts.stands.ends;
        acts = same.acts ∙ stands.acts ∙ sym acts;
        running = posts.posts.all ∙ sym (ap (λ (cs : List Command). worked s.head.shelf cs (outcomes_of new.results.items)) none);
      };
      events_are = refl;
      part = posts.posts;
    }
