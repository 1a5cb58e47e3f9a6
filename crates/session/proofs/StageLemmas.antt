use Rattle.std.proofs.Common.{◌≡◌, ◌⊎◌, ⊎_elim, inl, inr, ℕ, ◌+◌, ◌-◌, ◌^◌, ◌<◌, ◌≤◌, All, slice_index_or, map, Bool, true, false, Option, Some, None, Result, Ok, Err, List, [], ◌∷◌, ◌++◌, length, append_assoc, refl, sym, ap, subst, ◌∙◌, arith, ◌↔◌}
use Rattle.std.specs.List.{flat_map, range_with_len}
use Rattle.std.specs.Prelude.{IfOk, IsTrue, is_err}
use Rattle.std.proofs.Math.ListN.{get_or-map}
use Rattle.std.proofs.lemmas.List.{length-map}
use Rattle.mig_base.specs.Stream.{Writes}
use Rattle.nvm_model.specs.declared.line.Line.{Line}
use Rattle.nvm_model.specs.declared.line.Line.TheVariants as line
use Rattle.nvm_model.specs.declared.trace.Step.{Step}
use Rattle.nvm_model.specs.History.{Complete}
use Rattle.nvm_model.specs.Chain.{Chain}
use Rattle.nvm_model.specs.Medium.{At, IsAt, MediumState}
use Rattle.nvm_model.specs.Owed.{Owed, all_owed}
use Rattle.nvm_model.proofs.ChainLemmas.{chain_more}
use Rattle.nvm_model.specs.Text.{text_of}
use Rattle.nvm_model.specs.World.{Lane}
use Rattle.ctl_state.specs.Controller.{ControllerState, PairState, no_pair, pair_of}
use Rattle.controller.specs.Pair.{outcomes_of, worked}
use Rattle.ctl_state.specs.Admin.{image_of, with_rings}
use Rattle.ctl_state.proofs.AdminLemmas.{length-with_images}
use Rattle.ctl_state.specs.declared.image.PairState.{PairState as PairImage}
use Rattle.manager.specs.Move.{ManagerState, gone_on_with, with_all}
use Rattle.nvm_model.specs.declared.command.Command.{Command}
use Rattle.nvm_model.specs.declared.script.Script.{Script}
use Rattle.nvm_model.specs.World.{window_pages}
use Rattle.guest_ram.specs.Window.{WindowState}
use Rattle.nvm_blocks.specs.Namespace.{media_of}
use Rattle.guest_ram.specs.Ram.{all_pages}
use Rattle.nvm_model.specs.declared.run.RunPhase.{RunPhase}
use Rattle.nvm_model.specs.declared.run.RunPhase.TheVariants.{New, Running, Moving, Suspended, Stopped, Over}
use Rattle.nvm_model.specs.declared.run.Side.{Side}
use Rattle.nvm_model.specs.declared.run.Side.TheVariants.{Source, Destination}
use Rattle.nvm_model.specs.Run.{AreComplete, CopiesAll, CopiesUpTo, Copy, Here, IsCutDue, IsDue, IsTurn, SinkState, Snapshot, Task, among, gets_of, here, lines_of, memory_of, opposite, puts_of, resume_mark, suspend_mark, turn_lines}
use Rattle.nvm_model.specs.Run.Stage.{Title, Turn, Begin, Suspend, Resume, Stop, GiveUp, End}
use Rattle.turns.proofs.CrossLaws.{chain_split}
use Rattle.turns.proofs.RunLaws.{went_more, went_none, went_sent, went_silent, sent_from}
use Rattle.session.specs.declared.lane_run.LaneRun.{LaneRun}
use Rattle.session.specs.declared.order.Order.{Order}
use Rattle.manager.specs.declared.manager.Pause.{Pause}
use Rattle.session.specs.Moves.{Moves, Stays, Tries, both, owed_by, owing_all}
use Rattle.session.specs.Lanes.{HaveWindows, IsComplete}
use Rattle.nvm_model.specs.Told.{serial}
use Rattle.session.specs.Place.{IsPlaceOf, AreQuiet, DoesTurn, IsReady, IsWaiting, PlaceState, StandsFor, StandsOn, machine, total_work}
use Rattle.session.specs.declared.ending.Ending.TheVariants.{Done}
use Rattle.session.specs.Sides.{Goes, HasEnded, IsEnding, IsMoveDue, IsNewManager, IsOnward, IsRunning, MaySuspend, MovesAtOnce, Owes, SessionState, Sides, StandsAs, at_side, by_side, machine_of, move_set, sides}
use Rattle.session.proofs.MemoryLemmas.{whole_memory}
use Rattle.session.proofs.ServedLemmas.{served_more, served_none}
use Rattle.session.proofs.ShelvesLemmas.{same_namespace}
use Rattle.session.proofs.AllLanesLemmas.{all_lanes, quiet_at}
use Rattle.session.proofs.RestLemmas.{complete_is, done_is, work_is}
use Rattle.manager.specs.declared.manager.MoveSet.{MoveSet}
use Rattle.manager.specs.declared.manager.MovePhase.TheVariants.{Begun}
use Rattle.manager.specs.Owed.{places_of}
use Rattle.manager.proofs.CopyLemmas.{all_places, places_all}
use Rattle.manager.proofs.StateLemmas.{rings_at}
use Rattle.ctl_state.specs.declared.phase.Phase.TheVariants.{Running as Started}

-- What code did as stages of a run, whatever run it stood for.

pub goes_none : {M I : Type 0} {state : M → MediumState I} {moves : I → Step → Bool → I → Type 0} (m : Sides M) → Goes state moves m false m
goes_none m t stands = record { end = t; went = went_none t; stands = stands }

pub goes_more : {M I : Type 0} {state : M → MediumState I} {moves : I → Step → Bool → I → Type 0} {old mid new : Sides M} {failed : Bool} → Goes state moves old false mid → Goes state moves mid failed new → Goes state moves old failed new
goes_more a b t stands =
    let first = a t stands in
    let second = b first.end first.stands in
    record { end = second.end; went = went_more first.went second.went; stands = second.stands }

pub onward_none : {M I : Type 0} {state : M → MediumState I} {moves : I → Step → Bool → I → Type 0} {s : SessionState} {at : PlaceState M} → IsRunning s at → IsOnward state moves s at s at
onward_none running = record { script = refl; side = refl; tried = refl; manager = refl; served = served_none (record { namespace = refl; controller = refl }); running = running }

pub onward_more : {M I : Type 0} {state : M → MediumState I} {moves : I → Step → Bool → I → Type 0} {old mid new : SessionState} {old_at at to : PlaceState M} → IsOnward state moves old old_at mid at → IsOnward state moves mid at new to → IsOnward state moves old old_at new to
onward_more a b = record {
  script = b.script ∙ a.script;
  side = b.side ∙ a.side;
  tried = b.tried ∙ a.tried;
  manager = b.manager ∙ a.manager;
  served = served_more a.served b.served;
  running = b.running;
}

pub not_true : {b : Bool} → b ≡ false → IsTrue b → ⊥
not_true is true_is = absurd cc

-- All is done exactly where all lanes are complete.

all_complete : {M : Type 0} {at : PlaceState M} (s : SessionState) (t : Snapshot M) → t.task ≡ serial s.script → IsReady s.script (machine_of s at) → StandsOn s.script (machine_of s at) (here t) → All IsComplete s.runs → AreComplete t
all_complete s t task ready stands done = subst (λ (k : Task). Complete k.script (among t.lanes)) (sym task) (complete_is ready.script ready.runs stands.lanes done)

all_done : {M : Type 0} {at : PlaceState M} (s : SessionState) (t : Snapshot M) → t.task ≡ serial s.script → IsReady s.script (machine_of s at) → StandsOn s.script (machine_of s at) (here t) → AreComplete t → All IsComplete s.runs
all_done s t task ready stands complete = done_is ready.script ready.runs stands.lanes (subst (λ (k : Task). Complete k.script (among t.lanes)) task complete)

-- A move is due for the session exactly where it is for the run.

module _ {M : Type 0} {at other : PlaceState M} {out : SinkState} (s : SessionState) (t : Snapshot M) (ready : IsReady s.script (machine_of s at)) (stands : StandsAs (sides s at other out) t) where
  due_is : IsMoveDue s → IsDue t
  due_is due = record {
    untried = stands.tried ∙ due.untried;
    turn = due.turn;
    asked = ap (λ (k : Task). k.script.head.migrate) stands.task ∙ due.asked_is;
    when = ⊎_elim (λ is. inl (omega (arith, is, stands.turns))) (λ done. inr (all_complete s t stands.task ready stands.lanes done)) due.when;
  }

  not_due : (IsMoveDue s → ⊥) → IsDue t → ⊥
  not_due none due = none (record {
    untried = sym stands.tried ∙ due.untried;
    turn = due.turn;
    asked_is = sym (ap (λ (k : Task). k.script.head.migrate) stands.task) ∙ due.asked;
    when = ⊎_elim (λ is. inl (omega (arith, is, stands.turns))) (λ complete. inr (all_done s t stands.task ready stands.lanes complete)) due.when;
  })

-- where none was begun, a run to whose end no move is due asks for none
pub none_asked : (s : SessionState) → s.tried ≡ false → All IsComplete s.runs → (IsMoveDue s → ⊥) → s.script.head.migrate ≡ None
none_asked s untried done none = by s.script.head.migrate refl
  where
    by : (asked : Option ℕ) → s.script.head.migrate ≡ asked → asked ≡ None
    by None is = refl
    by (Some turn) is = absurd (none (record { untried = untried; turn = turn; asked_is = is; when = inr done }))

-- such a run ended as it should
pub ended_unmoved : (old new : SessionState) → new ≡ record old { phase = Over } → old.tried ≡ false → All IsComplete old.runs → (IsMoveDue old → ⊥) → HasEnded Done new
ended_unmoved old new is untried done none = subst (HasEnded Done) (sym is) (record { over = refl; ended = subst (λ (asked : Option ℕ). IsEnding asked old.side Done) (sym (none_asked old untried done none)) tt })

-- The stages.

pub goes_title : {M I T E : Type 0} {state : M → MediumState I} {moves : I → Step → Bool → I → Type 0} {s : SessionState} {at other : PlaceState M} {out sent : SinkState} {result : Result T E} →
    s.phase ≡ New → Writes (text_of (line.Title ∷ line.Ready ∷ [])) out.taken sent.taken out.faults sent.faults result →
    Goes state moves (sides s at other out) (is_err result) (sides (record s { phase = Running }) at other sent)
goes_title {sent = sent} was written t stands = record {
  end = record t { phase = Running; out = sent };
  went = went_sent Title (record { was = stands.phase ∙ was; after = refl }) (sent_from stands.out written);
  stands = record { task = stands.task; phase = refl; side = stands.side; tried = stands.tried; turns = stands.turns; owes = tt; lanes = stands.lanes; memory = stands.memory; other = stands.other; left = stands.left; out = refl };
}

-- what is owed at a move's start
owing : (s : Script) (m : ManagerState) → m.set ≡ move_set s.head → all_owed s.head ≡ owed_by (owing_all m)
owing s m set =
    let of : MoveSet → Owed = λ k. record { blocks = range_with_len 0 k.blocks; pages = range_with_len 0 k.ram_pages } in
    sym (ap (λ (bs : List ℕ). record { blocks = bs; pages = places_of (owing_all m).pages }) (places_all 0 m.set.blocks) ∙ ap (λ (ps : List ℕ). record { blocks = range_with_len 0 m.set.blocks; pages = ps }) (places_all 0 m.set.ram_pages) ∙ ap of set)

pub goes_start : {M I T E : Type 0} {state : M → MediumState I} {moves : I → Step → Bool → I → Type 0} {s : SessionState} {at other : PlaceState M} {out sent : SinkState} {result : Result T E} →
    s.phase ≡ Running → IsReady s.script (machine_of s at) → IsMoveDue s → IsNewManager s.script s.manager → Writes (text_of (line.Migrate ∷ [])) out.taken sent.taken out.faults sent.faults result →
    Goes state moves (sides s at other out) (is_err result) (sides (record s { phase = Moving; tried = true; manager = owing_all s.manager }) at other sent)
goes_start {s = s} {sent = sent} was ready due unbegun written t stands = record {
  end = record t { phase = Moving; tried = true; rounds = 0; owed = all_owed t.task.script.head; out = sent };
  went = went_sent Begin (record { was = stands.phase ∙ was; due = due_is s t ready stands due; after = refl }) (sent_from stands.out written);
  stands = record {
    task = stands.task;
    phase = refl;
    side = stands.side;
    tried = refl;
    turns = stands.turns;
    owes = ap (λ (k : Task). all_owed k.script.head) stands.task ∙ owing s.script s.manager (ap (λ (m : ManagerState). m.set) unbegun);
    lanes = stands.lanes;
    memory = stands.memory;
    other = stands.other;
    left = stands.left;
    out = refl;
  };
}

-- what a run owes in a phase
owed_in : {M : Type 0} {s : SessionState} {at other : PlaceState M} {out : SinkState} {t : Snapshot M} (p : RunPhase) → s.phase ≡ p → StandsAs (sides s at other out) t → Owes p s.manager t.owed
owed_in {s = s} {t = t} p is stands = subst (λ (q : RunPhase). Owes q s.manager t.owed) is stands.owes

cut_due : (s : Script) (m : ManagerState) (owed : Owed) (rounds : ℕ) → owed ≡ owed_by m → m ≡ with_all true Begun (move_set s.head) → MovesAtOnce s.head → IsCutDue s.head owed rounds
cut_due s m owed rounds is all at_once =
    let blocks : length owed.blocks ≡ s.head.blocks = ap (λ (o : Owed). length o.blocks) is ∙ ap (λ (k : ManagerState). length (places_of k.blocks)) all ∙ all_places 0 s.head.blocks in
    let pages : length owed.pages ≡ window_pages s.head = ap (λ (o : Owed). length o.pages) is ∙ ap (λ (k : ManagerState). length (places_of k.pages)) all ∙ all_places 0 (window_pages s.head) in
    inl (omega (arith, blocks, at_once.blocks), omega (arith, pages, at_once.pages))

-- a move that was begun, and whose blocks and pages are few, is one to suspend
pub may_suspend : (old new : SessionState) → new ≡ record old { phase = Moving; tried = true; manager = owing_all old.manager } → IsNewManager old.script old.manager → MovesAtOnce old.script.head → MaySuspend new
may_suspend old new is unbegun at_once = subst MaySuspend (sym is) (record { phase = refl; owes = ap (λ (m : ManagerState). owing_all m) unbegun; at_once = at_once })

pub goes_suspend : {M I T E : Type 0} {state : M → MediumState I} {moves : I → Step → Bool → I → Type 0} {s : SessionState} {at other : PlaceState M} {out sent : SinkState} {result : Result T E} →
    MaySuspend s → Writes (text_of (line.Suspend ∷ [])) out.taken sent.taken out.faults sent.faults result →
    Goes state moves (sides s at other out) (is_err result) (sides (record s { phase = Suspended }) at other sent)
goes_suspend {M} {s = s} {sent = sent} may written t stands =
    let owed : t.owed ≡ owed_by s.manager = owed_in Moving may.phase stands in
    let due = subst (λ (k : Task). IsCutDue k.script.head t.owed t.rounds) (sym stands.task) (cut_due s.script s.manager t.owed t.rounds owed may.owes may.at_once) in
    record {
      end = record t { phase = Suspended; out = sent };
      went = went_sent Suspend (record { was = stands.phase ∙ may.phase; due = due; after = refl }) (sent_from stands.out written);
      stands = record { task = stands.task; phase = refl; side = stands.side; tried = stands.tried; turns = stands.turns; owes = owed; lanes = stands.lanes; memory = stands.memory; other = stands.other; left = stands.left; out = refl };
    }

pub goes_end : {M I T E : Type 0} {state : M → MediumState I} {moves : I → Step → Bool → I → Type 0} {s : SessionState} {at other : PlaceState M} {out sent : SinkState} {result : Result T E} →
    s.phase ≡ Running → IsReady s.script (machine_of s at) → All IsComplete s.runs → (IsMoveDue s → ⊥) → Writes (text_of (line.End ∷ [])) out.taken sent.taken out.faults sent.faults result →
    Goes state moves (sides s at other out) (is_err result) (sides (record s { phase = Over }) at other sent)
goes_end {s = s} {sent = sent} was ready done none written t stands = record {
  end = record t { phase = Over; out = sent };
  went = went_sent End (record {
    was = stands.phase ∙ was;
    not_due = not_due s t ready stands none;
    complete = all_complete s t stands.task ready stands.lanes done;
    after = refl;
  }) (sent_from stands.out written);
  stands = record { task = stands.task; phase = refl; side = stands.side; tried = stands.tried; turns = stands.turns; owes = tt; lanes = stands.lanes; memory = stands.memory; other = stands.other; left = stands.left; out = refl };
}

pub goes_turn : {M I T E : Type 0} {state : M → MediumState I} {moves : I → Step → Bool → I → Type 0} {s : SessionState} {at new_at other : PlaceState M} {out sent : SinkState} {result : Result T E} (runs : List LaneRun) (order : Order) (events : List Line) →
    s.phase ≡ Running → IsReady s.script (machine_of s at) → (All IsComplete s.runs → ⊥) → (IsMoveDue s → ⊥) → IsReady s.script (machine runs order new_at) →
    ((h : Here M) → StandsOn s.script (machine_of s at) h → DoesTurn state moves s.script h events (record { runs = runs; order = order; place = new_at })) →
    Writes (text_of events) out.taken sent.taken out.faults sent.faults result →
    Goes state moves (sides s at other out) (is_err result) (sides (record s { runs = runs; order = order; turns = s.turns + 1 }) new_at other sent)
goes_turn {M} {I} {T} {E} {state} {moves} {s} {at} {new_at} {other} {out} {sent} {result} runs order events was ready undone none ready_then does written t stands =
    let d = does (here t) stands.lanes in
    let text : Writes (text_of (turn_lines d.done)) out.taken sent.taken out.faults sent.faults result = subst (λ (ls : List Line). Writes (text_of ls) out.taken sent.taken out.faults sent.faults result) d.events_are written in
    let end : Snapshot M = record t { turns = t.turns + 1; drawn = d.new.drawn; lanes = d.new.lanes; at = d.new.media; out = sent } in
    let turned : IsTurn state moves (serial s.script) [] (here t) d.done (here end) =
    subst (λ (media : List M). IsTurn state moves (serial s.script) [] (here t) d.done (record d.new { other = media; due = [] })) d.beside
    (subst (λ (due : List ℕ). IsTurn state moves (serial s.script) [] (here t) d.done (record d.new { due = due })) d.stands.due d.turn) in
    record {
      end = end;
      went = went_sent (Turn t.side d.done) (record {
        was = stands.phase ∙ was;
        stands = refl;
        not_due = not_due s t ready stands none;
        unfinished = λ complete. undone (all_done s t stands.task ready stands.lanes complete);
        turn = subst (λ (k : Task). IsTurn state moves k [] (here t) d.done (here end)) (sym stands.task) turned;
        some = d.some;
        after = refl;
      }) (sent_from stands.out text);
      stands = record {
        task = stands.task;
        phase = stands.phase;
        side = stands.side;
        tried = stands.tried;
        turns = ap (λ (n : ℕ). n + 1) stands.turns;
        owes = stands.owes;
        lanes = record { lanes = d.stands.lanes; media = d.stands.media; words = d.stands.words; due = refl };
        memory = ap (λ (k : Task). memory_of k.script d.new.lanes) stands.task ∙ sym (whole_memory ready_then.script ready_then.runs ready_then.place.windows d.stands.lanes);
        other = stands.other;
        left = stands.left;
        out = refl;
      };
    }

-- The move.

-- two controllers have the same rings, and no command under way
record HaveSameRings (s : Script) (old new : ControllerState) : Type 0 where
  sq : (k : ℕ) → 1 ≤ k → k ≤ s.head.lanes → (pair_of new k).sq ≡ (pair_of old k).sq
  cq : (k : ℕ) → 1 ≤ k → k ≤ s.head.lanes → (pair_of new k).cq ≡ (pair_of old k).cq
  commands : (k : ℕ) → 1 ≤ k → k ≤ s.head.lanes → (pair_of new k).commands ≡ (pair_of old k).commands

stands_with : {s : Script} {runs : List LaneRun} {old new : ControllerState} {windows : List WindowState} {lanes : List Lane} → HaveSameRings s old new → StandsFor s runs old windows lanes → StandsFor s runs new windows lanes
stands_with {s} {runs} same stands = record {
  count = stands.count;
  each = λ k d e low high.
      let was = stands.each k d e low high in
      record {
        number = was.number;
        guest = was.guest;
        window_is = was.window_is;
        ordered = was.ordered;
        guest_ends = was.guest_ends;
        ends = record { sq_is = same.sq k low high ∙ was.ends.sq_is; cq_is = same.cq k low high ∙ was.ends.cq_is };
        acts = was.acts;
        running = was.running ∙ ap (λ (cs : List Command). worked s.head.shelf cs (outcomes_of (slice_index_or runs (k - 1) d).results.items)) (sym (same.commands k low high));
      };
}

module _ {M : Type 0} (s : SessionState) (new : ControllerState) {at to : PlaceState M} (ready : IsReady s.script (machine_of s at)) (waits : IsWaiting s.script to)
    (is : new ≡ record (gone_on_with (map image_of at.controller.pairs) to.controller) { fed = new.fed }) where
  pair_there : (k : ℕ) → 1 ≤ k → k ≤ s.script.head.lanes → pair_of new k ≡ with_rings (image_of (pair_of at.controller k)) (pair_of to.controller k)
  pair_there k low high =
      let many = length-map at.controller.pairs image_of in
      ap (λ (c : ControllerState). pair_of c k) is
      ∙ rings_at (map image_of at.controller.pairs) to.controller.pairs (k - 1) (image_of no_pair) no_pair (omega (arith, many, ready.place.pairs, low, high)) (omega (arith, waits.at.pairs, low, high))
      ∙ ap (λ (image : PairImage). with_rings image (pair_of to.controller k)) (get_or-map image_of at.controller.pairs (k - 1) no_pair)

  pairs_there : length new.pairs ≡ s.script.head.lanes
  pairs_there = ap (λ (c : ControllerState). length c.pairs) is ∙ length-with_images (map image_of at.controller.pairs) to.controller.pairs ∙ waits.at.pairs

  quiet_there : AreQuiet new.pairs
  quiet_there = all_lanes (λ (p : PairState). p.commands ≡ []) new.pairs no_pair pairs_there (λ k low high. ap (λ (p : PairState). p.commands) (pair_there k low high) ∙ quiet_at to.controller waits.quiet k)

  rings_there : HaveSameRings s.script at.controller new
  rings_there = record {
    sq = λ k low high. ap (λ (p : PairState). p.sq) (pair_there k low high);
    cq = λ k low high. ap (λ (p : PairState). p.cq) (pair_there k low high);
    commands = λ k low high. quiet_at new quiet_there k ∙ sym (quiet_at at.controller ready.quiet k);
  }

-- a machine is ready where its guests stand on that place
ready_at : {M : Type 0} (s : SessionState) {at new : PlaceState M} (ready : IsReady s.script (machine_of s at)) → IsPlaceOf s.script new → new.controller.phase ≡ Started →
    AreQuiet new.controller.pairs → StandsFor s.script s.runs new.controller new.windows ready.stood.lanes → IsReady s.script (machine_of s new)
ready_at s {at} {new} ready place running quiet lanes = record {
  script = ready.script;
  runs = ready.runs;
  place = place;
  running = running;
  mix = ready.mix;
  quiet = quiet;
  undone = ready.undone;
  stood = record ready.stood { media = media_of new.namespace };
  stands = record { lanes = lanes; media = refl; words = ready.stands.words; due = ready.stands.due };
}

module _ {M I : Type 0} (state : M → MediumState I) (moves : I → Step → Bool → I → Type 0) where
  -- calls by the script of a run that stands for these
  along : {s : Script} {task : Task} (calls : Script → List At) {x from : List M} (to : List M) → task ≡ serial s → x ≡ from → Chain (IsAt state moves) from (calls s) to → Chain (IsAt state moves) x (calls task.script) to
  along {s} {task} calls {x} {from} to is media c =
      subst (λ (ms : List M). Chain (IsAt state moves) ms (calls task.script) to) (sym media) (subst (λ (k : Task). Chain (IsAt state moves) from (calls k.script) to) (sym is) c)

  -- the calls of a pause that is given up: those of a stop, and the marks behind them
  halves : (s : Script) (n : ℕ) (x z : List M) (copies : List Copy) (of : ℕ → Copy → List At) → Chain (IsAt state moves) x (suspend_mark s n ++ (flat_map (of s.head.shelf) copies ++ resume_mark s n)) z →
      (y : List M) × Chain (IsAt state moves) x (suspend_mark s n ++ flat_map (of s.head.shelf) copies) y × Chain (IsAt state moves) y (resume_mark s n) z
  halves s n x z copies of c =
      let first = suspend_mark s n in
      let mid = flat_map (of s.head.shelf) copies in
      let last = resume_mark s n in
      chain_split (IsAt state moves) (first ++ mid) last x z (subst (λ (calls : List At). Chain (IsAt state moves) x calls z) (sym (append_assoc first mid last)) c)

module _ {M I : Type 0} {state : M → MediumState I} {moves : I → Step → Bool → I → Type 0} (s : SessionState) {at to new_at new_to : PlaceState M} (ready : IsReady s.script (machine_of s at)) where
  -- what stood for lanes here stands for them there
  lanes_there : IsWaiting s.script to → (m : Moves state moves s.script s.turns (owed_by s.manager) (both at to) (both new_at new_to)) → (lanes : List Lane) → StandsFor s.script s.runs at.controller at.windows lanes → StandsFor s.script s.runs new_to.controller new_to.windows lanes
  lanes_there waits m lanes stands = subst (λ (ws : List WindowState). StandsFor s.script s.runs new_to.controller ws lanes) (sym m.to_memory) (stands_with (rings_there s new_to.controller ready waits m.controllers.1) stands)

  pub ready_there : IsWaiting s.script to → Moves state moves s.script s.turns (owed_by s.manager) (both at to) (both new_at new_to) → IsReady s.script (machine_of s new_to)
  ready_there waits m = ready_at s ready (record {
    namespace = same_namespace waits.at.namespace m.crosses.to_shelves;
    windows = subst (HaveWindows s.script) (sym m.to_memory) ready.place.windows;
    pairs = pairs_there s new_to.controller ready waits m.controllers.1;
    burst = ap (λ (c : ControllerState). c.burst) m.controllers.1 ∙ waits.at.burst;
  }) (ap (λ (c : ControllerState). c.phase) m.controllers.1) (quiet_there s new_to.controller ready waits m.controllers.1) (lanes_there waits m ready.stood.lanes ready.stands.lanes)

  -- or here, where the guests stayed
  lanes_here : Stays state moves s.script s.turns (owed_by s.manager) (both at to) (both new_at new_to) → (lanes : List Lane) → StandsFor s.script s.runs at.controller at.windows lanes → StandsFor s.script s.runs new_at.controller new_at.windows lanes
  lanes_here m lanes stands =
      subst (λ (ws : List WindowState). StandsFor s.script s.runs new_at.controller ws lanes) (sym m.crosses.from_memory)
      (subst (λ (c : ControllerState). StandsFor s.script s.runs c at.windows lanes) (sym m.controllers.0) (record { count = stands.count; each = stands.each }))

  pub ready_here : Stays state moves s.script s.turns (owed_by s.manager) (both at to) (both new_at new_to) → IsReady s.script (machine_of s new_at)
  ready_here m =
      let pairs : new_at.controller.pairs ≡ at.controller.pairs = ap (λ (c : ControllerState). c.pairs) m.controllers.0 in
      ready_at s ready (record {
        namespace = same_namespace ready.place.namespace m.crosses.from_shelves;
        windows = subst (HaveWindows s.script) (sym m.crosses.from_memory) ready.place.windows;
        pairs = ap length pairs ∙ ready.place.pairs;
        burst = ap (λ (c : ControllerState). c.burst) m.controllers.0 ∙ ready.place.burst;
      }) (ap (λ (c : ControllerState). c.phase) m.controllers.0) (subst AreQuiet (sym pairs) ready.quiet)
      (lanes_here m ready.stood.lanes ready.stands.lanes)

  -- less is left at neither side
  work_there : IsWaiting s.script to → Moves state moves s.script s.turns (owed_by s.manager) (both at to) (both new_at new_to) → total_work 1 s.runs new_to.controller ≡ total_work 1 s.runs at.controller
  work_there waits m =
      work_is ready.script ready.runs (quiet_there s new_to.controller ready waits m.controllers.1) (lanes_there waits m ready.stood.lanes ready.stands.lanes) ∙ sym (work_is ready.script ready.runs ready.quiet ready.stands.lanes)

  work_here : Stays state moves s.script s.turns (owed_by s.manager) (both at to) (both new_at new_to) → total_work 1 s.runs new_at.controller ≡ total_work 1 s.runs at.controller
  work_here m =
      work_is ready.script ready.runs (subst AreQuiet (sym (ap (λ (c : ControllerState). c.pairs) m.controllers.0)) ready.quiet) (lanes_here m ready.stood.lanes ready.stands.lanes) ∙ sym (work_is ready.script ready.runs ready.quiet ready.stands.lanes)

  -- the run goes on at the other side
  goes_resume : {T E : Type 0} {out sent : SinkState} {result : Result T E} (manager : ManagerState) → s.phase ≡ Suspended → IsWaiting s.script to → Moves state moves s.script s.turns (owed_by s.manager) (both at to) (both new_at new_to) →
      Writes (text_of (line.Pause (length (owed_by s.manager).blocks) (length (owed_by s.manager).pages) ∷ line.ResumeTo ∷ [])) out.taken sent.taken out.faults sent.faults result →
      Goes state moves (sides s at to out) (is_err result) (sides (record s { phase = Running; side = opposite s.side; manager = manager }) new_to new_at sent)
  goes_resume {T} {E} {out} {sent} {result} manager was waits m written t stands =
      let owed : t.owed ≡ owed_by s.manager = owed_in Suspended was stands in
      let there = lanes_there waits m t.lanes stands.lanes.lanes in
      let pages = length (owed_by s.manager).pages in
      let count : length m.copies ≡ length (owed_by s.manager).blocks = sym (length-map m.copies (λ (c : Copy). c.block)) ∙ ap (λ (bs : List ℕ). length bs) m.all.each in
      let text = subst (λ (n : ℕ). Writes (text_of (line.Pause n pages ∷ line.ResumeTo ∷ [])) out.taken sent.taken out.faults sent.faults result) (sym count) written in
      let memory = ap (λ (k : Task). memory_of k.script t.lanes) stands.task ∙ sym (whole_memory ready.script ready.runs ready.place.windows stands.lanes.lanes) in
      record {
        end = record t { phase = Running; side = opposite t.side; at = media_of new_to.namespace; other = media_of new_at.namespace; left = memory_of t.task.script t.lanes; out = sent };
        went = went_sent (Resume t.side s.turns m.copies pages) (record {
          was = stands.phase ∙ was;
          stood = refl;
          number = sym stands.turns;
          copies_all = subst (λ (o : Owed). CopiesAll o.blocks m.copies) (sym owed) m.all;
          told = ap (λ (o : Owed). length o.pages) (sym owed);
          gets = along state moves (λ k. suspend_mark k s.turns ++ (flat_map (gets_of k.head.shelf) m.copies ++ resume_mark k s.turns)) (media_of new_at.namespace) stands.task stands.lanes.media m.crosses.gets;
          puts = along state moves (λ k. suspend_mark k s.turns ++ (flat_map (puts_of k.head.shelf) m.copies ++ resume_mark k s.turns)) (media_of new_to.namespace) stands.task stands.other m.crosses.puts;
          after = refl;
        }) (sent_from stands.out text);
        stands = record {
          task = stands.task;
          phase = refl;
          side = ap opposite stands.side;
          tried = stands.tried;
          turns = stands.turns;
          owes = tt;
          lanes = record { lanes = there; media = refl; words = stands.lanes.words; due = refl };
          memory = memory ∙ sym (ap all_pages m.to_memory);
          other = refl;
          left = memory ∙ sym (ap all_pages m.crosses.from_memory);
          out = refl;
        };
      }

  -- the run goes on where it was
  goes_stay : {T E : Type 0} {out sent : SinkState} {result : Result T E} (manager : ManagerState) → s.phase ≡ Suspended → Stays state moves s.script s.turns (owed_by s.manager) (both at to) (both new_at new_to) →
      Writes (text_of (line.GiveUp ∷ [])) out.taken sent.taken out.faults sent.faults result →
      Goes state moves (sides s at to out) (is_err result) (sides (record s { phase = Running; manager = manager }) new_at new_to sent)
  goes_stay {sent = sent} manager was m written t stands =
      let owed : t.owed ≡ owed_by s.manager = owed_in Suspended was stands in
      let gets = halves state moves s.script s.turns (media_of at.namespace) (media_of new_at.namespace) m.copies gets_of m.crosses.gets in
      let puts = halves state moves s.script s.turns (media_of to.namespace) (media_of new_to.namespace) m.copies puts_of m.crosses.puts in
      let stopped : Snapshot M = record t { phase = Stopped; at = gets.0; other = puts.0 } in
      let stop = went_silent {state = state} {moves = moves} {old = t} {new = stopped} (Stop t.side s.turns m.copies) (record {
        was = stands.phase ∙ was;
        stood = refl;
        number = sym stands.turns;
        copies_stop = subst (λ (o : Owed). CopiesUpTo o.blocks m.copies) (sym owed) m.up_to;
        gets = along state moves (λ k. suspend_mark k s.turns ++ flat_map (gets_of k.head.shelf) m.copies) gets.0 stands.task stands.lanes.media gets.1;
        puts = along state moves (λ k. suspend_mark k s.turns ++ flat_map (puts_of k.head.shelf) m.copies) puts.0 stands.task stands.other puts.1;
        after = refl;
      }) refl refl in
      record {
        end = record t { phase = Running; at = media_of new_at.namespace; other = media_of new_to.namespace; out = sent };
        went = went_more stop (went_sent {old = stopped} (GiveUp s.turns) (record {
          was = refl;
          number = sym stands.turns;
          here_marked = along state moves (λ k. resume_mark k s.turns) (media_of new_at.namespace) stands.task refl gets.2;
          there_marked = along state moves (λ k. resume_mark k s.turns) (media_of new_to.namespace) stands.task refl puts.2;
          after = refl;
        }) (sent_from stands.out written));
        stands = record {
          task = stands.task;
          phase = refl;
          side = stands.side;
          tried = stands.tried;
          turns = stands.turns;
          owes = tt;
          lanes = record { lanes = lanes_here m t.lanes stands.lanes.lanes; media = refl; words = stands.lanes.words; due = refl };
          memory = stands.memory ∙ sym (ap all_pages m.crosses.from_memory);
          other = refl;
          left = stands.left ∙ sym (ap all_pages m.to_memory);
          out = refl;
        };
      }

  -- by what is said of the session then
  pub resumed : {T E : Type 0} {out sent : SinkState} {result : Result T E} {pause : Pause} {manager : ManagerState} (next : SessionState) → s.phase ≡ Suspended → s.turns + total_work 1 s.runs at.controller < 2 ^ 32 → IsWaiting s.script to → Tries state moves s.script s.turns (owed_by s.manager) (Ok pause) (both at to) (both new_at new_to) →
      Writes (text_of (line.Pause pause.blocks pause.pages ∷ line.ResumeTo ∷ [])) out.taken sent.taken out.faults sent.faults result → next ≡ record s { phase = Running; side = opposite s.side; manager = manager } →
      Goes state moves (sides s at to out) (is_err result) (sides next new_to new_at sent) × IsRunning next new_to
  resumed {out = out} {sent} {result} {manager = manager} next was few waits m written is =
      let text = subst (λ (p : Pause). Writes (text_of (line.Pause p.blocks p.pages ∷ line.ResumeTo ∷ [])) out.taken sent.taken out.faults sent.faults result) m.1 written in (
        subst (λ (n : SessionState). Goes state moves (sides s at to out) (is_err result) (sides n new_to new_at sent)) (sym is) (goes_resume manager was waits m.0 text),
        subst (λ (n : SessionState). IsRunning n new_to) (sym is) (record { phase = refl; ready = ready_there waits m.0; few = omega (arith, few, work_there waits m.0) }),
      )

  pub stayed : {T E : Type 0} {out sent : SinkState} {result : Result T E} {manager : ManagerState} (next : SessionState) → s.phase ≡ Suspended → s.turns + total_work 1 s.runs at.controller < 2 ^ 32 → Stays state moves s.script s.turns (owed_by s.manager) (both at to) (both new_at new_to) →
      Writes (text_of (line.GiveUp ∷ [])) out.taken sent.taken out.faults sent.faults result → next ≡ record s { phase = Running; manager = manager } →
      Goes state moves (sides s at to out) (is_err result) (sides next new_at new_to sent) × IsRunning next new_at
  stayed {out = out} {sent} {result} {manager = manager} next was few m written is = (
    subst (λ (n : SessionState). Goes state moves (sides s at to out) (is_err result) (sides n new_at new_to sent)) (sym is) (goes_stay manager was m written),
    subst (λ (n : SessionState). IsRunning n new_at) (sym is) (record { phase = refl; ready = ready_here m; few = omega (arith, few, work_here m) }),
  )

-- What was said of a session and two places, said of the source and the destination.

pub on_source : {M I : Type 0} {state : M → MediumState I} {moves : I → Step → Bool → I → Type 0} {old new : SessionState} {from to new_from new_to : PlaceState M} {out sent : SinkState} {failed : Bool} → new.side ≡ Source →
    Goes state moves (sides old from to out) failed (sides new new_from new_to sent) ↔ Goes state moves (sides old from to out) failed (by_side new new_from new_to sent)
on_source {M} {state = state} {moves} {old} {new} {from} {to} {new_from} {new_to} {out} {sent} {failed} is =
    let same = ap (λ (side : Side). Goes state moves (sides old from to out) failed (at_side side (sides new new_from new_to sent) (sides new new_to new_from sent))) is in
    (subst (λ (X : Type 0). X) (sym same), subst (λ (X : Type 0). X) same)

pub on_destination : {M I : Type 0} {state : M → MediumState I} {moves : I → Step → Bool → I → Type 0} {old new : SessionState} {from to new_from new_to : PlaceState M} {out sent : SinkState} {failed : Bool} → new.side ≡ Destination →
    Goes state moves (sides old from to out) failed (sides new new_to new_from sent) ↔ Goes state moves (sides old from to out) failed (by_side new new_from new_to sent)
on_destination {M} {state = state} {moves} {old} {new} {from} {to} {new_from} {new_to} {out} {sent} {failed} is =
    let same = ap (λ (side : Side). Goes state moves (sides old from to out) failed (at_side side (sides new new_from new_to sent) (sides new new_to new_from sent))) is in
    (subst (λ (X : Type 0). X) (sym same), subst (λ (X : Type 0). X) same)

pub if_ok : {T E : Type 0} {P Q : T → Type 0} (result : Result T E) → ((x : T) → P x → Q x) → IfOk result P → IfOk result Q
if_ok (Ok x) f p = f x p
if_ok (Err e) f p = tt
