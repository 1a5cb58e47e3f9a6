use Rattle.std.proofs.Common.{◌≡◌, ℕ, zero, suc, ◌+◌, ◌<◌, ◌≤◌, ◌&&◌, ◌==◌, Bool, true, false, not, List, [], ◌∷◌, ◌++◌, Option, Some, None, Ok, drop, length, replicate, slice_get, refl, sym, ap, subst, ◌∙◌, append_assoc, append-nil, arith, eq-eqb}
use Rattle.std.specs.Bool.{MatchBool}
use Rattle.std.proofs.lemmas.List.{drop_all, length-append, map-append}
use Rattle.data_queue.specs.declared.change.Change.{Change}
use Rattle.data_queue.specs.Log.{IsLog, QueueState, Takes, TakesOne}
use Rattle.nvm_values.specs.Status.{success}
use Rattle.adm_values.specs.declared.command.AdminCpl.{AdminCpl}
use Rattle.adm_values.specs.declared.command.What.TheVariants.{LogUserData, CreateQueue, DeleteQueue}
use Rattle.ctl_state.specs.Admin.{AdminResult, Becomes, IsCreated, Refuses, completion_of}
use Rattle.ctl_state.specs.declared.refusal.Refusal.TheVariants.{BadDataQueue, DataQueueFull}
use Rattle.ctl_state.specs.Controller.{ControllerState}
use Rattle.manager.specs.declared.side.Side.TheVariants.{From}
use Rattle.manager.specs.Parts.{DoesPages, Sends}
use Rattle.manager.specs.declared.manager.After.{After}
use Rattle.manager.specs.declared.manager.After.TheVariants.{Go, CutOver, Fault}
use Rattle.manager.specs.Move.{Fits, ManagerState}
use Rattle.manager.specs.Owed.{places_of}
use Rattle.manager.proofs.CopyLemmas.{all_differ, none_differs, places_all}
use Rattle.manager.specs.Asks.{Ask, Asked, log_asks}
use Rattle.manager.specs.Asks.Ask.{Take as AskTake}
use Rattle.manager.specs.Port.{IsPortCall, PortCall, PortState, SideState, with_controller}
use Rattle.manager.specs.Port.PortCall.{Take}
use Rattle.manager.specs.Round.{CreatesLog, EndsLog, IsUnlogged, unlogged, Drained, DrainsAll, EndsRound, GoesOn, HasTurned, IsLogged, LogsOn, Settles, StartsLog, after_round}
use Rattle.manager.proofs.AskLemmas.{asked_call, asked_more, asked_none}

-- Changes are taken, one after another.

pub drained_none : {I : Type 0} (moves : I → PortCall → I → Type 0) (p : PortState I) → Drained moves [] p p
drained_none moves p = record {
  asked = asked_none moves p;
  left = omega arith;
  queue = refl;
  from_is = refl;
  to_is = refl;
  log = λ posted taken is. let same : taken + 0 ≡ taken = omega arith in rw same (refl, is);
}

drop_next : (xs : List Change) (m : ℕ) (c : Change) → slice_get xs m ≡ Some c → drop m xs ≡ c ∷ drop (m + 1) xs
drop_next [] m c is = absurd cc
drop_next (x ∷ xs) zero c is = let same : x ≡ c = cc in ap (λ (d : Change). d ∷ xs) same
drop_next (x ∷ xs) (suc m) c is = let next : suc m + 1 ≡ suc (m + 1) = omega arith in drop_next xs m c is ∙ ap (λ (n : ℕ). c ∷ drop n (x ∷ xs)) (sym next)

-- where the queue is live
takes_live : (live : Bool) (answer : Option Change) (old new : QueueState) → live ≡ true → MatchBool live (Takes answer old new) ((answer ≡ None) × (new ≡ old)) → Takes answer old new
takes_live true answer old new is takes = takes
takes_live false answer old new is takes = absurd cc

pub still_live : {I : Type 0} {moves : I → PortCall → I → Type 0} {changes : List Change} {old mid : PortState I} → Drained moves changes old mid → old.from.controller.queue.live ≡ true → mid.from.controller.queue.live ≡ true
still_live d live = ap (λ (q : QueueState). q.live) d.queue ∙ live

module _ {I : Type 0} {moves : I → PortCall → I → Type 0} {changes : List Change} {old mid new : PortState I} (live : old.from.controller.queue.live ≡ true) (d : Drained moves changes old mid) (left : mid.left ≤ new.left) where
  pub taken_from : (answer : Option Change) (call : IsPortCall moves mid (Take answer) new) → Takes answer mid.from.controller.queue new.from.controller.queue
  taken_from answer call =
      let takes = takes_live _ answer _ _ (still_live d live) call.does.takes.taken in
      subst (λ (s : SideState). Takes answer mid.from.controller.queue s.controller.queue) (sym call.does.from_is) takes

  -- the source but for its queue
  from_then : (answer : Option Change) (call : IsPortCall moves mid (Take answer) new) → new.from ≡ with_controller (record old.from.controller { queue = new.from.controller.queue }) old.from
  from_then answer call =
      let one : new.from ≡ with_controller (record mid.from.controller { queue = new.from.controller.queue }) mid.from
      = call.does.from_is ∙ ap (λ (c : ControllerState). with_controller c mid.from) (call.does.takes.others ∙ ap (λ (s : SideState). record mid.from.controller { queue = s.controller.queue }) (sym call.does.from_is)) in
      one ∙ ap (λ (s : SideState). with_controller (record s.controller { queue = new.from.controller.queue }) s) d.from_is

  pub drained_more : (c : Change) → IsPortCall moves mid (Take (Some c)) new → Drained moves (changes ++ c ∷ []) old new
  drained_more c call =
      let one : TakesOne c mid.from.controller.queue new.from.controller.queue = taken_from (Some c) call in
      record {
        asked = subst (λ (asks : List Ask). Asked moves asks old new) (sym (map-append (λ (x : Change). AskTake (Some x)) changes (c ∷ []))) (asked_more d.asked (asked_call (Take (Some c)) call));
        left = omega (arith, d.left, left);
        queue = one.others ∙ ap (λ (q : QueueState). record q { head = new.from.controller.queue.head; waiting = new.from.controller.queue.waiting }) d.queue;
        from_is = from_then (Some c) call;
        to_is = call.does.to_is ∙ d.to_is;
        log = λ posted taken is.
            let was = d.log posted taken is in
            let next = one.log posted (taken + length changes) was.1 in
            let at : taken + length (changes ++ c ∷ []) ≡ taken + length changes + 1 = omega (arith, length-append changes (c ∷ [])) in
            rw at (was.0 ∙ ap (λ (xs : List Change). changes ++ xs) (drop_next posted (taken + length changes) c next.0) ∙ sym (append_assoc changes (c ∷ []) (drop (taken + length changes + 1) posted)), next.1);
      }

  pub drained_all : IsPortCall moves mid (Take None) new → DrainsAll moves changes old new
  drained_all call =
      let none : (mid.from.controller.queue.waiting ≡ 0) × (new.from.controller.queue ≡ mid.from.controller.queue) = taken_from None call in
      record {
        asked = asked_more d.asked (asked_call (Take None) call);
        left = omega (arith, d.left, left);
        queue = none.1 ∙ d.queue ∙ (λ k. record old.from.controller.queue { head = (sym (ap (λ (q : QueueState). q.head) none.1)) k; waiting = none.0 k });
        from_is = from_then None call;
        to_is = call.does.to_is ∙ d.to_is;
        log = λ posted taken is.
            let was = d.log posted taken is in
            let end : taken + length changes ≡ length posted = omega (arith, was.1.order, none.0) in (
              was.0 ∙ ap (λ (xs : List Change). changes ++ xs) (drop_all (taken + length changes) posted (omega (arith, end))) ∙ append-nil changes,
              subst (λ (q : QueueState). IsLog q posted (length posted)) (sym none.1) (subst (λ (n : ℕ). IsLog mid.from.controller.queue posted n) end was.1),
            );
      }

-- fewer are left to be taken
pub fewer_waiting : {c : Change} {old new : QueueState} → Takes (Some c) old new → new.waiting < old.waiting
fewer_waiting one = omega (arith, one.waiting)

-- Logging is started, over a live queue.

full : (live marked : Bool) (old new : ControllerState) (result : AdminResult) (cpl : AdminCpl) → live ≡ true → cpl ≡ completion_of result → (cpl.status ≡ success → ⊥) →
    MatchBool (live && (1 == 1)) (MatchBool marked (Refuses DataQueueFull old result new) (Becomes (record old { logging = true }) result new)) (Refuses BadDataQueue old result new) → (marked ≡ true) × (new ≡ old)
full true true old new result cpl is told not does = (refl, does.1)
full true false old new result cpl is told not does = absurd (not (ap (λ (c : AdminCpl). c.status) (told ∙ ap completion_of does.0)))
full false marked old new result cpl is told not does = absurd cc

started : (live marked : Bool) (old new : ControllerState) (result : AdminResult) → live ≡ true → marked ≡ false →
    MatchBool (live && (1 == 1)) (MatchBool marked (Refuses DataQueueFull old result new) (Becomes (record old { logging = true }) result new)) (Refuses BadDataQueue old result new) → new ≡ record old { logging = true }
started true true old new result is not does = absurd cc
started true false old new result is not does = does.1
started false marked old new result is not does = absurd cc

deleted : (live : Bool) (old new : ControllerState) (result : AdminResult) → live ≡ true → MatchBool (live && (1 == 1)) (Becomes (unlogged old) result new) (Refuses BadDataQueue old result new) → new ≡ (unlogged old)
deleted true old new result is does = does.1
deleted false old new result is does = absurd cc

created : (live same : Bool) (old new : ControllerState) (result : AdminResult) → live ≡ false → same ≡ true → MatchBool (not live && same) ((result ≡ Ok 0) × IsCreated old new) (Refuses BadDataQueue old result new) → IsCreated old new
created true same old new result is equal does = absurd cc
created false true old new result is equal does = does.1
created false false old new result is equal does = absurd cc

-- of a side the controller alone changed
controlled : (old : SideState) {new : SideState} {c : ControllerState} → new ≡ with_controller c old → new ≡ with_controller new.controller old
controlled old is = is ∙ ap (λ (s : SideState). with_controller s.controller old) (sym is)

controlled_more : (old mid new : SideState) → mid ≡ with_controller mid.controller old → new ≡ with_controller new.controller mid → new ≡ with_controller new.controller old
controlled_more old mid new first second = second ∙ ap (with_controller new.controller) first

pub creates_log : {I : Type 0} {moves : I → PortCall → I → Type 0} {p q r : PortState I} {b1 n1 b2 n2 : List ℕ} {cpl cpl2 : AdminCpl} (cells : ℕ) → IsUnlogged cells p.from →
    Sends moves From (CreateQueue cells) b1 cpl n1 p q → Sends moves From (LogUserData true 1) b2 cpl2 n2 q r → CreatesLog moves cells p r
creates_log {p = p} {q} {r} cells unlogged s t =
    let made : IsCreated p.from.controller q.from.controller = subst (IsCreated p.from.controller) (sym (ap (λ (x : SideState). x.controller) s.sides.0))
    (created _ _ _ _ s.result unlogged.0 (eq-eqb cells (length p.from.controller.queue.cells) (sym unlogged.1)) s.does.0) in
    let on : r.from.controller ≡ record q.from.controller { logging = true } = ap (λ (x : SideState). x.controller) t.sides.0 ∙ started _ _ _ _ t.result made.live made.unmarked t.does.0 in
    let queue : r.from.controller.queue ≡ q.from.controller.queue = ap (λ (c : ControllerState). c.queue) on in
    record {
      asked = asked_more s.asked t.asked;
      logs = record {
        empty = subst (λ (x : QueueState). IsLog x [] 0) (sym queue) made.empty;
        live = ap (λ (x : QueueState). x.live) queue ∙ made.live;
        unmarked = ap (λ (x : QueueState). x.marked) queue ∙ made.unmarked;
        size = ap (λ (x : QueueState). length x.cells) queue ∙ made.size;
        others = on ∙ ap (λ (c : ControllerState). record c { logging = true }) made.others ∙ ap (λ (x : QueueState). record p.from.controller { queue = x; logging = true }) (sym queue);
      };
      from_is = controlled_more p.from q.from r.from (controlled p.from s.sides.0) (controlled q.from t.sides.0);
      to_is = t.sides.1 ∙ s.sides.1;
    }

-- where a change was lost, the queue is deleted first
module _ {I : Type 0} {moves : I → PortCall → I → Type 0} {p0 p1 p2 : PortState I} {b1 n1 b2 n2 : List ℕ} {cpl cpl2 : AdminCpl} (cells : ℕ) (logged : IsLogged cells p0.from)
    (s1 : Sends moves From (LogUserData true 1) b1 cpl n1 p0 p1) (not_done : cpl.status ≡ success → ⊥) (s2 : Sends moves From (DeleteQueue 1) b2 cpl2 n2 p1 p2) where
  first : (p0.from.controller.queue.marked ≡ true) × (s1.controller ≡ p0.from.controller)
  first = full _ _ _ _ s1.result cpl logged.0 s1.told not_done s1.does.0

  c1 : p1.from.controller ≡ p0.from.controller
  c1 = ap (λ (s : SideState). s.controller) s1.sides.0 ∙ first.1

  c2 : p2.from.controller ≡ unlogged p0.from.controller
  c2 = ap (λ (s : SideState). s.controller) s2.sides.0 ∙ deleted _ _ _ s2.result (ap (λ (c : ControllerState). c.queue.live) c1 ∙ logged.0) s2.does.0 ∙ ap unlogged c1

  pub none_live : IsUnlogged cells p2.from
  none_live = (ap (λ (c : ControllerState). c.queue.live) c2, ap (λ (c : ControllerState). length c.queue.cells) c2 ∙ logged.1)

  pub log_anew : {p3 : PortState I} → CreatesLog moves cells p2 p3 → StartsLog moves cells true p0 p3
  log_anew {p3} t = record {
    asked = asked_more s1.asked (asked_more s2.asked t.asked);
    marked = first.0;
    logs = record {
      empty = t.logs.empty;
      live = t.logs.live;
      unmarked = t.logs.unmarked;
      size = t.logs.size ∙ ap (λ (c : ControllerState). length c.queue.cells) c2;
      others = t.logs.others ∙ ap (λ (c : ControllerState). record c { queue = p3.from.controller.queue; logging = true }) c2;
    };
    from_is = controlled_more p0.from p2.from p3.from (controlled_more p0.from p1.from p2.from (controlled p0.from s1.sides.0) (controlled p1.from s2.sides.0)) t.from_is;
    to_is = t.to_is ∙ s2.sides.1 ∙ s1.sides.1;
  }

-- Logging ends.
pub ends_log : {I : Type 0} {moves : I → PortCall → I → Type 0} {p q r : PortState I} {b1 n1 b2 n2 : List ℕ} {cpl cpl2 : AdminCpl} → p.from.controller.queue.live ≡ true →
    Sends moves From (LogUserData false 1) b1 cpl n1 p q → Sends moves From (DeleteQueue 1) b2 cpl2 n2 q r → EndsLog moves p r
ends_log {p = p} {q} {r} live s t =
    let off : q.from.controller ≡ record p.from.controller { logging = false } = ap (λ (x : SideState). x.controller) s.sides.0 ∙ s.does.0.1 in
    let none : r.from.controller ≡ unlogged p.from.controller
    = ap (λ (x : SideState). x.controller) t.sides.0 ∙ deleted _ _ _ t.result (ap (λ (c : ControllerState). c.queue.live) off ∙ live) t.does.0 ∙ ap unlogged off in
    record {
      asked = asked_more s.asked t.asked;
      from_is = controlled_more p.from q.from r.from (controlled p.from s.sides.0) (controlled q.from t.sides.0) ∙ ap (λ (c : ControllerState). with_controller c p.from) none;
      to_is = t.sides.1 ∙ s.sides.1;
    }

-- A round is ended.

pub few_logs : (lost : Bool) (cells : ℕ) → length (log_asks lost cells) ≤ 4
few_logs true cells = omega arith
few_logs false cells = omega arith

pub ends_round : {I : Type 0} {moves : I → PortCall → I → Type 0} {restarted : Bool} {blocks : List Bool} {p s q : PortState I} (m : ManagerState) → Fits m p → Settles moves m.set.cells restarted m.blocks p blocks s →
    DoesPages moves (places_of (replicate m.set.ram_pages true)) s q → EndsRound moves m restarted blocks p q
ends_round {moves = moves} {restarted} {p = p} {s} {q} m fits t pages =
    let n = m.set.ram_pages in
    let same_from : q.from ≡ s.from = pages.from_is in
    let source : SideState = p.from in
    let settled : s.from ≡ with_controller s.from.controller p.from = controlled_more p.from t.mid.from s.from (controlled p.from t.drains.from_is) t.starts.from_is in
    let to : s.to ≡ p.to = t.starts.to_is ∙ t.drains.to_is in
    let all = all_differ n s.from.pages s.to.pages (ap (λ (x : SideState). length x.pages) settled ∙ fits.from_pages) (ap (λ (x : SideState). length x.pages) to ∙ fits.to_pages) in
    let same : q.to.pages ≡ q.from.pages = none_differs n q.from.pages q.to.pages (pages.fewer n [] (rw append-nil all)) in
    record {
      changes = t.changes;
      asked = asked_more t.drains.asked (asked_more t.starts.asked (rw (places_all 0 n) at pages.asked));
      log = λ posted taken is. (t.drains.log posted taken is).0;
      marked = sym (ap (λ (x : QueueState). x.marked) t.drains.queue) ∙ t.starts.marked;
      owed_is = t.owed_is;
      drained = t.mid.from.controller.queue;
      logs = subst (λ (c : ControllerState). LogsOn restarted c q.from.controller) (ap (λ (x : SideState). x.controller) t.drains.from_is) (subst (λ (x : SideState). LogsOn restarted t.mid.from.controller x.controller) (sym same_from) t.starts.logs);
      from_is = subst (λ (x : SideState). x ≡ with_controller x.controller p.from) (sym same_from) settled;
      to_is = pages.to_is ∙ (λ k. record (to k) { pages = (same ∙ ap (λ (x : SideState). x.pages) (same_from ∙ settled)) k });
    }

pub has_turned : {I : Type 0} {moves : I → PortCall → I → Type 0} {restarted : Bool} {p q : PortState I} (m n : ManagerState) (blocks : List Bool) (after : After) → m.failed ≡ None → EndsRound moves m restarted blocks p q → GoesOn restarted after (after_round blocks m) n → HasTurned moves after m p n q
has_turned {restarted = restarted} m n blocks (Go again owed pages) none ends goes = (none, restarted, blocks, ends, goes)
has_turned {restarted = restarted} m n blocks (CutOver again owed pages) none ends goes = (none, restarted, blocks, ends, goes)
has_turned m n blocks (Fault side) none ends goes = absurd goes
