use Rattle.std.proofs.Common.{◌≡◌, ℕ, ◌+◌, ◌≤◌, Bool, true, false, List, [], ◌∷◌, ◌++◌, Option, Some, None, length, map, refl, sym, ap, subst, ◌∙◌, append-nil, arith}
use Rattle.std.proofs.lemmas.List.{length-append, map-append}
use Rattle.nvm_model.proofs.ChainLemmas.{chain_keeps, chain_more, chain_one}
use Rattle.nvm_model.specs.Chain.{Chain}
use Rattle.data_queue.specs.declared.change.Change.{Change}
use Rattle.manager.specs.declared.side.CopyAnswer.{CopyAnswer}
use Rattle.manager.specs.declared.side.CopyAnswer.TheVariants.{Copied, Busy, Fault}
use Rattle.manager.proofs.OwedLemmas.{length-owe}
use Rattle.manager.specs.Owed.{owe_from}
use Rattle.manager.specs.Port.{HasCause, IsPortCall, PortCall, PortState, WorksAtBoth, port_call}
use Rattle.manager.specs.Work.{AtWork, Called, DoesOne, IsWorkCall, Takes, Took, Tried, TurnWork, WorkCall, WorkState, after_copy, at_work, copies_in, owe_changes, take_calls}
use Rattle.manager.specs.Work.WorkCall.{Copy, Take}

-- a call of a port's work, seen at the port
pub called_at : {S I J : Type 0} {work : S → WorkState J} {works : J → WorkCall → J → Type 0} {seated : J → Type 0} {state : S → PortState I} {moves : I → PortCall → I → Type 0} → WorksAtBoth work works seated state moves → (p : S) (c : WorkCall) (q : S) → works (work p).inside c (work q).inside →
    IsPortCall moves (state p) (port_call c) (state q)
called_at {work = work} {moves = moves} b p c q call = rw (← b.sides p, ← b.sides q) (b.calls (work p).inside c (work q).inside call)

-- Calls of a port, one after another.

copies_more : (xs ys : List WorkCall) → copies_in (xs ++ ys) ≡ copies_in xs + copies_in ys
copies_more [] ys = omega arith
copies_more (Copy b bytes answer ∷ xs) ys = omega (arith, copies_more xs ys)
copies_more (Take answer ∷ xs) ys = copies_more xs ys

pub called_more : {I : Type 0} (works : I → WorkCall → I → Type 0) (xs ys : List WorkCall) (a b c : WorkState I) → Called works xs a b → Called works ys b c → Called works (xs ++ ys) a c
called_more works xs ys a b c p q = record {
  run = chain_more works a.inside xs b.inside ys c.inside p.run q.run;
  count = q.count ∙ p.count;
  left = omega (arith, p.left, q.left, copies_more xs ys);
}

take_one : {I : Type 0} (works : I → WorkCall → I → Type 0) (answer : Option Change) (a b : WorkState I) → IsWorkCall works 0 a (Take answer) b → Called works (Take answer ∷ []) a b
take_one works answer a b c = record { run = chain_one works a.inside (Take answer) b.inside c.done; count = c.count; left = omega (arith, c.left) }

pub took_none : {I : Type 0} (works : I → WorkCall → I → Type 0) (owed : List Bool) (p : WorkState I) → Took works 0 owed p owed p
took_none works owed p = record { changes = []; called = record { run = refl; count = refl; left = omega arith }; count_is = refl; owed_is = refl }

pub owe_more : (xs : List Change) (c : Change) (owed : List Bool) → owe_changes (xs ++ c ∷ []) owed ≡ owe_from c.span.first c.span.count (owe_changes xs owed)
owe_more [] c owed = refl
owe_more (x ∷ xs) c owed = owe_more xs c (owe_from x.span.first x.span.count owed)

takes_more : (xs : List Change) (c : Change) → take_calls xs false ++ Take (Some c) ∷ [] ≡ take_calls (xs ++ c ∷ []) false
takes_more xs c =
    let f : Change → WorkCall = λ d. Take (Some d) in
    ap (λ (calls : List WorkCall). calls ++ Take (Some c) ∷ []) (append-nil (map f xs)) ∙ sym (map-append f xs (c ∷ [])) ∙ sym (append-nil (map f (xs ++ c ∷ [])))

pub took_more : {I : Type 0} (works : I → WorkCall → I → Type 0) (n : ℕ) (c : Change) (owed now : List Bool) (p q r : WorkState I) → Took works n owed p now q → IsWorkCall works 0 q (Take (Some c)) r → Took works (n + 1) owed p (owe_from c.span.first c.span.count now) r
took_more works n c owed now p q r t call = record {
  changes = t.changes ++ c ∷ [];
  called = subst (λ (calls : List WorkCall). Called works calls p r) (takes_more t.changes c) (called_more works (take_calls t.changes false) (Take (Some c) ∷ []) p q r t.called (take_one works (Some c) q r call));
  count_is = omega (arith, length-append t.changes (c ∷ []), t.count_is);
  owed_is = ap (owe_from c.span.first c.span.count) t.owed_is ∙ sym (owe_more t.changes c owed);
}

-- there was none after them
pub takes_end : {I : Type 0} (works : I → WorkCall → I → Type 0) (n most : ℕ) (owed now : List Bool) (p q r : WorkState I) → n ≤ most → Took works n owed p now q → IsWorkCall works 0 q (Take None) r → Takes works most owed p now r
takes_end works n most owed now p q r few t call = record {
  changes = t.changes;
  none = true;
  called = subst (λ (calls : List WorkCall). Called works calls p r) (ap (λ (calls : List WorkCall). calls ++ Take None ∷ []) (append-nil (map (λ (c : Change). Take (Some c)) t.changes)))
      (called_more works (take_calls t.changes false) (Take None ∷ []) p q r t.called (take_one works None q r call));
  few = omega (arith, few, t.count_is);
  all = λ is. absurd cc;
  owed_is = t.owed_is;
}

-- as many as may be
pub takes_all : {I : Type 0} (works : I → WorkCall → I → Type 0) (most : ℕ) (owed now : List Bool) (p q : WorkState I) → Took works most owed p now q → Takes works most owed p now q
takes_all works most owed now p q t = record { changes = t.changes; none = false; called = t.called; few = omega (arith, t.count_is); all = λ is. t.count_is; owed_is = t.owed_is }

-- a copy and its takes
pub does_one : {I : Type 0} (works : I → WorkCall → I → Type 0) (old : TurnWork) (block : ℕ) (rest bytes : List ℕ) (answer : CopyAnswer) (owed : List Bool) (p q r : WorkState I) → old.due ≡ block ∷ rest → IsWorkCall works 1 p (Copy block bytes answer) q →
    Takes works old.cells old.owed q owed r → (t : Tried) × DoesOne works (at_work old p) t (at_work (record (after_copy answer block (record old { due = rest })) { owed = owed }) r)
does_one works old block rest bytes answer owed p q r due call t =
    let tried : Tried = record { block = block; bytes = bytes; answer = answer; changes = t.changes; none = t.none } in (
      tried,
      record {
        rest = rest;
        due = due;
        called = called_more works (Copy block bytes answer ∷ []) (take_calls t.changes t.none) p q r (record { run = chain_one works p.inside (Copy block bytes answer) q.inside call.done; count = call.count; left = omega (arith, call.left) }) t.called;
        few = t.few;
        all = t.all;
        after = ap (λ (o : List Bool). record (after_copy answer block (record old { due = rest })) { owed = o }) t.owed_is;
      },
    )

-- What a copy and its takes leave.

takes_free : (changes : List Change) (none : Bool) → copies_in (take_calls changes none) ≡ 0
takes_free [] true = refl
takes_free [] false = refl
takes_free (c ∷ changes) none = takes_free changes none

pub length-owe_changes : (changes : List Change) (owed : List Bool) → length (owe_changes changes owed) ≡ length owed
length-owe_changes [] owed = refl
length-owe_changes (c ∷ changes) owed = length-owe_changes changes (owe_from c.span.first c.span.count owed) ∙ length-owe c.span.first c.span.count owed

due_stays : (answer : CopyAnswer) (b : ℕ) (w : TurnWork) → (after_copy answer b w).due ≡ w.due
due_stays Copied b w = refl
due_stays (Busy holder) b w = refl
due_stays (Fault side) b w = refl

-- one block fewer is to be copied, and one call at most is spent
pub record Lessens {I : Type 0} (old new : AtWork I) : Type 0 where
  pub due : length old.work.due ≡ length new.work.due + 1
  pub owed : length new.work.owed ≡ length old.work.owed
  pub count : new.port.count ≡ old.port.count
  pub left : old.port.left ≤ new.port.left + 1

pub lessens : {I : Type 0} {works : I → WorkCall → I → Type 0} {t : Tried} (old new : AtWork I) → DoesOne works old t new → Lessens old new
lessens {t = t} old new d = record {
  due = ap length d.due ∙ omega (arith, ap (λ (w : TurnWork). length w.due) d.after, ap length (due_stays t.answer t.block (record old.work { due = d.rest })));
  owed = ap (λ (w : TurnWork). length w.owed) d.after ∙ length-owe_changes t.changes old.work.owed;
  count = d.called.count;
  left = omega (arith, d.called.left, takes_free t.changes t.none);
}

-- Between two whole sides no shelf is another's.

busy_stays : {I : Type 0} (answer : CopyAnswer) (b : ℕ) (w : TurnWork) (old new : PortState I) → HasCause answer old new → (after_copy answer b w).busy ≡ w.busy
busy_stays Copied b w old new cause = refl
busy_stays (Busy holder) b w old new cause = absurd cause
busy_stays (Fault side) b w old new cause = refl

module _ {S I J : Type 0} {work : S → WorkState J} {works : J → WorkCall → J → Type 0} {seated : J → Type 0} {state : S → PortState I} {moves : I → PortCall → I → Type 0} (both : WorksAtBoth work works seated state moves) where
  none_one : (old : AtWork J) (t : Tried) (new : AtWork J) → DoesOne works old t new → old.work.busy ≡ [] → new.work.busy ≡ []
  none_one old t new d none =
      let first = d.called.run in
      let call = both.calls old.port.inside (Copy t.block t.bytes t.answer) first.0 first.1 in
      ap (λ (w : TurnWork). w.busy) d.after ∙ busy_stays t.answer t.block (record old.work { due = d.rest }) (both.told old.port.inside) (both.told first.0) call.does.cause ∙ none

  pub none_busy : (old : AtWork J) (tried : List Tried) (new : AtWork J) → Chain (DoesOne works) old tried new → old.work.busy ≡ [] → new.work.busy ≡ []
  none_busy = chain_keeps (DoesOne works) (λ (a : AtWork J). a.work.busy ≡ []) none_one

-- What work keeps: how many blocks and changes are taken at most, and how many blocks there are.

pub record KeepsRoom (old new : TurnWork) : Type 0 where
  pub slice : new.slice ≡ old.slice
  pub cells : new.cells ≡ old.cells
  pub count : length new.owed ≡ length old.owed

room_stays : (answer : CopyAnswer) (b : ℕ) (w : TurnWork) (owed : List Bool) → KeepsRoom (record w { owed = owed }) (record (after_copy answer b w) { owed = owed })
room_stays Copied b w owed = record { slice = refl; cells = refl; count = refl }
room_stays (Busy holder) b w owed = record { slice = refl; cells = refl; count = refl }
room_stays (Fault side) b w owed = record { slice = refl; cells = refl; count = refl }

pub one_keeps : {I : Type 0} {works : I → WorkCall → I → Type 0} (old : AtWork I) (t : Tried) (new : AtWork I) → DoesOne works old t new → KeepsRoom old.work new.work
one_keeps old t new d =
    let owed = owe_changes t.changes old.work.owed in
    let stays = room_stays t.answer t.block (record old.work { due = d.rest }) owed in
    record {
      slice = ap (λ (w : TurnWork). w.slice) d.after ∙ stays.slice;
      cells = ap (λ (w : TurnWork). w.cells) d.after ∙ stays.cells;
      count = ap (λ (w : TurnWork). length w.owed) d.after ∙ length-owe_changes t.changes old.work.owed;
    }

pub all_keep : {I : Type 0} (works : I → WorkCall → I → Type 0) (start : TurnWork) (old : AtWork I) (tried : List Tried) (new : AtWork I) → Chain (DoesOne works) old tried new → KeepsRoom start old.work → KeepsRoom start new.work
all_keep {I} works start = chain_keeps (DoesOne works) (λ (a : AtWork I). KeepsRoom start a.work) (λ x t y d k. let one = one_keeps x t y d in record { slice = one.slice ∙ k.slice; cells = one.cells ∙ k.cells; count = one.count ∙ k.count })

pub keeps_itself : (w : TurnWork) → KeepsRoom w w
keeps_itself w = record { slice = refl; cells = refl; count = refl }

-- work as its manager shows it
pub shown_so : (R : TurnWork → TurnWork → Type 0) (v w : TurnWork) (slice cells : ℕ) → v.slice ≡ slice → v.cells ≡ cells → w.slice ≡ slice → w.cells ≡ cells → R v w → R (record v { slice = slice; cells = cells }) (record w { slice = slice; cells = cells })
shown_so R v w slice cells p q r s is =
    let old : v ≡ record v { slice = slice; cells = cells } = λ k. record v { slice = p k; cells = q k } in
    let new : w ≡ record w { slice = slice; cells = cells } = λ k. record w { slice = r k; cells = s k } in
    subst (λ (x : TurnWork). R (record v { slice = slice; cells = cells }) x) new (subst (λ (x : TurnWork). R x w) old is)
