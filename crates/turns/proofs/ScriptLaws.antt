use Rattle.std.proofs.Common.{◌≡◌, ◌==◌, ℕ, suc, ◌+◌, ◌*◌, ◌-◌, ◌<◌, ◌≤◌, Bool, true, false, cond, List, [], ◌∷◌, length, take, filter, map, slice_index_or, sum, refl, sym, ap, subst, ◌∙◌, arith}
use Rattle.std.specs.List.{AllByRecursion}
use borrow.Author.Tests.{eqb-true}
use Rattle.std.proofs.Math.Nat.{zero-mod}
use Rattle.std.proofs.lemmas.List.{get_or-map, get_or-take, get_or_default, length-map, length-take-le}
use Rattle.std.proofs.lemmas.List.Elements.{All-from_recursion, All-get_or}
use Rattle.std.proofs.lemmas.List.Sums.{sum_by-cons}
use Rattle.nvm_model.specs.declared.line.Line.{Line}
use Rattle.nvm_model.specs.declared.script.Act.{Act}
use Rattle.nvm_model.specs.declared.script.Head.{Head}
use Rattle.nvm_model.specs.declared.script.LaneSet.{LaneSet}
use Rattle.nvm_model.specs.declared.script.Script.{Script}
use Rattle.nvm_model.specs.ScriptText.{IsAct, IsActLine, IsHead, IsSet}
use Rattle.nvm_model.specs.Turn.{Turns, pieces_in}
use Rattle.nvm_model.specs.World.{Lane, World, acts_of, new_lane, set_of, window_pages}
use Rattle.turns.specs.Frame.{AreAtRest, AreServed}
use Rattle.nvm_model.specs.Run.{start_lanes}
use Rattle.turns.proofs.FrameLemmas.{frame_rest, turn_frame}

-- What a script says of its lanes.

step_fits : (h : Head) (k : ℕ) (a : ℕ × Act) (rest : List (ℕ × Act)) (same : Bool) → (a.0 == k) ≡ same → IsActLine h a → AllByRecursion (IsAct (set_of h k).pages) (map (λ (b : ℕ × Act). b.1) rest) →
    AllByRecursion (IsAct (set_of h k).pages) (map (λ (b : ℕ × Act). b.1) (cond same (a ∷ rest) rest))
step_fits h k a rest true same line others = (subst (λ n. IsAct (set_of h n).pages a.1) (eqb-true a.0 k same) line.2, others)
step_fits h k a rest false same line others = others

-- the acts of a lane fit its pages
pub acts_fit : (h : Head) (k : ℕ) (acts : List (ℕ × Act)) → AllByRecursion (IsActLine h) acts → AllByRecursion (IsAct (set_of h k).pages) (acts_of k acts)
acts_fit h k [] all = tt
acts_fit h k (a ∷ acts) all = step_fits h k a (filter (λ (b : ℕ × Act). b.0 == k) acts) (a.0 == k) refl all.0 (acts_fit h k acts all.1)

step_few : (k : ℕ) (a : ℕ × Act) (rest : List (ℕ × Act)) (same : Bool) (n : ℕ) → length (map (λ (b : ℕ × Act). b.1) rest) ≤ n → length (map (λ (b : ℕ × Act). b.1) (cond same (a ∷ rest) rest)) ≤ suc n
step_few k a rest true n few = omega arith
step_few k a rest false n few = omega arith

-- a lane has no more acts than the script
pub acts_few : (k : ℕ) (acts : List (ℕ × Act)) → length (acts_of k acts) ≤ length acts
acts_few k [] = omega arith
acts_few k (a ∷ acts) = step_few k a (filter (λ (b : ℕ × Act). b.0 == k) acts) (a.0 == k) (length acts) (acts_few k acts)

-- the sizes of a lane that is there
pub set_fits : (h : Head) (k : ℕ) → IsHead h → 1 ≤ k → k ≤ h.lanes → IsSet (set_of h k)
set_fits h k head low high =
    let none : LaneSet = record { sq = 0; cq = 0; pages = 0 } in
    let enough : h.lanes ≤ length h.sets = omega (arith, head.sets.0, head.lanes.1) in
    let there : k - 1 < length (take h.lanes h.sets) = rw (length-take-le h.lanes h.sets enough) (omega arith) in
    subst IsSet (get_or-take h.lanes h.sets (k - 1) none (omega arith))
    (All-get_or IsSet (take h.lanes h.sets) (k - 1) none there (All-from_recursion IsSet (take h.lanes h.sets) head.sets.1))

-- as many sets as lanes
pub count_sets : (h : Head) → IsHead h → length (take h.lanes h.sets) ≡ h.lanes
count_sets h head = length-take-le h.lanes h.sets (omega (arith, head.sets.0, head.lanes.1))

-- a look-up within the list of lanes' sizes
pub set_at : (h : Head) (k : ℕ) (d : LaneSet) → IsHead h → 1 ≤ k → k ≤ h.lanes → slice_index_or (take h.lanes h.sets) (k - 1) d ≡ set_of h k
set_at h k d head first few =
    let none : LaneSet = record { sq = 0; cq = 0; pages = 0 } in
    get_or_default (take h.lanes h.sets) (k - 1) d none (omega (arith, count_sets h head, first, few)) ∙ get_or-take h.lanes h.sets (k - 1) none (omega (arith, first, few))

-- lanes have few window pages
few_sets : (sets : List LaneSet) → AllByRecursion IsSet sets → sum (map (λ (set : LaneSet). set.pages + 2) sets) ≤ length sets * 258
few_sets [] fit = omega arith
few_sets (set ∷ sets) fit =
    let others = map (λ (s : LaneSet). s.pages + 2) sets in
    omega (arith, fit.0.5, few_sets sets fit.1, sum_by-cons (λ (n : ℕ). n) (set.pages + 2) others)

pub few_pages : (h : Head) → IsHead h → window_pages h ≤ 2064
few_pages h head = omega (arith, few_sets (take h.lanes h.sets) head.sets.1, count_sets h head, head.lanes.1)

-- the lane with a number at the start
pub start_at : (s : Script) (k : ℕ) (e : Lane) → IsHead s.head → 1 ≤ k → k ≤ s.head.lanes → slice_index_or (start_lanes s) (k - 1) e ≡ new_lane (set_of s.head k).pages
start_at s k e head first few =
    let none : LaneSet = record { sq = 0; cq = 0; pages = 0 } in
    get_or-map (λ (set : LaneSet). new_lane set.pages) (take s.head.lanes s.head.sets) (k - 1) none e (omega (arith, count_sets s.head head, first, few)) ∙ ap (λ (set : LaneSet). new_lane set.pages) (set_at s.head k none head first few)

pub start_count : (s : Script) → IsHead s.head → length (start_lanes s) ≡ s.head.lanes
start_count s head = length-map (take s.head.lanes s.head.sets) (λ (set : LaneSet). new_lane set.pages) ∙ count_sets s.head head

-- Lanes at rest.

rest_from : (s : Script) (k : ℕ) (sets : List LaneSet) → AreAtRest s k (map (λ (set : LaneSet). new_lane set.pages) sets)
rest_from s k [] = tt
rest_from s k (set ∷ sets) = (
  record { acts = omega arith; none = refl; fetched = omega arith; posted = refl; reaped = omega arith; told = sym (zero-mod (set_of s.head k).sq) },
  rest_from s (k + 1) sets,
)

-- the lanes at the start are at rest
pub start_rest : (s : Script) → AreAtRest s 1 (start_lanes s)
start_rest s = rest_from s 1 (take s.head.lanes s.head.sets)

served_from : (s : Script) (k : ℕ) (lanes : List Lane) → ((j : ℕ) → k ≤ j → j < k + length lanes → IsSet (set_of s.head j)) → AreServed s k lanes
served_from s k [] each = tt
served_from s k (lane ∷ lanes) each = (record { set = each k (omega arith) (omega arith) }, served_from s (k + 1) lanes (λ j later there. each j (omega (arith, later)) (omega (arith, there))))

pub start_served : (s : Script) → IsHead s.head → AreServed s 1 (start_lanes s)
start_served s head = served_from s 1 (start_lanes s) (λ k first there. set_fits s.head k head first (omega (arith, there, start_count s head)))

-- each turn leaves lanes at rest
pub turns_rest : (s : Script) (n : ℕ) (w : World) (turns : List (List Line)) (v : World) → Turns s n w turns v → AreAtRest s 1 w.lanes → AreServed s 1 w.lanes → AreAtRest s 1 v.lanes × AreServed s 1 v.lanes
turns_rest s n w [] v are rest served = (subst (λ (u : World). AreAtRest s 1 u.lanes) (sym are) rest, subst (λ (u : World). AreServed s 1 u.lanes) (sym are) served)
turns_rest s n w (turn ∷ turns) v are rest served =
    let one = frame_rest rest served (turn_frame are.1.turn) in
    turns_rest s (n + pieces_in turn) are.0 turns v are.2 one.0 one.1

-- there is a window page
some_sets : (sets : List LaneSet) → 1 ≤ length sets → 1 ≤ sum (map (λ (set : LaneSet). set.pages + 2) sets)
some_sets [] some = absurd (omega (arith, some))
some_sets (set ∷ sets) some =
    omega (arith, sum_by-cons (λ (n : ℕ). n) (set.pages + 2) (map (λ (set : LaneSet). set.pages + 2) sets))

pub some_pages : (h : Head) → IsHead h → 1 ≤ window_pages h
some_pages h is =
    let enough : h.lanes ≤ length h.sets = omega (arith, is.sets.0, is.lanes.1) in
    let count = length-take-le h.lanes h.sets enough in
    some_sets (take h.lanes h.sets) (omega (arith, count, is.lanes.0))
