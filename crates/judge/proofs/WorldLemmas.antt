use Rattle.std.proofs.Common.{◌≡◌, ℕ, ◌+◌, ◌-◌, ◌<◌, ◌≤◌, ⊎_elim, Bool, true, false, List, [], ◌∷◌, ◌++◌, get_or, length, map, set, take, sym, ap, subst, ◌∙◌, arith}
use Rattle.std.proofs.lemmas.Bool.{cases_lt}
use Rattle.std.proofs.lemmas.List.{ext_get_or, get_or-map, get_or_append_left, get_or-take, get_or_push, length-map, length-take-le, map-set}
use Rattle.nvm_model.specs.declared.line.Line.{Line}
use Rattle.nvm_model.specs.declared.script.Head.{Head}
use Rattle.nvm_model.specs.declared.script.LaneSet.{LaneSet}
use Rattle.nvm_model.specs.declared.script.Script.{Script}
use Rattle.nvm_model.specs.Event.{LaneStep, One, lane_number}
use Rattle.nvm_model.specs.History.{Complete, IsLaneComplete}
use Rattle.nvm_model.specs.ScriptText.{IsHead}
use Rattle.nvm_model.specs.World.{Lane, World, lane_of, new_lane, set_of}
use Rattle.judge.specs.declared.lane.JudgedLane.{JudgedLane}
use Rattle.judge.specs.declared.world.JudgedWorld.{JudgedWorld}
use Rattle.judge.specs.Decides.{Decides}
use Rattle.judge.specs.Lane.{model_of}
use Rattle.judge.specs.World.{world_of}

-- Worlds, lane by lane.

-- the lane of the model at a place
model_at : (lanes : List JudgedLane) (i : ℕ) (d : JudgedLane) → i < length lanes → get_or (map model_of lanes) i (new_lane 0) ≡ model_of (get_or lanes i d)
model_at lanes i d there = get_or-map model_of lanes i d (new_lane 0) there

some_lane : (lanes : List JudgedLane) → 1 ≤ length lanes → JudgedLane
some_lane [] some = absurd (omega (arith, some))
some_lane (lane ∷ lanes) some = lane

pub complete_by : (s : Script) (j : JudgedWorld) → ((i : ℕ) (d : JudgedLane) → i < length j.lanes.items → IsLaneComplete s (i + 1) (model_of (get_or j.lanes.items i d))) → Complete s (world_of j)
complete_by s j each = λ k is.
    let lanes = j.lanes.items in
    let there : k - 1 < length lanes = omega (arith, is.0, is.1, length-map lanes model_of) in
    let d : JudgedLane = some_lane lanes (omega (arith, there)) in
    let number : k - 1 + 1 ≡ k = omega (arith, is.0) in
    subst (λ (lane : Lane). IsLaneComplete s k lane) (sym (model_at lanes (k - 1) d there)) (subst (λ (n : ℕ). IsLaneComplete s n (model_of (get_or lanes (k - 1) d))) number (each (k - 1) d there))

pub complete_at : (s : Script) (j : JudgedWorld) → Complete s (world_of j) → (i : ℕ) (d : JudgedLane) → i < length j.lanes.items → IsLaneComplete s (i + 1) (model_of (get_or j.lanes.items i d))
complete_at s j complete i d there =
    let lanes = j.lanes.items in
    let place : i + 1 - 1 ≡ i = omega arith in
    subst (λ (lane : Lane). IsLaneComplete s (i + 1) lane) (ap (λ (n : ℕ). get_or (map model_of lanes) n (new_lane 0)) place ∙ model_at lanes i d there) (complete (i + 1) (omega arith, omega (arith, there, length-map lanes model_of)))

-- An event of the lane at a place.

lane_steps : (s : Script) (old new : JudgedWorld) (event : Line) (place : ℕ) (was now : JudgedLane) → lane_number event ≡ place + 1 → place < length old.lanes.items → was ≡ get_or old.lanes.items place was → new.lanes.items ≡ set old.lanes.items place now →
    LaneStep s event old.namespace.blocks (model_of was) new.namespace.blocks (model_of now) → One s (world_of old) event (world_of new)
lane_steps s old new event place was now number there was_is now_is step =
    let lanes = old.lanes.items in
    let here : lane_number event - 1 ≡ place = omega (arith, number) in
    let lane_is : model_of was ≡ lane_of (world_of old) (lane_number event) =
    ap model_of was_is ∙ (sym (model_at lanes place was there) ∙ ap (λ (n : ℕ). get_or (map model_of lanes) n (new_lane 0)) (sym here)) in
    record {
      there = (omega (arith, number), omega (arith, number, there, length-map lanes model_of));
      blocks = new.namespace.blocks;
      lane = model_of now;
      step = subst (λ (lane : Lane). LaneStep s event old.namespace.blocks lane new.namespace.blocks (model_of now)) lane_is step;
      after = ap (λ (ls : List Lane). record { blocks = new.namespace.blocks; lanes = ls })
          (ap (map model_of) now_is ∙ (map-set model_of lanes place now ∙ ap (λ (n : ℕ). set (map model_of lanes) n (model_of now)) (sym here)));
    }

lane_stays : (s : Script) (old : JudgedWorld) (event : Line) (place : ℕ) (was : JudgedLane) → lane_number event ≡ place + 1 → place < length old.lanes.items → was ≡ get_or old.lanes.items place was →
    ((x : List (List ℕ) × Lane) → LaneStep s event old.namespace.blocks (model_of was) x.0 x.1 → ⊥) → (other : World) → One s (world_of old) event other → ⊥
lane_stays s old event place was number there was_is none other one =
    let lanes = old.lanes.items in
    let here : lane_number event - 1 ≡ place = omega (arith, number) in
    let lane_is : lane_of (world_of old) (lane_number event) ≡ model_of was =
    ap (λ (n : ℕ). get_or (map model_of lanes) n (new_lane 0)) here ∙ (model_at lanes place was there ∙ ap model_of (sym was_is)) in
    none (one.blocks, one.lane) (subst (λ (lane : Lane). LaneStep s event old.namespace.blocks lane one.blocks one.lane) lane_is one.step)

pub one_decided : (s : Script) (old new : JudgedWorld) (event : Line) (place : ℕ) (was now : JudgedLane) (found : Bool) → lane_number event ≡ place + 1 → place < length old.lanes.items → was ≡ get_or old.lanes.items place was →
    new.lanes.items ≡ set old.lanes.items place now → Decides found (λ (x : List (List ℕ) × Lane). LaneStep s event old.namespace.blocks (model_of was) x.0 x.1) (new.namespace.blocks, model_of now) → Decides found (One s (world_of old) event) (world_of new)
one_decided s old new event place was now true number there was_is now_is step = lane_steps s old new event place was now number there was_is now_is step
one_decided s old new event place was now false number there was_is now_is none = lane_stays s old event place was number there was_is none

-- The world at the start.

-- one lane more
pub lanes_pushed : (P : ℕ → JudgedLane → Type 0) (lanes : List JudgedLane) (lane : JudgedLane) → ((i : ℕ) (d : JudgedLane) → i < length lanes → P i (get_or lanes i d)) → P (length lanes) lane →
    (i : ℕ) (d : JudgedLane) → i < length lanes + 1 → P i (get_or (lanes ++ lane ∷ []) i d)
lanes_pushed P lanes lane each last i d low = ⊎_elim
    (λ (before : i < length lanes). subst (P i) (sym (get_or_append_left lanes (lane ∷ []) d i before)) (each i d before))
    (λ (past : length lanes ≤ i).
    let here : length lanes ≡ i = omega (arith, past, low) in
    subst (λ (l : JudgedLane). P i l) (sym (get_or_push lanes lane d i here)) (subst (λ (n : ℕ). P n lane) here last))
    (cases_lt i (length lanes))

-- and all as the script says
pub lanes_start : (head : Head) (lanes : List JudgedLane) → IsHead head → length lanes ≡ head.lanes → ((i : ℕ) (d : JudgedLane) → i < length lanes → model_of (get_or lanes i d) ≡ new_lane (set_of head (i + 1)).pages) →
    map model_of lanes ≡ map (λ (set : LaneSet). new_lane set.pages) (take head.lanes head.sets)
lanes_start head lanes is count each =
    let none : LaneSet = record { sq = 0; cq = 0; pages = 0 } in
    let new : LaneSet → Lane = λ set. new_lane set.pages in
    let sets = take head.lanes head.sets in
    let long : length sets ≡ head.lanes = length-take-le head.lanes head.sets (omega (arith, is.sets.0, is.lanes.1)) in
    ext_get_or (new_lane 0) (map model_of lanes) (map new sets) (omega (arith, length-map lanes model_of, length-map sets new, count, long)) (λ i low.
    let there : i < length lanes = omega (arith, low, length-map lanes model_of) in
    let d : JudgedLane = some_lane lanes (omega (arith, there)) in
    let place : i + 1 - 1 ≡ i = omega arith in
    model_at lanes i d there
    ∙ (each i d there
    ∙ (ap (λ (n : ℕ). new (get_or head.sets n none)) place
    ∙ (ap new (sym (get_or-take head.lanes head.sets i none (omega (arith, there, count)))) ∙ sym (get_or-map new sets i none (new_lane 0) (omega (arith, there, count, long)))))))
