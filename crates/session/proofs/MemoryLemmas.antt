use Rattle.std.specs.List.{flat_map}
use Rattle.std.proofs.Common.{◌≡◌, ℕ, ◌+◌, ◌-◌, ◌<◌, ◌≤◌, List, [], ◌∷◌, ◌++◌, length, map, sum, take, get_or, refl, sym, ap, ◌∙◌, arith}
use Rattle.std.proofs.lemmas.List.{length-map, ext_get_or, get_or-take, get_or-map as get_or_map}
use Rattle.std.proofs.lemmas.List.Concat.{length-flat_map}
use Rattle.std.proofs.lemmas.List.Sums.{sum-map}
use Rattle.std.proofs.Math.ListN.{get_or-map}
use Rattle.guest_ram.specs.Ram.{all_pages, shape}
use Rattle.guest_ram.specs.Window.{WindowState, no_window}
use Rattle.nvm_model.specs.declared.script.Script.{Script}
use Rattle.nvm_model.specs.declared.script.LaneSet.{LaneSet}
use Rattle.nvm_model.specs.ScriptText.{IsHead, IsScript}
use Rattle.nvm_model.specs.World.{Lane, new_lane, window_pages}
use Rattle.ctl_state.specs.Controller.{ControllerState}
use Rattle.nvm_model.specs.Run.{memory_of}
use Rattle.session.specs.declared.lane_run.LaneRun.{LaneRun}
use Rattle.session.specs.Lanes.{HaveWindows, IsWindowOf}
use Rattle.session.specs.Place.{AreRunsOf, StandsFor}
use Rattle.turns.proofs.PartLaws.{windows_from}
use Rattle.nvm_ring.proofs.QueueLemmas.{window_whole}
use Rattle.mig_base.proofs.ListLemmas.{element_at}
use Rattle.session.proofs.AllLanesLemmas.{at_place}
use Rattle.turns.proofs.ScriptLaws.{count_sets}

-- The guests' memory, page by page.

-- The windows of a script.

-- a window's lane and its number of pages
abbrev size_of : WindowState → ℕ × ℕ
size_of w = (w.lane, length w.pages)

-- what a memory's shape says of the window at a place
shape_at : (windows : List WindowState) (i : ℕ) → get_or (shape windows) i (0, 0) ≡ size_of (get_or windows i no_window)
shape_at windows i = get_or-map size_of windows i no_window

-- the window at a place is that of the lane with the next number
window_at : {s : Script} {windows : List WindowState} → HaveWindows s windows → (i : ℕ) → i < s.head.lanes → IsWindowOf s (i + 1) (get_or windows i no_window)
window_at {s} {windows} have i there = at_place (IsWindowOf s (i + 1)) windows i (i + 1) no_window refl (have.each (i + 1) (omega arith) (omega (arith, there)))

-- two memories of a script have one shape
pub one_shape : {s : Script} {a b : List WindowState} → HaveWindows s a → HaveWindows s b → shape a ≡ shape b
one_shape {s} {a} {b} have other =
    let long : length (shape a) ≡ s.head.lanes = length-map a size_of ∙ have.count in
    let as_long : length (shape b) ≡ s.head.lanes = length-map b size_of ∙ other.count in
    ext_get_or (0, 0) (shape a) (shape b) (long ∙ sym as_long) (λ i inside.
    let there : i < s.head.lanes = omega (arith, inside, long) in
    let v = window_at have i there in
    let w = window_at other i there in
    shape_at a i ∙ ap (λ (k : ℕ). (k, length (get_or a i no_window).pages)) (v.lane ∙ sym w.lane)
    ∙ ap (λ (n : ℕ). ((get_or b i no_window).lane, n)) (v.size ∙ sym w.size) ∙ sym (shape_at b i))

-- a memory has as many pages as the script says
pub have_pages : {s : Script} {windows : List WindowState} → IsHead s.head → HaveWindows s windows → length (all_pages windows) ≡ window_pages s.head
have_pages {s} {windows} head have =
    let sets = take s.head.lanes s.head.sets in
    let none : LaneSet = record { sq = 0; cq = 0; pages = 0 } in
    let many = λ (w : WindowState). length w.pages in
    let wanted = λ (set : LaneSet). set.pages + 2 in
    let as_long = count_sets s.head head in
    let long : length (map many windows) ≡ s.head.lanes = length-map windows many ∙ have.count in
    let same : map many windows ≡ map wanted sets =
    ext_get_or 0 (map many windows) (map wanted sets) (long ∙ sym (length-map sets wanted ∙ as_long)) (λ i inside.
    let there : i < s.head.lanes = omega (arith, inside, long) in
    let place : i + 1 - 1 ≡ i = omega arith in
    get_or-map many windows i no_window ∙ (window_at have i there).size ∙ ap (λ (j : ℕ). wanted (get_or s.head.sets j none)) place ∙ ap wanted (sym (get_or-take s.head.lanes s.head.sets i none there))
    ∙ sym (get_or_map wanted sets i none 0 (omega (arith, there, as_long)))) in
    length-flat_map (λ (w : WindowState). w.pages) windows ∙ sym (sum-map many windows) ∙ ap sum same

-- Whose memory it is.

-- a place's whole memory, page for page, is that of the lanes
pub whole_memory : {s : Script} {runs : List LaneRun} {controller : ControllerState} {windows : List WindowState} {lanes : List Lane} → IsScript s → AreRunsOf s runs → HaveWindows s windows → StandsFor s runs controller windows lanes →
    all_pages windows ≡ memory_of s lanes
whole_memory {s} {runs} {windows = windows} {lanes} is are have stands =
    let pages = λ (w : WindowState). w.pages in
    let each = windows_from s.head 1 (map pages windows) lanes (length-map windows pages ∙ have.count ∙ sym stands.count) (λ k first there.
    let few : k ≤ s.head.lanes = omega (arith, there, stands.count) in
    let d = element_at runs 0 (omega (arith, is.head.lanes, are.count)) in
    get_or-map pages windows (k - 1) no_window ∙ window_whole s.head k (stands.each k d (new_lane 0) first few).window_is) in
    pages_by_window windows ∙ ap (λ (all : List (List (List ℕ))). flat_map (λ (window : List (List ℕ)). window) all) each
  where
    pages_by_window : (ws : List WindowState) → all_pages ws ≡ flat_map (λ (window : List (List ℕ)). window) (map (λ (w : WindowState). w.pages) ws)
    pages_by_window [] = refl
    pages_by_window (w ∷ ws) = ap (λ (others : List (List ℕ)). w.pages ++ others) (pages_by_window ws)
