use Rattle.std.proofs.Common.{◌≡◌, ℕ, ◌+◌, ◌-◌, ◌*◌, ◌<◌, ◌≤◌, All, List, [], ◌∷◌, length, slice_index_or, refl, sym, ap, subst, ◌∙◌, arith, ◌↔◌}
use Rattle.nvm_model.specs.declared.script.Script.{Script}
use Rattle.nvm_model.specs.History.{Complete, IsLaneComplete}
use Rattle.nvm_model.specs.Ring.{places_between}
use Rattle.nvm_model.specs.ScriptText.{IsScript, IsSet}
use Rattle.nvm_model.specs.World.{Lane, acts_of, new_lane, set_of}
use Rattle.nvm_model.proofs.PlaceLemmas.{places_between-mods}
use Rattle.guest_ram.specs.Window.{WindowState}
use Rattle.mig_base.proofs.ListLemmas.{element_at, empty_list}
use Rattle.nvm_ring.proofs.QueueLemmas.{last_told, told_few}
use Rattle.ctl_state.specs.Controller.{ControllerState, PairState, pair_of}
use Rattle.controller.specs.Pair.{outcomes_of, worked}
use Rattle.turns.specs.Frame.{AreAtRest, AreServed, IsAtRest, total_left, work_left}
use Rattle.nvm_model.specs.Run.{among}
use Rattle.turns.proofs.PartLaws.{at_rest_from, first_of, later_of, served_from}
use Rattle.session.specs.declared.lane_run.LaneRun.{LaneRun}
use Rattle.session.specs.Lanes.{IsComplete, IsRunOf, Stands}
use Rattle.session.specs.Place.{AreQuiet, AreRunsOf, IsReady, Machine, StandsFor, run_work, total_work}
use Rattle.session.proofs.AllLanesLemmas.{all_lanes, quiet_at}
use Rattle.turns.proofs.ScriptLaws.{set_fits}

-- What is known of the lanes for which runs stand between two turns.

-- one of the runs
pub some_run : {s : Script} {runs : List LaneRun} → IsScript s → AreRunsOf s runs → LaneRun
some_run {runs = runs} is are = element_at runs 0 (omega (arith, are.count, is.head.lanes))

-- One lane.

lane_rests : {s : Script} {k : ℕ} {run : LaneRun} {pair : PairState} {window : WindowState} {lane : Lane} → IsRunOf s k run → Stands s k run pair window lane → pair.commands ≡ [] → IsAtRest s k lane
lane_rests {s} {k} {run} {lane = lane} is stands between =
    let o = stands.ordered in
    let none : lane.running ≡ [] = stands.running ∙ ap (λ cs. worked s.head.shelf cs (outcomes_of run.results.items)) between in
    let empty : length lane.running ≡ 0 = ap length none in
    let posted : length lane.posted ≡ lane.fetched = omega (arith, o.posted, empty) in
    let acts : length run.script.acts.items ≡ length (acts_of k s.acts) = ap length is.script.acts_are ∙ ap (λ (j : ℕ). length (acts_of j s.acts)) is.lane in
    record { acts = omega (arith, stands.acts, is.few, acts); none = none; fetched = o.fetched; posted = posted; reaped = o.reaped; told = last_told o posted }

-- it has done its acts, and waits for nothing, where the lane is complete
lane_completes : {s : Script} {k : ℕ} {run : LaneRun} {pair : PairState} {window : WindowState} {lane : Lane} → IsRunOf s k run → Stands s k run pair window lane →
    IsComplete run ↔ IsLaneComplete s k lane
lane_completes {s} {k} {run} {lane = lane} is stands =
    let o = stands.ordered in
    let waits = stands.guest_ends.waits in
    let acts : length run.script.acts.items ≡ length (acts_of k s.acts) = ap length is.script.acts_are ∙ ap (λ (j : ℕ). length (acts_of j s.acts)) is.lane in (
      λ done. record {
        acts = omega (arith, stands.acts, done.0, acts);
        quiet = record {
          all_fetched = omega (arith, done.1, waits, o.fetched, o.posted, o.reaped);
          none_running = empty_list lane.running (omega (arith, done.1, waits, o.fetched, o.posted, o.reaped));
          all_reaped = omega (arith, done.1, waits, o.fetched, o.posted, o.reaped);
        };
      },
      λ done.
          let none : length lane.running ≡ 0 = ap length done.quiet.none_running in
          (omega (arith, stands.acts, done.acts, acts), omega (arith, waits, done.quiet.all_fetched, done.quiet.all_reaped, o.posted, none)),
    )

-- what the run has left is what the lane has left
lane_work : {s : Script} {k : ℕ} {run : LaneRun} {pair : PairState} {window : WindowState} {lane : Lane} → IsRunOf s k run → IsSet (set_of s.head k) → Stands s k run pair window lane → pair.commands ≡ [] →
    run_work run pair ≡ work_left s k lane
lane_work {s} {k} {run} {pair} {lane = lane} is set stands between =
    let o = stands.ordered in
    let sq = (set_of s.head k).sq in
    let rest = lane_rests is stands between in
    let none : length lane.running ≡ 0 = ap length rest.none in
    let empty : length pair.commands ≡ 0 = ap length between in
    let acts : length run.script.acts.items ≡ length (acts_of k s.acts) = ap length is.script.acts_are ∙ ap (λ (j : ℕ). length (acts_of j s.acts)) is.lane in
    let few : length lane.submitted < lane.fetched + sq = omega (arith, o.untold, told_few o.tells lane.reaped o.reaped) in
    let places : places_between pair.sq.size pair.sq.head pair.sq.tail ≡ length lane.submitted - lane.fetched =
    ap (λ r. places_between r.size r.head r.tail) stands.ends.sq_is ∙ places_between-mods sq lane.fetched (length lane.submitted) o.fetched few in
    omega (arith, stands.acts, acts, places, none, empty, stands.guest_ends.waits)

-- All lanes.

work_from : (s : Script) (k : ℕ) (runs : List LaneRun) (controller : ControllerState) (lanes : List Lane) → length runs ≡ length lanes →
    ((j : ℕ) (d : LaneRun) → k ≤ j → j < k + length lanes → run_work (slice_index_or runs (j - k) d) (pair_of controller j) ≡ work_left s j (slice_index_or lanes (j - k) (new_lane 0))) → total_work k runs controller ≡ total_left s k lanes
work_from s k [] controller [] same each = refl
work_from s k [] controller (lane ∷ lanes) same each = absurd (omega (arith, same))
work_from s k (run ∷ runs) controller [] same each = absurd (omega (arith, same))
work_from s k (run ∷ runs) controller (lane ∷ lanes) same each =
    let first : run_work run (pair_of controller k) ≡ work_left s k lane =
    ap (λ (r : LaneRun). run_work r (pair_of controller k)) (sym (first_of k run runs run)) ∙ each k run (omega arith) (omega arith) ∙ ap (work_left s k) (first_of k lane lanes (new_lane 0)) in
    let others = work_from s (k + 1) runs controller lanes (omega (arith, same)) (λ j d later there.
    ap (λ (r : LaneRun). run_work r (pair_of controller j)) (sym (later_of k j run runs d later)) ∙ each j d (omega (arith, later)) (omega (arith, there)) ∙ ap (work_left s j) (later_of k j lane lanes (new_lane 0) later)) in
    omega (arith, first, others)

-- lanes between turns are at rest
pub at_rest : {s : Script} {runs : List LaneRun} {controller : ControllerState} {windows : List WindowState} {lanes : List Lane} → IsScript s → AreRunsOf s runs → AreQuiet controller.pairs → StandsFor s runs controller windows lanes → AreAtRest s 1 lanes
at_rest {s} {controller = controller} {lanes = lanes} is are quiet stands = at_rest_from s 1 lanes (λ k first there.
    let few : k ≤ s.head.lanes = omega (arith, there, stands.count) in
    let d = some_run is are in
    lane_rests (are.each k d first few) (stands.each k d (new_lane 0) first few) (quiet_at controller quiet k))

pub are_served : (s : Script) (lanes : List Lane) → IsScript s → length lanes ≡ s.head.lanes → AreServed s 1 lanes
are_served s lanes is count = served_from s 1 lanes (λ k first there. set_fits s.head k is.head first (omega (arith, there, count)))

-- where all is done the lanes are complete
pub complete_is : {s : Script} {runs : List LaneRun} {controller : ControllerState} {windows : List WindowState} {lanes : List Lane} → IsScript s → AreRunsOf s runs → StandsFor s runs controller windows lanes → All IsComplete runs → Complete s (among lanes)
complete_is {s} is are stands done k there =
    let few : k ≤ s.head.lanes = omega (arith, there.1, stands.count) in
    let d = some_run is are in
    (lane_completes (are.each k d there.0 few) (stands.each k d (new_lane 0) there.0 few)).0 (done (k - 1) d (omega (arith, there.0, few, are.count)))

-- and the other way round
pub done_is : {s : Script} {runs : List LaneRun} {controller : ControllerState} {windows : List WindowState} {lanes : List Lane} → IsScript s → AreRunsOf s runs → StandsFor s runs controller windows lanes → Complete s (among lanes) → All IsComplete runs
done_is {runs = runs} is are stands complete =
    let d = some_run is are in
    all_lanes IsComplete runs d are.count (λ k first few. (lane_completes (are.each k d first few) (stands.each k d (new_lane 0) first few)).1 (complete k (first, omega (arith, few, stands.count))))

-- what is left is what the lanes have left
pub work_is : {s : Script} {runs : List LaneRun} {controller : ControllerState} {windows : List WindowState} {lanes : List Lane} → IsScript s → AreRunsOf s runs → AreQuiet controller.pairs → StandsFor s runs controller windows lanes → total_work 1 runs controller ≡ total_left s 1 lanes
work_is {s} {runs} {controller} {lanes = lanes} is are quiet stands = work_from s 1 runs controller lanes (are.count ∙ sym stands.count) (λ k d first there.
    let few : k ≤ s.head.lanes = omega (arith, there, stands.count) in
    lane_work (are.each k d first few) (set_fits s.head k is.head first few) (stands.each k d (new_lane 0) first few) (quiet_at controller quiet k))

-- What is left at the start.

works_few : (most k : ℕ) (runs : List LaneRun) (controller : ControllerState) → ((j : ℕ) (d : LaneRun) → k ≤ j → j < k + length runs → run_work (slice_index_or runs (j - k) d) (pair_of controller j) ≤ most) → total_work k runs controller ≤ most * length runs
works_few most k [] controller each = omega arith
works_few most k (run ∷ runs) controller each =
    let first : run_work run (pair_of controller k) ≤ most = subst (λ (r : LaneRun). run_work r (pair_of controller k) ≤ most) (first_of k run runs run) (each k run (omega arith) (omega arith)) in
    let others = works_few most (k + 1) runs controller (λ j d later there.
    subst (λ (r : LaneRun). run_work r (pair_of controller j) ≤ most) (later_of k j run runs d later) (each j d (omega (arith, later)) (omega (arith, there)))) in
    omega (arith, first, others)

-- a lane between two turns has few acts and entries left
lane_few : {s : Script} {k : ℕ} {run : LaneRun} {pair : PairState} {window : WindowState} {lane : Lane} → IsRunOf s k run → IsSet (set_of s.head k) → Stands s k run pair window lane → pair.commands ≡ [] → run_work run pair ≤ 262400
lane_few {s} {k} {run} {pair} {lane = lane} is set stands between =
    let o = stands.ordered in
    let work = lane_work is set stands between in
    let rest = lane_rests is stands between in
    let none : length lane.running ≡ 0 = ap length rest.none in
    let acts : length run.script.acts.items ≡ length (acts_of k s.acts) = ap length is.script.acts_are ∙ ap (λ (j : ℕ). length (acts_of j s.acts)) is.lane in
    let told = told_few o.tells lane.reaped o.reaped in
    omega (arith, work, none, acts, is.script.few, o.untold, told, o.fetched, o.reaped, rest.posted, set.1)

-- a machine between two turns has few enough turns before it
pub few_turns : {M : Type 0} {s : Script} {m : Machine M} → IsReady s m → total_work 1 m.runs m.place.controller ≤ 2099200
few_turns {s = s} {m} ready =
    let each : (j : ℕ) (d : LaneRun) → 1 ≤ j → j < 1 + length m.runs → run_work (slice_index_or m.runs (j - 1) d) (pair_of m.place.controller j) ≤ 262400 =
    λ j d first there.
    let few : j ≤ s.head.lanes = omega (arith, there, ready.runs.count) in
    lane_few (ready.runs.each j d first few) (set_fits s.head j ready.script.head first few) (ready.stands.lanes.each j d (new_lane 0) first few) (quiet_at m.place.controller ready.quiet j) in
    let all = works_few 262400 1 m.runs m.place.controller each in
    omega (arith, all, ready.runs.count, ready.script.head.lanes.1)
