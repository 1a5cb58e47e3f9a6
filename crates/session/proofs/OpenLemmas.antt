use Rattle.std.proofs.Common.{◌≡◌, ℕ, ◌+◌, ◌-◌, ◌≤◌, All, List, [], length, map, replicate, slice_index_or, take, sym, ap, subst, ◌∙◌, arith, inr, false, Option, Some, None, refl}
use Rattle.std.proofs.Math.Nat.{zero-div, zero-mod}
use Rattle.std.proofs.lemmas.List.{get_or-map, length-map, length-replicate}
use Rattle.std.proofs.lemmas.List.Elements.{All-map}
use Rattle.nvm_model.specs.declared.script.LaneSet.{LaneSet}
use Rattle.nvm_model.specs.declared.script.Script.{Script}
use Rattle.nvm_model.specs.ScriptText.{IsScript, IsSet}
use Rattle.nvm_model.specs.World.{set_of, Lane, new_lane}
use Rattle.ctl_state.specs.declared.phase.Phase.{Phase}
use Rattle.ctl_state.specs.declared.phase.Phase.TheVariants.{Loading, Running}
use Rattle.ctl_state.specs.Controller.{ControllerState, PairState, no_pair, pair_of}
use Rattle.controller.specs.Pair.{IsMade, new_pair, outcomes_of, worked}
use Rattle.nvm_model.specs.Run.{Here, start_lanes}
use Rattle.session.specs.Opened.{IsNewPlace, Opens, memory_made}
use Rattle.session.specs.Place.{AreQuiet, AreRunsOf, IsPlaceOf, IsWaiting, PlaceState, StandsFor, StandsOn}
use Rattle.nvm_model.specs.Memory.{zero_page}
use Rattle.nvm_ring.specs.Queues.{HasWindow}
use Rattle.guest_ram.specs.Window.{WindowState}
use Rattle.lanes.proofs.StartLemmas.{new_stands as guest_starts}
use Rattle.lanes.specs.Guest.{GuestState}
use Rattle.session.specs.declared.lane_run.LaneRun.{LaneRun}
use Rattle.session.specs.Lanes.{HaveWindows, IsNewRun, IsRunOf, Stands, window_of}
use Rattle.turns.proofs.ScriptLaws.{set_fits, count_sets, set_at, start_at, start_count}
use Rattle.guest_ram.proofs.Made.{made_at, made_count}
use Rattle.session.specs.Sides.{IsNewSession, SessionState, machine_of}
use Rattle.ctl_state.specs.Parts.{PartsState}
use Rattle.session.proofs.MemoryLemmas.{whole_memory}

-- A run at its start.

-- a host's memory as it is made for a script
made_windows : (s : Script) (windows : List WindowState) → IsScript s → windows ≡ memory_made s.head → (k : ℕ) → 1 ≤ k → k ≤ s.head.lanes → window_of windows k ≡ record { lane = k; pages = replicate ((set_of s.head k).pages + 2) zero_page }
made_windows s windows is made k first few =
    let counts = map (λ (set : LaneSet). set.pages) (take s.head.lanes s.head.sets) in
    let count = count_sets s.head is.head in
    let many = length-map (take s.head.lanes s.head.sets) (λ (set : LaneSet). set.pages) in
    let number : 1 + (k - 1) ≡ k = omega (arith, first) in
    let none : LaneSet = record { sq = 0; cq = 0; pages = 0 } in
    let pages : slice_index_or counts (k - 1) 0 ≡ (set_of s.head k).pages =
    get_or-map (λ (set : LaneSet). set.pages) (take s.head.lanes s.head.sets) (k - 1) none 0 (omega (arith, count, first, few)) ∙ ap (λ (set : LaneSet). set.pages) (set_at s.head k none is.head first few) in
    ap (λ (ws : List WindowState). window_of ws k) made ∙ made_at 1 (k - 1) counts (omega (arith, many, count, first, few))
    ∙ ap (λ (j : ℕ). record { lane = j; pages = replicate (slice_index_or counts (k - 1) 0 + 2) zero_page }) number
    ∙ ap (λ (n : ℕ). record { lane = k; pages = replicate (n + 2) zero_page }) pages

pub have_made : {s : Script} {windows : List WindowState} → IsScript s → windows ≡ memory_made s.head → HaveWindows s windows
have_made {s} {windows} is made = record {
  count = ap length made ∙ made_count 1 (map (λ (set : LaneSet). set.pages) (take s.head.lanes s.head.sets)) ∙ length-map (take s.head.lanes s.head.sets) (λ (set : LaneSet). set.pages) ∙ count_sets s.head is.head;
  each = λ k first few.
      let at = made_windows s windows is made k first few in
      record { lane = ap (λ (w : WindowState). w.lane) at; size = ap (λ (w : WindowState). length w.pages) at ∙ length-replicate ((set_of s.head k).pages + 2) zero_page };
}

-- a new run with a new pair over a zeroed window stands for a new lane
new_lane_stands : {s : Script} {k : ℕ} {run : LaneRun} {pair : PairState} {window : WindowState} → IsSet (set_of s.head k) → IsRunOf s k run → IsNewRun s run → pair ≡ new_pair s.head.burst (set_of s.head k) →
    window ≡ record { lane = k; pages = replicate ((set_of s.head k).pages + 2) zero_page } → Stands s k run pair window (new_lane (set_of s.head k).pages)
new_lane_stands {s} {k} {run} {pair} {window} set is new pair_is window_is =
    let sizes = set_of s.head k in
    let same : set_of s.head run.script.lane ≡ sizes = ap (set_of s.head) is.lane in
    let own : window ≡ record { lane = run.guest.lane; pages = replicate (sizes.pages + 2) zero_page } = window_is ∙ ap (λ (j : ℕ). record { lane = j; pages = replicate (sizes.pages + 2) zero_page }) (sym is.guest) in
    let guest = guest_starts set own (ap (λ (g : GuestState). g.waiting) new.guest) (rw (← same) (ap (λ (g : GuestState). g.sq) new.guest)) (rw (← same) (ap (λ (g : GuestState). g.cq) new.guest)) in
    record {
      number = guest.number ∙ is.guest;
      guest = is.guest;
      window_is = subst (λ (j : ℕ). HasWindow j sizes window.pages (new_lane sizes.pages)) is.guest guest.window_is;
      ordered = guest.ordered;
      guest_ends = guest.ends;
      ends = record {
        sq_is = rw (zero-mod sizes.sq) (ap (λ (p : PairState). p.sq) pair_is);
        cq_is = rw (zero-mod sizes.cq, zero-div sizes.cq) (ap (λ (p : PairState). p.cq) pair_is);
      };
      acts = sym new.acts;
      running = ap (λ cs. worked s.head.shelf cs (outcomes_of run.results.items)) (sym (ap (λ (p : PairState). p.commands) pair_is));
    }

-- A session with two places as they are opened.

-- the queue pair of a lane, of a controller of which nothing was asked
new_pairs : {s : Script} {phase : Phase} {cells : ℕ} {controller : ControllerState} → IsScript s → IsMade phase (take s.head.lanes s.head.sets) cells s.head.burst controller → (k : ℕ) → 1 ≤ k → k ≤ s.head.lanes → pair_of controller k ≡ new_pair s.head.burst (set_of s.head k)
new_pairs {s} {controller = controller} is made k first few =
    let none : LaneSet = record { sq = 0; cq = 0; pages = 0 } in
    let count = count_sets s.head is.head in
    ap (λ (pairs : List PairState). slice_index_or pairs (k - 1) no_pair) made.pairs ∙ get_or-map (new_pair s.head.burst) (take s.head.lanes s.head.sets) (k - 1) none no_pair (omega (arith, count, first, few))
    ∙ ap (new_pair s.head.burst) (set_at s.head k none is.head first few)

is_place : {M : Type 0} {s : Script} {phase : Phase} {media : List M} {place : PlaceState M} → IsScript s → IsNewPlace phase s.head media place → IsPlaceOf s place
is_place {M} {s} {place = place} is new = record {
  namespace = new.namespace;
  windows = have_made is new.windows;
  pairs = ap (λ (pairs : List PairState). length pairs) new.controller.pairs ∙ length-map (take s.head.lanes s.head.sets) (new_pair s.head.burst) ∙ count_sets s.head is.head;
  burst = new.controller.burst_is;
}

-- no command of a new controller is under way
quiet_made : {phase : Phase} {sets : List LaneSet} {cells burst : ℕ} {controller : ControllerState} → IsMade phase sets cells burst controller → AreQuiet controller.pairs
quiet_made {sets = sets} {burst = burst} made = subst AreQuiet (sym made.pairs) (All-map (λ (p : PairState). p.commands ≡ []) (new_pair burst) sets (λ i d there. refl))

-- new runs stand for the lanes at the start, with either place
starts : {M : Type 0} {s : Script} {runs : List LaneRun} {phase : Phase} {media : List M} {place : PlaceState M} → IsScript s → AreRunsOf s runs → All (IsNewRun s) runs → IsNewPlace phase s.head media place →
    StandsFor s runs place.controller place.windows (start_lanes s)
starts {s = s} {runs} {place = place} is are new at = record {
  count = start_count s is.head;
  each = λ k d e first few. subst (λ (l : Lane). Stands s k (slice_index_or runs (k - 1) d) (pair_of place.controller k) (window_of place.windows k) l) (sym (start_at s k e is.head first few))
      (new_lane_stands (set_fits s.head k is.head first few) (are.each k d first few) (new (k - 1) d (omega (arith, first, few, are.count))) (new_pairs is at.controller k first few) (made_windows s place.windows is at.windows k first few));
}

-- a place whose controller is blank waits
is_waiting : {M : Type 0} {s : Script} {media : List M} {place : PlaceState M} → IsScript s → IsNewPlace Loading s.head media place → IsWaiting s place
is_waiting {s = s} is at = record {
  at = is_place is at;
  waiting = λ running. absurd cc (at.controller.phase_is, running);
  quiet = quiet_made at.controller;
  fed = ap (λ (f : PartsState). f.lanes) at.controller.none_fed ∙ sym (ap (λ (ps : List PairState). length ps) at.controller.pairs ∙ length-map (take s.head.lanes s.head.sets) (new_pair s.head.burst));
}

pub opens : {M : Type 0} {session : SessionState} {from_media to_media : List M} {from to : PlaceState M} → IsScript session.script → IsNewSession session.script session →
    IsNewPlace Running session.script.head from_media from → IsNewPlace Loading session.script.head to_media to → Opens session from_media to_media from to
opens {M} {session} {from_media} {to_media} {from} {to} is new source destination =
    let s = session.script in
    let here : Here M = record { lanes = start_lanes s; media = from_media; other = to_media; drawn = 0; due = [] } in
    let lanes = starts is new.runs new.new source in
    let stands : StandsOn s (machine_of session from) here = record { lanes = lanes; media = sym source.media_are; words = inr (rw new.mix new.words); due = refl } in
    record {
      ready = record { script = is; runs = new.runs; place = is_place is source; running = source.controller.phase_is; mix = new.mix; quiet = quiet_made source.controller; undone = λ i d there. (new.new i d there).results; stood = here; stands = stands };
      waits = is_waiting is destination;
      stands = λ out. record {
        task = refl;
        phase = sym new.phase;
        side = sym new.side;
        tried = sym new.tried;
        turns = sym new.turns;
        owes = rw new.phase tt;
        lanes = stands;
        memory = sym (whole_memory is new.runs (have_made is source.windows) lanes);
        other = sym destination.media_are;
        left = sym (whole_memory is new.runs (have_made is destination.windows) (starts is new.runs new.new destination));
        out = refl;
      };
    }
