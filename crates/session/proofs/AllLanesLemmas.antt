use Rattle.std.proofs.Common.{Global, Vec, ◌≡◌, ℕ, ◌+◌, ◌-◌, ◌<◌, ◌≤◌, ⊎_elim, All, List, [], ◌++◌, get_or, length, refl, sym, ap, subst, ◌∙◌, append_assoc, get_or-set_same, length-set, set, arith}
use Rattle.std.proofs.lemmas.Bool.{cases_eq, cases_lt}
use Rattle.std.proofs.lemmas.List.{get_or-set_other, get_or_past}
use Rattle.std.proofs.lemmas.List.Elements.{All-from_get_or}
use Rattle.nvm_model.specs.declared.line.Line.{Line}
use Rattle.nvm_model.specs.declared.script.Script.{Script}
use Rattle.nvm_model.specs.World.{Lane, new_lane}
use Rattle.nvm_blocks.specs.Namespace.{NamespaceState}
use Rattle.guest_ram.specs.Window.{WindowState}
use Rattle.hall.specs.Plan.{PlanState, pieces_of}
use Rattle.ctl_state.specs.Controller.{ControllerState, PairState, no_pair, pair_of}
use Rattle.controller.specs.Pair.{IsSameButPair, IsPlanned, PlansLane}
use Rattle.controller.proofs.PairLemmas.{burst_stays, other_pair, other_pieces}
use Rattle.turns.specs.Parts.{SoFar, Leads}
use Rattle.turns.proofs.PartLaws.{one_did}
use Rattle.session.specs.declared.lane_run.LaneRun.{LaneRun}
use Rattle.session.specs.LaneParts.{HasMore}
use Rattle.session.specs.Lanes.{IsRunOf, IsWindowOf, Stands, window_of}
use Rattle.session.specs.Phases.{Fit}
use Rattle.session.specs.Place.{AreQuiet, AreRunsOf, PlaceState, StandsFor}
use Rattle.session.specs.Seats.{HasSeat, IsSameButSeat, IsSameButWindow, Sits}
use Rattle.session.specs.Shelves.{IsNamespaceOf}
use Rattle.session.specs.Work.{IsSameButRun, MayPost}

-- Lists with an element for each lane.

-- what holds of lane k's element holds at its place
pub at_place : {X : Type 0} (P : X → Type 0) (xs : List X) (i k : ℕ) (d : X) → k ≡ i + 1 → P (get_or xs (k - 1) d) → P (get_or xs i d)
at_place P xs i k d number holds = let here : k - 1 ≡ i = omega (arith, number) in subst (λ (j : ℕ). P (get_or xs j d)) here holds

-- what holds of each lane's element holds of all
pub all_lanes : {X : Type 0} {n : ℕ} (P : X → Type 0) (xs : List X) (d : X) → length xs ≡ n → ((k : ℕ) → 1 ≤ k → k ≤ n → P (get_or xs (k - 1) d)) → All P xs
all_lanes P xs d count each = All-from_get_or P xs d (λ i there. at_place P xs i (i + 1) d refl (each (i + 1) (omega arith) (omega (arith, there, count))))

-- of quiet pairs none has a command, whatever its number
pub quiet_at : (c : ControllerState) → AreQuiet c.pairs → (k : ℕ) → (pair_of c k).commands ≡ []
quiet_at c quiet k = ⊎_elim (λ (there : k - 1 < length c.pairs). quiet (k - 1) no_pair there)
    (λ (past : length c.pairs ≤ k - 1). ap (λ (p : PairState). p.commands) (get_or_past c.pairs (k - 1) no_pair past)) (cases_lt (k - 1) (length c.pairs))

-- A part of a turn, lane after lane.

-- Lane k, at place i, changed, and no other.

pub record Seats : Type 0 where
  pub runs : List LaneRun
  pub controller : ControllerState
  pub windows : List WindowState

abbrev pub seats : List LaneRun → ControllerState → List WindowState → Seats
seats runs controller windows = record { runs = runs; controller = controller; windows = windows }

pub record IsSameButLane (i k : ℕ) (old new : Seats) : Type 0 where
  pub number : k ≡ i + 1
  pub there : i < length old.runs
  pub runs_are : IsSameButRun i old.runs new.runs
  -- whatever became of the queue
  pub pairs : IsSameButPair k old.controller (record new.controller { queue = old.controller.queue })
  pub windows : IsSameButWindow k old.windows new.windows

-- a run was put in its place
pub run_put : {runs : List LaneRun} (i : ℕ) (run : LaneRun) → IsSameButRun i runs (set runs i run)
run_put {runs} i run = record { count = length-set runs i run; others = λ j d other. get_or-set_other runs i j run d other }

-- what holds of the lane as it is now, and of the others as they were, holds of all
pub each_lane : {runs new_runs : List LaneRun} {c new_c : ControllerState} {ws new_ws : List WindowState} (P Q : ℕ → LaneRun → PairState → WindowState → Type 0) (i k n : ℕ) (d : LaneRun) → IsSameButLane i k (seats runs c ws) (seats new_runs new_c new_ws) →
    Q k (get_or new_runs i d) (pair_of new_c k) (window_of new_ws k) → ((j : ℕ) (r : LaneRun) (p : PairState) (w : WindowState) → 1 ≤ j → (j ≡ k → ⊥) → P j r p w → Q j r p w) →
    ((j : ℕ) → 1 ≤ j → j ≤ n → P j (get_or runs (j - 1) d) (pair_of c j) (window_of ws j)) → (j : ℕ) → 1 ≤ j → j ≤ n → Q j (get_or new_runs (j - 1) d) (pair_of new_c j) (window_of new_ws j)
each_lane {runs} {new_runs} {c} {new_c} {ws} {new_ws} P Q i k n d same this others each j low high = ⊎_elim
    (λ (here : j ≡ k).
    let place : j - 1 ≡ i = omega (arith, here, same.number) in
    subst (λ (m : ℕ). Q j (get_or new_runs m d) (pair_of new_c j) (window_of new_ws j)) (sym place)
    (subst (λ (m : ℕ). Q m (get_or new_runs i d) (pair_of new_c m) (window_of new_ws m)) (sym here) this))
    (λ (other : j ≡ k → ⊥).
    let first : 1 ≤ k = omega (arith, same.number) in
    let away : j - 1 ≡ i → ⊥ = λ at. other (omega (arith, at, low, same.number)) in
    let window : window_of new_ws j ≡ window_of ws j = same.windows.others (j - 1) (λ at. other (omega (arith, at, low, first))) in
    subst (λ (r : LaneRun). Q j r (pair_of new_c j) (window_of new_ws j)) (sym (same.runs_are.others (j - 1) d away))
    (subst (λ (p : PairState). Q j (get_or runs (j - 1) d) p (window_of new_ws j)) (sym (other_pair j k same.pairs low first other))
    (subst (λ (w : WindowState). Q j (get_or runs (j - 1) d) (pair_of c j) w) (sym window) (others j _ _ _ low other (each j low high)))))
    (cases_eq j k)

-- the runs and the place are those of the script
pub fit_more : {M : Type 0} {s : Script} {runs new_runs : List LaneRun} {old new : PlaceState M} {i k : ℕ} (d : LaneRun) → IsSameButLane i k (seats runs old.controller old.windows) (seats new_runs new.controller new.windows) →
    IsNamespaceOf s.head new.namespace → ((e : LaneRun) → IsRunOf s k (get_or new_runs i e)) → Fit s runs old → Fit s new_runs new
fit_more {s = s} {i = i} {k} d same namespace this fit =
    let was = fit.at.windows.each k (omega (arith, same.number)) (omega (arith, same.number, same.there, fit.own.count)) in
    record {
      head = fit.head;
      own = record {
        count = same.runs_are.count ∙ fit.own.count;
        each = λ j e. each_lane (λ m r p w. IsRunOf s m r) (λ m r p w. IsRunOf s m r) i k s.head.lanes e same (this e) (λ m r p w first other is. is) (λ m. fit.own.each m e) j;
      };
      at = record {
        namespace = namespace;
        windows = record {
          count = same.windows.count ∙ fit.at.windows.count;
          each = each_lane (λ m r p w. IsWindowOf s m w) (λ m r p w. IsWindowOf s m w) i k s.head.lanes d same
              (record { lane = same.windows.lane ∙ was.lane; size = same.windows.size ∙ was.size }) (λ m r p w first other is. is) fit.at.windows.each;
        };
        pairs = same.pairs.count ∙ fit.at.pairs;
        burst = burst_stays same.pairs ∙ fit.at.burst;
      };
      running = ap (λ (c : ControllerState). c.phase) same.pairs.rest ∙ fit.running;
    }

-- what holds of a run that was put in its place
pub put_here : (runs : List LaneRun) (i : ℕ) (run : LaneRun) (P : LaneRun → Type 0) → i < length runs → P run → (d : LaneRun) → P (get_or (set runs i run) i d)
put_here runs i run P there holds d = subst P (sym (get_or-set_same runs i run d there)) holds

queue_apart : {k : ℕ} {old new : ControllerState} → IsSameButPair k old new → IsSameButPair k old (record new { queue = old.queue })
queue_apart {old = old} same = record { count = same.count; rest = ap (λ (c : ControllerState). record c { queue = old.queue }) same.rest; others = same.others }

-- a run was put in its place, and its seat alone changed
pub seat_put : {M : Type 0} {s : Script} {runs : List LaneRun} {old new : PlaceState M} (i k : ℕ) (run : LaneRun) → k ≡ i + 1 → i < s.head.lanes → IsRunOf s k run → IsSameButSeat k old new → Fit s runs old →
    IsSameButLane i k (seats runs old.controller old.windows) (seats (set runs i run) new.controller new.windows) × Fit s (set runs i run) new
seat_put {M} {s} {runs} {old} {new} i k run at there is same fit =
    let inside : i < length runs = omega (arith, there, fit.own.count) in
    let lane : IsSameButLane i k (seats runs old.controller old.windows) (seats (set runs i run) new.controller new.windows) = record { number = at; there = inside; runs_are = run_put i run; pairs = queue_apart same.pairs; windows = same.windows } in
    (lane, fit_more run lane (subst (λ (n : NamespaceState M). IsNamespaceOf s.head n) (sym same.namespace) fit.at.namespace) (put_here runs i run (IsRunOf s k) inside is) fit)

-- what holds of the run of lane k, where it stands
pub run_here : (runs : List LaneRun) (P : LaneRun → Type 0) (i k : ℕ) (run : LaneRun) → k ≡ i + 1 → run ≡ get_or runs i run → P (get_or runs (k - 1) run) → P run
run_here runs P i k run at run_is holds =
    let here : k - 1 ≡ i = omega (arith, at) in
    subst P (ap (λ (j : ℕ). get_or runs j run) here ∙ sym run_is) holds

-- the run at a place
pub run_at : {s : Script} {runs : List LaneRun} (i : ℕ) (run : LaneRun) → AreRunsOf s runs → i < s.head.lanes → run ≡ get_or runs i run → IsRunOf s (i + 1) run
run_at {s} {runs} i run are there run_is = run_here runs (IsRunOf s (i + 1)) i (i + 1) run refl run_is (are.each (i + 1) run (omega arith) (omega (arith, there)))

-- it has its seat
pub seat_at : {M : Type 0} {s : Script} {runs : List LaneRun} {place : PlaceState M} (i : ℕ) (run : LaneRun) → Fit s runs place → i < s.head.lanes → run ≡ get_or runs i run → HasSeat s run place × (run.script.lane ≡ i + 1)
seat_at {s = s} i run fit there run_is =
    let own = run_at i run fit.own there run_is in (
      record {
        head = fit.head;
        there = (omega (arith, own.lane), omega (arith, own.lane, there));
        own = subst (λ (j : ℕ). IsRunOf s j run) (sym own.lane) own;
        at = fit.at;
      },
      own.lane,
    )

-- they stand for the lanes of which one has changed
pub stands_more : {s : Script} {runs new_runs : List LaneRun} {c new_c : ControllerState} {ws new_ws : List WindowState} {lanes : List Lane} (i k : ℕ) (lane : Lane) → IsSameButLane i k (seats runs c ws) (seats new_runs new_c new_ws) → i < s.head.lanes →
    ((d : LaneRun) → Stands s k (get_or new_runs i d) (pair_of new_c k) (window_of new_ws k) lane) → StandsFor s runs c ws lanes → StandsFor s new_runs new_c new_ws (set lanes i lane)
stands_more {s} {new_runs = new_runs} {new_c = new_c} {new_ws = new_ws} {lanes = lanes} i k lane same there this stands = record {
  count = length-set lanes i lane ∙ stands.count;
  each = λ j d e.
      let here : k - 1 ≡ i = omega (arith, same.number) in
      let lane_is : get_or (set lanes i lane) (k - 1) e ≡ lane = ap (λ (m : ℕ). get_or (set lanes i lane) m e) here ∙ get_or-set_same lanes i lane e (omega (arith, there, stands.count)) in
      each_lane (λ m r p w. Stands s m r p w (get_or lanes (m - 1) e)) (λ m r p w. Stands s m r p w (get_or (set lanes i lane) (m - 1) e)) i k s.head.lanes d same
      (subst (λ (l : Lane). Stands s k (get_or new_runs i d) (pair_of new_c k) (window_of new_ws k) l) (sym lane_is) (this d))
      (λ m r p w first other is. subst (λ (l : Lane). Stands s m r p w l) (sym (get_or-set_other lanes i (m - 1) lane e (λ at. other (omega (arith, at, first, same.number))))) is)
      (λ m. stands.each m d e) j;
}

-- the next lane did its part too
pub led_more : {M : Type 0} {s : Script} {Part : ℕ → Lane → List Line → Lane → Type 0} {runs : List LaneRun} {lanes : List Lane} {a b c : List Line} {i k : ℕ} (old new : PlaceState M) (old_run run : LaneRun) →
    IsSameButLane i k (seats runs old.controller old.windows) (seats (set runs i run) new.controller new.windows) → i < s.head.lanes → length lanes ≡ s.head.lanes → old_run ≡ get_or runs i old_run →
    Leads (SoFar Part i) (StandsFor s runs old.controller old.windows) lanes a b → ((l : Lane) → Sits s k old_run old l → Leads (Part k) (Sits s k run new) l b c) →
    Leads (SoFar Part (i + 1)) (StandsFor s (set runs i run) new.controller new.windows) lanes a c
led_more {s = s} {Part} {runs} {lanes} {a} {b} {c} {i} {k} old new old_run run same there count run_is led step =
    let d = new_lane 0 in
    let l = get_or led.new i d in
    let own = at_place (λ (x : Lane). Sits s k (get_or runs (k - 1) old_run) old x) led.new i k d same.number (led.stands.each k old_run d (omega (arith, same.number)) (omega (arith, same.number, there))) in
    let to = step l (run_here runs (λ (r : LaneRun). Sits s k r old l) i k old_run same.number run_is own) in
    record {
      new = set led.new i to.new;
      added = led.added ++ to.added;
      part = one_did i d to.new (omega (arith, there, count)) (omega (arith, there, led.stands.count)) led.part (subst (λ (j : ℕ). Part j l to.added to.new) same.number to.part);
      stands = stands_more i k to.new same there (put_here runs i run (λ (r : LaneRun). Sits s k r new to.new) same.there to.stands) led.stands;
      events_are = to.events_are ∙ ap (λ (es : List Line). es ++ to.added) led.events_are ∙ append_assoc a led.added to.added;
    }

-- a lane while the first lanes are planned
pub record PlannedTo (s : Script) (plan : PlanState) (first k : ℕ) (run : LaneRun) (pair : PairState) : Type 0 where
  pub planned : k ≤ first → IsPlanned s k plan pair
  pub later : first < k → (pair.commands ≡ []) × (pieces_of plan k ≡ [])
  pub undone : run.results.items ≡ []

-- one lane more was planned
pub planned_more : {s : Script} {runs new_runs : List LaneRun} {c new_c : ControllerState} {ws new_ws : List WindowState} {plan new_plan : PlanState} {i k : ℕ} → IsSameButLane i k (seats runs c ws) (seats new_runs new_c new_ws) → PlansLane s k plan new_plan (pair_of new_c k) →
    ((d : LaneRun) → (get_or new_runs i d).results.items ≡ []) → ((j : ℕ) (d : LaneRun) → 1 ≤ j → j ≤ s.head.lanes → PlannedTo s plan i j (get_or runs (j - 1) d) (pair_of c j)) →
    (j : ℕ) (d : LaneRun) → 1 ≤ j → j ≤ s.head.lanes → PlannedTo s new_plan (i + 1) j (get_or new_runs (j - 1) d) (pair_of new_c j)
planned_more {s} {plan = plan} {new_plan} {i} {k} same plans none was j d =
    each_lane (λ m r p w. PlannedTo s plan i m r p) (λ m r p w. PlannedTo s new_plan (i + 1) m r p) i k s.head.lanes d same
    (record { planned = λ _. plans.planned; later = λ after. absurd (omega (arith, after, same.number)); undone = none d })
    (λ m r p w first other is.
    let pieces_are = other_pieces m k plans.same first (omega (arith, same.number)) other in
    record {
      planned = λ upto. let own = is.planned (omega (arith, upto, other, same.number)) in record { pieces = pieces_are ∙ own.pieces; told = own.told; checked = own.checked; few = own.few };
      later = λ after. let own = is.later (omega (arith, after)) in (own.0, pieces_are ∙ own.1);
      undone = is.undone;
    })
    (λ m. was m d) j

-- a lane while the completions of the first lanes are posted
pub record PostedTo (s : Script) (first k : ℕ) (run : LaneRun) (pair : PairState) : Type 0 where
  pub quiet : k ≤ first → (pair.commands ≡ []) × (run.results.items ≡ [])
  pub later : first < k → MayPost s k run pair

-- those of one lane more were posted
pub posted_more : {s : Script} {runs new_runs : List LaneRun} {c new_c : ControllerState} {ws new_ws : List WindowState} {i k : ℕ} → IsSameButLane i k (seats runs c ws) (seats new_runs new_c new_ws) → (pair_of new_c k).commands ≡ [] →
    ((d : LaneRun) → (get_or new_runs i d).results.items ≡ []) → ((j : ℕ) (d : LaneRun) → 1 ≤ j → j ≤ s.head.lanes → PostedTo s i j (get_or runs (j - 1) d) (pair_of c j)) →
    (j : ℕ) (d : LaneRun) → 1 ≤ j → j ≤ s.head.lanes → PostedTo s (i + 1) j (get_or new_runs (j - 1) d) (pair_of new_c j)
posted_more {s} {i = i} {k} same commands none was j d =
    each_lane (λ m r p w. PostedTo s i m r p) (λ m r p w. PostedTo s (i + 1) m r p) i k s.head.lanes d same
    (record { quiet = λ _. (commands, none d); later = λ after. absurd (omega (arith, after, same.number)) })
    (λ m r p w first other is. record { quiet = λ upto. is.quiet (omega (arith, upto, other, same.number)); later = λ after. is.later (omega (arith, after)) })
    (λ m. was m d) j

-- Events.

pub more_more : {m n all : ℕ} {a b c : Vec Line Global} → all ≡ m + n → HasMore m a b → HasMore n b c → HasMore all a c
more_more is x y = record { fewer = omega (arith, x.fewer, y.fewer); few = omega (arith, x.few, y.few, is); capacity = y.capacity ∙ x.capacity }
