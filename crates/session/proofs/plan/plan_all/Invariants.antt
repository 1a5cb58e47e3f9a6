use Rattle.std.proofs.Common.{◌*◌, ◌-◌, ◌≤◌, ℕ, List, slice_index_or}
use Rattle.nvm_model.specs.Turn.{Plans}
use Rattle.nvm_model.specs.World.{Lane}
use Rattle.ctl_state.specs.Controller.{pair_of}
use Rattle.session.specs.LaneParts.{HasMore}
use Rattle.session.specs.declared.lane_run.LaneRun.{LaneRun}
use Rattle.session.specs.Phases.{Fit, FitPlan}
use Rattle.session.specs.Place.{StandsFor}
use Rattle.session.specs.Seats.{IsSameButSeats}
use Rattle.turns.specs.Parts.{SoFar, Leads}
use Rattle.session.proofs.AllLanesLemmas.{PlannedTo}
use Rattle.session.proofs.plan.plan_all.Given as goal

abbrev pub invariant-loop-at : goal.invariant-loop-at
invariant-loop-at g l = record {
  leads : (lanes : List Lane) → StandsFor l.script l.fn.runs.items l.fn.place.controller l.fn.place.windows lanes
      → Leads (SoFar (Plans l.script) l.at) (StandsFor l.script l.runs.items l.place.controller l.place.windows) lanes l.fn.events.items l.events.items;
  fit : Fit l.script l.runs.items l.place;
  fits : FitPlan l.script l.plan;
  each : (k : ℕ) (d : LaneRun) → 1 ≤ k → k ≤ l.script.head.lanes → PlannedTo l.script l.plan l.at k (slice_index_or l.runs.items (k - 1) d) (pair_of l.place.controller k);
  kept : IsSameButSeats l.fn.place l.place;
  more : HasMore (384 * l.at) l.fn.events l.events;
}
