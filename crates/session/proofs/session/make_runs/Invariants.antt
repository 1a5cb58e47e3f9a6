use Rattle.std.proofs.Common.{◌≡◌, ◌+◌, ◌<◌, ◌≤◌, ℕ, All, length, slice_index_or, vec_capacity}
use Rattle.session.specs.declared.lane_run.LaneRun.{LaneRun}
use Rattle.session.specs.Lanes.{IsNewRun, IsRunOf}
use Rattle.session.proofs.session.make_runs.Given as goal

abbrev pub invariant-loop-at : goal.invariant-loop-at
invariant-loop-at l = record {
  count : length l.runs.items ≡ l.at;
  room : l.script.head.lanes ≤ vec_capacity l.runs;
  runs : (i : ℕ) (d : LaneRun) → i < l.at → IsRunOf l.script (i + 1) (slice_index_or l.runs.items i d);
  new : All (IsNewRun l.script) l.runs.items;
}
