use Rattle.std.proofs.Common.{◌≡◌, ◌+◌, ◌<◌, ◌≤◌, ℕ, length, slice_index_or, vec_capacity}
use Rattle.nvm_model.specs.World.{new_lane, set_of}
use Rattle.judge.specs.declared.lane.JudgedLane.{JudgedLane}
use Rattle.judge.specs.Lane.{model_of}
use Rattle.judge.specs.World.{IsLaneIn}
use Rattle.judge.proofs.world.JudgedWorld.make.Given as goal

abbrev pub invariant-lanes : goal.invariant-lanes
invariant-lanes l = record {
  count : length l.lanes.items ≡ l.place;
  capacity : l.script.head.lanes ≤ vec_capacity l.lanes;
  each : (i : ℕ) (d : JudgedLane) → i < l.place → IsLaneIn l.script (i + 1) (slice_index_or l.lanes.items i d);
  new : (i : ℕ) (d : JudgedLane) → i < l.place → model_of (slice_index_or l.lanes.items i d) ≡ new_lane (set_of l.script.head (i + 1)).pages;
}
