use Rattle.std.proofs.Common.{◌+◌, ◌<◌, ℕ, slice_index_or}
use Rattle.nvm_model.specs.declared.script.Script.{Script}
use Rattle.nvm_model.specs.History.{IsLaneComplete}
use Rattle.judge.specs.declared.lane.JudgedLane.{JudgedLane}
use Rattle.judge.specs.Lane.{model_of}
use Rattle.judge.specs.World.{IsWorldOf}
use Rattle.judge.proofs.world.JudgedWorld.is_complete.Given as goal

abbrev pub invariant-lanes : goal.invariant-lanes
invariant-lanes l = (s : Script) → IsWorldOf s l.self → (i : ℕ) (d : JudgedLane) → i < l.lane-index → IsLaneComplete s (i + 1) (model_of (slice_index_or l.self.lanes.items i d))
