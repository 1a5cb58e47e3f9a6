use Rattle.std.specs.Prelude.{◌≡◌, ℕ, ◌+◌, ◌<◌, length, map, slice_index_or}
use Rattle.nvm_model.specs.declared.script.Script.{Script}
use Rattle.nvm_model.specs.World.{World}
use Rattle.judge.specs.declared.lane.JudgedLane.{JudgedLane}
use Rattle.judge.specs.declared.world.JudgedWorld.{JudgedWorld}
use Rattle.judge.specs.Lane.{IsLaneOf, IsSound, model_of}

-- the world of the model that a world has become
abbrev pub world_of : JudgedWorld → World
world_of j = record { blocks = j.namespace.blocks; lanes = map model_of j.lanes.items }

-- a lane of a world of the script, which has number k
pub record IsLaneIn (s : Script) (k : ℕ) (j : JudgedLane) : Type 0 where
  pub of : IsLaneOf s j
  pub number : j.lane ≡ k
  pub sound : IsSound j

-- a world of the script
pub record IsWorldOf (s : Script) (j : JudgedWorld) : Type 0 where
  pub blocks : length j.namespace.blocks ≡ s.head.blocks
  pub count : length j.lanes.items ≡ s.head.lanes
  pub each : (i : ℕ) (d : JudgedLane) → i < length j.lanes.items → IsLaneIn s (i + 1) (slice_index_or j.lanes.items i d)
