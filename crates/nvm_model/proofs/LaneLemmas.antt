use Rattle.std.proofs.Common.{List, [], ◌∷◌, ◌++◌, subst}
use Rattle.nvm_model.specs.declared.line.Line.{Line}
use Rattle.nvm_model.specs.declared.script.Script.{Script}
use Rattle.nvm_model.specs.Turn.{LaneEvents}
use Rattle.nvm_model.specs.World.{Lane}

-- events of a lane, and then further events
pub lane_events_more : (s : Script) (a b : List Line) (lane mid new : Lane) → LaneEvents s lane a mid → LaneEvents s mid b new → LaneEvents s lane (a ++ b) new
lane_events_more s [] b lane mid new first second = subst (λ (l : Lane). LaneEvents s l b new) first second
lane_events_more s (e ∷ a) b lane mid new first second = (first.0, first.1, lane_events_more s a b first.0 mid new first.2 second)
