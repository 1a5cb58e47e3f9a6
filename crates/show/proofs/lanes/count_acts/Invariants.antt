use Rattle.std.proofs.Common.{take}
use Rattle.show.proofs.ShowLemmas.{AreCounted}
use Rattle.show.proofs.lanes.count_acts.Given as goal

abbrev pub invariant-loop-lane : goal.invariant-loop-lane
invariant-loop-lane l = AreCounted l.counts (take l.lane-index l.lane-items)
