use Rattle.std.proofs.Common.{[], take}
use Rattle.ctl_state.specs.Bounds.{Follows, bounds_after}
use Rattle.ctl_state.proofs.bounds.first_bad.Given as goal

abbrev pub invariant-loop-place : goal.invariant-loop-place
invariant-loop-place l = Follows (bounds_after l.lanes) [] (take l.place l.bytes)
