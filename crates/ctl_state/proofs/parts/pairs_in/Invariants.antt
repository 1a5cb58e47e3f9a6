use Rattle.std.proofs.Common.{◌≡◌, ◌-◌, ◌++◌, drop, replicate}
use Rattle.ctl_state.specs.Bounds.{pairs_in}
use Rattle.ctl_state.specs.Image.{none}
use Rattle.ctl_state.proofs.parts.pairs_in.Given as goal

abbrev pub invariant-pairs : goal.invariant-pairs
invariant-pairs l = l.pairs ≡ pairs_in l.place (drop 8 l.bytes) ++ replicate (8 - l.place) none
