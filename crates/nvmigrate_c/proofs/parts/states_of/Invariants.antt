use Rattle.std.proofs.Common.{◌≡◌, ◌-◌, ◌++◌, All, map, replicate, take}
use Rattle.ctl_state.specs.Image.{none}
use Rattle.nvmigrate_c.specs.Parts.{HasRings, pair_in}
use Rattle.nvmigrate_c.proofs.parts.states_of.Given as goal

abbrev pub invariant-pairs : goal.invariant-pairs
invariant-pairs l = record { rings : All HasRings (take l.place l.pairs); states_are : l.states ≡ map pair_in (take l.place l.pairs) ++ replicate (8 - l.place) none }
