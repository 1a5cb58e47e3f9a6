use Rattle.std.proofs.Common.{◌≡◌, ◌-◌, ◌++◌, All, map, replicate, take}
use Rattle.ctl_state.specs.Image.{IsPair, none}
use Rattle.ctl_state.specs.Admin.{image_of}
use Rattle.controller.proofs.admin.image_of.Given as goal

abbrev pub invariant-pairs : goal.invariant-pairs
invariant-pairs l = record {
  filled : l.images ≡ map image_of (take l.place l.pairs) ++ replicate (8 - l.place) none;
  sound : All IsPair (map image_of (take l.place l.pairs));
}
