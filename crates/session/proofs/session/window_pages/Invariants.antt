use Rattle.std.proofs.Common.{◌≡◌, ◌+◌, ◌*◌, ◌≤◌, map, take}
use Rattle.std.specs.Prelude.{sum}
use Rattle.nvm_model.specs.declared.script.LaneSet.{LaneSet}
use Rattle.session.proofs.session.window_pages.Given as goal

abbrev pub invariant-loop-set : goal.invariant-loop-set
invariant-loop-set l = record {
  value : l.pages ≡ sum (map (λ (set : LaneSet). set.pages + 2) (take l.set-index l.sets));
  few : l.pages ≤ 65537 * l.set-index;
}
