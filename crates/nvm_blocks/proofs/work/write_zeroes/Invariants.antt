use Rattle.std.proofs.Common.{◌≡◌}
use Rattle.nvm_values.specs.declared.op.Op.TheVariants.{WriteZeroes}
use Rattle.nvm_model.specs.Memory.{zero_block}
use Rattle.nvm_model.specs.Trace.{AreDue}
use Rattle.nvm_blocks.specs.Work.{HasMoved}
use Rattle.nvm_blocks.proofs.work.write_zeroes.Given as goal

abbrev pub invariant-loop-i : goal.invariant-loop-i
invariant-loop-i g l = record {
  zeroes : l.zeroes ≡ zero_block;
  moved : HasMoved g.M.Medium.state g.M.Medium.moves WriteZeroes l.first l.i (AreDue (λ _. zero_block)) l.fn.medium l.medium;
}
