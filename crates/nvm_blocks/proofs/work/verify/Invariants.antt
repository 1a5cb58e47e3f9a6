use Rattle.nvm_values.specs.declared.op.Op.TheVariants.{Verify}
use Rattle.nvm_blocks.specs.Work.{HasMoved}
use Rattle.nvm_blocks.proofs.work.verify.Given as goal

abbrev pub invariant-loop-i : goal.invariant-loop-i
invariant-loop-i g l = HasMoved g.M.Medium.state g.M.Medium.moves Verify l.first l.i (λ moved. Unit {0}) l.fn.medium l.medium
