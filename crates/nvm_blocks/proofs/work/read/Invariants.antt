use Rattle.nvm_values.specs.declared.op.Op.TheVariants.{Read}
use Rattle.guest_ram.specs.Window.{data_pages}
use Rattle.nvm_blocks.specs.Work.{HasMoved, IsSameButData}
use Rattle.nvm_blocks.proofs.CallLemmas.{AreRead}
use Rattle.nvm_blocks.proofs.work.read.Given as goal

abbrev pub invariant-loop-i : goal.invariant-loop-i
invariant-loop-i g l = record {
  moved : HasMoved g.M.Medium.state g.M.Medium.moves Read l.first l.i (AreRead l.piece.pages l.piece.at (data_pages l.fn.window) (data_pages l.window) l.hasher) l.fn.medium l.medium;
  window : IsSameButData l.fn.window l.window;
}
