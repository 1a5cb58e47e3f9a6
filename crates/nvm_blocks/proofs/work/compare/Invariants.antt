use Rattle.std.proofs.Common.{◌+◌}
use Rattle.nvm_values.specs.declared.op.Op.TheVariants.{Compare}
use Rattle.nvm_model.specs.Piece.{data_block}
use Rattle.nvm_model.specs.Trace.{AreDue}
use Rattle.guest_ram.specs.Window.{data_pages}
use Rattle.nvm_blocks.specs.Work.{HasMoved}
use Rattle.nvm_blocks.proofs.work.compare.Given as goal

abbrev pub invariant-loop-i : goal.invariant-loop-i
invariant-loop-i g l = HasMoved g.M.Medium.state g.M.Medium.moves Compare l.first l.i (AreDue (λ i. data_block (data_pages l.window) l.piece.pages (l.piece.at + i))) l.fn.medium l.medium
