use Rattle.move_core.proofs.CoverLemmas.{goes}
use Rattle.move_core.proofs.state.Core.step.Goals as goal

pub returns-clause-goes : goal.returns-clause-goes
returns-clause-goes c = goes c.args.self.now c.args.e.now _ _ c.blocks-blocks.ensures.shaped c.apply.ensures
