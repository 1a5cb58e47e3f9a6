use Rattle.std.proofs.Common.{[], arith}
use Rattle.ctl_state.proofs.ImageLemmas.{begins}
use Rattle.ctl_state.proofs.parts.Parts.new.Goals as goal

pub invariant_of-result : goal.invariant_of-result
invariant_of-result c = (c.requires.0, c.requires.1, omega arith, begins c.args.lanes [] c.requires.1 (omega arith) tt)
