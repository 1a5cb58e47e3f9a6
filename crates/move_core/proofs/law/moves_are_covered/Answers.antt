use Rattle.move_core.proofs.CoverLemmas.{all_covered}
use Rattle.move_core.proofs.law.moves_are_covered.Goals as goal

pub returns : goal.returns
returns c = all_covered
