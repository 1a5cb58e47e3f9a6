use Rattle.turns.proofs.CutLaws.{one_cut}
use Rattle.turns.proofs.one_cut_into_turns.Goals as goal

pub returns : goal.returns
returns c = one_cut
