use Rattle.turns.proofs.RestLemmas.{ends_in_turns}
use Rattle.turns.proofs.runs_end.Goals as goal

pub returns : goal.returns
returns c = ends_in_turns
