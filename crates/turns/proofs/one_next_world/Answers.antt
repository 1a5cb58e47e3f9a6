use Rattle.turns.proofs.EventLaws.{one_next}
use Rattle.turns.proofs.one_next_world.Goals as goal

pub returns : goal.returns
returns c = one_next
