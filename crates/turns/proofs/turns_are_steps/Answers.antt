use Rattle.turns.proofs.FrameLemmas.{turns_steps}
use Rattle.turns.proofs.turns_are_steps.Goals as goal

pub returns : goal.returns
returns c = turns_steps
