use Rattle.manager.proofs.StepLemmas.{suspends}
use Rattle.manager.proofs.steps.suspend.Goals as goal

pub returns : goal.returns
returns g c = suspends c.requires.running c.send-done.ensures c.mark.ensures
