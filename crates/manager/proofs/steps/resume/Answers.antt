use Rattle.manager.proofs.StepLemmas.{resumes}
use Rattle.manager.proofs.steps.resume.Goals as goal

pub returns : goal.returns
returns g c = resumes c.send-done.ensures c.mark.ensures
