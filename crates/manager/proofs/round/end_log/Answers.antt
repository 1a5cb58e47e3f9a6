use Rattle.manager.proofs.RoundLemmas.{ends_log}
use Rattle.manager.proofs.round.end_log.Goals as goal

pub returns : goal.returns
returns g c = ends_log c.requires.live c.send-stopped.ensures c.send-gone.ensures
