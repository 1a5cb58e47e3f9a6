use Rattle.manager.proofs.RoundLemmas.{creates_log}
use Rattle.manager.proofs.round.create_log.Goals as goal

pub returns : goal.returns
returns g c = creates_log c.args.cells c.requires.unlogged c.send-made.ensures c.send-started.ensures
