use Rattle.std.proofs.Common.{ap}
use Rattle.manager.specs.Work.{TurnWork}
use Rattle.manager.proofs.WorkLemmas.{none_busy}
use Rattle.manager.proofs.work.Work.rest.Goals as goal

pub returns-clause-none : goal.returns-clause-none
returns-clause-none g c = none_busy g.met.P.Port.both _ c.all.ensures.does.tried _ c.all.ensures.does.run (ap (λ (w : TurnWork). w.busy) c.again.ensures)
