use Rattle.std.proofs.Common.{◌+◌, ◌*◌}
use Rattle.manager.specs.Port.PortCall.{Mark}
use Rattle.manager.proofs.AskLemmas.{asked_call}
use Rattle.manager.proofs.MoveLemmas.{marks_alone}
use Rattle.manager.proofs.manager.Manager.give_up.Goals as goal
use Rattle.manager.proofs.manager.Manager.give_up.Goals.{in-Stopped, in_default}

pub returns-clause-asked : goal.returns-clause-asked
returns-clause-asked g c = rw (← c.self.view_is) (elim c.match-self.branch [
  | in-Stopped w ↦ rw (w.port-is, w.in-Stopped.is) w.resume.ensures.asked
  | in_default w ↦ rw (w.port-is, marks_alone c.self.inside.phase c.args.t w.in_default.not-Stopped) (asked_call (Mark (3 * c.args.t + 2)) w.mark.ensures)
])
