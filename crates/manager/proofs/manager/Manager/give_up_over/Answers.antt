use Rattle.std.proofs.Common.{◌+◌, ◌*◌}
use Rattle.manager.specs.Port.PortCall.{Mark}
use Rattle.manager.proofs.AskLemmas.{asked_call, asked_more}
use Rattle.manager.proofs.MoveLemmas.{marks_alone}
use Rattle.manager.proofs.manager.Manager.give_up_over.Goals as goal
use Rattle.manager.proofs.manager.Manager.give_up_over.Goals.{in-Stopped, in_default}

pub returns-clause-asked : goal.returns-clause-asked
returns-clause-asked g c = rw (← c.self.view_is) (elim c.match-self.branch [
  | in-Stopped w ↦ rw (w.port-is, w.in-Stopped.is) (asked_more c.end_log.ensures.asked w.resume.ensures.asked)
  | in_default w ↦ rw (w.port-is, marks_alone c.self.inside.phase c.args.t w.in_default.not-Stopped) (asked_more c.end_log.ensures.asked (asked_call (Mark (3 * c.args.t + 2)) w.mark.ensures))
])
