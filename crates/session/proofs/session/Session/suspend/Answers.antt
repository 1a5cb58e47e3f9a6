use Rattle.std.proofs.Common.{sym, subst}
use Rattle.session.specs.Sides.{MaySuspend}
use Rattle.session.proofs.StageLemmas.{goes_suspend}
use Rattle.session.proofs.session.Session.suspend.Goals as goal

pub returns-clause-went : goal.returns-clause-went
returns-clause-went g c = rw (← c.self.view_is) λ other. goes_suspend (subst MaySuspend (sym c.self.view_is) c.requires) c.write_lines.ensures
