use Rattle.std.proofs.Common.{sym, subst}
use Rattle.session.specs.Sides.{IsMoveDue, IsNewManager, IsRunning, SessionState}
use Rattle.session.proofs.StageLemmas.{goes_start}
use Rattle.session.proofs.session.Session.start.Goals as goal

pub returns-clause-went : goal.returns-clause-went
returns-clause-went g c = rw (c.begin-due.ensures.began, ← c.self.view_is) λ other.
    let running = subst (λ (s : SessionState). IsRunning s c.args.at.now) (sym c.self.view_is) c.requires.running in
    let manager = subst (λ (s : SessionState). IsNewManager s.script s.manager) (sym c.self.view_is) c.requires.manager in
    goes_start running.phase running.ready (subst IsMoveDue (sym c.self.view_is) c.requires.due) manager c.write_lines.ensures
