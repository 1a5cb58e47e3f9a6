use Rattle.std.proofs.Common.{sym, subst}
use Rattle.std.proofs.lemmas.Result.{err_from_is_err_and}
use Rattle.session.specs.declared.session.Next.TheVariants.{End}
use Rattle.session.specs.Sides.{IsNext, IsRunning, SessionState}
use Rattle.session.proofs.StageLemmas.{goes_end}
use Rattle.session.proofs.session.Session.end.Goals as goal

pub returns-in_err-write_lines-clause-went : goal.returns-in_err-write_lines-clause-went
returns-in_err-write_lines-clause-went g c =
    let p = err_from_is_err_and c.from_residual.result c.from_residual.ensures.1 in
    rw (p.1, ← c.self.view_is) λ other.
    let running = subst (λ (s : SessionState). IsRunning s c.args.at.now) (sym c.self.view_is) c.requires.running in
    let end = subst (λ (s : SessionState). IsNext s End) (sym c.self.view_is) c.requires.complete in
    goes_end running.phase running.ready end.0 end.1 c.in_err-write_lines.ensures

pub returns-clause-went : goal.returns-clause-went
returns-clause-went g c = rw (← c.self.view_is) λ other.
    let running = subst (λ (s : SessionState). IsRunning s c.args.at.now) (sym c.self.view_is) c.requires.running in
    let end = subst (λ (s : SessionState). IsNext s End) (sym c.self.view_is) c.requires.complete in
    goes_end running.phase running.ready end.0 end.1 c.in_ok-write_lines.ensures
