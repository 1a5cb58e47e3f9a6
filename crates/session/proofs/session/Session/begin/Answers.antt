use Rattle.std.proofs.Common.{◌∙◌, ap}
use Rattle.session.specs.Sides.{SessionState}
use Rattle.session.proofs.StageLemmas.{goes_title}
use Rattle.session.proofs.session.Session.begin.Goals as goal

pub returns-clause-went : goal.returns-clause-went
returns-clause-went g c = rw (← c.self.view_is) λ other. goes_title (ap (λ (s : SessionState). s.phase) c.self.view_is ∙ c.requires) c.write_lines.ensures
