use Rattle.controller.proofs.AdminLemmas.{did}
use Rattle.controller.proofs.controller.Controller.admin.Goals as goal

pub returns-clause-kept : goal.returns-clause-kept
returns-clause-kept c = did c.in-Ok.command.what c.args.self.now c.obey.new.self c.obey.result c.args.bytes.now c.obey.new.bytes c.requires.between c.obey.ensures
