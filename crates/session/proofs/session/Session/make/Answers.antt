use Rattle.session.proofs.MoveLemmas.{move_fits}
use Rattle.session.proofs.session.Session.make.Goals as goal

pub make-requires : goal.make-requires
make-requires c = rw c.move_set.ensures (move_fits c.args.script.head c.requires.head)
