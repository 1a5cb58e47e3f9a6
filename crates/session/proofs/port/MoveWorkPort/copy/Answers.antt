use Rattle.std.proofs.Common.{[], true, false}
use Rattle.session.proofs.PortLemmas.{copy_got, copy_not_got, worked}
use Rattle.session.proofs.port.MoveWorkPort.copy.Goals as goal

pub returns-in-Err-clause-called : goal.returns-in-Err-clause-called
returns-in-Err-clause-called g c = ([], rw c.read.ensures.rest (worked (copy_not_got g.D.Dest.moves _ c.args.b c.args.self.now.at.now c.read.new.self.namespace (g.D.Dest.state c.args.self.now.to.now) c.requires.there c.in-Err.ensures.called)))

pub returns-in-Ok-clause-called : goal.returns-in-Ok-clause-called
returns-in-Ok-clause-called g c = (c.read.new.out, rw c.read.ensures.rest (worked (copy_got _ c.args.b c.read.new.out false c.args.self.now.at.now c.read.new.self.namespace (g.D.Dest.state c.args.self.now.to.now) (g.D.Dest.state c.put.new.self) c.requires.there c.in_default.ensures.called c.in-Ok.ensures)))

pub returns-in-Err-put-clause-called : goal.returns-in-Err-put-clause-called
returns-in-Err-put-clause-called g c = (c.read.new.out, rw c.read.ensures.rest (worked (copy_got _ c.args.b c.read.new.out true c.args.self.now.at.now c.read.new.self.namespace (g.D.Dest.state c.args.self.now.to.now) (g.D.Dest.state c.put.new.self) c.requires.there c.in_default.ensures.called c.in-Err-put.ensures)))
