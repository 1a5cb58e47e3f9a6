use Rattle.std.proofs.Common.{◌≡◌, length}
use Rattle.manager.specs.Work.{Took}
use Rattle.manager.proofs.work.take_some.Given as goal

abbrev pub invariant-loop : goal.invariant-loop
invariant-loop g l = record {
  took : Took g.W.WorkPort.works l.counter l.fn.owed (g.W.WorkPort.work l.fn.port) l.owed (g.W.WorkPort.work l.port);
  long : length l.owed ≡ length l.fn.owed;
  seated : g.W.WorkPort.seated (g.W.WorkPort.work l.port).inside;
}
