use Rattle.std.proofs.Common.{◌≡◌, ◌≤◌, List, length}
use Rattle.nvm_model.specs.Chain.{Chain}
use Rattle.manager.specs.Work.{DoesOne, Tried, at_work}
use Rattle.manager.proofs.work.Work.all.Given as goal

abbrev pub invariant-copies : goal.invariant-copies
invariant-copies g l = record {
  run : (tried : List Tried) × Chain (DoesOne g.W.WorkPort.works) (at_work l.fn.self (g.W.WorkPort.work l.fn.port)) tried (at_work l.self (g.W.WorkPort.work l.port));
  left : length l.self.due ≤ (g.W.WorkPort.work l.port).left;
  fits : (length l.self.owed ≡ (g.W.WorkPort.work l.port).count) × (length l.self.owed ≤ 131072);
  seated : g.W.WorkPort.seated (g.W.WorkPort.work l.port).inside;
}

abbrev pub decreases-copies : goal.decreases-copies
decreases-copies g l = length l.self.due
