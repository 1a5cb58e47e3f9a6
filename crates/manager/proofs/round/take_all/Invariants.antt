use Rattle.std.proofs.Common.{◌≡◌, List, length}
use Rattle.data_queue.specs.declared.change.Change.{Change}
use Rattle.manager.specs.Round.{Drained}
use Rattle.manager.specs.Work.{owe_changes}
use Rattle.manager.proofs.round.take_all.Given as goal

abbrev pub invariant-takes : goal.invariant-takes
invariant-takes g l = record {
  drained : (changes : List Change) × Drained g.P.Port.moves changes (g.P.Port.state l.fn.port) (g.P.Port.state l.port) × (l.owed ≡ owe_changes changes l.fn.owed);
  long : length l.owed ≡ length l.fn.owed;
}

abbrev pub decreases-takes : goal.decreases-takes
decreases-takes g l = (g.P.Port.state l.port).from.controller.queue.waiting
