use Rattle.hall.specs.Plan.{HaveRoom}
use Rattle.hall.proofs.PlanLemmas.{AreEmpty}
use Rattle.hall.proofs.plan.Plan.clear.Given as goal

abbrev pub invariant-loop-pieces : goal.invariant-loop-pieces
invariant-loop-pieces l = record {
  empty : AreEmpty l.pieces-index l.pieces-items;
  room : HaveRoom l.fn.self.room l.pieces-items;
}
