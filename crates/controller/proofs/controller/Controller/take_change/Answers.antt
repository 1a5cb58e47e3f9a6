use Rattle.std.proofs.Common.{Option, Some, None}
use Rattle.std.specs.Prelude.{IfSome}
use Rattle.data_queue.specs.declared.change.Change.{Change}
use Rattle.data_queue.specs.Change.{IsChange}
use Rattle.data_queue.specs.Log.{HasLog, QueueState, Takes}
use Rattle.controller.proofs.controller.Controller.take_change.Goals as goal

-- what is taken from a list of changes is one
is_change : (answer : Option Change) (old new : QueueState) → HasLog old → Takes answer old new → IfSome answer IsChange
is_change None old new log takes = tt
is_change (Some c) old new log takes = log.is.changes log.taken c (takes.log log.posted log.taken log.is).0

pub returns-clause-change : goal.returns-clause-change
returns-clause-change c = is_change c.take.result _ _ (c.live.ensures.log c.if-not-live.false) c.take.ensures.taken
