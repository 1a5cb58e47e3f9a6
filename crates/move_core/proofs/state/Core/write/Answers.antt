use Rattle.move_core.proofs.RoomLemmas.{with_source, with_destination}
use Rattle.move_core.proofs.state.Core.write.Goals as goal

pub invariant_of-self : goal.invariant_of-self
invariant_of-self c = with_destination c.put_blocks.ensures.count c.self.invariant

pub invariant_of-self-in-GaveUp : goal.invariant_of-self-in-GaveUp
invariant_of-self-in-GaveUp c = with_source c.put_blocks-in-GaveUp.ensures.count c.self.invariant
