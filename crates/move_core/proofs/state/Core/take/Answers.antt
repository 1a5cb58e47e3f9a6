use Rattle.std.proofs.Common.{rules}
use Rattle.move_core.proofs.RoomLemmas.{with_taken}
use Rattle.move_core.proofs.state.Core.take.Goals as goal

pub invariant_of-self : goal.invariant_of-self
invariant_of-self c =
    let room = c.self.invariant in
    with_taken c.owe_blocks.ensures.count (search rules) (search rules) (search (rules, room)) room
