use Rattle.std.specs.Vec.{with_items}
use Rattle.std.proofs.Common.{◌≡◌, arith, length, rules}
use Rattle.std.proofs.lemmas.List.{with_items_is}
use Rattle.hall.proofs.PlanLemmas.{AreEmpty, emptied}
use Rattle.hall.proofs.plan.Plan.clear.Goals as goal

pub returns : goal.returns
returns c =
    let plan = c.self.inside in
    let items = c.loop-pieces.pieces-items in
    let count : length items ≡ length plan.lanes.items = search rules in
    let empty : AreEmpty (length items) items = λ k d below. c.loop-pieces.invariant.empty k d (omega arith) in
    let kept : (with_items plan.lanes items).items ≡ items = with_items_is plan.lanes items (search rules) in
    rw (← c.self.view_is, kept) (emptied plan.lanes.items items plan.room count empty)
