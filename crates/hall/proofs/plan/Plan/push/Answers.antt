use Rattle.std.proofs.Common.{◌≡◌, ◌-◌, ◌<◌, arith, length}
use Rattle.std.proofs.lemmas.Grind.{common_steps}
use Rattle.hall.proofs.PlanLemmas.{pushed}
use Rattle.hall.proofs.plan.Plan.push.Goals as goal

pub returns : goal.returns
returns c =
    let plan = c.self.inside in
    let same : c.from.result - 1 ≡ c.args.p.lane - 1 = omega arith in
    let there : c.from.result - 1 < length plan.lanes.items = grind (arith, common_steps) in
    rw (← c.self.view_is) (pushed plan.lanes.items plan.room _ _ c.index_mut-pieces.result.now c.push_reserved.new.self c.args.p same there c.index_mut-pieces.ensures.value c.push_reserved.ensures.items)
