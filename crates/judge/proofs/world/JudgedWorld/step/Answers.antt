use Rattle.std.specs.Vec.{with_item}
use Rattle.std.proofs.Common.{◌≡◌, ◌+◌, ◌-◌, ◌<◌, ◌∙◌, length, refl, sym, subst, arith}
use Rattle.nvm_model.specs.Event.{lane_number}
use Rattle.judge.specs.declared.world.JudgedWorld.{JudgedWorld}
use Rattle.judge.specs.World.{IsLaneIn}
use Rattle.judge.proofs.WorldLemmas.{one_decided}
use Rattle.judge.proofs.world.JudgedWorld.step.Goals as goal

pub returns-clause-step : goal.returns-clause-step
returns-clause-step c = λ s of.
    let old = c.args.self.now in
    let event = c.args.event.now in
    let place = c.from-place.result - 1 in
    let was = c.index_mut-lane.result.now in
    let was_is = c.index_mut-lane.ensures.value in
    let number : lane_number event ≡ place + 1 = omega (arith, c.in-Some.ensures.some, c.get.ensures.value, c.get.ensures.range, c.from-place.ensures) in
    let there : place < length old.lanes.items = omega (arith, c.if-place-len.false, c.len.ensures, old.lanes.ok.0) in
    let own : IsLaneIn s (place + 1) was = subst (IsLaneIn s (place + 1)) (sym was_is) (of.each place was there) in
    let new : JudgedWorld = record { namespace = c.step.new.namespace; lanes = with_item old.lanes place c.step.new.self } in
    one_decided s old new event place was c.step.new.self c.step.result number there was_is refl (c.step.ensures.step s own.of (number ∙ sym own.number))
