use Rattle.std.proofs.Common.{◌≡◌, ℕ, ◌+◌, ◌<◌, List, length, take, get_or, ◌∙◌, ap, take_all, arith}
use Rattle.std.proofs.lemmas.List.{length-take-le}
use Rattle.mig_base.proofs.ListLemmas.{all_at}
use Rattle.nvm_model.specs.declared.script.Act.{Act}
use Rattle.nvm_model.specs.declared.script.Act.TheVariants.{Fill}
use Rattle.nvm_model.specs.ScriptText.{IsActLine}
use Rattle.show.proofs.ShowLemmas.{none_counted, counted_more, few_of_lane}
use Rattle.show.proofs.lanes.count_acts.Goals as goal

-- the act at which the loop stands is of a lane that there is
lane_is : (c : goal.After-from) → ((get_or c.list-lane-items.result.now c.loop-lane.lane-index (0, Fill 0 0)).0 ≡ c.from.result + 1) × (c.from.result < 8)
lane_is c =
    let all = rw (← c.list-lane-items.ensures) at c.requires.acts in
    let act = all_at (IsActLine c.args.s.now.head) c.list-lane-items.result.now c.loop-lane.lane-index (0, Fill 0 0) all c.loop-lane-test.true in
    (omega (arith, act.0), omega (arith, act.0, act.1, c.requires.head.lanes))

pub loop-lane-init : goal.loop-lane-init
loop-lane-init c = none_counted

pub overflow_add-counts : goal.overflow_add-counts
overflow_add-counts c =
    let items = c.list-lane-items.result.now in
    let i = c.loop-lane.lane-index in
    let lane = c.from.result in
    let count = c.loop-lane.invariant.each lane (lane_is c).1 in
    let all = ap (λ (acts : List (ℕ × Act)). length acts) c.list-lane-items.ensures in
    omega (arith, count, few_of_lane (lane + 1) (take i items), length-take-le i items (omega arith), all, c.requires.few)

pub loop-lane-preserved : goal.loop-lane-preserved
loop-lane-preserved c =
    let lane = lane_is c in
    counted_more c.loop-lane.counts c.list-lane-items.result.now c.loop-lane.lane-index c.from.result (0, Fill 0 0) c.loop-lane-test.true lane.0 lane.1 c.loop-lane.invariant

pub returns : goal.returns
returns c =
    let all = take_all c.loop-lane.lane-index c.list-lane-items.result.now (omega arith) ∙ c.list-lane-items.ensures in
    (rw all at c.loop-lane.invariant).each
