use Rattle.std.proofs.Common.{◌<◌, ◌-◌, length, rules, subst, sym}
use Rattle.std.specs.List.{AllByRecursion}
use Rattle.move_core.specs.Room.{IsInside}
use Rattle.move_core.proofs.RoomLemmas.{all_and_last, all_at, with_lane, with_source}
use Rattle.move_core.proofs.state.Core.write_moving.Goals as goal

pub invariant_of-self-2 : goal.invariant_of-self-2
invariant_of-self-2 c =
    let core = c.self.inside in
    let room = c.self.invariant in
    let inside = IsInside (length core.source.items) in
    let there : c.from.result - 1 < length core.unposted.items = search (rules, room) in
    let spans = c.index_mut-spans.result.now in
    let old : AllByRecursion inside spans = subst (AllByRecursion inside) (sym c.index_mut-spans.ensures.value) (all_at (AllByRecursion inside) core.unposted.items (c.from.result - 1) spans there room.lanes_inside) in
    let is = c.push.ensures in
    let here : inside c.args.span = search rules in
    with_source c.put_blocks.ensures.count
    (with_lane (c.from.result - 1) c.push.new.self (rw is (all_and_last inside spans c.args.span old here)) (search rules) room)
