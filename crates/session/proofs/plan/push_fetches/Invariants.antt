use Rattle.std.proofs.Common.{◌≡◌, ◌+◌, ◌++◌, map, take, vec_len, vec_capacity}
use Rattle.controller.specs.Pair.{fetch_line}
use Rattle.session.proofs.plan.push_fetches.Given as goal

abbrev pub invariant-loop-told : goal.invariant-loop-told
invariant-loop-told l = record {
  events : l.events.items ≡ l.fn.events.items ++ map (fetch_line l.lane) (take l.told-index l.fetched);
  count : vec_len l.events ≡ vec_len l.fn.events + l.told-index;
  capacity : vec_capacity l.events ≡ vec_capacity l.fn.events;
}
