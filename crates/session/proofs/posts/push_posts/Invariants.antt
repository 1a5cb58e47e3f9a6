use Rattle.std.proofs.Common.{◌≡◌, ◌+◌, ◌++◌, map, take, vec_len, vec_capacity}
use Rattle.controller.specs.Pair.{post_line}
use Rattle.session.proofs.posts.push_posts.Given as goal

abbrev pub invariant-loop-told : goal.invariant-loop-told
invariant-loop-told l = record {
  events : l.events.items ≡ l.fn.events.items ++ map (post_line l.lane) (take l.told-index l.posted);
  count : vec_len l.events ≡ vec_len l.fn.events + l.told-index;
  capacity : vec_capacity l.events ≡ vec_capacity l.fn.events;
}
