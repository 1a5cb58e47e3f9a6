use Rattle.std.proofs.Common.{◌≡◌, ◌≤◌, [], map, replicate, vec_capacity, vec_len}
use Rattle.hall.specs.Plan.{HaveRoom}
use Rattle.hall.proofs.plan.Plan.make.Given as goal

abbrev pub invariant-loop : goal.invariant-loop
invariant-loop l = record {
  empty : map (λ v. v.items) l.all.items ≡ replicate l.counter [];
  room : HaveRoom l.pieces l.all.items;
  count : vec_len l.all ≡ l.counter;
  capacity : l.lanes ≤ vec_capacity l.all;
}
