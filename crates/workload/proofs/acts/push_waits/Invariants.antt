use Rattle.std.proofs.Common.{◌≡◌, ◌+◌, ◌≤◌, ◌++◌, vec_capacity, vec_len}
use Rattle.workload.specs.Made.{waits}
use Rattle.workload.proofs.acts.push_waits.Given as goal

abbrev pub invariant-loop-others : goal.invariant-loop-others
invariant-loop-others l = record {
  items : l.acts.items ≡ l.fn.acts.items ++ waits l.others;
  room : vec_len l.acts + 4 ≤ vec_capacity l.acts + l.others;
}
