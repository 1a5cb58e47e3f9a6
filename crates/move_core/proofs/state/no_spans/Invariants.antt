use Rattle.std.specs.Prelude.{◌≡◌, ◌≤◌, [], replicate, vec_capacity, vec_len}
use Rattle.move_core.proofs.state.no_spans.Given as goal

abbrev pub invariant-loop : goal.invariant-loop
invariant-loop l = record {
  items : l.unposted.items ≡ replicate l.counter [];
  count : vec_len l.unposted ≡ l.counter;
  capacity : 8 ≤ vec_capacity l.unposted;
}
