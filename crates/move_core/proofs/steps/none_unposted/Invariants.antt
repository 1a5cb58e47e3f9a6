use Rattle.std.specs.Prelude.{◌≡◌, ◌<◌, ℕ, [], slice_index_or}
use Rattle.move_core.proofs.steps.none_unposted.Given as goal

abbrev pub invariant-loop-i : goal.invariant-loop-i
invariant-loop-i l = record {
  none : (i : ℕ) → i < l.i → slice_index_or l.unposted i [] ≡ [];
}
