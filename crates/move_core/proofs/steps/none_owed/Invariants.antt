use Rattle.std.specs.Prelude.{◌≡◌, ◌<◌, ℕ, false, slice_index_or}
use Rattle.move_core.proofs.steps.none_owed.Given as goal

abbrev pub invariant-loop-i : goal.invariant-loop-i
invariant-loop-i l = record {
  none : (b : ℕ) → b < l.i → slice_index_or l.owed b false ≡ false;
}
