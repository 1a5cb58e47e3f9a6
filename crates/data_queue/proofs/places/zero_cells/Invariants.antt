use Rattle.std.specs.Prelude.{◌≡◌, ◌<◌, ℕ, [], replicate, slice_index_or}
use Rattle.data_queue.proofs.places.zero_cells.Given as goal

abbrev pub invariant-loop-i : goal.invariant-loop-i
invariant-loop-i l = (i : ℕ) → i < l.i → slice_index_or l.cells i [] ≡ replicate 32 0
