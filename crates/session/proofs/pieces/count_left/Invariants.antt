use Rattle.std.proofs.Common.{◌≡◌, ◌+◌, ◌<◌, ℕ, length, slice_index_or}
use Rattle.hall.specs.Plan.{pieces_of}
use Rattle.session.proofs.pieces.count_left.Given as goal

abbrev pub invariant-loop-at : goal.invariant-loop-at
invariant-loop-at l = record {
  count : length l.left ≡ length l.fn.left;
  each : (i : ℕ) → i < l.at → slice_index_or l.left i 0 ≡ length (pieces_of l.plan (i + 1));
}
