use Rattle.std.specs.Prelude.{◌≡◌, ◌≢◌, ◌⊎◌, ◌+◌, ◌%◌, ◌<◌, ◌≤◌, ℕ, [], length, slice_index, slice_index_or}
use Rattle.std.specs.Mem.Slots.{slots_items}
use Rattle.nvm_model.specs.Event.{phase_of}
use Rattle.data_queue.specs.Change.{change_bytes}
use Rattle.log_ring.specs.Words.{change_in}
use Rattle.log_ring.proofs.end.write_back.Given as goal

abbrev pub invariant-loop-at : goal.invariant-loop-at
invariant-loop-at l = record {
  upto : (l.at ≤ l.first) ⊎ (l.at ≤ l.last);
  long : length l.cells.items ≡ l.size;
  written : (p : ℕ) → l.first ≤ p → p < l.at → slice_index_or l.cells.items (p % l.size) [] ≡ change_bytes (change_in (slice_index (slots_items l.closed.words) (p % l.size + 3))) (phase_of l.size p);
  others : (i : ℕ) → ((p : ℕ) → l.first ≤ p → p < l.at → p % l.size ≢ i) → slice_index_or l.cells.items i [] ≡ slice_index_or l.initial.cells.items i [];
}
