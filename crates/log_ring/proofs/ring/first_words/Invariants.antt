use Rattle.std.specs.Prelude.{◌≡◌, ◌+◌, ◌<◌, ◌≤◌, ℕ, [], length, slice_index, slice_index_or, vec_capacity, replicate, Bool}
use Rattle.data_queue.specs.declared.change.Change.{Change}
use Rattle.data_queue.specs.Change.{IsChange, change_bytes}
use Rattle.log_ring.specs.Words.{entry_word}
use Rattle.log_ring.proofs.ring.first_words.Given as goal

abbrev pub invariant-loop-i : goal.invariant-loop-i
invariant-loop-i l = record {
  long : length l.words.items ≡ l.i + 3;
  wide : l.size + 3 ≤ vec_capacity l.words;
  ends : (slice_index l.words.items 0 ≡ l.tail) × (slice_index l.words.items 1 ≡ l.head) × (slice_index l.words.items 2 ≡ 0);
  entries : (i : ℕ) (c : Change) (phase : Bool) → i < l.i → IsChange c → change_bytes c phase ≡ slice_index_or l.q.cells i [] → slice_index l.words.items (i + 3) ≡ entry_word c phase;
  zeroes : (i : ℕ) → i < l.i → slice_index_or l.q.cells i [] ≡ replicate 32 0 → slice_index l.words.items (i + 3) ≡ 0;
}
