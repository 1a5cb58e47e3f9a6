use Rattle.std.specs.Prelude.{◌≡◌, ◌+◌, ◌%◌, ◌<◌, ◌≤◌, ℕ, slice_index}
use Rattle.std.specs.Mem.Slots.{slots_items}
use Rattle.nvm_model.specs.Event.{phase_of}
use Rattle.log_rule.specs.Places.{tag}
use Rattle.log_ring.proofs.end.last_of.Given as goal

abbrev pub invariant-loop-at : goal.invariant-loop-at
invariant-loop-at l = (p : ℕ) → l.head ≤ p → p < l.at → tag (slice_index (slots_items l.closed.words) (p % l.cells + 3)) ≡ phase_of l.cells p
