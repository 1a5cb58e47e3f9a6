use Rattle.std.proofs.Common.{◌≡◌, ◌+◌, ◌≤◌, ◌++◌, map, reverse, vec_capacity, vec_len}
use Rattle.nvm_blocks.proofs.namespace.shelves.take_media.Given as goal

abbrev pub invariant-loop-shelf : goal.invariant-loop-shelf
invariant-loop-shelf g l = record {
  all : l.media.items ++ map (λ s. s.medium) (reverse l.shelves.items) ≡ l.fn.media.items ++ map (λ s. s.medium) (reverse l.fn.shelves.items);
  room : vec_len l.media + vec_len l.shelves ≤ vec_capacity l.media;
}

abbrev pub decreases-loop-shelf : goal.decreases-loop-shelf
decreases-loop-shelf g l = vec_len l.shelves
