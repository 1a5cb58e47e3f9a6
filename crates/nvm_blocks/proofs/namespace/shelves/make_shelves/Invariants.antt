use Rattle.std.specs.List.{All}
use Rattle.std.proofs.Common.{◌≡◌, ◌+◌, ◌≤◌, ◌++◌, length, map, reverse, vec_capacity, vec_len}
use Rattle.nvm_blocks.specs.Shelves.{AreNew}
use Rattle.nvm_blocks.proofs.namespace.shelves.make_shelves.Given as goal

abbrev pub invariant-loop-medium : goal.invariant-loop-medium
invariant-loop-medium g l = record {
  media : l.media.items ++ map (λ s. s.medium) (reverse l.shelves.items) ≡ l.fn.media.items;
  sizes : All (λ m. (g.M.Medium.state m).size ≡ l.shelf) l.media.items;
  new : AreNew g.M.Medium.state l.shelf l.room (length l.fn.media.items) l.shelves.items;
  count : vec_len l.media + vec_len l.shelves ≡ length l.fn.media.items;
  capacity : vec_capacity l.media ≡ vec_capacity l.fn.media;
  room : length l.fn.media.items ≤ vec_capacity l.shelves;
}

abbrev pub decreases-loop-medium : goal.decreases-loop-medium
decreases-loop-medium g l = vec_len l.media
