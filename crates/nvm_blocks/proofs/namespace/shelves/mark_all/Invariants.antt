use Rattle.std.proofs.Common.{◌≡◌, vec_capacity}
use Rattle.nvm_blocks.specs.Shelves.{AreMarked}
use Rattle.nvm_blocks.proofs.namespace.shelves.mark_all.Given as goal

abbrev pub invariant-loop-place : goal.invariant-loop-place
invariant-loop-place g l = record {
  marked : AreMarked g.M.Medium.state g.M.Medium.moves l.shelf l.n l.place l.fn.shelves.items l.shelves.items;
  capacity : vec_capacity l.shelves ≡ vec_capacity l.fn.shelves;
}
