use Rattle.std.proofs.Common.{◌≡◌, ◌++◌, drop, map, take}
use Rattle.nvm_blocks.specs.Shelves.{cleared}
use Rattle.nvm_blocks.proofs.namespace.shelves.clear_all.Given as goal

abbrev pub invariant-loop-shelf : goal.invariant-loop-shelf
invariant-loop-shelf g l = l.shelf-items ≡ map cleared (take l.shelf-index l.fn.shelves.items) ++ drop l.shelf-index l.fn.shelves.items
