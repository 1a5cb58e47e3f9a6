use Rattle.std.proofs.Common.{arith}
use Rattle.std.proofs.lemmas.List.{length-map}
use Rattle.nvm_blocks.specs.Shelves.{cleared}
use Rattle.nvm_blocks.proofs.ShelvesLemmas.{cleared_namespace}
use Rattle.nvm_blocks.proofs.namespace.Namespace.clear.Goals as goal

pub invariant_of-self : goal.invariant_of-self
invariant_of-self g c = rw c.clear_all.ensures.items (
  cleared_namespace g.M.Medium.state c.self.inside.shelf c.self.inside.shelves.items c.self.invariant.0,
  c.self.invariant.1,
  omega (arith, c.self.invariant.2, length-map c.self.inside.shelves.items cleared),
)
