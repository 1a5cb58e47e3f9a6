use Rattle.nvm_blocks.proofs.NamespaceLemmas.{have_sizes}
use Rattle.nvm_blocks.proofs.namespace.Namespace.has_sizes.Goals as goal

pub returns : goal.returns
returns g c = rw (← c.self.view_is) (have_sizes g.M.Medium.state c.self.inside.shelf c.self.inside.shelves.items c.self.invariant.0)
