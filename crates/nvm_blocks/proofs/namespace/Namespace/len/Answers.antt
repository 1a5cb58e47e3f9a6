use Rattle.std.proofs.Common.{rules}
use Rattle.nvm_blocks.proofs.NamespaceLemmas.{told_length}
use Rattle.nvm_blocks.proofs.namespace.Namespace.len.Goals as goal

pub returns-clause-told : goal.returns-clause-told
returns-clause-told g c =
    rw (← c.self.view_is) (told_length g.M.Medium.state c.self.inside.shelf c.len.result c.self.inside.shelves.items c.self.invariant.0 (search rules))
