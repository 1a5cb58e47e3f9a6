use Rattle.std.proofs.Common.{◌/◌, ◌<◌, subst, sym, arith}
use Rattle.std.proofs.lemmas.List.{length-set}
use Rattle.nvm_blocks.specs.Namespace.{block_count}
use Rattle.nvm_blocks.specs.Shelves.{cleared}
use Rattle.nvm_blocks.proofs.NamespaceLemmas.{cleared_at}
use Rattle.nvm_blocks.proofs.namespace.Namespace.clear_at.Goals as goal

pub invariant_of-self : goal.invariant_of-self
invariant_of-self g c =
    let inside = c.self.inside in
    let within = subst (λ n. c.args.b < block_count n) (sym c.self.view_is) c.requires in
    rw c.clear.ensures (
      (cleared_at g.M.Medium.state g.M.Medium.moves inside.shelf inside.shelves.items c.args.b c.index_mut-shelf.result.now c.self.invariant.0 within c.index_mut-shelf.ensures.value).0,
      c.self.invariant.1,
      omega (arith, c.self.invariant.2, length-set inside.shelves.items (c.args.b / inside.shelf) (cleared c.index_mut-shelf.result.now)),
    )

pub returns : goal.returns
returns g c =
    let inside = c.self.inside in
    let within = subst (λ n. c.args.b < block_count n) (sym c.self.view_is) c.requires in
    rw (c.clear.ensures, ← c.self.view_is) (cleared_at g.M.Medium.state g.M.Medium.moves inside.shelf inside.shelves.items c.args.b c.index_mut-shelf.result.now c.self.invariant.0 within c.index_mut-shelf.ensures.value).1
