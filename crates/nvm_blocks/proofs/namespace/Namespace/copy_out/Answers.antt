use Rattle.std.proofs.Common.{◌/◌, ◌<◌, subst, sym, arith}
use Rattle.std.proofs.lemmas.List.{length-set}
use Rattle.nvm_model.specs.Medium.{got}
use Rattle.nvm_blocks.specs.Namespace.{block_count}
use Rattle.nvm_blocks.proofs.NamespaceLemmas.{block_called}
use Rattle.nvm_blocks.proofs.namespace.Namespace.copy_out.Goals as goal

pub invariant_of-self : goal.invariant_of-self
invariant_of-self g c =
    let inside = c.self.inside in
    let within = subst (λ n. c.args.b < block_count n) (sym c.self.view_is) c.requires in
    let new = c.copy_out.new.self in
    let done = block_called g.M.Medium.state g.M.Medium.moves inside.shelf inside.shelves.items c.args.b (λ b. got b c.copy_out.new.out c.copy_out.result) c.index_mut-shelf.result.now new
    c.self.invariant.0 within c.index_mut-shelf.ensures.value c.copy_out.ensures.call c.copy_out.ensures.rest in
    (done.0, c.self.invariant.1, omega (arith, c.self.invariant.2, length-set inside.shelves.items (c.args.b / inside.shelf) new))

pub returns : goal.returns
returns g c =
    let inside = c.self.inside in
    let within = subst (λ n. c.args.b < block_count n) (sym c.self.view_is) c.requires in
    let done = block_called g.M.Medium.state g.M.Medium.moves inside.shelf inside.shelves.items c.args.b (λ b. got b c.copy_out.new.out c.copy_out.result) c.index_mut-shelf.result.now c.copy_out.new.self
    c.self.invariant.0 within c.index_mut-shelf.ensures.value c.copy_out.ensures.call c.copy_out.ensures.rest in
    rw (← c.self.view_is) (record { called = done.1; entries = done.2 })
