use Rattle.std.specs.Prelude.{is_err}
use Rattle.std.proofs.Common.{◌/◌, ◌<◌, subst, sym, arith}
use Rattle.std.proofs.lemmas.List.{length-set}
use Rattle.nvm_model.specs.Medium.{sent}
use Rattle.nvm_blocks.specs.Namespace.{block_count}
use Rattle.nvm_blocks.proofs.NamespaceLemmas.{block_called}
use Rattle.nvm_blocks.proofs.namespace.Namespace.put.Goals as goal

pub returns : goal.returns
returns g c =
    let inside = c.self.inside in
    let within = subst (λ n. c.args.b < block_count n) (sym c.self.view_is) c.requires in
    let done = block_called g.M.Medium.state g.M.Medium.moves inside.shelf inside.shelves.items c.args.b (λ b. sent b c.args.from.now (is_err c.put.result)) c.index_mut-shelf.result.now c.put.new.self
    c.self.invariant.0 within c.index_mut-shelf.ensures.value c.put.ensures.call c.put.ensures.rest in
    rw (← c.self.view_is) (record { called = done.1; entries = done.2 })

pub invariant_of-self : goal.invariant_of-self
invariant_of-self g c =
    let inside = c.self.inside in
    let within = subst (λ n. c.args.b < block_count n) (sym c.self.view_is) c.requires in
    let new = c.put.new.self in
    let done = block_called g.M.Medium.state g.M.Medium.moves inside.shelf inside.shelves.items c.args.b (λ b. sent b c.args.from.now (is_err c.put.result)) c.index_mut-shelf.result.now new
    c.self.invariant.0 within c.index_mut-shelf.ensures.value c.put.ensures.call c.put.ensures.rest in
    (done.0, c.self.invariant.1, omega (arith, c.self.invariant.2, length-set inside.shelves.items (c.args.b / inside.shelf) new))
