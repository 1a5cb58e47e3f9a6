use Rattle.std.proofs.Common.{◌/◌, length, subst, sym, arith}
use Rattle.std.proofs.lemmas.List.{length-set}
use Rattle.guest_ram.specs.Window.{data_pages}
use Rattle.nvm_blocks.specs.Namespace.{IsForNamespace}
use Rattle.nvm_blocks.proofs.NamespaceLemmas.{for_shelf, piece_called}
use Rattle.nvm_blocks.proofs.namespace.Namespace.apply.Goals as goal

pub apply-result-requires-clause-piece : goal.apply-result-requires-clause-piece
apply-result-requires-clause-piece g c =
    let inside = c.self.inside in
    let is_for = subst (λ n. IsForNamespace n (length (data_pages c.args.w.now)) c.args.p.now) (sym c.self.view_is) c.requires.piece in
    for_shelf g.M.Medium.state inside.shelf inside.shelves.items c.args.p.now c.index_mut-shelf.result.now _ c.self.invariant.0 is_for c.index_mut-shelf.ensures.value

pub returns-clause-applied : goal.returns-clause-applied
returns-clause-applied g c =
    let inside = c.self.inside in
    let p = c.args.p.now in
    let is_for = subst (λ n. IsForNamespace n (length (data_pages c.args.w.now)) p) (sym c.self.view_is) c.requires.piece in
    rw (← c.self.view_is) (piece_called g.M.Medium.state g.M.Medium.moves inside.shelf inside.shelves.items p c.apply-result.result _ c.index_mut-shelf.result.now c.apply-result.new.self _ _ _
    c.self.invariant.0 is_for c.index_mut-shelf.ensures.value c.apply-result.ensures.applied c.apply-result.ensures.rest).1

pub returns-clause-entry : goal.returns-clause-entry
returns-clause-entry g c =
    let inside = c.self.inside in
    let p = c.args.p.now in
    let is_for = subst (λ n. IsForNamespace n (length (data_pages c.args.w.now)) p) (sym c.self.view_is) c.requires.piece in
    rw (← c.self.view_is) (piece_called g.M.Medium.state g.M.Medium.moves inside.shelf inside.shelves.items p c.apply-result.result _ c.index_mut-shelf.result.now c.apply-result.new.self _ _ _
    c.self.invariant.0 is_for c.index_mut-shelf.ensures.value c.apply-result.ensures.applied c.apply-result.ensures.rest).2

pub invariant_of-self : goal.invariant_of-self
invariant_of-self g c =
    let inside = c.self.inside in
    let p = c.args.p.now in
    let is_for = subst (λ n. IsForNamespace n (length (data_pages c.args.w.now)) p) (sym c.self.view_is) c.requires.piece in
    let new = c.apply-result.new.self in
    let done = piece_called g.M.Medium.state g.M.Medium.moves inside.shelf inside.shelves.items p c.apply-result.result _ c.index_mut-shelf.result.now new _ _ _
    c.self.invariant.0 is_for c.index_mut-shelf.ensures.value c.apply-result.ensures.applied c.apply-result.ensures.rest in
    (done.0, c.self.invariant.1, omega (arith, c.self.invariant.2, length-set inside.shelves.items (p.span.first / inside.shelf) new))
