use Rattle.std.proofs.Common.{◌≡◌, ◌≤◌, ◌∙◌, All, List, arith, length, subst, sym}
use Rattle.ctl_state.specs.Image.{pairs_of}
use Rattle.ctl_state.specs.Controller.{PairState}
use Rattle.ctl_state.proofs.AdminLemmas.{length-with_images}
use Rattle.controller.proofs.AdminLemmas.{room_kept}
use Rattle.controller.proofs.controller.Controller.go_on.Goals as goal

pub invariant_of-self : goal.invariant_of-self
invariant_of-self c =
    let is = c.self.invariant in
    let same = length-with_images (pairs_of c.in-Some.image) c.self.inside.pairs.items in
    subst (λ (ps : List PairState). All (λ p. p.room ≡ c.self.inside.burst) ps × (c.self.inside.burst ≤ 64) × (1 ≤ length ps) × (length ps ≤ 8) × (c.self.inside.parts.lanes ≡ length ps)) (sym c.load_all.ensures)
    (room_kept (pairs_of c.in-Some.image) c.self.inside.pairs.items c.self.inside.burst is.0, is.1, omega (arith, is.2, same), omega (arith, is.3, same), is.4 ∙ sym same)
