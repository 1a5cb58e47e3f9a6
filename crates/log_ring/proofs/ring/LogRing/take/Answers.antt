use Rattle.std.proofs.Common.{rules, ◌≡◌, ◌+◌, ◌%◌, ℕ, ap, ◌∙◌, refl, sym}
use Rattle.log_rule.proofs.Looks.{finds, looks}
use Rattle.log_rule.proofs.Posts.{takes}
use Rattle.log_ring.proofs.Steps.{sees}
use Rattle.log_ring.proofs.ring.LogRing.take.Goals as goal

pub load-head-requires : goal.load-head-requires
load-head-requires c = let f = c.args.self.now.fits in (search rules, search rules, looks _ _ _ _ _ _ _ _ c.requires.idle.live c.requires.idle.seen f.small)

pub load-word-requires : goal.load-word-requires
load-word-requires c =
    let f = c.args.self.now.fits in
    let e = c.load-head.ensures.2.0 in
    let same : c.from-cells.result ≡ c.args.self.now.table.shared.key.cells = c.from-cells.ensures ∙ (c.size.ensures ∙ sym c.args.self.now.opened.cells_are) in (
      search rules,
      search rules,
      finds _ _ _ _ _ _ _ _ c.load-head.result _ (c.load-head.ensures.1 ∙ c.requires.first.0) (ap (λ m. m.0.live) e ∙ c.requires.idle.live) (ap (λ m. m.0.head) e) (ap (λ m. m.0.seen) e ∙ c.requires.idle.seen) f.some f.far f.near
          (ap (λ (k : ℕ). c.load-head.result % k + 3) same),
    )

pub fetch_add-requires : goal.fetch_add-requires
fetch_add-requires c =
    let f = c.args.self.now.fits in
    let e = (sees _ c.load-head.result c.load-word.result c.args.seat.now.me _ _ c.requires.first.1 c.load-head.ensures.2.0 c.load-word.ensures.2).0 (search rules) in (
      search rules,
      search rules,
      takes _ _ _ _ _ _ _ _ _ c.load-word.result refl (c.load-word.ensures.1 ∙ (c.load-head.ensures.1 ∙ c.requires.first.0)) (ap (λ m. m.0.live) e.0 ∙ c.requires.idle.live) (ap (λ m. m.0.seen) e.0) f.small f.some f.far f.near,
    )
