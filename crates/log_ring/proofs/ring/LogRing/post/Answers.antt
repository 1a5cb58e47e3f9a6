use Rattle.std.proofs.Common.{rules, arith, ◌≡◌, ◌+◌, ◌≤◌, ◌<◌, ◌%◌, ℕ, ap, ◌∙◌, refl, subst, sym}
use Rattle.nvm_model.specs.Event.{phase_of}
use Rattle.data_queue.specs.Change.{IsChange}
use Rattle.log_rule.proofs.Draws.{draws, loses}
use Rattle.log_rule.proofs.Looks.{looks}
use Rattle.log_rule.proofs.Posts.{posts}
use Rattle.log_ring.proofs.Steps.{looked_is}
use Rattle.log_ring.proofs.ring.LogRing.post.Goals as goal

pub fetch_add-at-requires : goal.fetch_add-at-requires
fetch_add-at-requires c = let f = c.args.self.now.fits in
    (search rules, search rules, draws _ _ _ _ _ _ _ _ _ refl c.requires.idle.live c.requires.idle.pending c.requires.budget f.small f.some)

pub load-head-requires : goal.load-head-requires
load-head-requires c = let f = c.args.self.now.fits in let e = c.fetch_add-at.ensures.2.0 in
    (search rules, search rules, looks _ _ _ _ _ _ _ _ (ap (λ m. m.0.live) e ∙ c.requires.idle.live) (ap (λ m. m.0.seen) e ∙ c.requires.idle.seen) f.small)

pub swap-requires : goal.swap-requires
swap-requires c =
    let e = looked_is c.args.seat.now.me.0 c.fetch_add-at.result c.load-head.result c.args.seat.now.me _ _ refl c.fetch_add-at.ensures.2.0 c.load-head.ensures.2.0 in
    let full : c.load-head.result + c.args.self.now.table.shared.key.cells ≤ c.fetch_add-at.result = omega (arith, c.if-at-head.true, c.from-cells.ensures, c.size.ensures, c.args.self.now.opened.cells_are) in
    (search rules, search rules, loses _ _ _ _ _ _ _ _ c.fetch_add-at.result c.load-head.result (ap (λ m. m.0.live) e ∙ c.requires.idle.live) (ap (λ m. m.0.pending) e) (ap (λ m. m.0.head) e) full)

pub swap-requires-2 : goal.swap-requires-2
swap-requires-2 c =
    let f = c.args.self.now.fits in
    let at = c.fetch_add-at.result in
    let n = c.args.self.now.table.shared.key.cells in
    let e = looked_is c.args.seat.now.me.0 c.fetch_add-at.result c.load-head.result c.args.seat.now.me _ _ refl c.fetch_add-at.ensures.2.0 c.load-head.ensures.2.0 in
    let same : c.from-cells.result ≡ n = c.from-cells.ensures ∙ (c.size.ensures ∙ sym c.args.self.now.opened.cells_are) in
    let room : at < c.load-head.result + n = omega (arith, c.if-at-head.false, same) in (
      search rules,
      search rules,
      posts _ _ _ _ _ _ _ _ at c.load-head.result _ _ (ap (λ m. m.0.live) e ∙ c.requires.idle.live) (ap (λ m. m.0.pending) e) (ap (λ m. m.0.head) e) room
          (subst IsChange (sym c.to_word-word.ensures.back) c.requires.change) (c.to_word-word.ensures.tag ∙ (c.phase_at.ensures ∙ ap (λ (k : ℕ). phase_of k at) same)) f.some f.far (ap (λ (k : ℕ). at % k + 3) same),
    )
