use Rattle.std.proofs.Common.{◌≡◌, List, ℕ, ap, arith, subst, ◌∙◌}
use Rattle.nvm_values.specs.Sqe.{sqe_of}
use Rattle.nvm_model.specs.declared.ring.RingState.{RingState}
use Rattle.nvm_model.specs.Ring.{cell}
use Rattle.nvm_ring.specs.Moves.{after_fetch}
use Rattle.ctl_state.specs.Controller.{PairState}
use Rattle.controller.specs.Pair.{MayFetch, next_entry}
use Rattle.controller.proofs.pair.Pair.take_entry.Goals as goal

pub returns : goal.returns
returns c =
    let was = c.self.inside in
    let at : RingState → PairState = λ sq. record { sq = sq; cq = was.cq; commands = was.commands.items; fetched = was.fetched.items; posted = was.posted.items; room = was.room } in
    let entry = c.in_ok-entry.entry in
    subst (λ (p : PairState). MayFetch p × (entry ≡ next_entry c.args.w.now p) × (at c.fetch.new.self ≡ record p { sq = after_fetch p.sq })) c.self.view_is (
      record { there = c.in_ok-entry.ensures.exact; room = omega (arith, c.if-len-from.false, c.len.ensures, c.from.ensures, c.free.ensures.value) },
      c.in_ok-entry.ensures.entry ∙ ap (λ (page : List ℕ). sqe_of (cell 64 was.sq.head page)) c.page.ensures.value,
      ap at c.in_ok-entry.ensures.moved,
    )
