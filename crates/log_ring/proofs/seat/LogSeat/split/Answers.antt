use Rattle.std.proofs.Common.{rules, arith, ap, sym, ◌∙◌, ◌≡◌, ◌<◌, List, get_or}
use Rattle.atomic_table.specs.declared.badge.Badge.{Badge}
use Rattle.log_rule.specs.declared.view.View.{View}
use Rattle.log_rule.specs.Plays.{spent}
use Rattle.log_rule.proofs.Seats.{splits}
use Rattle.log_ring.proofs.seat.LogSeat.split.Goals as goal

pub split_seat-new-requires : goal.split_seat-new-requires
split_seat-new-requires c =
    let v : View = c.into_seat-seat.result.me.0 in
    let mine : get_or c.args.self.now.badge.views 0 spent ≡ v = ap (λ (b : Badge View). get_or b.views 0 spent) (sym c.replace.ensures.value) ∙ ap (λ (l : List View). get_or l 0 spent) c.into_seat-seat.ensures.2 in
    let some-left : 0 < v.seats = omega (arith, c.requires.few, ap (λ (x : View). x.seats) mine) in
    (search rules, search rules, splits _ _ _ _ _ _ _ (search rules) some-left c.args.ring.now.fits.order)
