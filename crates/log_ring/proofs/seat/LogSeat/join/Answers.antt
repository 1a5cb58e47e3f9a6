use Rattle.std.proofs.Common.{rules, ap, sym, ◌∙◌, List, get_or}
use Rattle.log_rule.specs.declared.view.View.{View}
use Rattle.log_rule.specs.Plays.{spent}
use Rattle.log_rule.proofs.Seats.{joins}
use Rattle.log_ring.proofs.seat.LogSeat.join.Goals as goal

pub join_seat-requires : goal.join_seat-requires
join_seat-requires c =
    let mine = ap (λ (l : List View). get_or l 0 spent) c.into_seat-other.ensures.2 in
    let live = ap (λ (v : View). v.live) (sym mine) ∙ c.args.other.idle.live in
    let idle = ap (λ (v : View). v.pending) (sym mine) ∙ c.args.other.idle.pending in
    (search rules, search rules, search rules, search rules, joins _ _ _ _ _ _ _ _ _ (search rules) live idle)
