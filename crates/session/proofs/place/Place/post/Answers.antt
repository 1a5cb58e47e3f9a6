use Rattle.std.proofs.Common.{subst, sym, arith}
use Rattle.session.specs.Seats.{HasSeat}
use Rattle.session.proofs.SeatLemmas.{seat_leads, seat_lent, seat_moved}
use Rattle.session.proofs.place.Place.post.Goals as goal

pub post_lane-requires-clause-seat : goal.post_lane-requires-clause-seat
post_lane-requires-clause-seat g c = seat_lent (subst (HasSeat c.args.script.now c.args.run.now) (sym c.self.view_is) c.requires.seat) c.window_mut-window.ensures.value

pub returns-clause-leads : goal.returns-clause-leads
returns-clause-leads g c = rw (← c.self.view_is)
    let seat = subst (HasSeat c.args.script.now c.args.run.now) (sym c.self.view_is) c.requires.seat in
    seat_leads c.self.inside.ram c.window_mut-window.result.now c.post_lane.new.window c.window_mut-window.ensures.value (omega (arith, seat.there.0, seat.there.1, seat.at.windows.count)) c.post_lane.ensures.leads

pub returns-clause-seat : goal.returns-clause-seat
returns-clause-seat g c = rw (← c.self.view_is)
    let seat = subst (HasSeat c.args.script.now c.args.run.now) (sym c.self.view_is) c.requires.seat in
    seat_moved seat.at.windows seat.there.0 seat.there.1 c.post_lane.ensures.others c.post_lane.ensures.rests.seat.window
