use Rattle.std.proofs.Common.{subst, sym, arith}
use Rattle.session.specs.Seats.{MayPlan}
use Rattle.session.proofs.SeatLemmas.{seat_leads, seat_lent, seat_moved}
use Rattle.session.proofs.place.Place.plan.Goals as goal

pub returns-clause-leads : goal.returns-clause-leads
returns-clause-leads g c = rw (← c.self.view_is)
    let may = subst (MayPlan c.args.script.now c.args.run.now) (sym c.self.view_is) c.requires.may in
    seat_leads c.self.inside.ram c.window_mut-window.result.now c.plan_lane.new.window c.window_mut-window.ensures.value (omega (arith, may.seat.there.0, may.seat.there.1, may.seat.at.windows.count)) c.plan_lane.ensures.leads

pub returns-clause-seat : goal.returns-clause-seat
returns-clause-seat g c = rw (← c.self.view_is)
    let may = subst (MayPlan c.args.script.now c.args.run.now) (sym c.self.view_is) c.requires.may in
    seat_moved may.seat.at.windows may.seat.there.0 may.seat.there.1 c.plan_lane.ensures.others c.plan_lane.ensures.seat.0.window

pub plan_lane-requires-clause-may : goal.plan_lane-requires-clause-may
plan_lane-requires-clause-may g c =
    let may = subst (MayPlan c.args.script.now c.args.run.now) (sym c.self.view_is) c.requires.may in
    record {
      head = may.seat.head;
      high = may.seat.there.1;
      free = record { seat = seat_lent may.seat c.window_mut-window.ensures.value; commands = may.commands; results = may.results };
      phase = may.running;
      burst = may.seat.at.burst;
    }
