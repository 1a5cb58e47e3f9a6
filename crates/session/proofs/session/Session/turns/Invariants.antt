use Rattle.std.proofs.Common.{false}
use Rattle.session.specs.Place.{PlaceState, total_work}
use Rattle.session.specs.Sides.{Goes, IsOnward, sides, sink}
use Rattle.session.proofs.session.Session.turns.Given as goal

abbrev pub invariant-turns : goal.invariant-turns
invariant-turns g l =
    let out = g.K.Sink in
    record {
      went : (other : PlaceState g.row.M.Denot) → Goes g.M.Medium.state g.M.Medium.moves
          (sides l.fn.self l.fn.at other (sink (out.bytes l.fn.out) (out.faults l.fn.out))) false (sides l.self l.at other (sink (out.bytes l.out) (out.faults l.out)));
      onward : IsOnward g.M.Medium.state g.M.Medium.moves l.fn.self l.fn.at l.self l.at;
    }

abbrev pub decreases-turns : goal.decreases-turns
decreases-turns g l = total_work 1 l.self.runs l.at.controller
