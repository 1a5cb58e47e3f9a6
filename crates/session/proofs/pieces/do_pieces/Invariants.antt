use Rattle.std.proofs.Common.{◌≡◌, ◌+◌, sum, vec_len, vec_capacity}
use Rattle.nvm_model.specs.Run.{Here}
use Rattle.session.specs.Phases.{DoesPieces, HasPlan}
use Rattle.session.specs.Place.{StandsOn, machine}
use Rattle.session.specs.Served.{Served}
use Rattle.session.specs.Work.{AreLeft}
use Rattle.session.proofs.pieces.do_pieces.Given as goal
use Rattle.session.proofs.EntryLemmas.{HaveRooms}
use Rattle.turns.specs.Parts.{Leads}

abbrev pub invariant-pieces : goal.invariant-pieces
invariant-pieces g l =
    let medium = g.M.Medium in
    record {
      works : (h : Here g.row.M.Denot) → StandsOn l.script (machine l.fn.runs.items l.fn.order l.fn.place) h
          → Leads (DoesPieces medium.state medium.moves l.script) (StandsOn l.script (machine l.runs.items l.order l.place)) h l.fn.events.items l.events.items;
      has : HasPlan l.script l.runs.items l.plan l.place;
      served : Served medium.state medium.moves l.fn.place l.place;
      left : AreLeft l.script l.runs.items l.plan l.left;
      rooms : HaveRooms l.script l.plan l.place.namespace l.left;
      tickets : vec_len l.events ≡ vec_len l.fn.events + l.ticket;
      mix : l.order.mix ≡ l.script.head.mix;
      count : vec_len l.events + sum l.left ≡ vec_len l.fn.events + sum l.initial.left;
      capacity : vec_capacity l.events ≡ vec_capacity l.fn.events;
    }

abbrev pub decreases-pieces : goal.decreases-pieces
decreases-pieces g l = sum l.left
