use Rattle.session.specs.Place.{PlaceState}
use Rattle.session.proofs.PortLemmas.{place_mark}
use Rattle.session.proofs.place.moving.PlaceDest.mark.Goals as goal

pub returns : goal.returns
returns g c =
    let p : PlaceState g.row.M.Denot = record { namespace = c.self.inside.namespace; windows = c.self.inside.ram; controller = c.self.inside.controller } in
    rw (← c.self.view_is) (place_mark c.args.n p c.mark.new.self c.mark.ensures.called)
