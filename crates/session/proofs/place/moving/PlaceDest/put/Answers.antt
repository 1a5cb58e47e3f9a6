use Rattle.session.specs.Place.{PlaceState}
use Rattle.session.proofs.PortLemmas.{place_put}
use Rattle.session.proofs.place.moving.PlaceDest.put.Goals as goal

pub returns : goal.returns
returns g c =
    let p : PlaceState g.row.M.Denot = record { namespace = c.self.inside.namespace; windows = c.self.inside.ram; controller = c.self.inside.controller } in
    rw (← c.self.view_is) (place_put c.args.b c.args.bytes.now c.put.result p c.put.new.self c.put.ensures.called)
