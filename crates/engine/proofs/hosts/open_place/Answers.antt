use Rattle.engine.proofs.hosts.open_place.Goals as goal

pub returns-clause-opened : goal.returns-clause-opened
returns-clause-opened g c =
    let taken = c.in_ok-namespace.ensures.media in
    rw (c.open.ensures) (record {
      opened = record { namespace = taken.0; media_are = taken.1; windows = c.in_ok-ram.ensures; controller = c.in_ok-controller.ensures };
      sizes = rw (← taken.1) taken.2;
    })
