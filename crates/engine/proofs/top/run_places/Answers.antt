use Rattle.std.proofs.Common.{refl}
use Rattle.session.proofs.OpenLemmas.{opens}
use Rattle.engine.proofs.TopLemmas.{at_once, gone}
use Rattle.engine.proofs.top.run_places.Goals as goal

pub run-ended-requires-clause-ready : goal.run-ended-requires-clause-ready
run-ended-requires-clause-ready g c = (opens c.requires.new.0.script c.requires.new.1 c.requires.source c.requires.destination).ready

pub run-ended-requires-clause-waits : goal.run-ended-requires-clause-waits
run-ended-requires-clause-waits g c = (opens c.requires.new.0.script c.requires.new.1 c.requires.source c.requires.destination).waits

pub run-ended-requires-clause-at_once : goal.run-ended-requires-clause-at_once
run-ended-requires-clause-at_once g c = at_once c.args.session.script c.requires.new.0

pub returns : goal.returns
returns g c = record {
  gone = gone c.run-ended.new.session (opens c.requires.new.0.script c.requires.new.1 c.requires.source c.requires.destination) c.run-ended.ensures.went c.run-ended.ensures.ended
      (record { from = c.shut_place.ensures.shelves; to = c.shut_place-2.ensures.shelves; from_ram = c.shut_place.ensures.ram; to_ram = c.shut_place-2.ensures.ram; out = refl });
}
