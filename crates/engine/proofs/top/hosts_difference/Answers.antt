use Rattle.nvm_model.specs.Medium.{sizes_in}
use Rattle.engine.proofs.SizeLemmas.{some_host, none_host}
use Rattle.engine.proofs.top.hosts_difference.Goals as goal

pub returns-in-Some : goal.returns-in-Some
returns-in-Some g c = record {
  first = some_host (sizes_in g.M.Medium.state c.args.from.now.shelves.items) (sizes_in g.M.Medium.state c.args.to.now.shelves.items) c.args.head.now.blocks c.args.head.now.shelf c.from.result c.from-shelf.result c.in-Some.difference c.from.ensures c.from-shelf.ensures c.in-Some.ensures.first;
}

pub returns-in-None : goal.returns-in-None
returns-in-None g c = record {
  first = none_host (sizes_in g.M.Medium.state c.args.from.now.shelves.items) (sizes_in g.M.Medium.state c.args.to.now.shelves.items) c.args.head.now.blocks c.args.head.now.shelf c.from.result c.from-shelf.result _ c.from.ensures c.from-shelf.ensures c.in-None.ensures.first c.host_difference-in-None.ensures.first;
}
