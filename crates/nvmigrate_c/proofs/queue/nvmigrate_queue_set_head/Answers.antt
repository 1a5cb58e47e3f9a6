use Rattle.std.proofs.Common.{subst, sym}
use Rattle.data_queue.specs.declared.places.Places.{Places}
use Rattle.data_queue.specs.Log.{TakesBefore}
use Rattle.data_queue.specs.Places.{queue_of}
use Rattle.nvmigrate_c.specs.Queues.{places_in}
use Rattle.nvmigrate_c.proofs.queue.nvmigrate_queue_set_head.Goals as goal

pub returns-clause-taken : goal.returns-clause-taken
returns-clause-taken c = λ _.
    let cells = c.args.cells.now in
    let value = c.args.value in
    subst (λ (new : Places). TakesBefore value (queue_of (places_in c.args.queue.now) cells) (queue_of new cells)) (sym c.of.ensures.value)
    (subst (λ (old : Places). TakesBefore value (queue_of old cells) (queue_of c.set_head.new.self cells)) c.places-places.ensures c.in-Ok.ensures.taken)
