use Rattle.std.proofs.Common.{subst, sym}
use Rattle.data_queue.specs.declared.change.Change.{Change}
use Rattle.data_queue.specs.declared.places.Places.{Places}
use Rattle.data_queue.specs.Log.{TakesOne}
use Rattle.data_queue.specs.Places.{queue_of}
use Rattle.nvmigrate_c.specs.Queues.{places_in}
use Rattle.nvmigrate_c.proofs.queue.nvmigrate_queue_take.Goals as goal

pub returns-clause-taken : goal.returns-clause-taken
returns-clause-taken c = λ _ _.
    let cells = c.args.cells.now in
    let old : Places = places_in c.args.queue.now in
    subst (λ (change : Change). TakesOne change (queue_of old cells) (queue_of (places_in c.of-2.result) cells)) (sym c.of.ensures)
    (subst (λ (new : Places). TakesOne c.in-Some.change (queue_of old cells) (queue_of new cells)) (sym c.of-2.ensures.value)
    (subst (λ (old : Places). TakesOne c.in-Some.change (queue_of old cells) (queue_of c.take.new.self cells)) c.places-places.ensures c.in-Some.ensures.taken))
