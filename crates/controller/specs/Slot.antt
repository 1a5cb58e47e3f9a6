use Rattle.std.specs.Prelude.{true, false, [], Option, Some, None}
use Rattle.data_queue.specs.Log.{QueueState}

-- What is seen of a queue that is lent: no cells, and not live.
abbrev pub lent_queue : QueueState
lent_queue = record { cells = []; head = 0; next = 0; waiting = 0; phase = true; marked = false; live = false }

abbrev pub queue_in : Option QueueState → QueueState
queue_in None = lent_queue
queue_in (Some q) = q
