use Rattle.std.proofs.Common.{◌≡◌, ◌∙◌, ap, length}
use Rattle.nvm_model.specs.Event.{phase_of}
use Rattle.data_queue.specs.Change.{change_of}
use Rattle.data_queue.specs.Places.{queue_of}
use Rattle.data_queue.proofs.LogLemmas.{change_back, log_oldest}
use Rattle.data_queue.proofs.places.oldest.Goals as goal

pub returns-clause-log : goal.returns-clause-log
returns-clause-log c = λ some posted taken log.
    let oldest = log_oldest (queue_of c.args.places c.args.cells.now) posted taken some log in
    let read : c.of_bytes.result ≡ oldest.0 = c.of_bytes.ensures ∙ ap change_of oldest.3 ∙ change_back oldest.0 (phase_of (length c.args.cells.now) taken) oldest.2 in
    rw read oldest.1
