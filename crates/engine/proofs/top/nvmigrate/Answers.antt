use Rattle.std.proofs.Common.{ap, refl}
use Rattle.nvm_model.specs.Medium.{sizes_in}
use Rattle.engine.specs.declared.status.Status.TheVariants.{Done, GaveUp, WriteFault}
use Rattle.engine.proofs.SizeLemmas.{has_shelves, has_other_shelves}
use Rattle.engine.proofs.TopLemmas.{counted, gives_up, is_run}
use Rattle.engine.proofs.top.nvmigrate.Goals as goal

pub open_places-requires-clause-sizes : goal.open_places-requires-clause-sizes
open_places-requires-clause-sizes g c =
    rw c.in-Ok.ensures.taken.1 (has_shelves c.in-Ok.ready.1.script (sizes_in g.M.Medium.state c.args.from.now.shelves.items) (sizes_in g.M.Medium.state c.args.to.now.shelves.items) c.in-Ok.ensures.new.1)

pub open_places-requires-clause-to_sizes : goal.open_places-requires-clause-to_sizes
open_places-requires-clause-to_sizes g c =
    rw c.in-Ok.ensures.taken.1 (has_other_shelves c.in-Ok.ready.1.script (sizes_in g.M.Medium.state c.args.from.now.shelves.items) (sizes_in g.M.Medium.state c.args.to.now.shelves.items) c.in-Ok.ensures.new.1)

pub returns-in-Ok-Done-clause-ran : goal.returns-in-Ok-Done-clause-ran
returns-in-Ok-Done-clause-ran g c = λ blocks shelf runs.
    is_run Done c.in-Ok.ensures.taken.0 c.in-Ok.ensures.spelled c.in-Ok.ensures.taken.1 c.in-Ok-open_places.ensures.opened.0 c.in-Ok-open_places.ensures.opened.1 c.in-Ok-Done.ensures.gone
    (record { failed = refl; gave_up = ap gives_up c.in-Ok-Done.field-0-is })

pub returns-in-Ok-GaveUp-clause-ran : goal.returns-in-Ok-GaveUp-clause-ran
returns-in-Ok-GaveUp-clause-ran g c = λ blocks shelf runs.
    is_run GaveUp c.in-Ok.ensures.taken.0 c.in-Ok.ensures.spelled c.in-Ok.ensures.taken.1 c.in-Ok-open_places.ensures.opened.0 c.in-Ok-open_places.ensures.opened.1 c.in-Ok-GaveUp.ensures.gone
    (record { failed = refl; gave_up = ap gives_up c.in-Ok-GaveUp.field-0-is })

pub returns-in-Err-run_places-clause-ran : goal.returns-in-Err-run_places-clause-ran
returns-in-Err-run_places-clause-ran g c = λ blocks shelf runs.
    is_run WriteFault c.in-Ok.ensures.taken.0 c.in-Ok.ensures.spelled c.in-Ok.ensures.taken.1 c.in-Ok-open_places.ensures.opened.0 c.in-Ok-open_places.ensures.opened.1 c.in-Err-run_places.ensures.gone
    (record { failed = refl; gave_up = tt })

pub returns-in-Ok-Done-clause-write_fault : goal.returns-in-Ok-Done-clause-write_fault
returns-in-Ok-Done-clause-write_fault g c = counted c.in-Ok-Done.ensures.gone

pub returns-in-Ok-GaveUp-clause-write_fault : goal.returns-in-Ok-GaveUp-clause-write_fault
returns-in-Ok-GaveUp-clause-write_fault g c = counted c.in-Ok-GaveUp.ensures.gone

pub returns-in-Err-run_places-clause-write_fault : goal.returns-in-Err-run_places-clause-write_fault
returns-in-Err-run_places-clause-write_fault g c = counted c.in-Err-run_places.ensures.gone
