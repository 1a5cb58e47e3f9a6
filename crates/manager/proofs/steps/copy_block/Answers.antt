use Rattle.std.proofs.Common.{arith}
use Rattle.manager.specs.declared.side.CopyAnswer.TheVariants.{Copied, Busy, Fault}
use Rattle.manager.specs.Work.WorkCall.{Copy}
use Rattle.manager.proofs.CopyLemmas.{one_stopped, one_tried, told_fewer}
use Rattle.manager.proofs.WorkLemmas.{called_at}
use Rattle.manager.proofs.steps.copy_block.Goals as goal

pub copy-requires-clause-left : goal.copy-requires-clause-left
copy-requires-clause-left g c = omega (arith, c.requires.left, g.met.P.Port.both.left c.args.port.now)

pub copy-requires-clause-there : goal.copy-requires-clause-there
copy-requires-clause-there g c = omega (arith, c.requires.there, g.met.P.Port.both.count c.args.port.now)

pub copy-requires-clause-seated : goal.copy-requires-clause-seated
copy-requires-clause-seated g c = g.met.P.Port.both.always _

pub returns-in-Copied : goal.returns-in-Copied
returns-in-Copied g c =
    let bytes = c.in-Copied.ensures.called.0 in
    let call = called_at g.met.P.Port.both c.args.port.now (Copy c.args.b bytes Copied) c.copy.new.self c.in-Copied.ensures.called.1.done in
    one_tried c.args.b bytes call (λ rest d. told_fewer _ c.args.b rest bytes _ _ _ _ call.does.there call.does.read call.does.written d)

pub returns-in-Busy : goal.returns-in-Busy
returns-in-Busy g c = absurd (g.met.P.Port.both.calls _ (Copy c.args.b c.in-Busy.ensures.called.0 (Busy c.in-Busy.holder)) _ c.in-Busy.ensures.called.1.done).does.cause

pub returns-in-Fault : goal.returns-in-Fault
returns-in-Fault g c =
    let bytes = c.in-Fault.ensures.called.0 in
    one_stopped c.args.b bytes c.in-Fault.side (called_at g.met.P.Port.both c.args.port.now (Copy c.args.b bytes (Fault c.in-Fault.side)) c.copy.new.self c.in-Fault.ensures.called.1.done)
