use Rattle.std.proofs.Common.{codes}
use Rattle.std.specs.List.{flat_map}
use Rattle.mig_base.proofs.WriteLemmas.{writes_then, writes_no_more, writes_longer}
use Rattle.nvm_model.specs.ScriptText.{act_line}
use Rattle.script.proofs.write.write_parts.Goals as goal

pub returns-in_err-write_head : goal.returns-in_err-write_head
returns-in_err-write_head g c =
    let err = c.from_residual.ensures.0 in
    writes_longer (codes "end\n") err (writes_no_more (flat_map act_line c.args.s.now.acts) c.in_err-write_head.ensures err)

pub returns-in_err-write_acts : goal.returns-in_err-write_acts
returns-in_err-write_acts g c = writes_no_more (codes "end\n") (writes_then c.in_ok-write_head.ensures c.in_err-write_acts.ensures) c.from_residual-in_err-write_acts.ensures.0

pub returns : goal.returns
returns g c = writes_then (writes_then c.in_ok-write_head.ensures c.in_ok-write_acts.ensures) c.write_line.ensures
