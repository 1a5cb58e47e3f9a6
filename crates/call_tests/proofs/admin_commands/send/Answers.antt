use Rattle.std.proofs.Common.{List, ℕ, arith, length, subst, sym}
use Rattle.adm_values.specs.declared.command.AdminCmd.{AdminCmd}
use Rattle.ctl_state.specs.Admin.{FitsBuffer}
use Rattle.ctl_state.proofs.AdminLemmas.{fits_buffer}
use Rattle.call_tests.proofs.admin_commands.send.Goals as goal

pub admin-answer-requires-clause-buffer : goal.admin-answer-requires-clause-buffer
admin-answer-requires-clause-buffer c =
    let n : ℕ = length c.args.bytes.now in
    let command : AdminCmd = record { cid = 1; what = c.args.what } in
    subst (λ (cmd : List ℕ). FitsBuffer cmd n) (sym c.to_bytes.ensures) (fits_buffer command n (record { cid = omega arith; numbers = c.requires.command.0 }) c.requires.command.1)
