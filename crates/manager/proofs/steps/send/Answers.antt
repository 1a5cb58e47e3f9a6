use Rattle.std.proofs.Common.{◌≡◌, ◌+◌, Result, Ok, Err, ap, refl, arith}
use Rattle.adm_values.specs.declared.command.AdminCmd.{AdminCmd}
use Rattle.adm_values.specs.declared.kind.AdminRefusal.{AdminRefusal}
use Rattle.adm_values.specs.declared.kind.AdminRefusal.TheVariants.{BadOpcode, BadSelect, BadField}
use Rattle.adm_values.specs.Command.{IsCommand, Reads, command_bytes}
use Rattle.adm_values.proofs.CommandLemmas.{own_bytes, same_command}
use Rattle.ctl_state.proofs.AdminLemmas.{fits_buffer}
use Rattle.manager.specs.Asks.{command}
use Rattle.manager.specs.Port.PortCall.{Admin}
use Rattle.manager.proofs.AskLemmas.{asked_call}
use Rattle.manager.proofs.steps.send.Goals as goal

-- A command's own bytes are read as it, so a controller does it.
read_own : (c : AdminCmd) (read : Result AdminCmd AdminRefusal) → IsCommand c → Reads (command_bytes c) read → read ≡ Ok c
read_own c (Ok d) is reads = ap Ok (same_command d c reads.0 is reads.1)
read_own c (Err BadOpcode) is reads = let own = own_bytes c (command_bytes c) 0 is refl in absurd (reads own.command.what own.opcode)
read_own c (Err BadSelect) is reads = let own = own_bytes c (command_bytes c) 0 is refl in absurd (reads.1 own.command.what own.opcode own.selector)
read_own c (Err (BadField place)) is reads = absurd (reads.no_more (own_bytes c (command_bytes c) (place + 1) is refl))

pub admin-requires-clause-may : goal.admin-requires-clause-may
admin-requires-clause-may g c =
    let is : IsCommand (command c.args.what) = record { cid = omega arith; numbers = c.requires.range } in
    record { command = is; quiet = c.requires.quiet; buffer = fits_buffer (command c.args.what) _ is c.requires.buffer }

pub returns : goal.returns
returns g c =
    let is : IsCommand (command c.args.what) = record { cid = omega arith; numbers = c.requires.range } in
    let called = c.admin.ensures in
    let answers = called.does.answers in
    record {
      asked = asked_call (Admin c.args.side (command c.args.what) _ _ _) called;
      controller = called.does.controller;
      result = answers.result;
      told = answers.told;
      does = rw (read_own (command c.args.what) answers.read is answers.reads) at answers.does;
      sides = called.does.sides;
    }
