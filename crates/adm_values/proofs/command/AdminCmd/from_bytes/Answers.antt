use Rattle.std.proofs.Common.{rules, ◌≡◌, ◌+◌, Ok, Err, sym, ap, ◌∙◌, slice_index}
use Rattle.std.proofs.lemmas.Result.{err_from_is_err_and}
use Rattle.adm_values.specs.Kinds.{kind_at}
use Rattle.adm_values.proofs.CommandLemmas.{command_of, own_bytes, own_kind, own_value}
use Rattle.adm_values.proofs.KindLemmas.{no_kind}
use Rattle.adm_values.proofs.command.AdminCmd.from_bytes.Goals as goal

pub returns-in_err-kind-clause-read : goal.returns-in_err-kind-clause-read
returns-in_err-kind-clause-read c =
    let told = err_from_is_err_and c.from_residual.result c.from_residual.ensures.1 in
    let refused : kind_at (slice_index c.args.b.now 0) (slice_index c.args.b.now 40) ≡ Err told.0 = sym c.of.ensures ∙ c.in_err-kind.was ∙ ap Err (sym told.2) in
    rw told.1 (no_kind c.args.b.now told.0 refused)

pub returns-in_err-kind-clause-back : goal.returns-in_err-kind-clause-back
returns-in_err-kind-clause-back c = λ c' is bytes. let found = own_kind c' c.args.b.now is bytes in let o = c.of.ensures in let w = c.in_err-kind.was in cc

pub returns-in-Some-clause-back : goal.returns-in-Some-clause-back
returns-in-Some-clause-back c = λ c' is bytes. absurd (c.in-Some.ensures.no_more (own_bytes c' c.args.b.now (c.in-Some.place + 1) is bytes))

pub command-requires-clause-first : goal.command-requires-clause-first
command-requires-clause-first c = rw c.dword_at.ensures (c.in_default.ensures.dwords 11 (search rules) (search rules))

pub command-requires-clause-second : goal.command-requires-clause-second
command-requires-clause-second c = rw c.dword_at-2.ensures (c.in_default.ensures.dwords 12 (search rules) (search rules))

pub returns-clause-read : goal.returns-clause-read
returns-clause-read c =
    command_of c.in_ok-kind.kind c.args.b.now (record { found = search rules; size = search rules; small = search rules }) c.in_default.ensures
    (record { cid = c.read_u16.result; what = c.command.result }) (search rules) (search rules)

pub returns-clause-back : goal.returns-clause-back
returns-clause-back c = λ c' is bytes. ap Ok (own_value c' (record { cid = c.read_u16.result; what = c.command.result }) c.in_ok-kind.kind c.args.b.now (search rules) is bytes (search rules) (search rules))
