use Rattle.std.proofs.Common.{rules, ℕ, Some, subst}
use Rattle.adm_values.specs.Kinds.{FirstBadByte, dword_at}
use Rattle.adm_values.proofs.CommandLemmas.{bad_dword, bad_flags}
use Rattle.adm_values.proofs.command.first_bad.Goals as goal

pub returns-then-b-ne0 : goal.returns-then-b-ne0
returns-then-b-ne0 c = bad_flags c.args.kind c.args.b.now (record { found = c.requires; size = search rules; small = search rules }) c.if-b-ne0.true

pub returns-in-Some : goal.returns-in-Some
returns-in-Some c =
    let byte : ℕ = c.in-Some.byte in
    bad_dword c.args.kind c.args.b.now c.loop-dword.dword byte (record { found = c.requires; size = search rules; small = search rules }) c.loop-dword.invariant (search rules) (search rules)
    (subst (λ (l : ℕ × ℕ). FirstBadByte l (dword_at c.args.b.now c.loop-dword.dword) (Some byte)) c.limits-limits.ensures
    (subst (λ x. FirstBadByte c.limits-limits.result x (Some byte)) c.dword_at.ensures c.in-Some.ensures))
