use Rattle.std.proofs.Common.{rules}
use Rattle.adm_values.proofs.ByteLemmas.{bad_byte_1, bad_byte_2, bad_byte_3}
use Rattle.adm_values.proofs.limits.Limits.first_bad.Goals as goal

pub returns-then-not-may_begin-2 : goal.returns-then-not-may_begin-2
returns-then-not-may_begin-2 c = bad_byte_1 c.args.self c.args.number c.may_begin.ensures.sound (search rules) (search rules)

pub returns-then-not-may_begin-3 : goal.returns-then-not-may_begin-3
returns-then-not-may_begin-3 c = bad_byte_2 c.args.self c.args.number c.may_begin.ensures.sound (search rules) (search rules)

pub returns-then-not-may_begin-4 : goal.returns-then-not-may_begin-4
returns-then-not-may_begin-4 c = bad_byte_3 c.args.self c.args.number c.may_begin.ensures.sound (search rules) (search rules) (search rules)
