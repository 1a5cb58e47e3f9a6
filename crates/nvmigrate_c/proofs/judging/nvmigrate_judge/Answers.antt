use Rattle.std.proofs.Common.{subst}
use Rattle.nvmigrate_c.specs.Judged.{HasVerdict}
use Rattle.nvmigrate_c.proofs.judging.nvmigrate_judge.Goals as goal

pub returns-in-Ok-No-clause-told : goal.returns-in-Ok-No-clause-told
returns-in-Ok-No-clause-told c = λ _ _ _.
    rw (c.fault_code.ensures.told c.in-Ok-No.line) (subst (HasVerdict c.args.text.now) c.in-Ok-No.field-0-is c.in-Ok-No.ensures.judged)
