use Rattle.adm_values.specs.Kinds.{IsRightTo}
use Rattle.adm_values.proofs.command.first_bad.Given as goal

abbrev pub invariant-loop-dword : goal.invariant-loop-dword
invariant-loop-dword l = IsRightTo l.kind l.b l.dword
