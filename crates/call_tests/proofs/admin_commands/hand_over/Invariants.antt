use Rattle.std.proofs.Common.{◌≡◌, All, []}
use Rattle.call_tests.proofs.admin_commands.hand_over.Given as goal

abbrev pub invariant-parts : goal.invariant-parts
invariant-parts l = record {
  from : All (λ p. p.commands ≡ []) l.from.pairs;
  to : All (λ p. p.commands ≡ []) l.to.pairs;
}
