use Rattle.std.proofs.Common.{◌≡◌, length, take}
use Rattle.nvm_model.specs.Check.{identifiers}
use Rattle.controller.proofs.check.identifiers.Given as goal

abbrev pub invariant-loop-command : goal.invariant-loop-command
invariant-loop-command l = record {
  gathered : l.busy.items ≡ identifiers (take l.command-index l.running);
  count : length l.busy.items ≡ l.command-index;
}
