use Rattle.std.proofs.Common.{◌≡◌, replicate}
use Rattle.nvm_model.specs.Memory.{zero_page}
use Rattle.guest_ram.proofs.window.Window.make.Given as goal

abbrev pub invariant-loop : goal.invariant-loop
invariant-loop l = l.pages.items ≡ replicate l.counter zero_page
