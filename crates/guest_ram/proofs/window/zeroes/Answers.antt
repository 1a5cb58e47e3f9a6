use Rattle.std.proofs.Common.{refl}
use Rattle.nvm_model.specs.Memory.{zero_page}
use Rattle.guest_ram.proofs.window.zeroes.Goals as goal

pub returns : goal.returns
unfolding zero_page
returns c = refl
