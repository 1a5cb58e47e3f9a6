use Rattle.std.proofs.Common.{arith, refl}
use Rattle.nvmigrate_c.proofs.PartsLemmas.{none_fed}
use Rattle.nvmigrate_c.proofs.parts.Parts.empty.Goals as goal

pub returns-clause-sound : goal.returns-clause-sound
returns-clause-sound c = none_fed _ (omega arith) (omega arith) refl
