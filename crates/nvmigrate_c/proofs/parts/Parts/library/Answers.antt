use Rattle.std.proofs.Common.{arith}
use Rattle.nvmigrate_c.proofs.PartsLemmas.{taken_is}
use Rattle.nvmigrate_c.proofs.parts.Parts.library.Goals as goal

pub returns : goal.returns
returns c = taken_is c.args.self.now c.new-parts.result c.feed.new.self (omega arith) (omega arith) (omega arith) c.new-parts.ensures c.in-Ok.ensures
