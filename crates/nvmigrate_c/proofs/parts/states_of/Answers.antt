use Rattle.std.proofs.Common.{arith}
use Rattle.nvmigrate_c.proofs.PairLemmas.{rings_more, states_more}
use Rattle.nvmigrate_c.proofs.parts.states_of.Goals as goal

pub pairs-preserved : goal.pairs-preserved
pairs-preserved c = record {
  rings = rings_more c.args.pairs.now c.pairs.place _ (omega arith) c.pairs.invariant.rings c.in-Some.ensures.0;
  states_are = states_more c.args.pairs.now c.pairs.place _ c.pairs.states c.in-Some.state (omega arith) c.requires c.pairs.invariant.states_are c.in-Some.ensures.1;
}
