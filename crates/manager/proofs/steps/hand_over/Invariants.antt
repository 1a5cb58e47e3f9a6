use Rattle.std.proofs.Common.{◌-◌, ◌*◌, ◌<◌}
use Rattle.manager.specs.Parts.{HasFed, size_of}
use Rattle.manager.proofs.steps.hand_over.Given as goal

abbrev pub invariant-parts : goal.invariant-parts
invariant-parts g l = record {
  fed : HasFed g.P.Port.moves l.whole (g.P.Port.state l.fn.port) (g.P.Port.state l.port);
  there : 64 * l.whole < size_of (g.P.Port.state l.fn.port).from.controller;
}

abbrev pub decreases-parts : goal.decreases-parts
decreases-parts g l = size_of (g.P.Port.state l.fn.port).from.controller - 64 * l.whole
