use Rattle.std.proofs.Common.{◌≡◌, ◌+◌, ◌≤◌, Result, drop}
use Rattle.manager.specs.declared.manager.MediumFault.{MediumFault}
use Rattle.manager.specs.Owed.{places_from, places_of}
use Rattle.manager.specs.Parts.{DoesCopies}
use Rattle.manager.specs.Port.{PortState}
use Rattle.manager.proofs.steps.copy_blocks.Given as goal

-- what copies the rest from here copies all from the start
abbrev pub invariant-loop-b : goal.invariant-loop-b
invariant-loop-b g l = record {
  count : (g.P.Port.state l.port).count ≡ (g.P.Port.state l.fn.port).count;
  left : (g.P.Port.state l.fn.port).left ≤ (g.P.Port.state l.port).left + l.b;
  all : (new : PortState g.P.Port.Meaning) (result : Result (Unit {0}) MediumFault) → DoesCopies g.P.Port.moves (places_from l.b (drop l.b l.owed)) result (g.P.Port.state l.port) new
      → DoesCopies g.P.Port.moves (places_of l.owed) result (g.P.Port.state l.fn.port) new;
}
