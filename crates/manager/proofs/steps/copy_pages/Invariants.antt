use Rattle.std.proofs.Common.{◌≡◌, ◌+◌, ◌≤◌, drop, length}
use Rattle.manager.specs.Owed.{places_from, places_of}
use Rattle.manager.specs.Parts.{DoesPages}
use Rattle.manager.specs.Port.{PortState}
use Rattle.manager.proofs.steps.copy_pages.Given as goal

-- what copies the rest from here copies all from the start
abbrev pub invariant-loop-page : goal.invariant-loop-page
invariant-loop-page g l = record {
  from : length (g.P.Port.state l.port).from.pages ≡ length l.owed;
  to : length (g.P.Port.state l.port).to.pages ≡ length l.owed;
  left : (g.P.Port.state l.fn.port).left ≤ (g.P.Port.state l.port).left + l.page;
  all : (new : PortState g.P.Port.Meaning) → DoesPages g.P.Port.moves (places_from l.page (drop l.page l.owed)) (g.P.Port.state l.port) new
      → DoesPages g.P.Port.moves (places_of l.owed) (g.P.Port.state l.fn.port) new;
}
