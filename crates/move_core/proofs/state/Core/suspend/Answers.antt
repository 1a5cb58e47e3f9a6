use Rattle.std.proofs.Common.{refl, subst, sym}
use Rattle.move_core.specs.State.{NoneUnposted}
use Rattle.move_core.proofs.state.Core.suspend.Goals as goal

pub returns-then-not-none_unposted : goal.returns-then-not-none_unposted
returns-then-not-none_unposted c = record {
  may = tt;
  new_is = tt;
  refused = λ may. c.none_unposted.ensures.no c.if-not-none_unposted.true (subst NoneUnposted (sym c.deref.ensures.value) (subst (λ v. NoneUnposted v.unposted) (sym c.self.view_is) may.1));
  kept = refl;
}
