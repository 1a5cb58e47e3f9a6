use Rattle.std.proofs.Common.{refl, subst, sym}
use Rattle.move_core.specs.State.{NoneOwed}
use Rattle.move_core.proofs.state.Core.resume.Goals as goal

pub returns-then-not-none_owed : goal.returns-then-not-none_owed
returns-then-not-none_owed c = record {
  may = tt;
  new_is = tt;
  refused = λ may. c.none_owed.ensures.no c.if-not-none_owed.true (subst NoneOwed (sym c.deref.ensures.value) (subst (λ v. NoneOwed v.owed) (sym c.self.view_is) may.1));
  kept = refl;
}
