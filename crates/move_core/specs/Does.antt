use Rattle.std.specs.Prelude.{◌≡◌, Result, OnOk, OnErr}
use Rattle.move_core.specs.declared.event.CoreEvent.{CoreEvent}
use Rattle.move_core.specs.State.{CoreState, May, after}
use Rattle.move_core.specs.Covered.{IsCoreCovered, KeepsSides}

-- An event was done, or the rules have no such step and nothing changed.
pub record Does {T E : Type 0} (old : CoreState) (e : CoreEvent) (result : Result T E) (new : CoreState) : Type 0 where
  pub may : OnOk result (May old e)
  pub new_is : OnOk result (new ≡ after old e)
  pub refused : OnErr result (May old e → ⊥)
  pub kept : OnErr result (new ≡ old)

-- What differs was owed, so it is; and sides that are equal at a resumption stay what the rules say.
pub record Goes {T E : Type 0} (old : CoreState) (e : CoreEvent) (result : Result T E) (new : CoreState) : Type 0 where
  pub covered : IsCoreCovered old → IsCoreCovered new
  pub sides : OnOk result (IsCoreCovered old → KeepsSides old e new)
