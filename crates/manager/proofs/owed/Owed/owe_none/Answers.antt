use Rattle.std.proofs.Common.{◌≡◌, ℕ, Bool, false, List, [], Option, Some, None, length, replicate, ap, sym, ◌∙◌}
use Rattle.std.specs.Prelude.{IfNone, is_some}
use Rattle.manager.specs.Owed.{places_of}
use Rattle.manager.proofs.OwedLemmas.{none_left}
use Rattle.manager.proofs.owed.Owed.owe_none.Goals as goal

finished : (result : Option ℕ) (old new : List Bool) → is_some result ≡ false → IfNone result ((places_of old ≡ []) × (new ≡ old)) → new ≡ replicate (length old) false
finished None old new is e = e.1 ∙ none_left 0 old e.0
finished (Some x) old new is e = absurd cc

pub returns : goal.returns
returns c = finished c.take_lowest.result c.lowest.self _ (sym c.is_some.ensures ∙ c.lowest-test.false) c.take_lowest.ensures.none ∙ ap (λ (n : ℕ). replicate n false) c.lowest.invariant
