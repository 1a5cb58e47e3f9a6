use Rattle.std.proofs.Common.{◌≡◌, ◌+◌, ◌<◌, ◌∙◌, ℕ, List, get_or, length, sym, ap, subst, refl, arith}
use Rattle.std.proofs.lemmas.Bool.{false≢true}
use Rattle.nvm_model.specs.History.{IsLaneComplete}
use Rattle.judge.specs.declared.lane.JudgedLane.{JudgedLane}
use Rattle.judge.specs.Lane.{model_of}
use Rattle.judge.specs.World.{IsLaneIn}
use Rattle.judge.proofs.WorldLemmas.{complete_at, complete_by}
use Rattle.judge.proofs.world.JudgedWorld.is_complete.Goals as goal

pub returns-then-not-is_complete : goal.returns-then-not-is_complete
returns-then-not-is_complete c = λ s of. (
  (λ no. absurd (false≢true no)),
  (λ complete.
      let j = c.args.self.now in
      let i = c.lanes.lane-index in
      let lane = c.lane-item.result in
      let is : lane ≡ get_or j.lanes.items i lane = c.lane-item.is ∙ ap (λ (xs : List JudgedLane). get_or xs i lane) c.deref-lane-items.ensures.value in
      let there : i < length j.lanes.items = omega (arith, c.lanes-test.true, ap (λ (xs : List JudgedLane). length xs) c.deref-lane-items.ensures.value) in
      let own : IsLaneIn s (i + 1) lane = subst (IsLaneIn s (i + 1)) (sym is) (of.each i lane there) in
      let done : IsLaneComplete s (i + 1) (model_of lane) = subst (λ (l : JudgedLane). IsLaneComplete s (i + 1) (model_of l)) (sym is) (complete_at s j complete i lane there) in
      sym c.if-not-is_complete.true ∙ (c.is_complete.ensures s own.of).1 (subst (λ (k : ℕ). IsLaneComplete s k (model_of lane)) (sym own.number) done)),
)

pub returns : goal.returns
returns c = λ s of. (
  (λ yes. complete_by s c.args.self.now (λ i d low. c.lanes.invariant s of i d (omega (arith, low, c.lanes-test.false, ap (λ (xs : List JudgedLane). length xs) c.deref-lane-items.ensures.value)))),
  (λ complete. refl),
)
