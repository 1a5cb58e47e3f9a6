use Rattle.std.proofs.Common.{◌≡◌, ◌+◌, ◌<◌, ◌++◌, ◌∷◌, [], ℕ, List, Option, IfSome, length, slice_index_or, subst, sym, ap, ◌∙◌, arith}
use Rattle.std.proofs.lemmas.List.Elements.{All-push}
use Rattle.session.specs.declared.lane_run.LaneRun.{LaneRun}
use Rattle.session.specs.Lanes.{IsNewRun, IsRunOf}
use Rattle.mig_base.proofs.ListLemmas.{each_pushed}
use Rattle.session.proofs.session.make_runs.Goals as goal

pub loop-at-preserved : goal.loop-at-preserved
loop-at-preserved c =
    let s = c.args.script.now in
    let runs = c.loop-at.runs.items in
    let run = c.in_ok-make.field-0 in
    let count : length runs ≡ c.loop-at.at = c.loop-at.invariant.count in
    let lane : c.unwrap-lane.result ≡ length runs + 1 = subst (λ (o : Option ℕ). IfSome o (λ k. k ≡ c.loop-at.at + 1)) c.unwrap-lane.ensures c.new.ensures.value ∙ ap (λ (n : ℕ). n + 1) (sym count) in
    record {
      count = omega (arith, c.push_reserved.ensures.len, count);
      room = omega (arith, c.push_reserved.ensures.capacity, c.loop-at.invariant.room);
      runs = subst (λ (all : List LaneRun). (i : ℕ) (d : LaneRun) → i < c.loop-at.at + 1 → IsRunOf s (i + 1) (slice_index_or all i d)) (sym c.push_reserved.ensures.items)
          (subst (λ (n : ℕ). (i : ℕ) (d : LaneRun) → i < n + 1 → IsRunOf s (i + 1) (slice_index_or (runs ++ run ∷ []) i d)) count
          (each_pushed (λ (i : ℕ). IsRunOf s (i + 1)) runs run (λ i d there. c.loop-at.invariant.runs i d (omega (arith, there, count))) (subst (λ (k : ℕ). IsRunOf s k run) lane c.in_ok-make.ensures.run)));
      new = rw c.push_reserved.ensures.items (All-push (IsNewRun s) runs run c.loop-at.invariant.new c.in_ok-make.ensures.new);
    }
