use Rattle.std.proofs.Common.{rules, ℕ, List, [], arith, slice_index, subst, take}
use Rattle.std.proofs.lemmas.List.{length-take-le, take_all}
use Rattle.ctl_state.specs.Bounds.{Follows, IsWithin, bounds_after}
use Rattle.ctl_state.proofs.ImageLemmas.{begins, follows, last_within, one_more}
use Rattle.ctl_state.proofs.bounds.first_bad.Goals as goal

pub loop-place-init : goal.loop-place-init
loop-place-init c = follows c.args.lanes (take c.args.from c.args.bytes.now) c.requires.begun

pub loop-place-preserved : goal.loop-place-preserved
loop-place-preserved c = one_more c.args.lanes c.loop-place.place c.args.bytes.now (omega arith) c.loop-place.invariant (search rules)

pub returns-then-not-contains : goal.returns-then-not-contains
returns-then-not-contains c =
    let place : ℕ = c.loop-place.place in
    let outside : IsWithin (bounds_after c.args.lanes (take place c.args.bytes.now)) (slice_index c.args.bytes.now place) → ⊥ = search rules in
    record {
      there = c.loop-place-test.true;
      before = begins c.args.lanes (take place c.args.bytes.now) c.requires.size.0 (omega (arith, c.requires.size.1, length-take-le place c.args.bytes.now (omega arith))) c.loop-place.invariant;
      no_more = λ more. outside (last_within c.args.lanes place c.args.bytes.now c.loop-place-test.true more);
    }

pub returns : goal.returns
returns c =
    let all = subst (λ (b : List ℕ). Follows (bounds_after c.args.lanes) [] b) (take_all c.loop-place.place c.args.bytes.now (omega arith)) c.loop-place.invariant in
    begins c.args.lanes c.args.bytes.now c.requires.size.0 c.requires.size.1 all
