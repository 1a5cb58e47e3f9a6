use Rattle.std.proofs.Common.{◌≡◌, sym, ◌∙◌, arith}
use Rattle.manager.specs.Parts.{part_length}
use Rattle.manager.proofs.StepLemmas.{begins_on, fed_last, fed_next, length-whole_parts, size_kept}
use Rattle.manager.proofs.steps.hand_over.Goals as goal

pub hand_part-requires-clause-begins : goal.hand_part-requires-clause-begins
hand_part-requires-clause-begins g c = begins_on c.requires.begins c.parts.invariant.fed

pub hand_part-requires-clause-left : goal.hand_part-requires-clause-left
hand_part-requires-clause-left g c = omega (arith, c.requires.begins.image.is.few, c.parts.invariant.fed.asked.left, length-whole_parts 0 c.parts.whole)

pub parts-preserved : goal.parts-preserved
parts-preserved g c =
    let fed = c.parts.invariant.fed in
    let whole : part_length c.parts.whole (g.P.Port.state c.parts.port).from.controller ≡ 64 = sym c.hand_part.ensures.count ∙ c.parts-test.true in
    record {
      fed = fed_next c.parts.whole fed c.hand_part.ensures.handed whole;
      there = omega (arith, size_kept fed, whole);
    }

pub returns : goal.returns
returns g c =
    let fed = c.parts.invariant.fed in
    fed_last c.parts.whole (begins_on c.requires.begins fed) (omega (arith, size_kept fed, c.parts.invariant.there)) fed c.hand_part.ensures.handed (λ is. c.parts-test.false (c.hand_part.ensures.count ∙ is))
