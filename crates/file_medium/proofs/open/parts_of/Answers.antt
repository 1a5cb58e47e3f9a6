use Rattle.std.proofs.Common.{◌≡◌, ◌++◌, [], ◌∷◌, ap, ◌∙◌, arith}
use Rattle.file_medium.specs.Part.{Part, parts}
use Rattle.file_medium.proofs.PartLemmas.{parts_more}
use Rattle.file_medium.proofs.open.parts_of.Goals as goal

pub returns-clause-media : goal.returns-clause-media
returns-clause-media g c =
    let last : c.loop-i.i ≡ c.in-Some.last = omega arith in
    c.push_reserved-2.ensures.items ∙ ap (λ (p : Part). c.loop-i.media.items ++ p ∷ []) c.over-2.ensures
    ∙ parts_more c.args.size c.in-Some.last c.args.count c.loop-i.media.items (omega arith) (c.loop-i.invariant.0 ∙ ap (parts c.args.size) last)
