use Rattle.std.proofs.Common.{◌≡◌, slice_index_or, ◌∙◌, arith}
use Rattle.std.proofs.lemmas.Grind.{get_or_default_zero}
use Rattle.manager.proofs.OwedLemmas.{found_lowest, group_there, some_group}
use Rattle.manager.proofs.owed.Owed.take_lowest.Goals as goal

pub overflow_mul-group : goal.overflow_mul-group
overflow_mul-group c =
    let low = some_group _ _ _ c.self.invariant (omega (arith, c.if-self-eq0.false)) c.first_counted-group.result c.first_counted-group.ensures.there c.first_counted-group.ensures.none in
    omega (arith, c.self.invariant.few, group_there _ _ _ c.self.invariant c.first_counted-group.result low (c.first_counted-group.ensures.some low))

pub first_owed-at-requires : goal.first_owed-at-requires
first_owed-at-requires c =
    let low = some_group _ _ _ c.self.invariant (omega (arith, c.if-self-eq0.false)) c.first_counted-group.result c.first_counted-group.ensures.there c.first_counted-group.ensures.none in
    omega (arith, group_there _ _ _ c.self.invariant c.first_counted-group.result low (c.first_counted-group.ensures.some low))

pub index_mut-requires : goal.index_mut-requires
index_mut-requires c =
    let lowest = found_lowest _ _ _ c.self.invariant (omega (arith, c.if-self-eq0.false)) _ _ c.first_counted-group.ensures.there c.first_counted-group.ensures.none c.first_counted-group.ensures.some
    c.first_owed-at.ensures.there.0 c.first_owed-at.ensures.there.1 c.first_owed-at.ensures.none c.first_owed-at.ensures.owed in
    omega (arith, lowest.there)

pub invariant_of-self : goal.invariant_of-self
invariant_of-self c =
    let lowest = found_lowest _ _ _ c.self.invariant (omega (arith, c.if-self-eq0.false)) _ _ c.first_counted-group.ensures.there c.first_counted-group.ensures.none c.first_counted-group.ensures.some
    c.first_owed-at.ensures.there.0 c.first_owed-at.ensures.there.1 c.first_owed-at.ensures.none c.first_owed-at.ensures.owed in
    let low = some_group _ _ _ c.self.invariant (omega (arith, c.if-self-eq0.false)) c.first_counted-group.result c.first_counted-group.ensures.there c.first_counted-group.ensures.none in
    let one : c.index_mut-2.result.now ≡ slice_index_or c.self.inside.counts.items c.first_counted-group.result 0
    = c.index_mut-2.ensures.value ∙ get_or_default_zero c.self.inside.counts.items c.first_counted-group.result c.index_mut-2.result.now low in
    rw one lowest.counted

pub returns-clause-some : goal.returns-clause-some
returns-clause-some c =
    let lowest = found_lowest _ _ _ c.self.invariant (omega (arith, c.if-self-eq0.false)) _ _ c.first_counted-group.ensures.there c.first_counted-group.ensures.none c.first_counted-group.ensures.some
    c.first_owed-at.ensures.there.0 c.first_owed-at.ensures.there.1 c.first_owed-at.ensures.none c.first_owed-at.ensures.owed in
    rw (← c.self.view_is) (lowest.there, lowest.places)
