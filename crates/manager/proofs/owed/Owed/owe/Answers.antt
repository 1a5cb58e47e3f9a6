use Rattle.std.proofs.Common.{◌≡◌, ◌/◌, ◌<◌, Bool, get_or, length, slice_index_or, sym, subst, ◌∙◌, arith}
use Rattle.std.proofs.lemmas.Grind.{get_or_default_zero}
use Rattle.manager.proofs.OwedLemmas.{counted_owed, counts_fit}
use Rattle.manager.proofs.owed.Owed.owe.Goals as goal

pub overflow_add-self : goal.overflow_add-self
overflow_add-self c =
    let not = sym (subst (λ (b : Bool). b ≡ get_or c.self.inside.places.items c.args.place b) c.if-index.false c.index.ensures) in
    omega (arith, (counts_fit _ _ _ c.self.invariant c.args.place (rw (← c.self.view_is) at c.requires) not).0)

pub overflow_add-index_mut : goal.overflow_add-index_mut
overflow_add-index_mut c =
    let not = sym (subst (λ (b : Bool). b ≡ get_or c.self.inside.places.items c.args.place b) c.if-index.false c.index.ensures) in
    let there = rw (← c.self.view_is) at c.requires in
    let low : c.args.place / 512 < length c.self.inside.counts.items = omega (arith, there, c.self.invariant.there) in
    omega (arith, c.index_mut-2.ensures.value, get_or_default_zero c.self.inside.counts.items (c.args.place / 512) c.index_mut-2.result.now low, (counts_fit _ _ _ c.self.invariant c.args.place there not).1)

pub invariant_of-self : goal.invariant_of-self
invariant_of-self c =
    let not = sym (subst (λ (b : Bool). b ≡ get_or c.self.inside.places.items c.args.place b) c.if-index.false c.index.ensures) in
    let there = rw (← c.self.view_is) at c.requires in
    let low : c.args.place / 512 < length c.self.inside.counts.items = omega (arith, there, c.self.invariant.there) in
    let one : c.index_mut-2.result.now ≡ slice_index_or c.self.inside.counts.items (c.args.place / 512) 0 = c.index_mut-2.ensures.value ∙ get_or_default_zero c.self.inside.counts.items (c.args.place / 512) c.index_mut-2.result.now low in
    rw one (counted_owed _ _ _ c.self.invariant c.args.place there not)
