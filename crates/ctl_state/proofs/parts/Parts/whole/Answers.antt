use Rattle.std.proofs.Common.{◌≡◌, ℕ, List, Some, ap, ◌∙◌, sym, arith, length, subst, take}
use Rattle.std.proofs.lemmas.List.{length-take-le}
use Rattle.ctl_state.specs.declared.image.PairState.{PairState}
use Rattle.ctl_state.specs.Parts.{IsWhole, PartsState, image_size}
use Rattle.ctl_state.proofs.ImageLemmas.{follows, whole_read, whole_same, whole_size}
use Rattle.ctl_state.proofs.parts.Parts.whole.Goals as goal

pub returns-then-self-from-clause-exact : goal.returns-then-self-from-clause-exact
returns-then-self-from-clause-exact c = λ image is.
    let size : length (take c.self.inside.fed c.self.inside.bytes) ≡ image_size c.self.inside.lanes
    = subst (λ (s : PartsState). length s.bytes ≡ image_size s.lanes) (sym c.self.view_is) (whole_size c.args.self.now.lanes c.args.self.now.bytes image is) in
    let few = c.self.invariant in
    let long = c.self.told in
    let fed = length-take-le c.self.inside.fed c.self.inside.bytes (omega (arith, few.1, few.2, long)) in
    absurd (omega (arith, size, fed))

pub returns-clause-found : goal.returns-clause-found
returns-clause-found c =
    let lanes : ℕ = c.self.inside.lanes in
    let w : List ℕ = take c.self.inside.fed c.self.inside.bytes in
    let few = c.self.invariant in
    let long = c.self.told in
    let size : length w ≡ image_size lanes = length-take-le c.self.inside.fed c.self.inside.bytes (omega (arith, few.1, few.2, long)) ∙ omega (arith, few.2) in
    subst (λ (s : PartsState). IsWhole s.lanes s.bytes (record { pairs = c.pairs_in.result; used = lanes })) c.self.view_is
    (subst (λ (ps : List PairState). IsWhole lanes w (record { pairs = ps; used = lanes })) (sym c.pairs_in.ensures) (whole_read lanes w few.1 size (follows lanes w few.3)))

pub returns-clause-exact : goal.returns-clause-exact
returns-clause-exact c = λ image is.
    let whole = subst (λ (s : PartsState). IsWhole s.lanes s.bytes image) (sym c.self.view_is) is in
    ap Some ((λ k. record { pairs = c.pairs_in.ensures k; used = c.self.inside.lanes }) ∙ whole_same c.self.inside.lanes (take c.self.inside.fed c.self.inside.bytes) image whole)
