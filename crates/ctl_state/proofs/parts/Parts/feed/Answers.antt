use Rattle.std.proofs.Common.{rules, ◌≡◌, ◌⊎◌, ◌≤◌, Err, inl, inr, arith, length, subst, take}
use Rattle.ctl_state.specs.declared.parts.PartRefusal.TheVariants.{BadImage}
use Rattle.ctl_state.specs.Parts.{Feeds, PartsState}
use Rattle.ctl_state.proofs.ImageLemmas.{bad_part}
use Rattle.ctl_state.proofs.parts.Parts.feed.Goals as goal
use Rattle.ctl_state.proofs.parts.Parts.feed.Goals.{else-offset-ne0-via-then-offset-ne0+else-offset-self, else-offset-ne0-via-else-offset-ne0}

pub returns-in-Some : goal.returns-in-Some
returns-in-Some c =
    let next : (c.args.offset ≡ 0) ⊎ (c.args.offset ≡ c.self.inside.fed) = elim c.else-offset-ne0.branch [ else-offset-ne0-via-then-offset-ne0+else-offset-self w ↦ inr (search rules) | else-offset-ne0-via-else-offset-ne0 w ↦ inl (search rules) ] in
    let long = c.self.told in
    let few = c.self.invariant in
    let fits : c.self.inside.fed ≤ length c.self.inside.bytes = omega (arith, few.1, few.2, long) in
    subst (λ (s : PartsState). Feeds c.args.offset c.args.part.now (Err (BadImage c.in-Some.place)) s (record { lanes = c.self.inside.lanes; bytes = take c.args.offset c.put.new.bytes })) c.self.view_is
    (bad_part c.self.inside.lanes c.args.offset c.self.inside.fed c.in-Some.place c.self.inside.bytes c.put.new.bytes c.args.part.now next fits (omega arith) c.put.ensures c.in-Some.ensures)
