use Rattle.std.proofs.Common.{rules, arith, ◌≡◌, ◌≢◌, ◌∙◌, sym}
use Rattle.nvm_model.specs.Event.{phase_of}
use Rattle.log_rule.specs.Places.{tag}
use Rattle.log_ring.proofs.Cells.{stops_at, tagged_more}
use Rattle.log_ring.proofs.end.last_of.Goals as goal

pub returns-then-is_tagged-phase_at : goal.returns-then-is_tagged-phase_at
returns-then-is_tagged-phase_at c =
    let other : c.is_tagged.result ≢ c.phase_at.result = search rules in
    stops_at _ _ _ _ _ c.word.result (omega arith) (omega arith) (omega arith) c.loop-at.invariant c.word.ensures (λ e. other (c.is_tagged.ensures ∙ (e ∙ sym c.phase_at.ensures)))

pub loop-at-preserved : goal.loop-at-preserved
loop-at-preserved c =
    let same : tag c.word.result ≡ phase_of c.args.cells c.loop-at.at = search rules in
    tagged_more _ _ _ _ c.word.result c.loop-at.invariant c.word.ensures same
