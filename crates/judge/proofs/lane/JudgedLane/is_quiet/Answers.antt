use Rattle.std.proofs.Common.{◌≡◌, ◌∙◌, length, sym}
use Rattle.std.proofs.lemmas.Bool.{eqb-true, eq-eqb}
use Rattle.judge.proofs.LaneLemmas.{all_quiet, quiet_all}
use Rattle.judge.proofs.lane.JudgedLane.is_quiet.Goals as goal

pub returns : goal.returns
returns c =
    let j = c.args.self.now in
    let count : c.len.result ≡ length j.submitted.items = c.len.ensures ∙ j.submitted.ok.0 in
    (λ is. quiet_all j c.requires (eqb-true j.reaped c.len.result is ∙ count), λ quiet. eq-eqb j.reaped c.len.result (all_quiet j c.requires quiet ∙ sym count))
