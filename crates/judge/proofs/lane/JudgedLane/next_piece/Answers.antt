use Rattle.std.proofs.Common.{◌≡◌, ◌≤◌, ◌∙◌, length, sym, ap, subst}
use Rattle.nvm_model.specs.declared.piece.Piece.{Piece}
use Rattle.guest_ram.specs.Window.{data_pages}
use Rattle.nvm_blocks.specs.Work.{IsForShelf}
use Rattle.nvm_cmd.specs.Answer.{job_of}
use Rattle.nvm_cmd.specs.Cut.{IsPartOf, piece_of}
use Rattle.nvm_cmd.specs.declared.job.Job.{Job}
use Rattle.judge.proofs.LaneLemmas.{next_fits}
use Rattle.judge.proofs.lane.JudgedLane.next_piece.Goals as goal

pub returns-clause-fits : goal.returns-clause-fits
returns-clause-fits c =
    let j = c.args.self.now in
    let found = c.args.found.now in
    let named : Job → Piece = λ job. piece_of j.lane j.shelf found.work.done job in
    let job = c.job_of-job.ensures in
    let value : c.piece.result ≡ named (job_of found.command.cid found.work) = c.piece.ensures.value ∙ ap named job in
    let some : 1 ≤ c.job_of-job.result.span.count = subst (λ (x : Job). 1 ≤ x.span.count) (sym job) c.requires.doable.some in
    let part : IsPartOf j.shelf found.work.span (named (job_of found.command.cid found.work)).span =
    subst (λ (p : Piece). IsPartOf j.shelf found.work.span p.span) value (subst (λ (x : Job). IsPartOf j.shelf x.span c.piece.result.span) job (c.piece.ensures.part some)) in
    subst (λ (p : Piece). IsForShelf 0 j.blocks (length (data_pages j.window)) p) (sym value) (next_fits j found.command found.work c.requires.sound c.requires.doable part)
