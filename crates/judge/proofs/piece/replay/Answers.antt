use Rattle.std.proofs.Common.{◌≡◌, ◌∙◌, ℕ, List, Option, length, ap, subst, sym, arith}
use Rattle.std.proofs.lemmas.Bool.{false≢true}
use Rattle.nvm_model.specs.declared.command.Outcome.{Outcome}
use Rattle.guest_ram.specs.Window.{data_pages}
use Rattle.nvm_blocks.proofs.CallLemmas.{applied_size}
use Rattle.judge.specs.Piece.{EndsSo, failing_block, told_digest}
use Rattle.judge.specs.Replay.{ReplayState}
use Rattle.judge.proofs.PieceLemmas.{replayed}
use Rattle.judge.proofs.piece.replay.Goals as goal

pub returns-then-is_told-clause-ends : goal.returns-then-is_told-clause-ends
returns-then-is_told-clause-ends c =
    let piece = c.args.piece.now in
    let blocks = c.args.namespace.now.blocks in
    let memory = data_pages c.args.window.now in
    let new_blocks = c.do_piece-result.new.medium.blocks in
    let new_memory = data_pages c.do_piece-result.new.window in
    let digest = told_digest piece.op c.do_piece-result.result.digest in
    let failing : c.fail_at.new.self.failing ≡ failing_block piece.span.first c.args.outcome = ap (λ (r : ReplayState). r.failing) c.fail_at.ensures ∙ c.failing_block.ensures in
    let r = replayed c.args.outcome blocks (ap (λ (r : ReplayState). r.blocks) c.fail_at.ensures) failing (omega (arith, c.requires.piece.within, c.requires.few)) c.do_piece-result.ensures.applied in
    let told = c.is_told.ensures.0 c.if-is_told.true in
    subst (λ (d : Option (List ℕ)). EndsSo piece c.args.outcome d blocks memory new_blocks new_memory) told.1
    (subst (λ (o : Outcome). EndsSo piece o digest blocks memory new_blocks new_memory) told.0 r.ends)

pub returns-else-is_told-clause-ends : goal.returns-else-is_told-clause-ends
returns-else-is_told-clause-ends c = λ other ends.
    let piece = c.args.piece.now in
    let failing : c.fail_at.new.self.failing ≡ failing_block piece.span.first c.args.outcome = ap (λ (r : ReplayState). r.failing) c.fail_at.ensures ∙ c.failing_block.ensures in
    let r = replayed c.args.outcome c.args.namespace.now.blocks (ap (λ (r : ReplayState). r.blocks) c.fail_at.ensures) failing (omega (arith, c.requires.piece.within, c.requires.few)) c.do_piece-result.ensures.applied in
    false≢true (sym c.if-is_told.false ∙ c.is_told.ensures.1 (r.agrees c.args.digest other.0 other.1 ends))

pub returns-then-is_told-clause-size : goal.returns-then-is_told-clause-size
returns-then-is_told-clause-size c = applied_size c.do_piece-result.ensures.applied ∙ ap (λ (r : ReplayState). length r.blocks) c.fail_at.ensures

pub returns-else-is_told-clause-size : goal.returns-else-is_told-clause-size
returns-else-is_told-clause-size c = applied_size c.do_piece-result.ensures.applied ∙ ap (λ (r : ReplayState). length r.blocks) c.fail_at.ensures
