use Rattle.std.proofs.Common.{◌≡◌, ◌*◌, List, ℕ, arith, ap, ◌∙◌}
use Rattle.std.proofs.lemmas.Result.{IfOk-at_ok, MatchResult-at_ok}
use Rattle.nvm_values.specs.Sqe.{sqe_bytes, sqe_of}
use Rattle.nvm_values.proofs.SqeLemmas.{length-sqe_bytes}
use Rattle.nvm_model.specs.declared.ring.RingState.{RingState}
use Rattle.nvm_model.specs.Memory.{page_at, with_bytes, written}
use Rattle.nvm_model.specs.Ring.{cell}
use Rattle.nvm_model.proofs.CellLemmas.{cell_back}
use Rattle.lanes.proofs.act.submit.Goals as goal

-- the window's pages after the entry was put into its place
pub returns-clause-pages : goal.returns-clause-pages
returns-clause-pages c =
    let was = c.args.window.now.pages in
    let bytes = sqe_bytes c.args.entry.now in
    let at = 64 * c.args.sq.now.tail in
    let place = ap (λ (r : RingState). r.tail) c.state-place.ensures.value in
    let put : c.submit.new.page ≡ written (page_at was 0) at bytes = MatchResult-at_ok (λ _. c.submit.new.page ≡ written c.page.result.now at bytes) (λ _. c.submit.new.page ≡ c.page.result.now) c.unwrap-tail.result c.unwrap-tail.ensures c.submit.ensures.page ∙ ap (λ (p : List ℕ). written p at bytes) c.page.ensures.value in
    let sound = c.state-place.ensures.sound in
    (cell_back 64 0 c.args.sq.now.tail was c.keep_entry.new.window.pages c.submit.new.page bytes (omega (arith, c.requires.pages)) (length-sqe_bytes c.args.entry.now) c.submit.array_long
    (omega (arith, place, sound.tail, sound.at_most)) put (c.keep_entry.ensures.pages ∙ ap (λ (n : ℕ). with_bytes was 0 (64 * n) (cell 64 n c.submit.new.page)) place)).0

pub returns-clause-back : goal.returns-clause-back
returns-clause-back c = IfOk-at_ok (λ _. sqe_of (sqe_bytes c.args.entry.now) ≡ c.args.entry.now) c.unwrap-tail.ensures c.submit.ensures.back
