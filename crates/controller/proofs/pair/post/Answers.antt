use Rattle.std.proofs.Common.{◌≡◌, ◌+◌, ◌*◌, ◌≤◌, subst, List, ℕ, arith, ap, sym, ◌∙◌}
use Rattle.std.proofs.lemmas.Result.{MatchResult-at_ok}
use Rattle.nvm_values.specs.Cqe.{cqe_bytes}
use Rattle.nvm_values.proofs.CqeLemmas.{length-cqe_bytes}
use Rattle.nvm_model.specs.declared.ring.RingState.{RingState}
use Rattle.nvm_model.specs.Memory.{page_at, with_bytes, written}
use Rattle.nvm_model.specs.Ring.{CqState, cell}
use Rattle.nvm_model.proofs.CellLemmas.{cell_back}
use Rattle.nvm_ring.specs.Moves.{after_post, with_phase}
use Rattle.nvm_ring.specs.Places.{IsRing}
use Rattle.controller.specs.Pair.{free_places}
use Rattle.controller.proofs.StepLemmas.{post_frees}
use Rattle.controller.proofs.pair.post.Goals as goal

pub returns-clause-written : goal.returns-clause-written
returns-clause-written c =
    let was = c.args.w.now.pages in
    let entry = with_phase c.args.cq.now.phase c.args.entry.now in
    let at = 16 * c.args.cq.now.ring.tail in
    let place = ap (λ (r : RingState). r.tail) c.state-place.ensures.value in
    let put : c.post.new.page ≡ written (page_at was 1) at (cqe_bytes entry) =
    MatchResult-at_ok (λ _. c.post.new.page ≡ written c.page.result.now at (cqe_bytes entry)) (λ _. c.post.new.page ≡ c.page.result.now) c.unwrap.result c.unwrap.ensures c.post.ensures.page
    ∙ ap (λ (p : List ℕ). written p at (cqe_bytes entry)) c.page.ensures.value in
    let sound = c.state-place.ensures.sound in
    let made : with_bytes was 1 (16 * c.state-place.result.tail) (cell 16 c.state-place.result.tail c.post.new.page) ≡ with_bytes was 1 at (cqe_bytes entry) =
    (cell_back 16 1 c.args.cq.now.ring.tail was _ c.post.new.page (cqe_bytes entry) (omega (arith, c.requires.pages)) (length-cqe_bytes entry) c.post.array_long
    (omega (arith, place, sound.tail, sound.at_most)) put (ap (λ (n : ℕ). with_bytes was 1 (16 * n) (cell 16 n c.post.new.page)) place)).0 in
    c.keep_completion.ensures.written ∙ ap (λ (ps : List (List ℕ)). record c.args.w.now { pages = ps }) made

pub returns-clause-frees : goal.returns-clause-frees
returns-clause-frees c =
    let cq = c.args.cq.now in
    let sound = subst (IsRing 256) c.state-place.ensures.value c.state-place.ensures.sound in
    let moved : c.post.new.self ≡ after_post cq = MatchResult-at_ok (λ _. c.post.new.self ≡ after_post cq) (λ _. c.post.new.self ≡ cq) c.unwrap.result c.unwrap.ensures c.post.ensures.moved in
    subst (λ (q : CqState). free_places cq ≤ free_places q + 1) (sym moved) (post_frees cq sound.head sound.tail c.requires.room)
