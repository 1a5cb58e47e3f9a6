use Rattle.std.proofs.Common.{rules, arith, ◌≡◌, ◌+◌, ◌%◌, ◌<◌, ◌≤◌, [], ℕ, List, ap, ◌∙◌, get_or, inr, length-set, sym}
use Rattle.std.specs.Mem.Slots.{slots_items}
use Rattle.nvm_model.specs.Event.{phase_of}
use Rattle.data_queue.specs.Change.{change_bytes}
use Rattle.log_ring.specs.Words.{change_in}
use Rattle.log_ring.proofs.Cells.{others_more, value_at, writes_back, writes_more}
use Rattle.log_ring.proofs.end.write_back.Goals as goal

pub loop-at-preserved : goal.loop-at-preserved
loop-at-preserved c =
    let n = c.len-size.result in
    let at = c.loop-at.at in
    let ws = slots_items c.args.closed.now.words in
    let was = c.loop-at.cells.items in
    let G : ℕ → List ℕ = λ p. change_bytes (change_in (get_or ws (p % n + 3) 0)) (phase_of n p) in
    let word : c.word.result ≡ get_or ws (at % n + 3) 0 = sym (value_at ws (at % n + 3) c.word.result c.word.ensures) in
    let here : c.to_bytes.result ≡ G at = c.to_bytes.ensures.bytes ∙ (ap (λ k. change_bytes k c.phase_at.result) c.to_change.ensures ∙ (ap (λ (k : ℕ). change_bytes (change_in k) c.phase_at.result) word ∙ ap (change_bytes (change_in (get_or ws (at % n + 3) 0))) c.phase_at.ensures)) in
    let from : c.max-first.result ≤ at = omega arith in
    let near : at < c.max-first.result + n = omega arith in
    let some : 0 < n = omega arith in
    record {
      upto = inr (omega arith);
      long = length-set was (at % n) c.to_bytes.result ∙ c.loop-at.invariant.long;
      written = writes_more n c.max-first.result at G [] c.to_bytes.result was was c.loop-at.invariant.long near some from c.loop-at.invariant.written here;
      others = λ i apart. others_more n c.max-first.result at i [] c.to_bytes.result c.args.cells.now.items was from (c.loop-at.invariant.others i) apart;
    }

pub returns-clause-cells : goal.returns-clause-cells
returns-clause-cells c = writes_back (slots_items c.args.closed.now.words) c.args.from c.args.last c.len-size.result c.args.cells.now.items c.loop-at.cells.items (search rules)
    (λ p le lt. c.loop-at.invariant.written p (omega (arith, le)) (omega (arith, lt))) (λ i apart. c.loop-at.invariant.others i (λ p le lt. apart p (omega (arith, le)) (omega (arith, le, lt, c.loop-at.invariant.upto))))
