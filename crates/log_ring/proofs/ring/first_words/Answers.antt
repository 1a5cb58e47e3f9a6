use Rattle.std.proofs.Common.{rules, arith, ◌≡◌, ◌+◌, ◌++◌, ◌∷◌, [], ℕ, List, ap, ◌∙◌, get_or, length, length-append, sym}
use Rattle.std.proofs.lemmas.List.{get_or_append_left}
use Rattle.log_ring.specs.Words.{entry_word}
use Rattle.log_ring.proofs.Cells.{pushed_at}
use Rattle.log_ring.proofs.ring.first_words.Goals as goal

pub loop-i-preserved : goal.loop-i-preserved
loop-i-preserved c =
    let inv = c.loop-i.invariant in
    let ws = c.loop-i.words.items in
    let x = c.word_of.result in
    let i = c.loop-i.i in
    let new : c.push_reserved-in-loop-i.new.self.items ≡ ws ++ x ∷ [] = c.push_reserved-in-loop-i.ensures.items in
    let at : (k : ℕ) → get_or c.push_reserved-in-loop-i.new.self.items k 0 ≡ get_or (ws ++ x ∷ []) k 0 = λ k. ap (λ (l : List ℕ). get_or l k 0) new in
    let cell = c.cell.ensures in
    record {
      long = ap length new ∙ omega (arith, length-append ws (x ∷ []), inv.long);
      wide = search rules;
      ends = (
        at 0 ∙ (get_or_append_left ws (x ∷ []) 0 0 (omega (arith, inv.long)) ∙ inv.ends.0),
        at 1 ∙ (get_or_append_left ws (x ∷ []) 0 1 (omega (arith, inv.long)) ∙ inv.ends.1),
        at 2 ∙ (get_or_append_left ws (x ∷ []) 0 2 (omega (arith, inv.long)) ∙ inv.ends.2),
      );
      entries = λ k b phase lt is same. at (k + 3) ∙ pushed_at ws x i k (entry_word b phase) inv.long lt (λ less. inv.entries k b phase less is same)
          (λ e. c.word_of.ensures.entry b phase is (same ∙ (ap (λ (j : ℕ). get_or c.args.q.now.cells j []) e ∙ sym cell)));
      zeroes = λ k lt same. at (k + 3) ∙ pushed_at ws x i k 0 inv.long lt (λ less. inv.zeroes k less same)
          (λ e. c.word_of.ensures.zeroes (cell ∙ (ap (λ (j : ℕ). get_or c.args.q.now.cells j []) (sym e) ∙ same)));
    }

pub returns-clause-cells : goal.returns-clause-cells
returns-clause-cells c = record {
  entries = λ i b phase lt is same. c.loop-i.invariant.entries i b phase (omega (arith, lt, c.loop-i-test.false, c.size-size.ensures)) is same;
  zeroes = λ i lt same. c.loop-i.invariant.zeroes i (omega (arith, lt, c.loop-i-test.false, c.size-size.ensures)) same;
}
