use Rattle.std.proofs.Common.{◌∙◌, sym}
use Rattle.std.proofs.lemmas.Bool.{false≢true}
use Rattle.judge.proofs.judging.fault_of.Goals as goal

pub is_complete-requires : goal.is_complete-requires
is_complete-requires c = (c.requires.of.0, c.take_line.ensures.of c.requires.of.0 c.requires.of.1)

pub returns-then-is_complete-clause-fault : goal.returns-then-is_complete-clause-fault
returns-then-is_complete-clause-fault c = λ s of. (
  c.if-not-take_line.ensures.step s of,
  (λ over. (c.is_complete.ensures s (c.take_line.ensures.of s of)).0 c.if-is_complete.true),
)

pub returns-else-is_complete-clause-fault : goal.returns-else-is_complete-clause-fault
returns-else-is_complete-clause-fault c = λ s of. (
  c.if-not-take_line.ensures.step s of,
  c.is_over.ensures.0 c.if-not-is_over.false,
  (λ complete. false≢true (sym c.if-is_complete.false ∙ (c.is_complete.ensures s (c.take_line.ensures.of s of)).1 complete)),
)
