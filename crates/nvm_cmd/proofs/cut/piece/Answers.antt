use Rattle.std.proofs.Common.{subst, sym}
use Rattle.mig_base.specs.declared.span.Span.{Span}
use Rattle.nvm_cmd.specs.Cut.{IsPartOf}
use Rattle.nvm_cmd.proofs.CutLemmas.{part_in_shelf}
use Rattle.nvm_cmd.proofs.cut.piece.Goals as goal

pub returns-clause-part : goal.returns-clause-part
returns-clause-part c some =
    subst (λ (s : Span). IsPartOf c.args.shelf c.args.job.now.span s) (sym c.part-span.ensures.value)
    (part_in_shelf c.args.shelf c.args.job.now.span c.args.i c.requires.shelf c.requires.there some)
