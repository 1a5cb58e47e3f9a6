use Rattle.std.proofs.Common.{[], ◌∷◌, ◌++◌, ◌∙◌, arith}
use Rattle.nvm_model.proofs.ChainLemmas.{chain_push}
use Rattle.manager.specs.Work.{DoesOne}
use Rattle.manager.proofs.WorkLemmas.{lessens}
use Rattle.manager.proofs.work.Work.all.Goals as goal

pub copies-preserved : goal.copies-preserved
copies-preserved g c =
    let was = c.copies.invariant in
    let one = c.one.ensures.does in
    let less = lessens _ _ one.1 in
    record {
      run = (was.run.0 ++ one.0 ∷ [], chain_push (DoesOne g.W.WorkPort.works) _ was.run.0 _ one.0 _ was.run.1 one.1);
      left = omega (arith, was.left, less.due, less.left);
      fits = (less.owed ∙ omega (arith, was.fits.0, less.count), omega (arith, less.owed, was.fits.1));
      seated = c.one.ensures.seated;
    }
