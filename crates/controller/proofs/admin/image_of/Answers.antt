use Rattle.std.proofs.Common.{arith, subst, ◌∙◌, ap}
use Rattle.ctl_state.specs.declared.image.PairState.{PairState as PairImage}
use Rattle.ctl_state.specs.Image.{IsPair}
use Rattle.ctl_state.specs.Admin.{image_of}
use Rattle.controller.proofs.AdminLemmas.{image_sound, image_step}
use Rattle.controller.proofs.admin.image_of.Goals as goal

pub pairs-preserved : goal.pairs-preserved
pairs-preserved c =
    let d = c.index-pairs-place.result in
    let rings = c.image.ensures.rings ∙ ap image_of c.index-pairs-place.is in
    record {
      filled = image_step c.args.pairs.now c.pairs.images c.image.result c.pairs.place d (omega (arith, c.pairs-test.true)) (omega (arith, c.requires, c.pairs-test.true)) c.pairs.invariant.filled rings;
      sound = image_sound c.args.pairs.now c.pairs.place d (omega (arith, c.pairs-test.true)) c.pairs.invariant.sound (subst (λ (i : PairImage). IsPair i) rings c.image.ensures.sound);
    }
