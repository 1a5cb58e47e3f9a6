use Rattle.std.proofs.Common.{List, arith, length, subst, sym}
use Rattle.ctl_state.specs.declared.image.PairState.{PairState}
use Rattle.ctl_state.specs.Image.{IsImage}
use Rattle.nvmigrate_c.proofs.PairLemmas.{image_is}
use Rattle.nvmigrate_c.proofs.parts.nvmigrate_image_encode.Goals as goal

pub encode-requires : goal.encode-requires
encode-requires c =
    subst (λ (ps : List PairState). IsImage (length c.args.pairs.now) (record { pairs = ps; used = length c.args.pairs.now })) (sym c.in-Some.ensures.1)
    (image_is c.args.pairs.now (omega arith) c.in-Some.ensures.0)
