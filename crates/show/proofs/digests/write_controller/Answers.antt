use Rattle.std.proofs.Common.{◌≡◌, ap, ◌∙◌}
use Rattle.nvm_identify.specs.Controller.{controller_bytes, own}
use Rattle.show.proofs.digests.write_controller.Goals as goal

pub returns : goal.returns
returns g c =
    let made : c.to_bytes.new.out ≡ controller_bytes own = c.to_bytes.ensures.bytes ∙ ap controller_bytes c.own_controller.ensures in
    rw made at c.write_digest.ensures
