use Rattle.std.proofs.Common.{◌≡◌, ap, ◌∙◌}
use Rattle.nvm_identify.specs.Namespace.{namespace_bytes, own_of}
use Rattle.show.proofs.digests.write_namespace.Goals as goal

pub returns : goal.returns
returns g c =
    let made : c.to_bytes.new.out ≡ namespace_bytes (own_of c.args.blocks) = c.to_bytes.ensures.bytes ∙ ap namespace_bytes c.own_namespace.ensures in
    rw made at c.write_digest.ensures
