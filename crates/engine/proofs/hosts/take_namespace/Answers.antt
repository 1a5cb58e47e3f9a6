use Rattle.std.proofs.Common.{◌/◌, ℕ, length, replicate, ap, ◌∙◌}
use Rattle.engine.proofs.NamespaceLemmas.{all_of_size, same_media, is_namespace}
use Rattle.engine.proofs.hosts.take_namespace.Goals as goal

pub make-requires-clause-sizes : goal.make-requires-clause-sizes
make-requires-clause-sizes g c =
    let head = c.args.head.now in
    all_of_size (λ m. (g.M.Medium.state m).size) c.replace-media.result.items (head.blocks / head.shelf) head.shelf (same_media (λ m. (g.M.Medium.state m).size) (ap (λ media. media.items) c.replace-media.ensures.value) c.requires.sizes)

pub returns-in-Ok-clause-media : goal.returns-in-Ok-clause-media
returns-in-Ok-clause-media g c =
    let head = c.args.head.now in
    let media = ap (λ media. media.items) c.replace-media.ensures.value in (
      is_namespace (λ m. (g.M.Medium.state m).size) head c.replace-media.result.items c.in-Ok.namespace c.requires.head (same_media (λ m. (g.M.Medium.state m).size) media c.requires.sizes)
          c.in-Ok.ensures.media c.in-Ok.ensures.shelf (c.in-Ok.ensures.rooms ∙ ap (λ (room : ℕ). replicate (length c.replace-media.result.items) room) c.entries_of_turn.ensures),
      rw (c.in-Ok.ensures.media) media,
      rw (← c.in-Ok.ensures.shelf) c.has_sizes.ensures,
    )
