use Rattle.std.proofs.Common.{◌≡◌, map, drop}
use Rattle.nvm_model.specs.Medium.{sizes_in}
use Rattle.engine.specs.Sizes.{first_difference}
use Rattle.engine.proofs.hosts.host_difference.Given as goal

abbrev pub invariant-loop-medium : goal.invariant-loop-medium
invariant-loop-medium g l =
    let medium = g.M.Medium in
    record {
      first : first_difference (map (λ size. (size, l.shelf)) (sizes_in medium.state (drop l.medium-index l.host.shelves.items))) ≡ first_difference (map (λ size. (size, l.shelf)) (sizes_in medium.state l.host.shelves.items));
    }
