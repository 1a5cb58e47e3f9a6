use Rattle.std.proofs.Common.{◌≡◌, ℕ, ◌+◌, [], ◌∷◌, ◌++◌, replicate, refl, sym}
use Rattle.std.proofs.lemmas.List.{replicate-append-replicate}
use Rattle.mig_medium.specs.Memory.{zero_blocks}

pub zero_blocks-zero : zero_blocks 0 ≡ []
unfolding zero_blocks
zero_blocks-zero = refl

-- one block more
pub zero_blocks-more : (n : ℕ) → zero_blocks (n + 1) ≡ zero_blocks n ++ replicate 512 0 ∷ []
unfolding zero_blocks
zero_blocks-more n = sym (replicate-append-replicate n 1 (replicate 512 0))
