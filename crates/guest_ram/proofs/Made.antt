use Rattle.std.proofs.Common.{◌≡◌, ℕ, zero, suc, ◌+◌, ◌<◌, List, [], ◌∷◌, length, replicate, slice_index_or, refl, sym, ap, ◌∙◌, add-zero, arith}
use Rattle.nvm_model.specs.Memory.{zero_page}
use Rattle.guest_ram.specs.Ram.{windows_made}
use Rattle.guest_ram.specs.Window.{no_window}

-- Windows as they are made.

-- a window as it is made
pub made_at : (k i : ℕ) (counts : List ℕ) → i < length counts → slice_index_or (windows_made k counts) i no_window ≡ record { lane = k + i; pages = replicate (slice_index_or counts i 0 + 2) zero_page }
made_at k i [] there = absurd (omega (arith, there))
made_at k zero (n ∷ counts) there = ap (λ (j : ℕ). record { lane = j; pages = replicate (n + 2) zero_page }) (sym (add-zero k))
made_at k (suc i) (n ∷ counts) there =
    let next : k + 1 + i ≡ k + suc i = omega arith in
    made_at (k + 1) i counts (omega (arith, there)) ∙ ap (λ (j : ℕ). record { lane = j; pages = replicate (slice_index_or counts i 0 + 2) zero_page }) next

pub made_count : (k : ℕ) (counts : List ℕ) → length (windows_made k counts) ≡ length counts
made_count k [] = refl
made_count k (n ∷ counts) = ap suc (made_count (k + 1) counts)
