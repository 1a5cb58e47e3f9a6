use Rattle.std.specs.Prelude.{◌≡◌, ℕ, ◌+◌, ◌<◌, List, length, take, slice_index_or}
use Rattle.guest_ram.specs.Window.{WindowState, no_window}
use Rattle.guest_ram.specs.Ram.{all_pages}

-- the page of this number over all windows is page j of window i
pub record IsPlace (windows : List WindowState) (page i j : ℕ) : Type 0 where
  pub there : i < length windows
  pub within : j < length (slice_index_or windows i no_window).pages
  pub number : page ≡ length (all_pages (take i windows)) + j
