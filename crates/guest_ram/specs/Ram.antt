use Rattle.std.specs.Prelude.{ℕ, ◌+◌, List, [], ◌∷◌, length, map, replicate}
use Rattle.std.specs.List.{flat_map}
use Rattle.nvm_model.specs.Memory.{zero_page}
use Rattle.guest_ram.specs.Window.{WindowState}

-- the windows as they are made, zeroed, for lanes from k on with so many data pages each
abbrev pub windows_made : ℕ → List ℕ → List WindowState
windows_made k [] = []
windows_made k (n ∷ ns) = record { lane = k; pages = replicate (n + 2) zero_page } ∷ windows_made (k + 1) ns

-- the window pages of all lanes, lane after lane
abbrev pub all_pages : List WindowState → List (List ℕ)
all_pages windows = flat_map (λ (w : WindowState). w.pages) windows

-- each window's lane and number of pages
abbrev pub shape : List WindowState → List (ℕ × ℕ)
shape windows = map (λ (w : WindowState). (w.lane, length w.pages)) windows
