use Rattle.std.specs.Prelude.{ℕ, List, [], drop}
use Rattle.nvm_model.specs.Memory.{with_bytes}

-- a lane's window: page 0 is the submission queue, page 1 the completion queue, and the data pages come after them
pub record WindowState : Type 0 where
  pub lane : ℕ
  pub pages : List (List ℕ)

-- those behind the two queue pages
abbrev pub data_pages : WindowState → List (List ℕ)
data_pages w = drop 2 w.pages

-- the window after the controller wrote bytes into window page j, from byte `at` of it on
abbrev pub ctrl_written : WindowState → ℕ → ℕ → List ℕ → WindowState
ctrl_written w j at bytes = record w { pages = with_bytes w.pages j at bytes }

-- what a look-up past the last window gives
abbrev pub no_window : WindowState
no_window = record { lane = 0; pages = [] }
