use Rattle.std.specs.Prelude.{List, ℕ, length, take, drop, slice_set, ◌++◌, ◌-◌}
use Rattle.std.specs.Borrow.{Lends, MutBor, Fml, Array}
use Rattle.guest_ram.specs.Window.{WindowState}
use Rattle.guest_ram.specs.contracts.ram.Ram.{the_row}
use Rattle.guest_ram.specs.contracts.window.Window.{the_row as window_row}

-- the memory ends with the windows that r shows last, which are as many as before
abbrev pub LendsWindows : MutBor (List WindowState) → MutBor (List WindowState) → Fml
LendsWindows ram r = Lends the_row (Array window_row 0) ram r (λ w. take (length ram.now) (w ++ drop (length w) ram.now))

-- the memory ends with lane k's window as r shows it last, and the others as they were
abbrev pub LendsWindow : ℕ → MutBor (List WindowState) → MutBor WindowState → Fml
LendsWindow k ram r = Lends the_row window_row ram r (λ w. slice_set ram.now (k - 1) w)
