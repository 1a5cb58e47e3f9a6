use Rattle.std.specs.Prelude.{List, [], Vec, Option, Some, None}
use Rattle.std.specs.declared.alloc.Global.{Global}
use Rattle.guest_ram.specs.Window.{WindowState}

-- the windows that are there
abbrev pub held : Option (Vec WindowState Global) → List WindowState
held None = []
held (Some windows) = windows.items
