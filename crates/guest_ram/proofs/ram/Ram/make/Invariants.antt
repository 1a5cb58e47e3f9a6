use Rattle.std.proofs.Common.{◌≡◌, ◌+◌, ◌++◌, drop, length}
use Rattle.guest_ram.specs.Ram.{windows_made}
use Rattle.guest_ram.proofs.ram.Ram.make.Given as goal

abbrev pub invariant-loop-i : goal.invariant-loop-i
invariant-loop-i l = record {
  made : l.windows.items ++ windows_made (l.i + 1) (drop l.i l.data_pages) ≡ windows_made 1 l.data_pages;
  count : length l.windows.items ≡ l.i;
}
