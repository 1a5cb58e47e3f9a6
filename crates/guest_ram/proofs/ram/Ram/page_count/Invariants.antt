use Rattle.std.proofs.Common.{◌≡◌, ◌*◌, ◌≤◌, length, take}
use Rattle.guest_ram.specs.Ram.{all_pages}
use Rattle.guest_ram.proofs.ram.Ram.page_count.Given as goal

abbrev pub invariant-loop-window : goal.invariant-loop-window
invariant-loop-window l = record {
  value : l.count ≡ length (all_pages (take l.window-index l.windows));
  few : l.count ≤ 258 * l.window-index;
}
