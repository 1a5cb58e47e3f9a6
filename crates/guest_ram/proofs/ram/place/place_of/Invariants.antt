use Rattle.std.proofs.Common.{◌≡◌, ◌+◌, length, take}
use Rattle.guest_ram.specs.Ram.{all_pages}
use Rattle.guest_ram.proofs.ram.place.place_of.Given as goal

abbrev pub invariant-loop-i : goal.invariant-loop-i
invariant-loop-i l = l.page ≡ length (all_pages (take l.i l.windows)) + l.rest
