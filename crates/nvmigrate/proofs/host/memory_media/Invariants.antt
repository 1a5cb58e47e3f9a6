use Rattle.std.proofs.Common.{◌≡◌, ◌≤◌, All, length}
use Rattle.nvmigrate.specs.Hosts.{IsZeroed}
use Rattle.nvmigrate.proofs.host.memory_media.Given as goal

abbrev pub invariant-loop : goal.invariant-loop
invariant-loop l = (length l.media.items ≡ l.counter) × (l.counter ≤ l.count) × All (IsZeroed l.blocks) l.media.items
