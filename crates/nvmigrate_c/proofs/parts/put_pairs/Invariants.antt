use Rattle.std.proofs.Common.{◌≡◌, All, length, map, take}
use Rattle.nvmigrate_c.specs.Parts.{HasFlag, pair_in}
use Rattle.nvmigrate_c.proofs.parts.put_pairs.Given as goal

abbrev pub invariant-pairs : goal.invariant-pairs
invariant-pairs l = record { room : length l.out ≡ 8; pairs_are : map pair_in (take l.place l.out) ≡ take l.place l.pairs; flags : All HasFlag (take l.place l.out) }
