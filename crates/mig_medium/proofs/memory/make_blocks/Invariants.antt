use Rattle.std.proofs.Common.{◌≡◌, ◌≤◌, vec_capacity, vec_len}
use Rattle.mig_medium.specs.Memory.{zero_blocks}
use Rattle.mig_medium.proofs.memory.make_blocks.Given as goal

abbrev pub invariant-loop : goal.invariant-loop
invariant-loop l =
    (l.blocks.items ≡ zero_blocks l.counter)
    × (vec_len l.blocks ≡ l.counter)
    × (l.fn.count ≤ vec_capacity l.blocks)
