use Rattle.std.proofs.Common.{◌≡◌, ◌+◌, ◌-◌, ◌<◌, ◌≤◌, [], length, vec_len}
use Rattle.mig_base.specs.Stream.{Gathers}
use Rattle.mig_base.proofs.streams.collect_through.Given as goal

abbrev pub invariant-loop-bytes : goal.invariant-loop-bytes
invariant-loop-bytes g l =
    (0 < length l.piece)
    × (vec_len l.bytes ≤ l.most + 1)
    × Gathers (g.S.Source.left l.initial.source) [] (g.S.Source.left l.source) l.bytes.items
    × (g.S.Source.faults l.source ≡ g.S.Source.faults l.initial.source)

abbrev pub decreases-loop-bytes : goal.decreases-loop-bytes
decreases-loop-bytes g l = l.most + 1 - vec_len l.bytes
