use Rattle.std.proofs.Common.{◌≡◌, ◌-◌, ◌≤◌, take, length}
use Rattle.mig_base.specs.Stream.{with_more}
use Rattle.mig_base.proofs.streams.send.Given as goal

abbrev pub invariant-loop-sent : goal.invariant-loop-sent
invariant-loop-sent g l =
    (l.sent ≤ length l.piece)
    × (g.K.Sink.bytes l.sink ≡ with_more (take l.sent l.piece) (g.K.Sink.bytes l.initial.sink))
    × (g.K.Sink.faults l.sink ≡ g.K.Sink.faults l.initial.sink)

abbrev pub decreases-loop-sent : goal.decreases-loop-sent
decreases-loop-sent g l = length l.piece - l.sent
