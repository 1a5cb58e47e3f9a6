use Rattle.std.proofs.Common.{◌≡◌, ℕ, map}
use Rattle.std.specs.List.{range_with_len}
use Rattle.nvm_cmd.specs.Cut.{piece_of}
use Rattle.controller.specs.Pair.{with_pieces}
use Rattle.controller.proofs.pair.plan_job.Given as goal

abbrev pub invariant-loop-i : goal.invariant-loop-i
invariant-loop-i l = record {
  planned : l.plan ≡ with_pieces l.lane (map (λ (i : ℕ). piece_of l.lane l.shelf i l.job) (range_with_len 0 l.i)) l.fn.plan;
}
