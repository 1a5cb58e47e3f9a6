use Rattle.std.proofs.Common.{length}
use Rattle.judge.specs.World.{IsWorldOf, world_of}
use Rattle.judge.proofs.VerdictLemmas.{IsJudged}
use Rattle.judge.proofs.judging.judge.Given as goal

abbrev pub invariant-lines : goal.invariant-lines
invariant-lines l = record {
  of : IsWorldOf l.s l.world;
  judged : IsJudged l.s l.text l.stage l.rest l.line (world_of l.world);
}

abbrev pub decreases-lines : goal.decreases-lines
decreases-lines l = length l.rest
