use Rattle.std.specs.Prelude.{◌≡◌, length, replicate, take, true}
use Rattle.manager.proofs.owed.Owed.owe_all.Given as goal

abbrev pub invariant-loop-place : goal.invariant-loop-place
invariant-loop-place l = record {
  owed : take l.place l.self ≡ replicate l.place true;
  size : length l.self ≡ length l.fn.self;
}
