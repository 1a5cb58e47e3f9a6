use Rattle.std.proofs.Common.{◌≡◌, All, map, take, vec_capacity, vec_len, length}
use Rattle.controller.specs.Pair.{new_pair}
use Rattle.controller.proofs.controller.make_in.Given as goal

abbrev pub invariant-pairs : goal.invariant-pairs
invariant-pairs l = record {
  made : l.all.items ≡ map (new_pair l.burst) (take l.set-index l.pairs);
  room : All (λ p. p.room ≡ l.burst) l.all.items;
  count : vec_len l.all ≡ l.set-index;
  capacity : vec_capacity l.all ≡ length l.pairs;
}
