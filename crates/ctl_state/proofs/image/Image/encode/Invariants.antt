use Rattle.std.proofs.Common.{◌≡◌, ◌+◌, ◌*◌, ◌++◌, drop, take}
use Rattle.ctl_state.specs.Image.{header, pairs_bytes}
use Rattle.ctl_state.proofs.image.Image.encode.Given as goal

abbrev pub invariant-pairs : goal.invariant-pairs
invariant-pairs l = l.out ≡ header l.self.used ++ pairs_bytes 1 (take l.place l.self.pairs) ++ drop (8 + 32 * l.place) l.fn.out
