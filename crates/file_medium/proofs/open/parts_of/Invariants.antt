use Rattle.std.proofs.Common.{◌≡◌, ◌≤◌, vec_capacity, vec_len}
use Rattle.file_medium.specs.Part.{parts}
use Rattle.file_medium.proofs.open.parts_of.Given as goal

abbrev pub invariant-loop-i : goal.invariant-loop-i
invariant-loop-i g l =
    (l.media.items ≡ parts l.size l.i)
    × (vec_len l.media ≡ l.i)
    × (l.fn.count ≤ vec_capacity l.media)
