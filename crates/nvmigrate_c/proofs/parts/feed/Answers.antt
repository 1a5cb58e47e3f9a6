use Rattle.std.proofs.Common.{arith, sym}
use Rattle.std.proofs.lemmas.List.{length-take-le}
use Rattle.nvmigrate_c.proofs.PartsLemmas.{long_part}
use Rattle.nvmigrate_c.proofs.parts.feed.Goals as goal

pub slice_bounds-feed-end : goal.slice_bounds-feed-end
slice_bounds-feed-end c = sym (length-take-le 265 c.args.part.now (omega arith))

pub returns-then-part-gt265 : goal.returns-then-part-gt265
returns-then-part-gt265 c = long_part c.args.offset c.args.part.now c.feed.result c.args.parts.now c.feed.new.self c.requires (omega arith) c.feed.ensures
