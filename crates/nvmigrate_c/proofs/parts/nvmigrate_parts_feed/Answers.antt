use Rattle.std.proofs.Common.{◌≡◌, arith, length}
use Rattle.nvmigrate_c.proofs.PartsLemmas.{fed_fits, fed_goes}
use Rattle.nvmigrate_c.proofs.parts.nvmigrate_parts_feed.Goals as goal

pub put-requires : goal.put-requires
put-requires c = fed_fits c.args.parts.now c.args.offset c.args.part.now c.in-Some.fed c.feed.new.parts c.in-Some.ensures.1 c.in-Ok.ensures c.in-Some.ensures.0

pub returns-in-Ok-clause-fed : goal.returns-in-Ok-clause-fed
returns-in-Ok-clause-fed c = λ is.
    let room : length c.args.parts.now.bytes ≡ 264 = omega arith in
    (fed_goes c.args.parts.now c.args.offset c.fed-parts.result c.args.part.now c.put.new.bytes c.in-Some.fed c.feed.new.parts room c.in-Some.ensures.1 c.in-Ok.ensures c.fed-parts.ensures c.put.ensures is).0

pub returns-in-Ok-clause-sound : goal.returns-in-Ok-clause-sound
returns-in-Ok-clause-sound c = λ is.
    let room : length c.args.parts.now.bytes ≡ 264 = omega arith in
    (fed_goes c.args.parts.now c.args.offset c.fed-parts.result c.args.part.now c.put.new.bytes c.in-Some.fed c.feed.new.parts room c.in-Some.ensures.1 c.in-Ok.ensures c.fed-parts.ensures c.put.ensures is).1
