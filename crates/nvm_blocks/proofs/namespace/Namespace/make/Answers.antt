use Rattle.std.proofs.Common.{◌≡◌, length}
use Rattle.nvm_blocks.proofs.ShelvesLemmas.{made_count, new_entries, new_rooms}
use Rattle.nvm_blocks.proofs.namespace.Namespace.make.Goals as goal

pub returns-in-Ok-make_shelves-clause-entries : goal.returns-in-Ok-make_shelves-clause-entries
returns-in-Ok-make_shelves-clause-entries g c =
    let count : length c.args.media.items ≡ length c.make_shelves.new.shelves.items = made_count c.args.media.items c.make_shelves.new.media.items c.make_shelves.new.shelves.items c.in-Ok-make_shelves.ensures.media c.in-Ok-make_shelves.ensures.all in
    rw c.reverse.ensures.items (new_entries g.M.Medium.state c.args.shelf c.args.room (length c.args.media.items) c.make_shelves.new.shelves.items c.make_shelves.ensures.shelves count)

pub returns-in-Ok-make_shelves-clause-rooms : goal.returns-in-Ok-make_shelves-clause-rooms
returns-in-Ok-make_shelves-clause-rooms g c =
    let count : length c.args.media.items ≡ length c.make_shelves.new.shelves.items = made_count c.args.media.items c.make_shelves.new.media.items c.make_shelves.new.shelves.items c.in-Ok-make_shelves.ensures.media c.in-Ok-make_shelves.ensures.all in
    rw c.reverse.ensures.items (new_rooms g.M.Medium.state c.args.shelf c.args.room (length c.args.media.items) c.make_shelves.new.shelves.items c.make_shelves.ensures.shelves count)
