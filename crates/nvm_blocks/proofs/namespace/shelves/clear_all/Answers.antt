use Rattle.std.proofs.Common.{rules, ap, set, sym, ◌∙◌}
use Rattle.std.proofs.lemmas.List.Edits.{map_over_more}
use Rattle.nvm_blocks.specs.Shelves.{cleared}
use Rattle.nvm_blocks.proofs.namespace.shelves.clear_all.Goals as goal

pub loop-shelf-preserved : goal.loop-shelf-preserved
loop-shelf-preserved g c =
    ap (set c.loop-shelf.shelf-items c.loop-shelf.shelf-index) (c.clear.ensures ∙ ap cleared (sym c.shelf-item.is))
    ∙ map_over_more cleared c.args.shelves.now.items c.loop-shelf.shelf-items c.loop-shelf.shelf-index c.shelf-item.result (search rules) c.loop-shelf.invariant c.shelf-item.is
