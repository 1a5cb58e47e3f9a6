use Rattle.std.proofs.Common.{refl, arith}
use Rattle.nvm_blocks.proofs.NamespaceLemmas.{marked_more, marked_none}
use Rattle.nvm_blocks.proofs.namespace.shelves.mark_all.Goals as goal

pub loop-place-init : goal.loop-place-init
loop-place-init g c = record { marked = marked_none g.M.Medium.state g.M.Medium.moves c.args.shelf c.args.n c.args.shelves.now.items c.requires; capacity = refl }

pub loop-place-preserved : goal.loop-place-preserved
loop-place-preserved g c =
    let before = c.loop-place.invariant.marked in
    record {
      marked = marked_more g.M.Medium.state g.M.Medium.moves c.args.shelf c.args.n c.loop-place.place c.args.shelves.now.items c.loop-place.shelves.items c.index_mut.result.now c.mark.new.self before
          (omega (arith, before.count_is, c.loop-place.auto.place-end)) c.index_mut.ensures.value c.mark.ensures.call c.mark.ensures.rest;
      capacity = c.loop-place.invariant.capacity;
    }
