use Rattle.std.proofs.Common.{◌≡◌, ◌<◌, ◌≤◌, ◌∙◌, ⊎_elim, ℕ, [], get_or, subst, sym, ap, arith}
use Rattle.std.proofs.lemmas.Bool.{cases_lt}
use Rattle.std.proofs.lemmas.List.{get_or_read}
use Rattle.nvm_model.specs.declared.piece.Piece.{Piece}
use Rattle.nvm_blocks.specs.Namespace.{block_count, entries_at}
use Rattle.nvm_blocks.proofs.NamespaceLaws.{cleared_at, entries_cleared, entries_more, entries_same, none_at, same_count}
use Rattle.nvm_blocks.proofs.clearing.clear_under.Goals as goal

pub loop-piece-init : goal.loop-piece-init
loop-piece-init g c = record { kept = entries_same c.args.namespace.now; cleared = λ i d none. absurd (omega (arith, none)) }

pub clear_at-requires : goal.clear_at-requires
clear_at-requires g c =
    let piece = c.piece-item.result in
    let inside = subst (λ (p : Piece). p.span.first < block_count c.args.namespace.now) (sym c.piece-item.is) (c.requires c.loop-piece.piece-index piece c.loop-piece-test.true) in
    omega (arith, inside, same_count c.loop-piece.invariant.kept.shelves)

pub loop-piece-preserved : goal.loop-piece-preserved
loop-piece-preserved g c =
    let was = c.loop-piece.invariant in
    let at = c.loop-piece.piece-index in
    let dropped = entries_cleared c.piece-item.result.span.first c.clear_at.ensures in
    record {
      kept = entries_more was.kept dropped;
      cleared = λ i d low. ⊎_elim
          (λ (before : i < at). none_at (get_or c.args.pieces.now i d).span.first dropped (was.cleared i d before))
          (λ (here : at ≤ i).
          let same : i ≡ at = omega (arith, here, low) in
          subst (λ (p : Piece). entries_at c.clear_at.new.self p.span.first ≡ []) (get_or_read c.args.pieces.now at c.piece-item.result c.loop-piece-test.true c.piece-item.is d ∙ ap (λ (j : ℕ). get_or c.args.pieces.now j d) (sym same)) (cleared_at c.piece-item.result.span.first c.clear_at.ensures))
          (cases_lt i at);
    }

pub returns-clause-cleared : goal.returns-clause-cleared
returns-clause-cleared g c = λ i d low. c.loop-piece.invariant.cleared i d (omega (arith, low, c.loop-piece-test.false))
