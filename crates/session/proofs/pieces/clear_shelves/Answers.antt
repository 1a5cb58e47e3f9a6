use Rattle.std.proofs.Common.{◌≡◌, ◌<◌, ◌≤◌, ◌∙◌, ⊎_elim, ℕ, List, [], All, get_or, length, refl, subst, sym, ap, arith}
use Rattle.std.proofs.lemmas.Bool.{cases_lt}
use Rattle.std.proofs.lemmas.List.{get_or_default}
use Rattle.nvm_model.specs.declared.piece.Piece.{Piece}
use Rattle.nvm_blocks.specs.Namespace.{block_count, entries_at}
use Rattle.nvm_blocks.proofs.NamespaceLaws.{entries_more, entries_same, none_at, same_count}
use Rattle.session.specs.Place.{PlaceState}
use Rattle.session.proofs.pieces.clear_shelves.Goals as goal
use Rattle.hall.proofs.LaneLaws.{lane_found}

pub loop-at-init : goal.loop-at-init
loop-at-init g c = record { kept = record { entries = entries_same c.args.place.now.namespace; rest = refl }; cleared = λ i d none. absurd (omega (arith, none)) }

pub clear_shelves-requires : goal.clear_shelves-requires
clear_shelves-requires g c =
    let lane = lane_found c.args.plan.now c.loop-at.at c.unwrap.result c.unwrap.ensures c.new.ensures.value c.pieces.ensures in
    λ j p low.
    let inside = subst (λ (ps : List Piece). (get_or ps j p).span.first < block_count c.args.place.now.namespace) (sym lane) (c.requires.within c.loop-at.at [] (omega (arith, c.requires.fits.count)) j p (omega (arith, low, ap length lane))) in
    omega (arith, inside, same_count c.loop-at.invariant.kept.entries.shelves)

pub loop-at-preserved : goal.loop-at-preserved
loop-at-preserved g c =
    let was = c.loop-at.invariant in
    let at = c.loop-at.at in
    let lanes = c.args.plan.now.lanes in
    let did = c.clear_shelves.ensures in
    let lane = lane_found c.args.plan.now at c.unwrap.result c.unwrap.ensures c.new.ensures.value c.pieces.ensures in
    let here : at < length lanes = omega (arith, c.requires.fits.count) in
    record {
      kept = record { entries = entries_more was.kept.entries did.kept.entries; rest = did.kept.rest ∙ ap (λ (p : PlaceState g.row.M.Denot). record p { namespace = c.clear_shelves.new.self.namespace }) was.kept.rest };
      cleared = λ i d low. ⊎_elim
          (λ (before : i < at). λ j p within. none_at (get_or (get_or lanes i d) j p).span.first did.kept.entries (was.cleared i d before j p within))
          (λ (after : at ≤ i).
          let same : i ≡ at = omega (arith, after, low) in
          subst (λ (ps : List Piece). All (λ (p : Piece). entries_at c.clear_shelves.new.self.namespace p.span.first ≡ []) ps) (lane ∙ get_or_default lanes at [] d here ∙ ap (λ (k : ℕ). get_or lanes k d) (sym same)) did.cleared)
          (cases_lt i at);
    }
