use Rattle.std.proofs.Common.{ℕ, ◌<◌, ◌≤◌, List, [], ◌∷◌, length, map, sym, ap, subst, ◌∙◌, arith}
use Rattle.std.specs.List.{range_with_len}
use Rattle.std.proofs.lemmas.List.FromFn.{length-map-range_with_len}
use Rattle.nvm_model.specs.declared.piece.Piece.{Piece}
use Rattle.hall.specs.Plan.{PlanState, pieces_of, with_piece}
use Rattle.nvm_cmd.specs.Cut.{piece_of}
use Rattle.controller.specs.Pair.{with_pieces}
use Rattle.controller.proofs.PlanLemmas.{count_with, few_pieces, made_more, with_more}
use Rattle.controller.proofs.pair.plan_job.Goals as goal

few : (c : goal.After-piece) → c.piece_count-count.result ≤ 64
few c =
    let count = few_pieces c.args.shelf c.args.job.now.span c.requires.shelf c.requires.some in
    omega (arith, count, c.requires.few, c.piece_count-count.ensures)

pub push-requires-clause-room : goal.push-requires-clause-room
push-requires-clause-room c =
    let k = c.args.lane in
    let f = λ (i : ℕ). piece_of k c.args.shelf i c.args.job.now in
    let made = map f (range_with_len 0 c.loop-i.i) in
    let planned = c.loop-i.invariant.planned in
    let count = ap (λ (p : PlanState). length (pieces_of p k)) planned ∙ count_with k made c.args.plan.now c.requires.planned.0 c.requires.planned.1 in
    let room = ap (λ (p : PlanState). p.room) planned in
    let lane = ap (λ (p : Piece). p.lane) c.piece.ensures.value in
    subst (λ (j : ℕ). length (pieces_of c.loop-i.plan j) < c.loop-i.plan.room) (sym lane) (omega (arith, few c, count, room, length-map-range_with_len f 0 c.loop-i.i, c.requires.room, c.loop-i-test.true))

pub loop-i-preserved : goal.loop-i-preserved
loop-i-preserved c =
    let k = c.args.lane in
    let f = λ (i : ℕ). piece_of k c.args.shelf i c.args.job.now in
    let made = map f (range_with_len 0 c.loop-i.i) in
    record {
      planned = c.push.ensures ∙ ap (λ (p : Piece). with_piece p c.loop-i.plan) c.piece.ensures.value ∙ ap (with_piece (f c.loop-i.i)) c.loop-i.invariant.planned
          ∙ with_more k made (f c.loop-i.i ∷ []) c.args.plan.now c.requires.planned.0 c.requires.planned.1
          ∙ ap (λ (ps : List Piece). with_pieces k ps c.args.plan.now) (sym (made_more f c.loop-i.i));
    }

pub returns-clause-few : goal.returns-clause-few
returns-clause-few c =
    let count = few_pieces c.args.shelf c.args.job.now.span c.requires.shelf c.requires.some in
    omega (arith, count, c.requires.few, c.piece_count-count.ensures)
