use Rattle.std.proofs.Common.{◌≡◌, ℕ, ◌++◌, List, [], ◌∷◌, Some, All, take, slice_get, slice_set, refl, sym, ap, subst, ◌∙◌}
use Rattle.nvm_values.specs.declared.op.Op.{Op}
use Rattle.nvm_values.specs.declared.op.Op.TheVariants.{Flush, Write, Read, Compare, WriteZeroes, Verify}
use Rattle.nvm_model.specs.declared.command.Command.{Command}
use Rattle.nvm_model.specs.declared.command.Outcome.{Outcome}
use Rattle.nvm_model.specs.declared.piece.Piece.{Piece}
use Rattle.nvm_model.specs.declared.piece.PieceResult.{PieceResult}
use Rattle.nvm_model.specs.declared.script.Script.{Script}
use Rattle.nvm_model.specs.Piece.{after_piece, digest_after, done_blocks, pieces_left}
use Rattle.nvm_model.specs.Run.{PieceOnLane}
use Rattle.nvm_model.specs.Shelf.{digest_bytes}
use Rattle.nvm_model.specs.Trace.{IsPieceDone}
use Rattle.nvm_model.specs.World.{Lane}
use Rattle.nvm_cmd.specs.Answer.{job_of}
use Rattle.nvm_cmd.specs.Cut.{piece_of}
use Rattle.controller.specs.Pair.{worked}
use Rattle.controller.specs.Told.{called, digest_told}
use Rattle.controller.proofs.NextLemmas.{IsNext}

-- What a piece that was done comes to for its lane.

-- the digest that a line tells is that of the effect
told_digest : (op : Op) (first n : ℕ) (blocks : List (List ℕ)) (digest : List ℕ) → digest ≡ digest_bytes (digest_after op first n blocks) → digest_told op digest ≡ digest_after op first n blocks
told_digest Read first n blocks digest is = ap (λ (d : List ℕ). Some d) is
told_digest Write first n blocks digest is = refl
told_digest WriteZeroes first n blocks digest is = refl
told_digest Compare first n blocks digest is = refl
told_digest Verify first n blocks digest is = refl
told_digest Flush first n blocks digest is = refl

-- what a piece comes to, with the digest that its line tells
told_done : {piece : Piece} {moved : List (List ℕ)} {result : PieceResult} {memory new_memory : List (List ℕ)} → IsPieceDone piece moved result memory new_memory →
    IsPieceDone piece moved (record { outcome = result.outcome; digest = digest_bytes (digest_told piece.op result.digest) }) memory new_memory
told_done {piece} {moved} {result} done = record {
  count = done.count;
  carries = done.carries;
  fits = done.fits;
  digest_is = ap digest_bytes (told_digest piece.op 0 (done_blocks piece.span.count result.outcome) moved result.digest done.digest_is);
  memory_is = done.memory_is;
}

-- what the next piece does to its lane
pub piece_does : {s : Script} {k pages : ℕ} {commands : List Command} {os : List Outcome} {piece : Piece} (next : IsNext k s.head.shelf s.head.blocks pages commands os piece) (result : PieceResult) (moved memory : List (List ℕ)) (lane : Lane) →
    lane.running ≡ worked s.head.shelf commands os → IsPieceDone piece moved result lane.pages memory →
    PieceOnLane s (called s next.work piece result lane.pages moved) lane (record lane { pages = memory; running = worked s.head.shelf commands (os ++ result.outcome ∷ []) })
piece_does {s} {k} {pages} {commands} {os} {piece} next result moved memory lane running =
    let job = job_of next.command.cid next.work in
    let after = after_piece next.command next.work result.outcome in
    subst
    (λ (p : Piece). IsPieceDone p moved result lane.pages memory → PieceOnLane s (called s next.work p result lane.pages moved) lane (record lane { pages = memory; running = worked s.head.shelf commands (os ++ result.outcome ∷ []) }))
    (sym next.piece_is)
    (λ (is : IsPieceDone (piece_of k s.head.shelf next.work.done job) moved result lane.pages memory). record {
      place = next.place;
      command = next.command;
      memory = memory;
      moved = moved;
      at_place = ap (λ (l : List Command). slice_get l next.place) running ∙ next.at_place;
      earlier = subst (λ (l : List Command). All (λ (c : Command). pieces_left s.head.shelf c ≡ 0) (take next.place l)) (sym running) next.earlier;
      work_is = next.work_is;
      left = next.left;
      cid_is = refl;
      first_is = refl;
      count_is = refl;
      done = told_done is;
      digest_is = told_digest next.work.op 0 (done_blocks (piece_of k s.head.shelf next.work.done job).span.count result.outcome) moved result.digest is.digest_is;
      calls_are = refl;
      after = ap (λ (l : List Command). record lane { pages = memory; running = l }) (next.after result.outcome ∙ ap (λ (l : List Command). slice_set l next.place after) (sym running));
    })
