use Rattle.std.proofs.Common.{◌≡◌, ℕ, zero, suc, ◌+◌, ◌/◌, ◌<◌, ◌≤◌, ⊎_elim, List, [], ◌∷◌, Option, Some, None, All, length, map, arith}
use Rattle.std.specs.List.{range_with_len}
use Rattle.std.proofs.lemmas.Bool.{cases_eq}
use Rattle.std.proofs.lemmas.List.Elements.{All-head, All-tail}
use Rattle.std.proofs.lemmas.List.Sums.{sum_by-append, sum_by-cons}
use Rattle.nvm_model.specs.declared.command.Command.{Command}
use Rattle.nvm_model.specs.declared.command.Work.{Work}
use Rattle.nvm_model.specs.declared.piece.Piece.{Piece}
use Rattle.nvm_model.specs.Piece.{piece_count}
use Rattle.nvm_cmd.specs.Answer.{job_of}
use Rattle.nvm_cmd.specs.Cut.{piece_of}
use Rattle.nvm_cmd.proofs.CutLemmas.{part_shelf}
use Rattle.hall.proofs.AheadLaws.{in_shelf, lies_elsewhere, lies_in, lies_once}
use Rattle.controller.specs.Pair.{IsFetched, command_pieces, lane_pieces}

-- A command has at most one piece in each shelf.

-- pieces in shelves one after another: at most one is in shelf i, and none where they begin behind it
rising : (shelf i base a n : ℕ) (own : ℕ → Piece) → ((j : ℕ) → a ≤ j → j < a + n → (own j).span.first / shelf ≡ base + j) →
    (in_shelf shelf i (map own (range_with_len a n)) ≤ 1) × (i < base + a → in_shelf shelf i (map own (range_with_len a n)) ≡ 0)
rising shelf i base a zero own at = (omega arith, λ behind. omega arith)
rising shelf i base a (suc n) own at =
    let rest = map own (range_with_len (a + 1) n) in
    let parts = sum_by-cons (lies_in shelf i) (own a) rest in
    let others = rising shelf i base (a + 1) n own (λ j low there. at j (omega (arith, low)) (omega (arith, there))) in
    let here = at a (omega arith) (omega arith) in
    let elsewhere = λ (other : base + a ≡ i → ⊥). lies_elsewhere shelf i (own a) (λ is. other (omega (arith, is, here))) in (
      ⊎_elim (λ (is : base + a ≡ i). omega (arith, parts, lies_once shelf i (own a), others.1 (omega (arith, is))))
          (λ (other : base + a ≡ i → ⊥). omega (arith, parts, elsewhere other, others.0)) (cases_eq (base + a) i),
      λ behind. omega (arith, parts, elsewhere (λ is. omega (arith, is, behind)), others.1 (omega (arith, behind))),
    )

-- of one command, by whether it has work
one_by_work : (k shelf blocks pages i : ℕ) (c : Command) (w : Option Work) → 1 ≤ shelf → IsFetched blocks pages (record c { work = w }) → in_shelf shelf i (command_pieces k shelf (record c { work = w })) ≤ 1
one_by_work k shelf blocks pages i c None large new = omega arith
one_by_work k shelf blocks pages i c (Some w) large new =
    (rising shelf i (w.span.first / shelf) 0 (piece_count shelf w.span) (λ (j : ℕ). piece_of k shelf j (job_of c.cid w)) (λ j low there. part_shelf shelf w.span j large (omega (arith, there)))).0

-- of all commands of a lane
pub lane_in_shelf : (k shelf blocks pages i : ℕ) (commands : List Command) → 1 ≤ shelf → All (IsFetched blocks pages) commands → in_shelf shelf i (lane_pieces k shelf commands) ≤ length commands
lane_in_shelf k shelf blocks pages i [] large new = omega arith
lane_in_shelf k shelf blocks pages i (c ∷ commands) large new =
    let own = one_by_work k shelf blocks pages i c c.work large (All-head (IsFetched blocks pages) c commands new) in
    let others = lane_in_shelf k shelf blocks pages i commands large (All-tail (IsFetched blocks pages) c commands new) in
    omega (arith, own, others, sum_by-append (lies_in shelf i) (command_pieces k shelf c) (lane_pieces k shelf commands))
