use Rattle.std.proofs.Common.{◌≡◌, ℕ, ◌+◌, ◌<◌, ◌≤◌, List, [], ◌∷◌, Option, Some, None, drop, take, get_or, length, map, refl, sum, sym, ap, ap₂, ◌∙◌, arith}
use Rattle.std.specs.List.{AllByRecursion}
use Rattle.std.proofs.lemmas.List.{drop-map, drop_more, get_or-map, length-drop, length-map, length-take-le, take-map}
use Rattle.std.proofs.lemmas.List.Sums.{sum_by-cons}
use Rattle.nvm_values.specs.declared.op.Op.{Op}
use Rattle.nvm_values.specs.Status.{StatusPair}
use Rattle.nvm_model.specs.declared.command.Command.{Command}
use Rattle.nvm_model.specs.declared.command.Outcome.{Outcome}
use Rattle.nvm_model.specs.declared.command.Work.{Work}
use Rattle.nvm_model.specs.declared.piece.PieceResult.{PieceResult}
use Rattle.nvm_model.specs.Piece.{join_status, pieces_left}
use Rattle.controller.specs.Pair.{after_pieces, outcomes_of, told_fetch, told_post, worked}
use Rattle.controller.specs.Parts.{joined, joined_with}

-- What the pieces of a command leave of it.

-- it keeps its identifier
cid_after : (cid : ℕ) (status : StatusPair) (work : Option Work) (outcomes : List Outcome) → (after_pieces (record { cid = cid; status = status; work = work }) outcomes).cid ≡ cid
cid_after cid status None [] = refl
cid_after cid status None (o ∷ outcomes) = cid_after cid status None outcomes
cid_after cid status (Some work) [] = refl
cid_after cid status (Some work) (o ∷ outcomes) = cid_after cid (join_status status work.op o) (Some (record work { done = work.done + 1 })) outcomes

-- its status is joined with those of all
status_after : (cid : ℕ) (status : StatusPair) (work : Option Work) (outcomes : List Outcome) → (after_pieces (record { cid = cid; status = status; work = work }) outcomes).status ≡ joined work outcomes status
status_after cid status None [] = refl
status_after cid status None (o ∷ outcomes) = status_after cid status None outcomes
status_after cid status (Some work) [] = refl
status_after cid status (Some work) (o ∷ outcomes) = status_after cid (join_status status work.op o) (Some (record work { done = work.done + 1 })) outcomes

-- where these are all of its pieces, none is left
none_left_after : (shelf cid : ℕ) (status : StatusPair) (work : Option Work) (outcomes : List Outcome) → pieces_left shelf (record { cid = cid; status = status; work = work }) ≤ length outcomes →
    pieces_left shelf (after_pieces (record { cid = cid; status = status; work = work }) outcomes) ≡ 0
none_left_after shelf cid status None [] all = refl
none_left_after shelf cid status None (o ∷ outcomes) all = none_left_after shelf cid status None outcomes (omega arith)
none_left_after shelf cid status (Some work) [] all = omega arith
none_left_after shelf cid status (Some work) (o ∷ outcomes) all = none_left_after shelf cid (join_status status work.op o) (Some (record work { done = work.done + 1 })) outcomes (omega (arith, all))

pub worked_finished : (shelf : ℕ) (commands : List Command) (outcomes : List Outcome) → sum (map (λ (f : ℕ × StatusPair × ℕ). f.2) (map (told_fetch shelf) commands)) ≤ length outcomes →
    AllByRecursion (λ (c : Command). pieces_left shelf c ≡ 0) (worked shelf commands outcomes)
worked_finished shelf [] outcomes all = tt
worked_finished shelf (c ∷ commands) outcomes all =
    let n = pieces_left shelf c in
    let both = sum_by-cons (λ (m : ℕ). m) n (map (λ (f : ℕ × StatusPair × ℕ). f.2) (map (told_fetch shelf) commands)) in
    let cut = length-take-le n outcomes (omega (arith, both, all)) in
    let left = length-drop n outcomes in
    (none_left_after shelf c.cid c.status c.work (take n outcomes) (omega (arith, cut)), worked_finished shelf commands (drop n outcomes) (omega (arith, both, all, left)))

-- the outcome of one more result is joined
pub joined_next : (op : Op) (results : List PieceResult) (n : ℕ) (d : PieceResult) (status : StatusPair) → n < length results →
    joined_with op (drop (n + 1) (outcomes_of results)) (join_status status op (get_or results n d).outcome) ≡ joined_with op (drop n (outcomes_of results)) status
joined_next op results n d status some =
    let outcome = λ (r : PieceResult). r.outcome in
    let there : n < length (outcomes_of results) = rw (length-map results outcome) some in
    ap (λ (o : Outcome). joined_with op (drop (n + 1) (outcomes_of results)) (join_status status op o)) (sym (get_or-map outcome results n d d.outcome some))
    ∙ ap (λ (os : List Outcome). joined_with op os status) (sym (drop_more (outcomes_of results) n d.outcome there))

-- a command as its pieces ended, as it is told
pub told_ended : (command : Command) (results : List PieceResult) (at n : ℕ) → told_post (after_pieces command (take n (drop at (outcomes_of results)))) ≡ (command.cid, joined command.work (outcomes_of (take n (drop at results))) command.status)
told_ended command results at n =
    let outcome = λ (r : PieceResult). r.outcome in
    let cut : take n (drop at (outcomes_of results)) ≡ outcomes_of (take n (drop at results)) = ap (take n) (drop-map outcome at results) ∙ take-map outcome n (drop at results) in
    let outcomes = outcomes_of (take n (drop at results)) in
    ap (λ (os : List Outcome). told_post (after_pieces command os)) cut
    ∙ ap₂ (λ (cid : ℕ) (status : StatusPair). (cid, status)) (cid_after command.cid command.status command.work outcomes) (status_after command.cid command.status command.work outcomes)
