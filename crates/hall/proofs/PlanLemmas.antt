use Rattle.std.proofs.Common.{◌≡◌, ℕ, suc, ◌<◌, List, [], ◌∷◌, ◌++◌, arith, ap, ap₂, get_or, length, map, refl, replicate, set, Vec}
use Rattle.std.proofs.lemmas.List.{get_or-map, length-map, map-set}
use Rattle.hall.specs.Plan.{PlanState}
use Rattle.nvm_model.specs.declared.piece.Piece.{Piece}

-- the first so many lists have no piece
abbrev pub AreEmpty : {Z : Type 0} → ℕ → List (Vec Piece Z) → Type 0
AreEmpty {Z} n lanes = (k : ℕ) (d : Vec Piece Z) → k < n → (get_or lanes k d).items ≡ []

-- what is seen of a plan
abbrev seen : ℕ → List (List Piece) → PlanState
seen room lanes = record { lanes = lanes; room = room }

module _ {Z : Type 0} where
  abbrev items_of : Vec Piece Z → List Piece
  items_of v = v.items

  all_empty : (lanes : List (Vec Piece Z)) → AreEmpty (length lanes) lanes → map items_of lanes ≡ replicate (length lanes) []
  all_empty [] empty = refl
  all_empty (v ∷ lanes) empty =
      ap₂ (λ x xs. x ∷ xs) (empty 0 v (omega arith)) (all_empty lanes (λ k d below. empty (suc k) d (omega arith)))

  -- as many lists as before, and all are empty
  pub emptied : (old new : List (Vec Piece Z)) (room : ℕ) → length new ≡ length old → AreEmpty (length new) new → seen room (map items_of new) ≡ seen room (replicate (length (map items_of old)) [])
  emptied old new room count empty =
      ap (seen room) (rw (length-map old items_of, ← count) (all_empty new empty))

  -- a piece is put behind those of one list
  pub pushed : (lanes : List (Vec Piece Z)) (room i j : ℕ) (v w : Vec Piece Z) (p : Piece) → i ≡ j → i < length lanes → v ≡ get_or lanes i v → w.items ≡ v.items ++ p ∷ [] → seen room (map items_of (set lanes i w)) ≡ seen room (set (map items_of lanes) j (get_or (map items_of lanes) j [] ++ p ∷ []))
  pushed lanes room i j v w p same i_in is h =
      ap (seen room) (rw (← same, get_or-map items_of lanes i v [] i_in, ← is, ← h) (map-set items_of lanes i w))
