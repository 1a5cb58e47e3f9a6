use Rattle.std.proofs.Common.{◌≡◌, ℕ, ◌+◌, ◌*◌, List, [], ◌∷◌, ◌++◌, sym, ap, ◌∙◌, add-one}
use Rattle.file_medium.specs.Part.{Part, parts}

-- one part more
pub parts_more : (size last count : ℕ) (front : List Part) → count ≡ last + 1 → front ≡ parts size last →
    front ++ (record { first = last * size; size = size; faults = 0 }) ∷ [] ≡ parts size count
parts_more size last count front count_is front_is =
    ap (λ (xs : List Part). xs ++ (record { first = last * size; size = size; faults = 0 }) ∷ []) front_is ∙ ap (parts size) (sym (add-one last) ∙ sym count_is)
