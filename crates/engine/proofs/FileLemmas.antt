use Rattle.std.proofs.Common.{◌≡◌, ◌∙◌, ◌-◌, ℕ, List, [], ◌∷◌, Option, Some, None, IfSome, length, take, drop, map, sym, ap, arith}
use Rattle.std.proofs.lemmas.List.{take_all}

pub if_some : {A : Type 0} {P Q : A → Type 0} (o : Option A) → ((a : A) → P a → Q a) → IfSome o P → IfSome o Q
if_some None f h = tt
if_some (Some a) f h = f a h

-- the words behind the first four
pub files_last : {A : Type 0} (f : A → List ℕ) (words : List A) (a b c d : List ℕ) (files last : List (List ℕ)) →
    map f words ≡ a ∷ b ∷ c ∷ d ∷ files → map f (take (length words - 4) (drop 4 words)) ≡ last → files ≡ last
files_last f [] a b c d files last e is = absurd (cc)
files_last f (v ∷ []) a b c d files last e is = absurd (cc)
files_last f (v ∷ w ∷ []) a b c d files last e is = absurd (cc)
files_last f (v ∷ w ∷ x ∷ []) a b c d files last e is = absurd (cc)
files_last f (v ∷ w ∷ x ∷ y ∷ rest) a b c d files last e is =
    sym (ap (drop 4) e) ∙ ap (map f) (sym (take_all (length (v ∷ w ∷ x ∷ y ∷ rest) - 4) rest (omega arith))) ∙ is
