use Rattle.std.proofs.Common.{◌≡◌, ℕ, List, [], ◌∷◌, length, replicate, Option, Some, None, Bor}
use Rattle.script.specs.ActWords.{pages_on}
use Rattle.script.proofs.act.pages_named.Given as goal

-- the words that are left, where the first is apart
abbrev pub apart : Option (Bor (List ℕ) × List (List ℕ)) → List (List ℕ)
apart None = []
apart (Some x) = x.0.now ∷ x.1

abbrev pub invariant-loop-left : goal.invariant-loop-left
invariant-loop-left l = record { length_is : length l.found ≡ 8; so_far : pages_on l.pages l.found l.used (apart l.left) ≡ pages_on l.pages (replicate 8 0) 0 l.words }

abbrev pub decreases-loop-left : goal.decreases-loop-left
decreases-loop-left l = length (apart l.left)
