use Rattle.std.proofs.Common.{◌≡◌, ℕ, ◌+◌, ◌*◌, ◌≤◌, ◌∷◌, ◌++◌, decimal, length, take}
use Rattle.std.specs.List.{flat_map}
use Rattle.script.proofs.write.push_list.Given as goal

abbrev pub invariant-loop-page : goal.invariant-loop-page
invariant-loop-page l =
    record {
      text : l.line ≡ l.initial.line ++ flat_map (λ (p : ℕ). 32 ∷ decimal p) (take l.page-index l.named);
      short : length l.line ≤ length l.initial.line + 11 * l.page-index;
    }
