-- What a first seat keeps of the seats that were split off from it.
use Rattle.std.specs.Prelude.{◌≡◌, ℕ, ◌+◌, ◌<◌, ◌≤◌, length}
use Rattle.log_rule.specs.declared.view.View.{View}
use Rattle.log_rule.specs.Rule.{desk_of}

-- so many seats more were split off and joined
pub record Settles (k : ℕ) (v w : View) : Type 0 where
  pub cells : w.cells ≡ v.cells
  pub count : length w.desks ≡ length v.desks + k
  pub before : (j : ℕ) → 0 < j → j ≤ length v.desks → (desk_of w j).out ≡ (desk_of v j).out
  pub joined : (j : ℕ) → length v.desks < j → j ≤ length w.desks → (desk_of w j).out ≡ 0
