use Rattle.std.specs.Prelude.{◌≡◌, ℕ, ◌*◌, ◌≤◌, All, List, [], ◌∷◌, ◌++◌, Option, Some, None, length}
use Rattle.nvm_values.specs.declared.op.Op.{Op}
use Rattle.nvm_values.specs.declared.sqe.Sqe.{Sqe}
use Rattle.nvm_values.specs.Status.{StatusPair}
use Rattle.nvm_model.specs.declared.command.Command.{Command}
use Rattle.nvm_model.specs.declared.command.Outcome.{Outcome}
use Rattle.nvm_model.specs.declared.command.Work.{Work}
use Rattle.nvm_model.specs.Piece.{join_status}
use Rattle.nvm_ring.specs.Moves.{after_fetch}
use Rattle.guest_ram.specs.Window.{WindowState, data_pages}
use Rattle.hall.specs.Plan.{PlanState}
use Rattle.ctl_state.specs.Controller.{PairState}
use Rattle.controller.specs.Pair.{FetchSteps, IsFetched, MayFetch, PostSteps, free_places, lane_pieces, next_entry, with_pieces}

-- Inside the crate.

-- What always holds of a pair: it has told each fetched command, may fetch no more of them than a turn has, and has room
-- for the completion of each.
pub record IsPair (pair : PairState) : Type 0 where
  pub told : length pair.fetched ≡ length pair.commands
  pub few : length pair.commands ≤ pair.room
  pub space : length pair.commands ≤ free_places pair.cq
  pub most : pair.room ≤ 64

-- it has taken room for what a turn may have of each
pub record HasRoom (room commands fetched posted : ℕ) : Type 0 where
  pub commands_are : commands ≡ room
  pub fetched_are : fetched ≡ room
  pub posted_are : posted ≡ room

-- the oldest entry is taken, where it may be
abbrev pub TakesEntry : WindowState → PairState → PairState → Option Sqe → Type 0
TakesEntry window old new None = (MayFetch old → ⊥) × (new ≡ old)
TakesEntry window old new (Some entry) = MayFetch old × (entry ≡ next_entry window old) × (new ≡ record old { sq = after_fetch old.sq })

-- the fetches of a turn as far as they were made
pub record HasFetched (k blocks shelf : ℕ) (window : WindowState) (plan now_plan : PlanState) (old now : PairState) : Type 0 where
  pub commands : List Command
  pub steps : FetchSteps blocks shelf window commands old now
  pub planned : now_plan ≡ with_pieces k (lane_pieces k shelf commands) plan
  pub fits : All (IsFetched blocks (length (data_pages window))) commands
  pub few : length (lane_pieces k shelf commands) ≤ 64 * length commands

-- the posts of a turn as far as they were made, where these are left of all
pub record HasPosted (k : ℕ) (all rest : List (ℕ × StatusPair)) (old : PairState) (window : WindowState) (now : PairState) (now_window : WindowState) : Type 0 where
  pub done : List (ℕ × StatusPair)
  pub steps : PostSteps k done old window now now_window
  pub all_is : all ≡ done ++ rest

-- a status after pieces of a command that ended so
abbrev pub joined_with : Op → List Outcome → StatusPair → StatusPair
joined_with op [] status = status
joined_with op (outcome ∷ outcomes) status = joined_with op outcomes (join_status status op outcome)

abbrev pub joined : Option Work → List Outcome → StatusPair → StatusPair
joined None outcomes status = status
joined (Some work) outcomes status = joined_with work.op outcomes status
