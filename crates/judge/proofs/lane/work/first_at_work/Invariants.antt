use Rattle.std.proofs.Common.{◌≡◌, All, take}
use Rattle.nvm_model.specs.Piece.{pieces_left}
use Rattle.judge.proofs.lane.work.first_at_work.Given as goal

abbrev pub invariant-commands : goal.invariant-commands
invariant-commands l = All (λ c. pieces_left l.shelf c ≡ 0) (take l.place l.running)
