use Rattle.nvm_model.proofs.ShelfLemmas.{is_local}
use Rattle.nvm_model.proofs.piece.piece_is_local.Goals as goal

pub returns : goal.returns
returns c = is_local
