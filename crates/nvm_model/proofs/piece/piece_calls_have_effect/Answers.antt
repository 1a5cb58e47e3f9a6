use Rattle.nvm_model.proofs.PieceLemmas.{piece_law}
use Rattle.nvm_model.proofs.piece.piece_calls_have_effect.Goals as goal

pub returns : goal.returns
returns c = piece_law
