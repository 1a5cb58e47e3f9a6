use Rattle.nvm_cmd.proofs.CutLemmas.{parts_cover}
use Rattle.nvm_cmd.proofs.cut.pieces_cover.Goals as goal

pub returns : goal.returns
returns c = parts_cover
