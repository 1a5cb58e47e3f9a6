use Rattle.ctl_state.proofs.ImageLemmas.{image_taken}
use Rattle.ctl_state.proofs.parts.image_is_taken.Goals as goal

pub returns : goal.returns
returns c = image_taken
