use Rattle.manager.proofs.StepLemmas.{hands_part}
use Rattle.manager.proofs.steps.hand_part.Goals as goal

pub returns-clause-handed : goal.returns-clause-handed
returns-clause-handed g c = hands_part c.args.i c.requires.begins c.requires.there c.requires.follows c.get_part-length.array_long c.get_part-length.ensures c.set_part.ensures
