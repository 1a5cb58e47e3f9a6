use Rattle.file_medium.proofs.open.media_of.Goals as goal

pub returns-in-Ok-clause-fault : goal.returns-in-Ok-clause-fault
returns-in-Ok-clause-fault g c = c.parts_of.ensures.fault c.args.blocks
