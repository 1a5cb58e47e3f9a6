use Rattle.nvmigrate_c.proofs.queue.nvmigrate_change_from_bytes.Goals as goal

pub returns-in_default-clause-back : goal.returns-in_default-clause-back
returns-in_default-clause-back c = λ change tag is same.
    let read = c.in_default.ensures.back change tag is same in
    absurd cc
