use Rattle.std.proofs.Common.{inl}
use Rattle.nvmigrate.proofs.EndingLemmas.{on_run}
use Rattle.nvmigrate.proofs.run_in_memory.Goals as goal

pub returns-in-Ok : goal.returns-in-Ok
returns-in-Ok g c = record {
  ran = λ blocks shelf runs. on_run c.nvmigrate.result
      (λ run. inl (record { no_files = c.requires; from = c.in-Ok.from; to = c.in-Ok.to; new_from = c.nvmigrate.new.from; new_to = c.nvmigrate.new.to; fresh = c.in-Ok.ensures; run = run }))
      (c.nvmigrate.ensures.ran blocks shelf runs);
  read_fault = c.nvmigrate.ensures.read_fault;
  write_fault = c.nvmigrate.ensures.write_fault;
}
