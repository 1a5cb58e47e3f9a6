use Rattle.std.proofs.Common.{inr}
use Rattle.nvmigrate.proofs.EndingLemmas.{on_run}
use Rattle.nvmigrate.proofs.run_over_files.Goals as goal

pub returns-then-is_source_synced : goal.returns-then-is_source_synced
returns-then-is_source_synced g c = record {
  ran = λ blocks shelf runs. on_run c.nvmigrate-status.result
      (λ run. inr (record {
        blocks = c.args.sizes.0;
        shelf = c.args.sizes.1;
        is_run = c.requires;
        from = c.in-Ok.host;
        to = c.in-Ok-file_host.host;
        new_from = c.nvmigrate-status.new.from;
        new_to = c.nvmigrate-status.new.to;
        from_is = c.in-Ok.ensures.host;
        to_is = c.in-Ok-file_host.ensures.host;
        run = run;
      }))
      (c.nvmigrate-status.ensures.ran blocks shelf runs);
  read_fault = c.nvmigrate-status.ensures.read_fault;
  write_fault = c.nvmigrate-status.ensures.write_fault;
}

pub returns : goal.returns
returns g c = record {
  ran = λ blocks shelf runs. on_run c.nvmigrate-status.result
      (λ run. inr (record {
        blocks = c.args.sizes.0;
        shelf = c.args.sizes.1;
        is_run = c.requires;
        from = c.in-Ok.host;
        to = c.in-Ok-file_host.host;
        new_from = c.nvmigrate-status.new.from;
        new_to = c.nvmigrate-status.new.to;
        from_is = c.in-Ok.ensures.host;
        to_is = c.in-Ok-file_host.ensures.host;
        run = run;
      }))
      (c.nvmigrate-status.ensures.ran blocks shelf runs);
  read_fault = c.nvmigrate-status.ensures.read_fault;
  write_fault = c.nvmigrate-status.ensures.write_fault;
}
