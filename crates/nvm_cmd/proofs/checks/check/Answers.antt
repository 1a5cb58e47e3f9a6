use Rattle.guest_ram.specs.Window.{data_pages}
use Rattle.nvm_cmd.proofs.CheckLemmas.{stopped, passed_on, command_fetched, has_passed}
use Rattle.nvm_cmd.proofs.checks.check.Goals as goal

pub check_pages-requires : goal.check_pages-requires
check_pages-requires c = has_passed _ _ _ c.in-None.ensures

pub returns-in-Some-clause-answer : goal.returns-in-Some-clause-answer
returns-in-Some-clause-answer c =
    rw (stopped c.args.blocks c.args.w.now.lane (data_pages c.args.w.now) c.args.busy.now c.args.e.now c.in-Some.status c.in-Some.ensures)

pub returns-in-Some-clause-command : goal.returns-in-Some-clause-command
returns-in-Some-clause-command c =
    rw (stopped c.args.blocks c.args.w.now.lane (data_pages c.args.w.now) c.args.busy.now c.args.e.now c.in-Some.status c.in-Some.ensures)

pub returns-in-None-clause-answer : goal.returns-in-None-clause-answer
returns-in-None-clause-answer c =
    rw (passed_on c.args.blocks c.args.w.now.lane (data_pages c.args.w.now) c.args.busy.now c.args.e.now c.in-None.ensures) c.check_pages.ensures.answer

pub returns-in-None-clause-command : goal.returns-in-None-clause-command
returns-in-None-clause-command c = command_fetched _ _ _ _ _ (returns-in-None-clause-answer c)
