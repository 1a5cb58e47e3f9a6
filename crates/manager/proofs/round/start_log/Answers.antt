use Rattle.std.proofs.Common.{◌≡◌, true, false, sym, ◌∙◌}
use Rattle.nvm_values.specs.Status.{success}
use Rattle.manager.proofs.RoundLemmas.{log_anew, none_live}
use Rattle.manager.proofs.round.start_log.Goals as goal

pub create_log-requires-clause-unlogged : goal.create_log-requires-clause-unlogged
create_log-requires-clause-unlogged g c =
    let not_done : c.send.result.status ≡ success → ⊥ = λ same. let yes : c.eq.result ≡ true = rw same at c.eq.ensures in let both : true ≡ false = sym yes ∙ c.if-eq.false in absurd cc in
    none_live c.args.cells c.requires.logged c.send.ensures not_done c.send-gone.ensures

pub returns : goal.returns
returns g c =
    let not_done : c.send.result.status ≡ success → ⊥ = λ same. let yes : c.eq.result ≡ true = rw same at c.eq.ensures in let both : true ≡ false = sym yes ∙ c.if-eq.false in absurd cc in
    log_anew c.args.cells c.requires.logged c.send.ensures not_done c.send-gone.ensures c.create_log.ensures
