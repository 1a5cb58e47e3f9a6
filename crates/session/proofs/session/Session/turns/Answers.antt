use Rattle.std.proofs.lemmas.Result.{err_from_is_err_and}
use Rattle.session.proofs.StageLemmas.{goes_more, goes_none, onward_more, onward_none}
use Rattle.session.proofs.session.Session.turns.Goals as goal

pub turns-init : goal.turns-init
turns-init g c = record { went = λ other. goes_none _; onward = onward_none c.requires }

pub turns-preserved : goal.turns-preserved
turns-preserved g c = record {
  went = λ other. goes_more (c.turns.invariant.went other) (c.in_ok-turn-in-Turn.ensures.went other);
  onward = onward_more c.turns.invariant.onward c.in_ok-turn-in-Turn.ensures.onward;
}

pub returns-in_err-turn-in-Turn-clause-went : goal.returns-in_err-turn-in-Turn-clause-went
returns-in_err-turn-in-Turn-clause-went g c =
    let p = err_from_is_err_and c.from_residual.result c.from_residual.ensures.1 in
    rw p.1 (λ other. goes_more (c.turns.invariant.went other) (c.in_err-turn-in-Turn.ensures.went other))

pub returns-in_err-turn-in-Turn-clause-onward : goal.returns-in_err-turn-in-Turn-clause-onward
returns-in_err-turn-in-Turn-clause-onward g c = onward_more c.turns.invariant.onward c.in_err-turn-in-Turn.ensures.onward
