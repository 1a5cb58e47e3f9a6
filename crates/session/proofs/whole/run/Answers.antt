use Rattle.std.proofs.Common.{◌∙◌, Bool, refl, sym, subst, ap, arith}
use Rattle.std.proofs.lemmas.Result.{err_from_is_err_and}
use Rattle.session.specs.declared.ending.Ending.{Ending}
use Rattle.session.specs.Moves.{both}
use Rattle.session.specs.Place.{IsReady}
use Rattle.session.specs.Sides.{HasEnded, IsMoved, IsStop, SessionState, machine_of}
use Rattle.session.proofs.RestLemmas.{few_turns}
use Rattle.session.proofs.StageLemmas.{ended_unmoved, goes_more, if_ok, on_destination, on_source}
use Rattle.session.proofs.ServedLemmas.{left_here, left_running, left_there, left_tried, served_none}
use Rattle.session.proofs.whole.run.Goals as goal

pub turns-requires : goal.turns-requires
turns-requires g c =
    let is = c.in_ok-begin.ensures.session in
    let ready = subst (λ (s : SessionState). IsReady s.script (machine_of s c.args.from.now)) (sym is) c.requires.ready in
    let turns = ap (λ (s : SessionState). s.turns) is ∙ c.requires.new.turns in
    record { phase = ap (λ (s : SessionState). s.phase) is; ready = ready; few = omega (arith, turns, few_turns ready) }

pub returns-then-not-branch-clause-ended : goal.returns-then-not-branch-clause-ended
returns-then-not-branch-clause-ended g c =
    let untried = c.turns.ensures.onward.tried ∙ ap (λ (s : SessionState). s.tried) c.in_ok-begin.ensures.session ∙ c.requires.new.tried in
    let stop = subst (λ (due : Bool). IsStop due c.turns.new.self) c.if-not-branch.true c.in_ok-turns.ensures.stops in
    if_ok c.end.result (λ ending done. subst (λ (e : Ending). HasEnded e c.end.new.self) (sym done) (ended_unmoved c.turns.new.self c.end.new.self c.end.ensures.session untried stop.0 stop.1)) c.end.ensures.ended

pub returns-in_err-turns-clause-went : goal.returns-in_err-turns-clause-went
returns-in_err-turns-clause-went g c =
    let p = err_from_is_err_and c.from_residual-in_err-turns.result c.from_residual-in_err-turns.ensures.1 in
    let begun = ap (λ (s : SessionState). s.side) c.in_ok-begin.ensures.session ∙ c.requires.new.side in
    rw p.1 ((on_source (c.turns.ensures.onward.side ∙ begun)).0 (goes_more (c.in_ok-begin.ensures.went c.args.to.now) (c.in_err-turns.ensures.went c.args.to.now)))

pub returns-then-not-branch-clause-went : goal.returns-then-not-branch-clause-went
returns-then-not-branch-clause-went g c =
    let begun = ap (λ (s : SessionState). s.side) c.in_ok-begin.ensures.session ∙ c.requires.new.side in
    (on_source (ap (λ (s : SessionState). s.side) c.end.ensures.session ∙ c.turns.ensures.onward.side ∙ begun)).0
    (goes_more (goes_more (c.in_ok-begin.ensures.went c.args.to.now) (c.in_ok-turns.ensures.went c.args.to.now)) (c.end.ensures.went c.args.to.now))

pub returns-in_err-move_to-clause-went : goal.returns-in_err-move_to-clause-went
returns-in_err-move_to-clause-went g c =
    let p = err_from_is_err_and c.from_residual-in_err-move_to.result c.from_residual-in_err-move_to.ensures.1 in
    rw p.1 (goes_more (goes_more (c.in_ok-begin.ensures.went c.args.to.now) (c.in_ok-turns.ensures.went c.args.to.now)) c.in_err-move_to.ensures.went)

pub returns-in-Done-clause-went : goal.returns-in-Done-clause-went
returns-in-Done-clause-went g c =
    let moved = subst (λ (e : Ending). IsMoved e (both c.turns.new.at c.args.to.now) c.move_to.new.self (both c.move_to.new.at c.move_to.new.to)) c.in-Done.is c.in_ok-move_to.ensures.moved in
    let before = goes_more (c.in_ok-begin.ensures.went c.args.to.now) (c.in_ok-turns.ensures.went c.args.to.now) in
    (on_destination (c.finish.ensures.kept.1 ∙ moved.0)).0 (goes_more (goes_more before ((on_destination moved.0).1 c.in_ok-move_to.ensures.went)) (c.finish.ensures.went c.move_to.new.at))

pub returns-in-GaveUp-clause-went : goal.returns-in-GaveUp-clause-went
returns-in-GaveUp-clause-went g c =
    let moved = subst (λ (e : Ending). IsMoved e (both c.turns.new.at c.args.to.now) c.move_to.new.self (both c.move_to.new.at c.move_to.new.to)) c.in-GaveUp.is c.in_ok-move_to.ensures.moved in
    let before = goes_more (c.in_ok-begin.ensures.went c.args.to.now) (c.in_ok-turns.ensures.went c.args.to.now) in
    (on_source (c.finish-in-GaveUp.ensures.kept.1 ∙ moved.0)).0 (goes_more (goes_more before ((on_source moved.0).1 c.in_ok-move_to.ensures.went)) (c.finish-in-GaveUp.ensures.went c.move_to.new.to))

-- What is left of both places.

pub returns-in_err-begin-clause-left : goal.returns-in_err-begin-clause-left
returns-in_err-begin-clause-left g c =
    left_running c.args.from.now _ c.args.to.now (ap (λ (s : SessionState). s.side) c.in_err-begin.ensures.session ∙ c.requires.new.side) c.requires.ready.running
    (served_none {state = g.M.Medium.state} {moves = g.M.Medium.moves} (record { namespace = refl; controller = refl }))

pub returns-in_err-turns-clause-left : goal.returns-in_err-turns-clause-left
returns-in_err-turns-clause-left g c =
    let begun = ap (λ (s : SessionState). s.side) c.in_ok-begin.ensures.session ∙ c.requires.new.side in
    left_running c.args.from.now _ c.args.to.now (c.turns.ensures.onward.side ∙ begun) c.requires.ready.running c.turns.ensures.onward.served

pub returns-then-not-branch-clause-left : goal.returns-then-not-branch-clause-left
returns-then-not-branch-clause-left g c =
    let begun = ap (λ (s : SessionState). s.side) c.in_ok-begin.ensures.session ∙ c.requires.new.side in
    left_running c.args.from.now _ c.args.to.now (ap (λ (s : SessionState). s.side) c.end.ensures.session ∙ c.turns.ensures.onward.side ∙ begun) c.requires.ready.running c.turns.ensures.onward.served

pub returns-in_err-move_to-clause-left : goal.returns-in_err-move_to-clause-left
returns-in_err-move_to-clause-left g c = left_tried c.move_to.new.self.side c.args.from.now c.turns.new.at c.args.to.now (both c.move_to.new.at c.move_to.new.to) c.requires.ready.running c.turns.ensures.onward.served c.in_err-move_to.ensures.left

pub returns-in-Done-clause-left : goal.returns-in-Done-clause-left
returns-in-Done-clause-left g c =
    let moved = subst (λ (e : Ending). IsMoved e (both c.turns.new.at c.args.to.now) c.move_to.new.self (both c.move_to.new.at c.move_to.new.to)) c.in-Done.is c.in_ok-move_to.ensures.moved in
    left_there (both c.args.from.now c.args.to.now) c.move_to.new.at c.move_to.new.to c.finish.new.at moved.0 c.finish.ensures.kept.1 (left_tried c.move_to.new.self.side c.args.from.now c.turns.new.at c.args.to.now (both c.move_to.new.at c.move_to.new.to) c.requires.ready.running c.turns.ensures.onward.served c.in_ok-move_to.ensures.left) c.finish.ensures.kept.2

pub returns-in-GaveUp-clause-left : goal.returns-in-GaveUp-clause-left
returns-in-GaveUp-clause-left g c =
    let moved = subst (λ (e : Ending). IsMoved e (both c.turns.new.at c.args.to.now) c.move_to.new.self (both c.move_to.new.at c.move_to.new.to)) c.in-GaveUp.is c.in_ok-move_to.ensures.moved in
    left_here (both c.args.from.now c.args.to.now) c.move_to.new.at c.move_to.new.to c.finish-in-GaveUp.new.at moved.0 c.finish-in-GaveUp.ensures.kept.1 (left_tried c.move_to.new.self.side c.args.from.now c.turns.new.at c.args.to.now (both c.move_to.new.at c.move_to.new.to) c.requires.ready.running c.turns.ensures.onward.served c.in_ok-move_to.ensures.left) c.finish-in-GaveUp.ensures.kept.2
